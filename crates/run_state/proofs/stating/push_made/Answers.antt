use Rattle.std.proofs.Common.{◌≡◌, ◌-◌, ◌<◌, ◌++◌, ℕ, List, length, slice_index, ap, subst, sym, ◌∙◌, arith, append-nil}
use Rattle.std.proofs.lemmas.Grind.{get_or_default_zero}
use Rattle.std.specs.Prelude.{if◌then◌else◌, Err, Ok, OnOk, Result}
use Rattle.std.specs.Result.{is_ok}
use Rattle.calls.specs.scenario.{Line}
use Rattle.calls.specs.scenario_run.{IsLineMade, MadeNewest, events_in, run_at_start}
use Rattle.run_state.specs.{made_line, making_line}
use Rattle.run_state.proofs.Makers.{line_there, line_within, newest_written, none_made}
use Rattle.run_state.proofs.ObservedWorlds.{ok_then}
use Rattle.run_state.proofs.stating.push_made.Goals as goal

-- the text that is written, where no allocation failed
where_ok : {A E : Type 0} (r : Result A E) (new written old : List ℕ) → new ≡ (if is_ok r then written else old) → OnOk r (new ≡ written)
where_ok (Ok done) new written old is = is
where_ok (Err e) new written old is = tt

pub returns-in_default : goal.returns-in_default
returns-in_default c = λ s run made count.
    let text : List ℕ = c.args.text.now.items in
    let numbers : List ℕ = c.args.scenario.now.numbers.items in
    let lines : List Line = c.args.scenario.now.lines.items in
    let none : events_in s run ≡ 0 = subst (MadeNewest s lines run_at_start run) c.in_default.is made in
    sym (ap (λ n. text ++ making_line numbers s n run_at_start lines) (count ∙ none) ∙ ap (λ l. text ++ l) (none_made numbers s run_at_start lines) ∙ append-nil text)

pub returns : goal.returns
returns c = ok_then c.extend_from_slice.result (λ added s run made count.
    let numbers : List ℕ = c.args.scenario.now.numbers.items in
    let lines : List Line = c.args.scenario.now.lines.items in
    let newest = c.in-Some.newest in
    let u : IsLineMade s lines run_at_start run newest = subst (MadeNewest s lines run_at_start run) c.in-Some.is made in
    let within : newest.line < length lines = line_within lines s run newest u in
    let numbered : length numbers ≡ length lines = c.args.scenario.now.numbered in
    let number : c.index.result.now ≡ slice_index numbers newest.line = c.index.ensures ∙ get_or_default_zero numbers newest.line c.index.result.now (omega (arith, within, numbered)) in
    let line : c.index-2.result.now ≡ u.line = c.index-2.ensures ∙ line_there lines s run newest u c.index-2.result.now in
    let events : c.saturating_sub-made.result ≡ events_in s run - newest.before = omega (arith, count) in
    added ∙ ap (λ l. c.args.text.now.items ++ l)
    (c.as_bytes.ensures.value ∙ c.in_ok-words.ensures.ok ∙ (λ i. made_line (number i) (events i) (line i))
    ∙ sym (newest_written lines s run newest u numbers numbered) ∙ ap (λ n. making_line numbers s n run_at_start lines) (sym count))) (where_ok c.extend_from_slice.result _ _ _ c.extend_from_slice.ensures.items)
