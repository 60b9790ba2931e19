use Rattle.std.proofs.Common.{◌≡◌, ◌++◌, List, ℕ, [], ◌∷◌, ap, sym, ◌∙◌, append_assoc}
use Rattle.std.specs.Prelude.{if◌then◌else◌, Err, Ok, OnOk, Result}
use Rattle.std.specs.Result.{is_ok}
use Rattle.run_state.specs.{line_of_newest, newest_line, newest_lines}
use Rattle.run_state.proofs.ObservedWorlds.{ok_then}
use Rattle.run_state.proofs.record_observer.GoodEntries.print_newest.Goals as goal

-- the text that is written, where no allocation failed
where_ok : {A E : Type 0} (r : Result A E) (new written old : List ℕ) → new ≡ (if is_ok r then written else old) → OnOk r (new ≡ written)
where_ok (Ok done) new written old is = is
where_ok (Err e) new written old is = tt

pub returns : goal.returns
returns c = ok_then c.extend_from_slice.result (λ added.
    let old : List ℕ = c.args.text.now.items in
    let newest = c.in-Some.newest in
    let entry : List ℕ = newest_line (newest.entry ∷ []) in
    let line : List ℕ = line_of_newest (newest.line ∷ []) in
    added ∙ ap (λ l. l ++ c.as_bytes.result.now) (c.in_ok-print_newest.ensures [])
    ∙ ap (λ l. (old ++ entry) ++ l) (c.as_bytes.ensures.value ∙ c.in_ok-words.ensures.ok)
    ∙ append_assoc old entry line
    ∙ ap (λ n. old ++ newest_lines n) (sym c.in-Some.is)) (where_ok c.extend_from_slice.result _ _ _ c.extend_from_slice.ensures.items)
