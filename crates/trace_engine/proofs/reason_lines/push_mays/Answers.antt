use Rattle.std.proofs.Common.{◌≡◌, ◌+◌, ℕ, List, Option, None, ◌∷◌, ◌++◌, drop, drop-cons, get_or, ap, sym, ◌∙◌, append_assoc, append-nil, add-one}
use Rattle.std.proofs.lemmas.List.{drop_all}
use Rattle.trace_engine.specs.{may_if, may_lines}
use Rattle.trace_engine.proofs.reason_lines.push_mays.Goals as goal

pub mays-preserved : goal.mays-preserved
mays-preserved c =
    let registers = c.args.registers.now in
    let e = c.args.entry.now in
    let mays = c.args.mays.now in
    let index = c.mays.may-index in
    let may = get_or mays index None in
    let rest : List (Option ℕ) = drop (index + 1) mays in
    let more : drop index mays ≡ may ∷ rest = drop-cons mays index None c.mays-test.true ∙ ap (λ k. may ∷ drop k mays) (sym (add-one index)) in
    ap (λ (t : List ℕ). t ++ may_lines registers e rest) c.in_ok-push_may_if.ensures
    ∙ append_assoc c.mays.text.items (may_if registers e may) (may_lines registers e rest)
    ∙ sym (ap (λ (l : List (Option ℕ)). c.mays.text.items ++ may_lines registers e l) more) ∙ c.mays.invariant

pub returns : goal.returns
returns c =
    let none = drop_all c.mays.may-index c.args.mays.now c.mays-test.false in
    sym (append-nil c.mays.text.items) ∙ sym (ap (λ (l : List (Option ℕ)). c.mays.text.items ++ may_lines c.args.registers.now c.args.entry.now l) none) ∙ c.mays.invariant
