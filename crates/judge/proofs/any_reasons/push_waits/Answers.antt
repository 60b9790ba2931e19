use Rattle.std.proofs.Common.{◌≡◌, ◌+◌, ℕ, List, Option, None, ◌∷◌, ◌++◌, drop, drop-cons, get_or, ap, sym, ◌∙◌, append_assoc, append-nil, add-one, arith}
use Rattle.any_lock.proofs.Loops.{dropped_all}
use Rattle.judge.specs.{wait_line, waits_from}
use Rattle.judge.proofs.any_reasons.push_waits.Goals as goal

pub waits-preserved : goal.waits-preserved
waits-preserved c =
    let waits = c.args.waits.now in
    let index = c.waits.wait-index in
    let wait = get_or waits index None in
    let rest : List (Option ℕ) = drop (index + 1) waits in
    let more : drop index waits ≡ wait ∷ rest = drop-cons waits index None c.waits-test.true ∙ ap (λ k. wait ∷ drop k waits) (sym (add-one index)) in
    let at : c.waits.process ≡ index = c.waits.invariant.at in
    record {
      text = ap (λ (t : List ℕ). t ++ waits_from (c.waits.process + 1) rest) c.in_ok-push_wait.ensures
          ∙ append_assoc c.waits.text.items (wait_line c.waits.process wait) (waits_from (c.waits.process + 1) rest)
          ∙ sym (ap (λ (l : List (Option ℕ)). c.waits.text.items ++ waits_from c.waits.process l) more) ∙ c.waits.invariant.text;
      at = omega (arith, at);
    }

pub returns : goal.returns
returns c =
    let none = dropped_all c.args.waits.now c.waits.wait-index c.waits-test.false in
    sym (append-nil c.waits.text.items) ∙ sym (ap (λ (l : List (Option ℕ)). c.waits.text.items ++ waits_from c.waits.process l) none) ∙ c.waits.invariant.text
