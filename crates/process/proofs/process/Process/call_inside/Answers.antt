use Rattle.std.proofs.Common.{◌≡◌, ℕ, false, List, [], ◌∷◌, refl, sym, ap, ◌∙◌, subst}
use Rattle.model.specs.{is_over, processes, to_e}
use Rattle.model.proofs.Width.{is_good}
use Rattle.registers.specs.{IsAtPart}
use Rattle.registers.proofs.PlaceMoves.{entered-at}
use Rattle.process.specs.{IsCall, PartState}
use Rattle.process.proofs.process.Process.call_inside.Goals as goal

-- a call that enters the critical section is not over
is-going : (others : List ℕ) → is_over (to_e others []) ≡ false
is-going [] = refl
is-going (k ∷ ks) = refl

pub invariant_of-self : goal.invariant_of-self
invariant_of-self c =
    let k = c.start_inside.new.self in
    let old = c.self.invariant.call in
    let call : IsCall k.call =
    subst (λ (p : PartState). IsCall p.call) (sym c.start_inside.ensures)
    (record { good = old.good; process = old.process; processes = old.processes; some_ticket = old.some_ticket; few_ticket = old.few_ticket; some_stamp = old.some_stamp; few_stamp = old.few_stamp })
    in
    record {
      call = call;
      working = record {
        going = ap (λ (p : PartState). is_over p.part) c.start_inside.ensures ∙ is-going (processes c.self.inside.called.call.setup);
        at = subst (IsAtPart k.call k.part) (sym c.begin_part.ensures.cursor) (entered-at k.call k.part (is_good k.call.setup call.good) call.process);
        there = c.begin_part.ensures.in_range;
      };
    }
