use Rattle.std.proofs.Common.{None, ap, subst, refl, inl, inr}
use Rattle.model.specs.{is_call}
use Rattle.world.specs.{CoreRefuses}
use Rattle.world.proofs.world.reserve.Goals as goal
use Rattle.world.proofs.world.reserve.Goals.{in-Call, in_default}

pub returns-in-Some-clause-refused : goal.returns-in-Some-clause-refused
returns-in-Some-clause-refused c = λ taken. inl (subst (λ r. CoreRefuses c.args.core.now c.args.event.now r) c.in-Some.is c.refusal.ensures.refused taken)

pub returns-in-Err-clause-refused : goal.returns-in-Err-clause-refused
returns-in-Err-clause-refused c =
    let ok : CoreRefuses c.args.core.now c.args.event.now None = subst (λ r. CoreRefuses c.args.core.now c.args.event.now r) c.in_default-refusal.is c.refusal.ensures.refused in
    elim c.match-matches.branch [
      | in-Call w ↦ λ taken. inr (ap is_call w.in-Call.is, refl, ok taken)
      | in_default w ↦ absurd (cc)
    ]
