use Rattle.std.proofs.Common.{◌≡◌, ◌≤◌, List, ◌∷◌}
use Rattle.model.specs.{Event}
use Rattle.model.specs.declared.events.Event.TheVariants.{Step}
use Rattle.sweeper.specs.{Follows, due, is_accepted}
use Rattle.sweeper.proofs.Going.{Going}
use Rattle.sweeper.proofs.audited_run.AuditedRun.walk.Given as goal

-- the number of steps that are left
abbrev pub invariant-steps : goal.invariant-steps
invariant-steps l = record {
  going : (events : List Event) → Follows l.fn.self events → Going (λ events. is_accepted l.fn.self.core.setup events (Step l.process l.value)) (λ events. Step l.process l.value ∷ events) l.most events l.self l.remaining;
  few : due l.self ≤ due l.fn.self;
  setup : l.self.core.setup ≡ l.fn.self.core.setup;
}

abbrev pub decreases-steps : goal.decreases-steps
decreases-steps l = l.remaining
