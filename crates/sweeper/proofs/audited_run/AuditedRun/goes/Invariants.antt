use Rattle.std.proofs.Common.{◌≡◌, false, List}
use Rattle.std.specs.List.{list_any, range_with_len}
use Rattle.model.specs.{Event}
use Rattle.model.specs.declared.events.Event.TheVariants.{Step}
use Rattle.sweeper.specs.{Follows, is_accepted}
use Rattle.sweeper.proofs.audited_run.AuditedRun.goes.Given as goal

-- no process below the present one has a step to make
abbrev pub invariant-loop-process : goal.invariant-loop-process
invariant-loop-process l = (events : List Event) → Follows l.self events → list_any (λ p. is_accepted l.self.core.setup events (Step p l.value)) (range_with_len 0 l.process) ≡ false
