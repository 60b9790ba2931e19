use Rattle.std.proofs.Common.{◌≡◌, ◌≤◌, List}
use Rattle.model.specs.{Event}
use Rattle.sweeper.specs.{Follows, RunsOn, due}
use Rattle.sweeper.proofs.Alone.{RestBelow, steps_below}
use Rattle.sweeper.proofs.audited_run.AuditedRun.round.Given as goal

-- the processes below the present one have had their turn
abbrev pub invariant-loop-process : goal.invariant-loop-process
invariant-loop-process l = record {
  follows : RunsOn l.fn.self l.self (λ events. steps_below l.value events l.process);
  rest : (events : List Event) → Follows l.fn.self events → RestBelow l.fn.self.core.setup l.value l.stepped l.process (steps_below l.value events l.process);
  few : due l.self ≤ due l.fn.self;
  setup : l.self.core.setup ≡ l.fn.self.core.setup;
}
