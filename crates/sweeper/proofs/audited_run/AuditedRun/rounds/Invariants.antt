use Rattle.std.proofs.Common.{◌≡◌, ◌≤◌, List}
use Rattle.model.specs.{Event}
use Rattle.sweeper.specs.{Follows, due}
use Rattle.sweeper.proofs.Rounding.{Rounding}
use Rattle.sweeper.proofs.audited_run.AuditedRun.rounds.Given as goal

-- the number of rounds that remain
abbrev pub invariant-rounds : goal.invariant-rounds
invariant-rounds l = record {
  going : (events : List Event) → Follows l.fn.self events → Rounding l.fn.self.core.setup l.value l.most events l.self l.remaining;
  few : due l.self ≤ due l.fn.self;
  setup : l.self.core.setup ≡ l.fn.self.core.setup;
}

abbrev pub decreases-rounds : goal.decreases-rounds
decreases-rounds l = l.remaining
