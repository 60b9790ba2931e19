use Rattle.std.proofs.Common.{◌≡◌, true}
use Rattle.bakery.specs.process.{may_step}
use Rattle.register_tests.proofs.doors.run_leaving.Given as goal

abbrev pub invariant-loop-made : goal.invariant-loop-made
invariant-loop-made l =
    (may_step l.leaving.doing ≡ true)
    × (l.leaving.setup ≡ l.initial.leaving.setup)
    × (l.lock.memory.setup ≡ l.initial.lock.memory.setup)
