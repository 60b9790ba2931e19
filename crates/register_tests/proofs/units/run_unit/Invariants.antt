use Rattle.std.proofs.Common.{◌≡◌, true}
use Rattle.bakery.specs.process.{may_step}
use Rattle.register_tests.proofs.units.run_unit.Given as goal

abbrev pub invariant-loop-made : goal.invariant-loop-made
invariant-loop-made l =
    (may_step l.unit.doing ≡ true)
    × (l.unit.setup ≡ l.initial.unit.setup)
    × (l.lock.memory.setup ≡ l.initial.lock.memory.setup)
    × (l.versions.memory.setup ≡ l.initial.versions.memory.setup)
