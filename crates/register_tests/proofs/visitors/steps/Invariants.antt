use Rattle.std.proofs.Common.{◌≡◌}
use Rattle.register_tests.proofs.visitors.steps.Given as goal

abbrev pub invariant-loop-made : goal.invariant-loop-made
invariant-loop-made l =
    (l.visitor ≡ l.initial.visitor)
    × (l.locks.setup ≡ l.initial.locks.setup)
    × (l.row.setup ≡ l.initial.row.setup)
