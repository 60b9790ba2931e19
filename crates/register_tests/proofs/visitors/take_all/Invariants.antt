use Rattle.std.proofs.Common.{◌≡◌}
use Rattle.register_tests.proofs.visitors.take_all.Given as goal

abbrev pub invariant-loop-is_first : goal.invariant-loop-is_first
invariant-loop-is_first l =
    (l.first ≡ l.initial.first)
    × (l.second ≡ l.initial.second)
    × (l.locks.setup ≡ l.initial.locks.setup)
    × (l.row.setup ≡ l.initial.row.setup)
