use Rattle.std.proofs.Common.{◌≡◌, true}
use Rattle.bakery.specs.Doors.{is_going, is_waiting}
use Rattle.register_tests.specs.Steps.{door_goes, door_waits}
use Rattle.register_tests.proofs.doors.run_door.Given as goal

abbrev pub invariant-loop-made : goal.invariant-loop-made
invariant-loop-made l =
    (l.door.setup ≡ l.initial.door.setup)
    × (l.locks.setup ≡ l.initial.locks.setup)
    × (is_going l.door ≡ true)
    × (door_goes l.steps.last ≡ true)
    × (is_waiting l.door ≡ door_waits (is_waiting l.initial.door) l.steps.last)
