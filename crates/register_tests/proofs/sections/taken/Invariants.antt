use Rattle.std.proofs.Common.{◌≡◌, true}
use Rattle.bakery.specs.Sections.{is_going}
use Rattle.register_tests.proofs.sections.taken.Given as goal

abbrev pub invariant-loop-made : goal.invariant-loop-made
invariant-loop-made l = is_going l.section ≡ true
