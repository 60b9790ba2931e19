use Rattle.std.proofs.Common.{◌≡◌, true}
use Rattle.bakery.specs.Sections.{is_going}
use Rattle.register_tests.specs.Steps.{section_goes}
use Rattle.register_tests.proofs.commits.run_section.Given as goal

abbrev pub invariant-loop-made : goal.invariant-loop-made
invariant-loop-made l =
    (l.section.setup ≡ l.initial.section.setup)
    × (l.row.setup ≡ l.initial.row.setup)
    × (is_going l.section ≡ true)
    × (section_goes l.steps.last ≡ true)
