-- The process that is inside, by the stages that lines show.
use Rattle.std.specs.Prelude.{◌≡◌, ◌<◌, ℕ, List, flat_map, Ok}
use Rattle.model.specs.plain_store.{Setup, checked}
use Rattle.model.specs.{Event, past_of}
use Rattle.model.specs.declared.stages.Stage.TheVariants.{Inside}
use Rattle.picture.specs.picture_layout.{LineContent, marks_in, marks_said, stage_among, stages_after}

-- Where lines say the marks of a record, whatever else they say between them, at most one process is inside by the stages after these lines.
abbrev pub OneIsInside : Type 0
OneIsInside = (s : Setup) → checked s ≡ Ok tt → (events : List Event) (lines : List LineContent) → flat_map marks_said lines ≡ marks_in (past_of s events) →
    (p q : ℕ) → p < s.processes → q < s.processes →
    stage_among (stages_after s.processes lines) p ≡ Inside → stage_among (stages_after s.processes lines) q ≡ Inside → p ≡ q
