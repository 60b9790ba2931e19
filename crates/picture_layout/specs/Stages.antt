-- The stages after lines, and the stages that the record gives.
use Rattle.std.specs.Prelude.{◌≡◌, ◌<◌, ℕ, cond, nat_lt, List, [], ◌∷◌, ◌++◌, flat_map, fold, get_or, map, replicate, set}
use Rattle.model.specs.{Mark, Past, Stage, stage, stage_after}
use Rattle.model.specs.declared.stages.Stage.TheVariants.{Idle}
use Rattle.picture_layout.specs.LockLines.{like}
use Rattle.picture_layout.specs.declared.line_contents.LineContent.{LineContent}
use Rattle.picture_layout.specs.declared.line_contents.LineContent.TheVariants.{LockMarked, Marked}

-- the stage of a process, from the list of all
abbrev pub stage_among : List Stage → ℕ → Stage
stage_among stages p = get_or stages p Idle

-- before the first line
abbrev pub nothing_reported : List Stage
nothing_reported = replicate 16 Idle

-- after a mark of a process, that process has the stage that the record then gives it, and the other stages are unchanged
abbrev pub stages_marked : List Stage → ℕ → Mark → List Stage
stages_marked stages p mark = set stages p (stage_after (stage_among stages p) mark)

-- the stages after a line of a run of this number of processes
abbrev pub stages_reported : ℕ → List Stage → LineContent → List Stage
stages_reported processes stages (Marked p mark change) = cond (nat_lt p processes) (stages_marked stages p mark) stages
stages_reported processes stages (LockMarked p mark) = cond (nat_lt p processes) (stages_marked stages p (like mark)) stages
stages_reported processes stages _ = stages

-- after all these lines
abbrev pub stages_after : ℕ → List LineContent → List Stage
stages_after processes = fold (stages_reported processes) nothing_reported

-- the mark of a line, with its process; for a trace, the mark that its mark is drawn like
abbrev pub marks_said : LineContent → List (ℕ × Mark)
marks_said (Marked p mark change) = (p, mark) ∷ []
marks_said (LockMarked p mark) = (p, like mark) ∷ []
marks_said _ = []

-- the marks of a record, each with its process, the oldest first
abbrev pub marks_in : Past → List (ℕ × Mark)
marks_in [] = []
marks_in (e ∷ past) = marks_in past ++ map (λ mark. (e.process, mark)) e.marks

-- Lines with the marks of a record, and with any other lines between them, lead each process to its stage in that record.
abbrev pub StagesAreTheRecords : Type 0
StagesAreTheRecords = (processes : ℕ) (lines : List LineContent) (past : Past) → flat_map marks_said lines ≡ marks_in past →
    (p : ℕ) → p < processes → p < 16 → stage_among (stages_after processes lines) p ≡ stage p past
