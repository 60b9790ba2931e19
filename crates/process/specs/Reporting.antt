-- The effect of an event, and its marks.
use Rattle.std.specs.Prelude.{ℕ, List, [], ◌∷◌, map, Option, None, Some}
use Rattle.model.specs.{Act, Mark, placed}
use Rattle.model.specs.declared.Mark.TheVariants as mark
use Rattle.process.specs.declared.outcomes.EventOutcome.{EventOutcome}
use Rattle.process.specs.declared.outcomes.EventOutcome.TheVariants.{Steps, Calls, Fails, Withdraws, Restarts}
use Rattle.process.specs.declared.outcomes.EventMade.{EventMade}
use Rattle.process.specs.declared.outcomes.StepOutcome.{StepOutcome}
use Rattle.process.specs.declared.outcomes.StepOutcome.TheVariants.{Nothing, Waits, WaitsAndEnters, Enters, Took, Leaves, Answers, Settles, SettlesAndTakes, Lies}

-- the marks of a step; the position of a command that is taken is 0 here
abbrev pub marks_reported : StepOutcome → List Mark
marks_reported Nothing = []
marks_reported (Waits ticket) = mark.Waiting ticket ∷ []
marks_reported (WaitsAndEnters ticket) = mark.Waiting ticket ∷ mark.Entered ∷ []
marks_reported Enters = mark.Entered ∷ []
marks_reported (Took reply changes) = mark.Taken 0 reply ∷ []
marks_reported Leaves = mark.Left ∷ []
marks_reported (Answers answer) = mark.Answered answer ∷ []
marks_reported (Settles value) = mark.Settled value ∷ []
marks_reported (SettlesAndTakes value reply) = mark.Settled value ∷ mark.Taken 0 reply ∷ []
marks_reported Lies = mark.Down ∷ []

-- the number of changes that were taken before the command, as the step reports it
abbrev pub changes_reported : StepOutcome → Option ℕ
changes_reported (Took reply changes) = Some changes
changes_reported _ = None

-- the marks of an event
abbrev pub marks_of : EventOutcome → List Mark
marks_of (Steps reported) = marks_reported reported
marks_of (Calls command) = mark.Called command ∷ []
marks_of Fails = mark.Failed ∷ []
marks_of Withdraws = mark.Withdrew ∷ []
marks_of Restarts = mark.Restarted ∷ []

-- the number of changes that were taken before the command, as the event reports it
abbrev pub changes_of_event : EventOutcome → Option ℕ
changes_of_event (Steps reported) = changes_reported reported
changes_of_event _ = None

-- the act of an event that was made; a command that is taken gets this position
abbrev pub act_of : ℕ → EventMade → Act
act_of place made = record { access = made.access; marks = map (placed place) (marks_of made.effect) }
