-- The text and the counts of a replay during its run.
use Rattle.std.specs.Prelude.{◌≡◌, ℕ, List, flat_map}
use Rattle.scenario_run.specs.model.{Mark}
use Rattle.scenario_run.specs.{Summary, TurnReport, happenings, mark_line, summary_of, reported_text}
use Rattle.scenario.specs.{Script}

-- the lines of the marks of an event with this number
abbrev pub mark_lines : ℕ → ℕ → List Mark → List ℕ
mark_lines number p = flat_map (mark_line number p)

-- the text of a turn, after the events that the summary counts
abbrev pub text_next : Summary → TurnReport → List ℕ
text_next summary reported = reported_text summary.events reported

-- a summary has the counts of a scenario's run
abbrev pub IsRunSummary : Script → Summary → Type 0
IsRunSummary said summary = summary ≡ summary_of said.setup (happenings said)
