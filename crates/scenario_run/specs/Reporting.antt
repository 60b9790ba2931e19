-- The report that a turn makes of what happens, and its text.
use Rattle.std.specs.Prelude.{◌≡◌, ℕ, Bool, true, false, List, [], flat_map, map, Option, None, Some, Result, Ok, Err}
use Rattle.model.specs.{Access, Entry, Event, Mark, Past, Refusal, entry_of, placed, process_of, refused}
use Rattle.plain_store.specs.{Setup}
use Rattle.model.specs.declared.events.Event.TheVariants as event
use Rattle.model.specs.declared.refusals.Refusal.TheVariants.{NoProcess}
use Rattle.run_lines.specs.{tired_text, with_end}
use Rattle.world.specs.process.{marks_of}
use Rattle.world.specs.process.declared.outcomes.EventOutcome.TheVariants.{Steps}
use Rattle.world.specs.process.declared.outcomes.StepOutcome.{StepOutcome as Leads}
use Rattle.world.specs.process.declared.outcomes.StepOutcome.TheVariants as step
use Rattle.world.specs.process.registers.{AccessMade}
use Rattle.world.specs.{ends_overlapped_read}
use Rattle.scenario_run.specs.Happenings.{Happening, Tries, Lacks, Tires, Looks}
use Rattle.scenario_run.specs.Texts.{mark_line, newest_store, refused_line, store_text}
use Rattle.scenario_run.specs.declared.reports.Accepted.{Accepted}
use Rattle.scenario_run.specs.declared.reports.UnmarkedStep.{UnmarkedStep}
use Rattle.scenario_run.specs.declared.reports.TurnReport.{TurnReport}
use Rattle.scenario_run.specs.declared.reports.TurnReport.TheVariants as reported

-- the marks of the entry of an accepted event
abbrev pub marks_made : Accepted → List Mark
marks_made made = map (placed made.place) (marks_of made.effect)

-- the entry of an accepted event
abbrev pub entry_made : Accepted → Entry
entry_made made = record { process = process_of made.event; access = made.access; marks = marks_made made }

-- an event adds an entry with these marks
abbrev pub AddsMarks : Setup → Past → Event → List Mark → Type 0
AddsMarks s past event marks = (access : Option Access) × (entry_of s past event ≡ Some (record { process = process_of event; access = access; marks = marks }))

-- this report is one of what happens after this past
abbrev pub ReportsOf : Setup → Past → Happening → TurnReport → Type 0
ReportsOf s past (Tries event) (reported.Accepted made) = (made.event ≡ event) × (entry_of s past event ≡ Some (entry_made made)) × (made.overlapped ≡ ends_overlapped_read past (entry_made made))
ReportsOf s past (Tries event) (reported.Refused p refusal) = (p ≡ process_of event) × (refused s past event ≡ Some refusal)
ReportsOf s past (Lacks p) (reported.Refused q refusal) = (q ≡ p) × (refusal ≡ NoProcess)
ReportsOf s past (Tires p) (reported.Tired q) = q ≡ p
ReportsOf s past Looks (reported.Shown store) = store ≡ newest_store s past
ReportsOf s past _ _ = ⊥

-- an event that is reported as accepted has a mark
abbrev pub IsMarked : TurnReport → Type 0
IsMarked (reported.Accepted made) = marks_made made ≡ [] → ⊥
IsMarked _ = Unit {0}

-- the event is a Step
abbrev pub is_step : Event → Bool
is_step (event.Step p flick) = true
is_step _ = false

-- a turn reports what happens, or nothing if nothing happens
abbrev pub Reports : Setup → Past → Option Happening → Option TurnReport → Type 0
Reports s past None None = Unit {0}
Reports s past (Some this) (Some answer) = ReportsOf s past this answer × IsMarked answer
Reports s past _ _ = ⊥

-- the text of a report after `number` accepted events
abbrev pub reported_text : ℕ → TurnReport → List ℕ
reported_text number (reported.Accepted made) = flat_map (mark_line number (process_of made.event)) (marks_made made)
reported_text number (reported.Refused p refusal) = refused_line p refusal
reported_text number (reported.Tired p) = with_end (tired_text p)
reported_text number (reported.Shown store) = store_text store

-- the report of a Step of a process, made or refused, by its flick, the position of the command that it takes, and what it leads to
abbrev pub reported_step : ℕ → Bool → ℕ → Leads → Result AccessMade Refusal → TurnReport
reported_step p flick place leads (Ok made) = reported.Accepted (record { event = event.Step p flick; place = place; access = Some made.access; overlapped = made.overlapped; effect = Steps leads })
reported_step p flick place leads (Err refusal) = reported.Refused p refusal

-- the report of a Step that has no mark; its position does not matter, because it takes no command
abbrev pub reported_unmarked : UnmarkedStep → TurnReport
reported_unmarked made = reported.Accepted (record { event = event.Step made.process made.flick; place = 0; access = Some made.access; overlapped = made.overlapped; effect = Steps step.Nothing })

-- the number of events that a report counts: 1 if it accepts an event
abbrev pub events_reported : TurnReport → ℕ
events_reported (reported.Accepted made) = 1
events_reported (reported.Refused p refusal) = 0
events_reported (reported.Tired p) = 0
events_reported (reported.Shown store) = 0
