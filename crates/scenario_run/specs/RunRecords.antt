-- The accepted events of a run, and its record.
use Rattle.std.specs.Prelude.{List, reverse}
use Rattle.plain_store.specs.{Setup}
use Rattle.model.specs.{Entry, Event, record_of}
use Rattle.scenario.specs.{Script}
use Rattle.scenario_run.specs.Happenings.{Happening, accepted, tried}
use Rattle.scenario_run.specs.Runs.{happenings}

-- the events that were accepted among these happenings, the oldest first
abbrev pub listed : Setup → List Happening → List Event
listed s happened = reverse (accepted s (tried happened))

-- the accepted events of a scenario's run
abbrev pub accepted_events : Script → List Event
accepted_events script = listed script.setup (happenings script)

-- the record of a scenario's run
abbrev pub run_record : Script → List Entry
run_record said = record_of said.setup (accepted_events said)
