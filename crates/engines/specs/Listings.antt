-- The accepted events of a run, and the record after one more event.
use Rattle.std.specs.Prelude.{◌≡◌, List, [], ◌∷◌, reverse}
use Rattle.std.specs.Global.{Vec}
use Rattle.scenario_run.specs.model.{Entry, Event, past_of}
use Rattle.scenario_run.specs.world.Shows.{Shows, WorldState}
use Rattle.scenario_run.specs.{TurnReport}
use Rattle.scenario_run.specs.declared.reports.TurnReport.TheVariants as reported

-- the event of a turn, if one was accepted
abbrev pub event_reported : TurnReport → List Event
event_reported (reported.Accepted made) = made.event ∷ []
event_reported (reported.Refused p refusal) = []
event_reported (reported.Tired p) = []
event_reported (reported.Shown store) = []

-- the world shows these events, with the old setup, and the entries are the record of the events
pub record Records (old new : WorldState) (events : List Event) (entries : List Entry) : Type 0 where
  pub shows : Shows new events
  pub setup : new.setup ≡ old.setup
  pub entries_are : entries ≡ reverse (past_of old.setup events)

-- an event is made and recorded, for all events that the world shows
abbrev pub RecordsEvent : Event → WorldState → WorldState → Vec Entry → Vec Entry → Type 0
RecordsEvent event old new had has = (events : List Event) → Shows old events → had.items ≡ reverse (past_of old.setup events) → Records old new (event ∷ events) has.items
