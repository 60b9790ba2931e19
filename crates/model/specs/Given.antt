-- The assumptions of the laws of the data: names, values and counts are what their types allow.
use Rattle.std.specs.Prelude.{◌≡◌, Bool, true, List, ◌∷◌, Ok, Some}
use Rattle.std.specs.List.{list_all}
use Rattle.plain_store.specs.{Setup, are_pairs, checked, is_command}
use Rattle.model.specs.declared.events.Event.{Event}
use Rattle.model.specs.declared.events.Event.TheVariants as event
use Rattle.model.specs.Entries.{Entry, Past}
use Rattle.model.specs.Records.{entry_of, past_of}

-- the command of an event that calls is a command
abbrev pub is_event : Event → Bool
is_event (event.Call p command) = is_command command
is_event _ = true

-- the opening pairs are pairs with different names, and the events' commands are commands: a setup and events whose values are of their types
pub record AreGiven (s : Setup) (events : List Event) : Type 0 where
  pub opening : are_pairs s.opening ≡ true
  pub commands : list_all is_event events ≡ true

-- in every record of such events, P holds of each past
abbrev pub EachPastGiven : (Setup → Past → Type 0) → Type 0
EachPastGiven P = (s : Setup) → checked s ≡ Ok tt → (events : List Event) → AreGiven s events → P s (past_of s events)

-- in every record of such events, P holds of each entry and the past that it is added to
abbrev pub EachEntryGiven : (Setup → Past → Entry → Type 0) → Type 0
EachEntryGiven P = (s : Setup) → checked s ≡ Ok tt → (events : List Event) (event : Event) (e : Entry) → AreGiven s (event ∷ events) →
    entry_of s (past_of s events) event ≡ Some e → P s (past_of s events) e
