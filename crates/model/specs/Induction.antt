-- Induction over the pasts of records.
use Rattle.std.specs.Prelude.{◌≡◌, refl, List, [], ◌∷◌, Option, None, Some}
use Rattle.plain_store.specs.{Setup}
use Rattle.model.specs.declared.events.Event.{Event}
use Rattle.model.specs.Entries.{Entry, Past}
use Rattle.model.specs.Records.{past_of, entry_of}

-- if a property holds of no entries, and each entry that an event adds keeps it, then it holds of the past of every record
abbrev pub PastInduction : (Setup → Past → Type 0) → Type 0
PastInduction P = (s : Setup) → P s [] →
    ((events : List Event) (event : Event) (e : Entry) → entry_of s (past_of s events) event ≡ Some e → P s (past_of s events) → P s (e ∷ past_of s events)) →
    (events : List Event) → P s (past_of s events)

-- the induction holds for every P
pub past-induction : (P : Setup → Past → Type 0) → PastInduction P
past-induction P s none more [] = none
past-induction P s none more (event ∷ events) = go (entry_of s (past_of s events) event) refl (past-induction P s none more events)
  where
    go : (x : Option Entry) → entry_of s (past_of s events) event ≡ x → P s (past_of s events) → P s (elim x as (λ _. Past) [ None ↦ past_of s events | Some e ↦ e ∷ past_of s events ])
    go None h so = so
    go (Some e) h so = more events event e h so
