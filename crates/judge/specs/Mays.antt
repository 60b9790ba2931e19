-- The entries that may follow a good record.
use Rattle.std.specs.Prelude.{◌≡◌, ℕ, Bool, List, Some, Ok}
use Rattle.plain_store.specs.{Setup, checked}
use Rattle.model.specs.{Access, AreGiven, Entry, Event, Past, entry_of, past_of}
use Rattle.model.specs.declared.events.Event.TheVariants.{Step}
use Rattle.auditor.specs.{KeepsAll}

-- The entry that a Step adds keeps all laws.
abbrev pub StepsKeepAllLaws : Type 0
StepsKeepAllLaws = (s : Setup) → checked s ≡ Ok tt → (events : List Event) → AreGiven s events → (p : ℕ) (flick : Bool) (e : Entry) →
    entry_of s (past_of s events) (Step p flick) ≡ Some e → KeepsAll s (past_of s events) e

-- An entry with an access that keeps all laws is the one that a Step of its process adds, by one of the two flicks.
abbrev pub OnlyStepsKeepAllLaws : Type 0
OnlyStepsKeepAllLaws = (s : Setup) (past : Past) (e : Entry) (a : Access) → e.access ≡ Some a → KeepsAll s past e → (flick : Bool) × (entry_of s past (Step e.process flick) ≡ Some e)
