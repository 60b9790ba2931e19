-- The records that a file can contain as they are printed, and the laws that they are read again.
use Rattle.std.specs.Prelude.{◌≡◌, ◌↔◌, ◌∷◌, ℕ, ◌<◌, ◌≤◌, ◌^◌, true, List, [], ◌++◌, length, flat_map, Ok, IfOk, Result}
use Rattle.std.specs.Global.{Vec}
use Rattle.std.specs.List.{AllByRecursion, list_all}
use Rattle.plain_store.specs.{Setup, checked}
use Rattle.model.specs.{Entry, Event, is_event, record_of}
use Rattle.scenario.specs.{IsScenario, spaced}
use Rattle.record_file.specs.Given.{IsEntry}
use Rattle.record_file.specs.Printing.{entry_line, entry_words, record_text}
use Rattle.record_file.specs.Reading.{entry_of}
use Rattle.record_file.specs.RecordFiles as reader

-- a setup as a scenario may have it: it is good, and its opening pairs are pairs with different names
abbrev pub IsSetupOfFile : Setup → Type 0
IsSetupOfFile s = IsScenario (record { setup = s; lines = [] })

-- an entry that a line can specify, of at most 128 bytes
pub record FitsLine (e : Entry) : Type 0 where
  pub entry : IsEntry e
  pub short : length (spaced (entry_words e)) ≤ 128

-- each of the entries fits its line
abbrev pub FitLines : List Entry → Type 0
FitLines = AllByRecursion FitsLine

-- a text begins a record of this setup: with the lines of any entries that fit theirs after it, it is read as that setup and those entries
abbrev pub BeginsRecord : Setup → List ℕ → Type 0
BeginsRecord s text = (entries : List Entry) → FitLines entries → reader.record_of (text ++ flat_map entry_line entries) ≡ Ok (record { setup = s; entries = entries })

-- a call returns such a text if the setup is good, unless memory runs out
abbrev pub GivesBeginning : {E : Type 0} → Result (Vec ℕ) E → Setup → Type 0
GivesBeginning result s = checked s ≡ Ok tt → IfOk result (λ (text : Vec ℕ). BeginsRecord s text.items)

-- The text that is printed for a setup and entries whose lines fit is read as that setup and those entries.
abbrev pub PrintedRecordsAreReadAgain : Type 0
PrintedRecordsAreReadAgain = (s : Setup) (entries : List Entry) → IsSetupOfFile s → FitLines entries → reader.record_of (record_text s entries) ≡ Ok (record { setup = s; entries = entries })

-- In the record of fewer than 2^64 events, whose commands are commands, each entry fits its line.
abbrev pub RecordsFitLines : Type 0
RecordsFitLines = (s : Setup) → checked s ≡ Ok tt → (events : List Event) → list_all is_event events ≡ true → length events < 2 ^ 64 → FitLines (record_of s events)

-- The text that is printed for that record is read as its setup and that record.
abbrev pub RecordsAreReadAgain : Type 0
RecordsAreReadAgain = (s : Setup) → IsSetupOfFile s → (events : List Event) → list_all is_event events ≡ true → length events < 2 ^ 64 →
    reader.record_of (record_text s (record_of s events)) ≡ Ok (record { setup = s; entries = record_of s events })

-- The words that are printed for an entry are read as that entry.
abbrev pub PrintedEntriesAreReadAgain : Type 0
PrintedEntriesAreReadAgain = (first : List ℕ) (words : List (List ℕ)) (e : Entry) → IsEntry e → first ∷ words ≡ entry_words e → entry_of first words ≡ Ok e

-- Words are read as an entry exactly if they are those that are printed for it.
abbrev pub EntriesAreSpelledInOneWay : Type 0
EntriesAreSpelledInOneWay = (first : List ℕ) (words : List (List ℕ)) (e : Entry) → (entry_of first words ≡ Ok e) ↔ ((first ∷ words ≡ entry_words e) × IsEntry e)
