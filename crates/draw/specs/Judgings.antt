-- What holds while a judge observes a record and the record is drawn, and once all of it was read.
use Rattle.std.specs.Prelude.{◌≡◌, ◌+◌, ℕ, Bool, true, false, List, [], ◌∷◌, ◌++◌, reverse, Option, Some, None, IfSome, Err, Ok}
use Rattle.model.specs.plain_store.{Setup}
use Rattle.scenario.specs.files.declared.faults.FaultKind.TheVariants.{NotFirst}
use Rattle.model.specs.{Entry}
use Rattle.judge.specs.record_file.{Progress, record_of}
use Rattle.judge.specs.{Reporting, good_in, numbers_of}
use Rattle.judge.specs.Trials.{Corresponds as ObserverCorresponds}
use Rattle.draw.specs.Sheets.{Corresponds}
use Rattle.draw.specs.declared.records.sheet.RecordPicture.{RecordPicture}

-- the drawing ends with the first entry that breaks a law
pub record HasStopped (Keeps : Setup → List Entry → Type 0) (t : RecordPicture) (before : Option Progress) (entries : List Entry) (first now : Option (List ℕ)) : Type 0 where
  pub last : Progress
  pub read : before ≡ Some last
  pub ended : last.ended ≡ true
  pub drawn : Progress
  pub setup : drawn.head.setup ≡ last.head.setup
  pub front : List Entry
  pub entry : Entry
  pub later : List Entry
  pub corresponds : Corresponds t (Some drawn) (reverse (front ++ entry ∷ [])) first now
  pub splits : entries ≡ (front ++ entry ∷ []) ++ later
  pub keeps : Keeps drawn.head.setup front
  pub breaks : Keeps drawn.head.setup (front ++ entry ∷ []) → ⊥

-- all entries so far are drawn, or those up to the first that breaks a law
abbrev pub IsShown : {H : Type 0} → (Setup → List Entry → Type 0) → (H → Bool) → Bool → Option H → RecordPicture → Option Progress → List Entry → Option (List ℕ) → Option (List ℕ) → Type 0
IsShown Keeps finds_good true j t before entries first now = (good_in finds_good j ≡ true) × Corresponds t before (reverse entries) first now
IsShown Keeps finds_good false j t before entries first now = HasStopped Keeps t before entries first now

-- a text of this number of lines says this, and no more
abbrev pub SaysAll : Option Progress → List Entry → List ℕ → ℕ → List ℕ → Type 0
SaysAll None entries numbers taken text = record_of text ≡ Err (record { line = taken + 1; kind = NotFirst })
SaysAll (Some p) entries numbers taken text = (record_of text ≡ Ok (record { setup = p.head.setup; entries = entries })) × (numbers ≡ numbers_of text)

-- all lines were read, the judge has observed their entries, and these are drawn as far as they are shown
pub record HasRead {H : Type 0} (HasObserved : H → Setup → List Entry → List ℕ → Type 0) (Keeps : Setup → List Entry → Type 0) (finds_good : H → Bool) (to_come : Option (List ℕ)) (taken : ℕ) (reader : Option Progress) (j : Option H) (t : RecordPicture) (first now : Option (List ℕ)) : Type 0 where
  pub before : Option Progress
  pub entries : List Entry
  pub numbers : List ℕ
  pub says : IfSome to_come (SaysAll before entries numbers taken)
  pub corresponds : ObserverCorresponds HasObserved reader j before entries numbers
  pub shows : Bool
  pub shown : IsShown Keeps finds_good shows j t before entries first now

-- the report on the entries, unless no line was read
abbrev pub ReportsOfLines : (Setup → List Entry → List ℕ → List ℕ → ℕ → Type 0) → Option Reporting → Option Progress → List Entry → List ℕ → Type 0
ReportsOfLines Reports None before entries numbers = before ≡ None
ReportsOfLines Reports (Some t) before entries numbers = (p : Progress) × (before ≡ Some p) × Reports p.head.setup entries numbers t.text.items t.status
