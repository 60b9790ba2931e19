-- The text and the status of `race`. The threads decide which race it was: the text is that of some race that keeps the laws of every race.
use Rattle.std.specs.Prelude.{◌≡◌, ℕ, ◌<◌, List, [], Option, IfSome, Result, Ok, Err}
use Rattle.std.specs.String.{string_bytes}
use Rattle.std.specs.Io.KnownBytes.{Appends, IsAtEnd, Keeps}
use Rattle.plain_store.specs.{Contents}
use Rattle.scenario.specs.files.Engines.{Ran, Streams, text_by}
use Rattle.scenario.specs.files.{LineFault, WritesFront}
use Rattle.scenario.specs.files.declared.faults.Fault.TheVariants.{Line, Read, Write, Memory}
use Rattle.scenario.specs.{Script, scenario_of}
use Rattle.race.specs.Races.{IsRaced}
use Rattle.call_check.specs.{IsWeighed, Weighed}
use Rattle.model.specs.{Placed}
use Rattle.race.specs.declared.running.RaceReport.{RaceReport}
use Rattle.race.specs.Statuses.{status_of_race}
use Rattle.race.specs.Texts.{plans_in, race_text}
use Rattle.race.specs.declared.faults.RunFault.{RunFault}
use Rattle.race.specs.declared.faults.RunFault.TheVariants.{File, Race}

-- a race of a scenario: its plans were raced, and this is the verdict on the lists and the image at its end
pub record Raced (said : Script) : Type 0 where
  pub lists : List (List Placed)
  pub image : Contents
  pub verdict : Weighed
  pub raced : IsRaced said.setup (plans_in said) lists image
  pub weighed : IsWeighed said.setup lists image verdict

-- the text of a race
abbrev pub text_of : (said : Script) → Raced said → List ℕ
text_of said race = race_text said race.lists race.image race.verdict

-- this is the text of a race of the scenario, and weighing its lists and image gives this verdict
pub record ReportsRace (said : Script) (verdict : Weighed) (text : List ℕ) : Type 0 where
  pub race : Raced said
  pub is_verdict : verdict ≡ race.verdict
  pub is_text : text ≡ text_of said race

-- a report contains the text and the verdict of a race
abbrev pub ReportsReport : Script → RaceReport → Type 0
ReportsReport said report = ReportsRace said report.verdict (string_bytes report.text)

-- the text of a race was written, and the status is that of its verdict
abbrev pub WritesRace : Script → ℕ → Option (List ℕ) → Option (List ℕ) → Type 0
WritesRace said status old new = (race : Raced said) × (status ≡ status_of_race (Ok race.verdict)) × Appends old new (text_of said race)

-- a prefix of the text of a race was written
abbrev pub WritesRaceFront : Script → Option (List ℕ) → Option (List ℕ) → Type 0
WritesRaceFront said old new = (race : Raced said) × WritesFront old new (text_of said race)

-- P holds of the scenario of the whole input
abbrev pub OfInput : Option (List ℕ) → (Script → Type 0) → Type 0
OfInput to_come P = IfSome to_come (λ input. (said : Script) × (scenario_of input ≡ Ok said) × P said)

-- the empty text for a scenario file, or the fault of the file
abbrev pub no_text : List ℕ → Result (List ℕ) LineFault
no_text = text_by scenario_of (λ said. [])

-- the whole input was read, and it is a scenario
abbrev pub ReadsScenario : Option (List ℕ) → Option (List ℕ) → Type 0
ReadsScenario old new = OfInput old (λ said. Unit {0}) × IsAtEnd new

-- How `race` ends. Nothing is written before the race has ended, so a fault of a line, of reading or of the race, and an allocation failure, write nothing.
abbrev pub RanRace : Result ℕ RunFault → Streams → Streams → Type 0
RanRace (Ok status) old new = OfInput old.to_come (λ said. WritesRace said status old.taken new.taken) × IsAtEnd new.to_come
RanRace (Err (File (Line fault))) old new = Ran no_text (Err (Line fault)) old new
RanRace (Err (File Read)) old new = Ran no_text (Err Read) old new
RanRace (Err (File Write)) old new = (old.write_failures < new.write_failures) × OfInput old.to_come (λ said. WritesRaceFront said old.taken new.taken)
RanRace (Err (File Memory)) old new = Keeps old.taken new.taken
RanRace (Err (Race fault)) old new = ReadsScenario old.to_come new.to_come × Keeps old.taken new.taken

-- the faults that may end it between reading and writing
abbrev pub IsFaultOfRacing : RunFault → Type 0
IsFaultOfRacing (File Memory) = Unit {0}
IsFaultOfRacing (File (Line fault)) = ⊥
IsFaultOfRacing (File Read) = ⊥
IsFaultOfRacing (File Write) = ⊥
IsFaultOfRacing (Race fault) = Unit {0}
