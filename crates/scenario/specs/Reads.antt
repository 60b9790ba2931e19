-- The result of reading a scenario file, compared with that of the grammar.
use Rattle.std.specs.Prelude.{◌≡◌, ◌≤◌, ℕ, List, length, Option, Some, Result, Ok, Err}
use Rattle.std.specs.Io.KnownBytes.{IsAtEnd}
use Rattle.files.specs.{LineFault, ReadsInput, ReportsAtLimit, UnlessMemory, input_limit}
use Rattle.scenario.specs.Printing.{scenario_text}
use Rattle.scenario.specs.Reading.{Script, scenario_of}
use Rattle.scenario.specs.declared.scenarios.Scenario.{Scenario}

-- a scenario, with its lines as a list, and without their numbers
abbrev pub script : Scenario → Script
script s = record { setup = s.setup; lines = s.lines.items }

-- Two scenarios are equal: they have one setup and the same lines, whatever the numbers of these.
abbrev pub IsSameScenario : Scenario → Scenario → Type 0
IsSameScenario s t = script s ≡ script t

-- the text of a scenario, and of each that is equal to it
abbrev pub IsTextOfEqual : Scenario → List ℕ → Type 0
IsTextOfEqual s text = (equal : Scenario) → IsSameScenario s equal → text ≡ scenario_text (script equal)

-- the scenario that was read is that of the grammar, and the fault is that of the grammar too, unless memory ran out
abbrev pub Gives : Result Scenario LineFault → Result Script LineFault → Type 0
Gives (Ok s) said = said ≡ Ok (script s)
Gives (Err fault) said = UnlessMemory fault.kind (said ≡ Err fault)

-- A text at the limit, or longer, has the fault of its beginning.
abbrev pub CutTextsHaveTheFault : Type 0
CutTextsHaveTheFault = (text : List ℕ) → input_limit ≤ length text → ReportsAtLimit scenario_of text

-- The bytes that were read of an input have the result of the whole input.
abbrev pub ReadTextsSayTheSame : Type 0
ReadTextsSayTheSame = (text bytes : List ℕ) (rest : Option (List ℕ)) → ReadsInput (Some text) rest bytes → scenario_of bytes ≡ scenario_of text

-- If these bytes have no fault, the input was read to its end.
abbrev pub GoodTextsAreReadToTheEnd : Type 0
GoodTextsAreReadToTheEnd = (text bytes : List ℕ) (rest : Option (List ℕ)) (said : Script) → ReadsInput (Some text) rest bytes → scenario_of bytes ≡ Ok said → IsAtEnd rest
