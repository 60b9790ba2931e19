-- The numbers of a scenario's lines in its file.
use Rattle.std.specs.Prelude.{◌≡◌, ℕ, zero, suc, ◌+◌, ◌-◌, List, [], ◌∷◌, drop, length, map, slice_index_or, Ok}
use Rattle.files.specs.{lines, said_numbers, words_of}
use Rattle.scenario.specs.Printing.{line_words, scenario_text}
use Rattle.scenario.specs.Reading.{Script, scenario_of}
use Rattle.scenario.specs.Scripts.{IsScenario}

-- the last k of some numbers
abbrev pub last_of : ℕ → List ℕ → List ℕ
last_of k numbers = drop (length numbers - k) numbers

-- The numbers of the last k lines of a text that are not skipped. The text's lines are counted from 1, skipped ones too.
-- A script is the end of its file, after the headings and opening pairs, so these are the numbers of its lines if it has k.
abbrev pub line_numbers : List ℕ → ℕ → List ℕ
line_numbers text k = last_of k (said_numbers 1 (lines text))

-- k numbers, one after the other, from n on
abbrev pub numbers_from : ℕ → ℕ → List ℕ
numbers_from n zero = []
numbers_from n (suc k) = n ∷ numbers_from (n + 1) k

-- The numbers of a script's lines in its printed text: before them are the version, four headings, and the opening pairs.
abbrev pub printed_numbers : Script → List ℕ
printed_numbers s = numbers_from (length s.setup.opening + 6) (length s.lines)

-- the words of line n of a file
abbrev pub words_at : List ℕ → ℕ → List (List ℕ)
words_at file n = words_of (slice_index_or (lines file) (n - 1) [])

-- At the numbers of a script's lines, its file has the words of these lines.
abbrev pub LinesHaveTheirNumbers : Type 0
LinesHaveTheirNumbers = (file : List ℕ) (said : Script) → scenario_of file ≡ Ok said →
    map (words_at file) (line_numbers file (length said.lines)) ≡ map line_words said.lines

-- In the printed text of a script, its lines have these numbers.
abbrev pub PrintedLinesAreNumbered : Type 0
PrintedLinesAreNumbered = (s : Script) → IsScenario s → line_numbers (scenario_text s) (length s.lines) ≡ printed_numbers s
