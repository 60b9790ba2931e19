-- The words that have the form of a line: a key word of a table, and after it the operands and phrases that the table gives.
use Rattle.std.specs.Prelude.{◌≡◌, ℕ, Bool, true, false, not, ◌&&◌, ◌||◌, ◌==◌, if◌then◌else◌, List, [], ◌∷◌, ◌++◌, codes, flat_map, map, Option, Some, None, Result, Ok, Err}
use Rattle.std.specs.Borrow.{Bor}
use Rattle.std.specs.Int.{is_in_range}
use Rattle.std.specs.Option.{is_none}
use Rattle.std.specs.Result.{is_ok}
use Rattle.std.specs.Str.{bytes_eq}
use Rattle.files.specs.{FaultKind, KeyWord}
use Rattle.files.specs.declared.faults.FaultKind.TheVariants.{BadSetup}
use Rattle.scenario.specs.BitFiles.{bit_at, later_bits_read}
use Rattle.scenario.specs.Operands.{integer_at, name_at, number_at, value_at}
use Rattle.scenario.specs.Reading.{Progress, later_read}
use Rattle.scenario.specs.Setting.{default_setup, most_of, none_given}
use Rattle.scenario.specs.declared.forms.Operand.{Operand}
use Rattle.scenario.specs.declared.forms.Operand.TheVariants.{Number, Heading, Integer, Bit, Name, Value}
use Rattle.scenario.specs.declared.forms.Letter.TheVariants.{N, P}
use Rattle.scenario.specs.declared.keywords.Heading.TheVariants.{Processes, Tickets, Stamps, Slots}

-- the fault of what was read, if it has one
abbrev pub fault_of : {A : Type 0} → Result A FaultKind → Option FaultKind
fault_of (Ok read) = None
fault_of (Err fault) = Some fault

-- a heading's number is a number of 8 bits, and then one from 1 to `most`
abbrev pub heading_fault : ℕ → Result ℕ FaultKind → Option FaultKind
heading_fault most (Err fault) = Some fault
heading_fault most (Ok n) = if is_in_range 1 most n then None else Some BadSetup

-- the fault that a word has in the place of an operand: that of the grammars
abbrev pub fault_at : ℕ → Operand → List ℕ → Option FaultKind
fault_at version (Number letter most) word = fault_of (number_at most word)
fault_at version (Heading heading) word = heading_fault (most_of heading version) (number_at 255 word)
fault_at version Integer word = fault_of (integer_at word)
fault_at version Bit word = fault_of (bit_at word)
fault_at version Name word = fault_of (name_at word)
fault_at version Value word = fault_of (value_at word)

-- whether a version has a key word
abbrev pub is_word_of : ℕ → List ℕ → Bool
is_word_of version word = not (bytes_eq word (codes "open") || bytes_eq word (codes "ask")) || (version == 2)

-- whether a word may be used as an operand
abbrev pub is_operand : ℕ → Operand → List ℕ → Bool
is_operand version operand word = is_none (fault_at version operand word)

-- whether words are these operands, each in its place
abbrev pub are_operands : ℕ → List Operand → List (List ℕ) → Bool
are_operands version [] [] = true
are_operands version [] (word ∷ words) = false
are_operands version (operand ∷ operands) [] = false
are_operands version (operand ∷ operands) (word ∷ words) = is_operand version operand word && are_operands version operands words

-- whether a word is a key word of a table that a version has, and the words after it fit the row of the table
abbrev pub has_row : {M : Type 0} → ℕ → (M → List (List ℕ) → Bool) → List (List ℕ × M) → List ℕ → List (List ℕ) → Bool
has_row version fits [] first words = false
has_row version fits (row ∷ rows) first words = if bytes_eq first row.0 then is_word_of version row.0 && fits row.1 words else has_row version fits rows first words

-- key words, each with the operands after it
abbrev pub Phrases : Type 0
Phrases = List (List ℕ × List Operand)

-- key words, each with the operands after it and the phrases after those
abbrev pub Patterns : Type 0
Patterns = List (List ℕ × (List Operand × Phrases))

-- whether words are a phrase of a table
abbrev pub is_phrase : ℕ → Phrases → List ℕ → List (List ℕ) → Bool
is_phrase version = has_row version (are_operands version)

-- whether words are one of these phrases; there are none, if there is no phrase
abbrev pub is_ending : ℕ → Phrases → List (List ℕ) → Bool
is_ending version [] [] = true
is_ending version [] (word ∷ words) = false
is_ending version (phrase ∷ phrases) [] = false
is_ending version (phrase ∷ phrases) (word ∷ words) = is_phrase version (phrase ∷ phrases) word words

-- whether words are these operands, with an ending after them
abbrev pub fits_form : ℕ → List Operand → Phrases → List (List ℕ) → Bool
fits_form version [] phrases words = is_ending version phrases words
fits_form version (operand ∷ operands) phrases [] = false
fits_form version (operand ∷ operands) phrases (word ∷ words) = is_operand version operand word && fits_form version operands phrases words

-- whether a line has a form of a table, by its first word and the words after it
abbrev pub has_form : ℕ → Patterns → List ℕ → List (List ℕ) → Bool
has_form version = has_row version (λ form words. fits_form version form.0 form.1 words)

-- the tables of the code, as lists
abbrev pub phrases_in : List (KeyWord (Bor (List Operand))) → Phrases
phrases_in = map (λ row. (row.0.now, row.1.now))

abbrev pub patterns_in : List (KeyWord (Bor (List Operand) × Bor (List (Bor (List (KeyWord (Bor (List Operand)))))))) → Patterns
patterns_in = map (λ row. (row.0.now, (row.1.0.now, flat_map (λ table. phrases_in table.now) row.1.1.now)))

-- the number of a process, a number of steps or turns, and a seed
abbrev pub a_process : Operand
a_process = Number P 255

abbrev pub a_count : Operand
a_count = Number N 100000

abbrev pub a_seed : Operand
a_seed = Number N 18446744073709551615

-- the commands of a call
abbrev pub commands : Phrases
commands =
    (codes "read", Name ∷ [])
    ∷ (codes "write", Name ∷ Value ∷ [])
    ∷ (codes "add", Name ∷ Integer ∷ [])
    ∷ (codes "cas", Name ∷ Value ∷ Value ∷ [])
    ∷ (codes "ask", [])
    ∷ []

-- the stages up to which a process goes
abbrev pub stages : Phrases
stages = (codes "wait", []) ∷ (codes "inside", []) ∷ (codes "idle", []) ∷ (codes "down", []) ∷ []

-- the sources of flicks
abbrev pub flick_ways : Phrases
flick_ways = (codes "0", []) ∷ (codes "1", []) ∷ (codes "pcg", a_seed ∷ []) ∷ []

-- the headings and opening pairs of scenarios and records
abbrev pub heads : Patterns
heads =
    (codes "processes", (Heading Processes ∷ [], []))
    ∷ (codes "tickets", (Heading Tickets ∷ [], []))
    ∷ (codes "stamps", (Heading Stamps ∷ [], []))
    ∷ (codes "slots", (Heading Slots ∷ [], []))
    ∷ (codes "open", (Name ∷ Value ∷ [], []))
    ∷ []

-- the other lines of scenarios
abbrev pub statements : Patterns
statements =
    (codes "call", (a_process ∷ [], commands))
    ∷ (codes "step", (a_process ∷ a_count ∷ [], []))
    ∷ (codes "go", (a_process ∷ [], stages))
    ∷ (codes "fail", (a_process ∷ [], []))
    ∷ (codes "withdraw", (a_process ∷ [], []))
    ∷ (codes "restart", (a_process ∷ [], []))
    ∷ (codes "flick", ([], flick_ways))
    ∷ (codes "wander", (a_count ∷ [], []))
    ∷ (codes "show", ([], []))
    ∷ []

-- the lines of bits files
abbrev pub bit_lines : Phrases
bit_lines =
    (codes "write", Bit ∷ [])
    ∷ (codes "end", [])
    ∷ (codes "settle", Bit ∷ [])
    ∷ (codes "read", [])
    ∷ (codes "value", Bit ∷ [])
    ∷ (codes "drop", [])
    ∷ []

-- a file of which the first line was read
abbrev pub begun : ℕ → Progress
begun version = record { given = none_given; setup = default_setup version; lines = [] }

-- After the first line, a line is read exactly if it has one of the forms.
abbrev pub LinesHaveForms : Type 0
LinesHaveForms = (version : ℕ) (first : List ℕ) (words : List (List ℕ)) → is_ok (later_read first words (begun version)) ≡ has_form version (heads ++ statements) first words

-- After the first line, a line of a bits file is read exactly if it is one of the phrases.
abbrev pub BitLinesHaveForms : Type 0
BitLinesHaveForms = (first : List ℕ) (words : List (List ℕ)) → is_ok (later_bits_read first words []) ≡ is_phrase 1 bit_lines first words
