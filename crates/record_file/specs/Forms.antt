-- The words that have the form of a mark, of an access, or of a line other than an entry.
use Rattle.std.specs.Prelude.{◌≡◌, ℕ, Bool, false, ◌&&◌, ◌==◌, ◌++◌, codes, is_some, List, [], ◌∷◌, length, None}
use Rattle.std.specs.List.{list_all}
use Rattle.std.specs.Result.{is_ok}
use Rattle.files.specs.{word}
use Rattle.scenario.specs.{Operand, Patterns, Phrases, a_process, begun as begun_head, commands, has_form, heads, is_operand, is_phrase}
use Rattle.scenario.specs.declared.forms.Letter.TheVariants.{K, N}
use Rattle.scenario.specs.declared.forms.Operand.TheVariants as operand
use Rattle.record_file.specs.Keywords.{field_of}
use Rattle.record_file.specs.Reading.{access_of, dotted, mark_of}
use Rattle.record_file.specs.RecordFiles.{Progress, begins_with_digit, later_read}

-- the number of a bit or of a call, a ticket, and the position at which a command is taken
abbrev pub of_16_bits : Operand
of_16_bits = operand.Number N 65535

abbrev pub a_ticket : Operand
a_ticket = operand.Number N 4294967295

abbrev pub a_place : Operand
a_place = operand.Number K 18446744073709551615

-- the parts of a copy's word that are numbers, each with its place between the dots: the owner, the bit, and the reader
abbrev pub copy_numbers : List (ℕ × Operand)
copy_numbers = (0, a_process) ∷ (2, of_16_bits) ∷ (3, a_process) ∷ []

-- the moves on a bit
abbrev pub moves : Phrases
moves =
    (codes "write", operand.Bit ∷ [])
    ∷ (codes "end", [])
    ∷ (codes "read", [])
    ∷ (codes "value", operand.Bit ∷ [])
    ∷ (codes "settle", operand.Bit ∷ [])
    ∷ []

-- the replies to a command
abbrev pub replies : Phrases
replies =
    (codes "value", operand.Value ∷ [])
    ∷ (codes "done", [])
    ∷ (codes "sum", operand.Integer ∷ [])
    ∷ (codes "swapped", [])
    ∷ (codes "kept", operand.Value ∷ [])
    ∷ (codes "no-name", [])
    ∷ (codes "not-counter", [])
    ∷ (codes "overflow", [])
    ∷ (codes "store-full", [])
    ∷ (codes "last", of_16_bits ∷ [])
    ∷ []

-- the answers to a call that contain no reply
abbrev pub other_answers : Phrases
other_answers = (codes "tickets-full", a_process ∷ []) ∷ (codes "stamps-full", []) ∷ (codes "withdrawn", []) ∷ []

-- the marks of an entry
abbrev pub marks : Patterns
marks =
    (codes "call", ([], commands))
    ∷ (codes "wait", (a_ticket ∷ [], []))
    ∷ (codes "enter", ([], []))
    ∷ (codes "taken", (a_place ∷ [], replies))
    ∷ (codes "leave", ([], []))
    ∷ (codes "answer", ([], replies ++ other_answers))
    ∷ (codes "fail", ([], []))
    ∷ (codes "settled", (operand.Bit ∷ [], []))
    ∷ (codes "down", ([], []))
    ∷ (codes "withdraw", ([], []))
    ∷ (codes "restart", ([], []))
    ∷ []

-- whether a word is a copy of a bit: four parts, of which the second names a register and the others are numbers
abbrev pub is_copy : List (List ℕ) → Bool
is_copy parts = (length parts == 4) && (is_some (field_of (word 1 parts)) && list_all (λ row. is_operand 2 row.1 (word row.0 parts)) copy_numbers)

-- a record of which the first line was read
abbrev pub begun : ℕ → Progress
begun version = record { head = begun_head version; ended = false; entry = None }

-- The words after a sign are read exactly if they have the form of a mark.
abbrev pub MarksHaveForms : Type 0
MarksHaveForms = (name : List ℕ) (words : List (List ℕ)) → is_ok (mark_of (name ∷ words)) ≡ has_form 2 marks name words

-- A word and those after it are read as an access exactly if it is a copy of a bit and they are a move.
abbrev pub AccessesHaveForms : Type 0
AccessesHaveForms = (copy name : List ℕ) (words : List (List ℕ)) → is_ok (access_of (copy ∷ name ∷ words)) ≡ (is_copy (dotted copy) && is_phrase 2 moves name words)

-- After the first line, a line that does not begin with a digit is read exactly if it has the form of a heading or a pair.
abbrev pub HeadsHaveForms : Type 0
HeadsHaveForms = (version : ℕ) (first : List ℕ) (words : List (List ℕ)) → begins_with_digit first ≡ false → is_ok (later_read first words (begun version)) ≡ has_form version heads first words
