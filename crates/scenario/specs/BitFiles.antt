-- The lines that a bits file contains, or its first fault.
use Rattle.std.specs.Prelude.{◌≡◌, ℕ, Bool, true, false, ◌==◌, ◌&&◌, if◌then◌else◌, List, [], ◌∷◌, length, codes, Option, Result, Ok, Err}
use Rattle.std.specs.Global.{Vec}
use Rattle.std.specs.Map.{lookup}
use Rattle.std.specs.Option.{ok_or}
use Rattle.std.specs.Str.{bytes_eq}
use Rattle.files.specs.{FaultKind, Grammar, LineFault, UnlessMemory, counted, file_of, known, one_more, word, ◌>>=◌}
use Rattle.scenario.specs.declared.bit_files.BitLine.{BitLine}
use Rattle.scenario.specs.declared.bit_files.BitLine.TheVariants as line
use Rattle.scenario.specs.declared.bit_files.BitWord.{BitWord}
use Rattle.scenario.specs.declared.bit_files.BitWord.TheVariants.{Bits, Write, End, Settle, Read, Value, Drop}
use Rattle.files.specs.declared.faults.FaultKind.TheVariants.{NotFirst, Number}

-- the first words of lines, and what they mean
abbrev pub bit_words : List (List ℕ × BitWord)
bit_words =
    (codes "bits", Bits)
    ∷ (codes "write", Write)
    ∷ (codes "end", End)
    ∷ (codes "settle", Settle)
    ∷ (codes "read", Read)
    ∷ (codes "value", Value)
    ∷ (codes "drop", Drop)
    ∷ []

abbrev pub bit_word_of : List ℕ → Option BitWord
bit_word_of name = lookup (bytes_eq name) bit_words

-- `0` and `1`
abbrev pub bits : List (List ℕ × Bool)
bits = (codes "0", false) ∷ (codes "1", true) ∷ []

abbrev pub bit_at : List ℕ → Result Bool FaultKind
bit_at word = ok_or (lookup (bytes_eq word) bits) Number

-- the one operand of a line
abbrev pub one_bit_of : List (List ℕ) → Result Bool FaultKind
one_bit_of words = counted 1 words >>= λ counts. bit_at (word 0 words)

-- a line that is its first word alone
abbrev pub lone_word_of : BitLine → List (List ℕ) → Result BitLine FaultKind
lone_word_of line words = counted 0 words >>= λ counts. Ok line

-- a line after the first: a second `bits` line is out of place
abbrev pub bit_line_of : BitWord → List (List ℕ) → Result BitLine FaultKind
bit_line_of Bits words = Err NotFirst
bit_line_of Write words = one_bit_of words >>= λ v. Ok (line.Write v)
bit_line_of Settle words = one_bit_of words >>= λ v. Ok (line.Settle v)
bit_line_of Value words = one_bit_of words >>= λ v. Ok (line.Value v)
bit_line_of End words = lone_word_of line.End words
bit_line_of Read words = lone_word_of line.Read words
bit_line_of Drop words = lone_word_of line.Drop words

-- `bits 1`, after which no line has been read
abbrev pub first_bits_read : List ℕ → List (List ℕ) → Result (List BitLine) FaultKind
first_bits_read first words = if bytes_eq first (codes "bits") && (length words == 1) && bytes_eq (word 0 words) (codes "1") then Ok [] else Err NotFirst

-- one more line
abbrev pub later_bits_read : List ℕ → List (List ℕ) → List BitLine → Result (List BitLine) FaultKind
later_bits_read first words lines = known (bit_word_of first) >>= λ name. bit_line_of name words >>= λ line. one_more lines line

-- the grammar of bits files
abbrev pub bits_grammar : Grammar (List BitLine)
bits_grammar = record { first = first_bits_read; later = later_bits_read }

-- the lines that a whole text contains, or its first fault
abbrev pub bits_of : List ℕ → Result (List BitLine) LineFault
bits_of = file_of bits_grammar

-- the lines that were read are those of the grammar, and the fault is that of the grammar too, unless memory ran out
abbrev pub GivesBits : Result (Vec BitLine) LineFault → Result (List BitLine) LineFault → Type 0
GivesBits (Ok lines) said = said ≡ Ok lines.items
GivesBits (Err fault) said = UnlessMemory fault.kind (said ≡ Err fault)
