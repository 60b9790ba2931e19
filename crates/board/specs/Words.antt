-- The words of a board: one for each single-reader bit of each register, and the value that shows the bit.
use Rattle.std.specs.Prelude.{◌≡◌, ◌<◌, slice_index, ℕ, ◌+◌, ◌-◌, ◌*◌, ◌/◌, ◌%◌, ◌==◌, nat_lt, Bool, true, false, cond, List, [], ◌∷◌, map, take}
use Rattle.model.specs.safe_bit.Cell.{Cell}
use Rattle.model.specs.safe_bit.{Move}
use Rattle.model.specs.safe_bit.declared.Move.TheVariants.{BeginWrite, EndWrite, BeginRead, EndRead, Settle}
use Rattle.model.specs.{Access, Field, copy, field_number, fields, opening_bit, width}
use Rattle.model.specs.declared.access.Field.TheVariants.{Image1}
use Rattle.plain_store.specs.{Setup}
use Rattle.process.specs.registers.{BitCopy, copy_named}
use Rattle.board.specs.declared.layout.WordLayout.{WordLayout}

-- the number of bits of these registers
abbrev pub bits_of : Setup → List Field → ℕ
bits_of s [] = 0
bits_of s (field ∷ others) = width s field + bits_of s others

-- the number of bits of one owner for one reader: the bits of all its registers, in a row
abbrev pub row_bits : Setup → ℕ
row_bits s = bits_of s fields

-- the position in the row at which the bits of a register begin
abbrev pub first_bit : Setup → Field → ℕ
first_bit s field = bits_of s (take (field_number field) fields)

-- The word of a copy of a bit: by owner, then by reader, then by its position in the row.
abbrev pub word_of_copy : Setup → BitCopy → ℕ
word_of_copy s c = (c.register.owner * s.processes + c.reader) * row_bits s + (first_bit s c.register.field + c.bit)

-- The word of the copy to which an access is made.
abbrev pub word_of : Setup → Access → ℕ
word_of s a = word_of_copy s (copy_named a)

-- the numbers from which a word is computed, kept for all word steps
abbrev pub layout_of : Setup → WordLayout
layout_of s = record { processes = s.processes; row = row_bits s; firsts = map (first_bit s) fields }

-- the number of words
abbrev pub words_in : Setup → ℕ
words_in s = s.processes * s.processes * row_bits s

-- the register at a position in a row of the bits of these registers, and the bit of that register at the position
abbrev pub bit_in_row : Setup → List Field → ℕ → Field × ℕ
bit_in_row s [] place = (Image1, place)
bit_in_row s (field ∷ others) place = elim (nat_lt place (width s field)) [ true ↦ (field, place) | false ↦ bit_in_row s others (place - width s field) ]

-- The inverse: the copy of the bit to which a word belongs.
abbrev pub copy_of : Setup → ℕ → BitCopy
copy_of s word =
    let at = bit_in_row s fields (word % row_bits s) in
    record { register = record { owner = word / row_bits s / s.processes; field = at.0 }; bit = at.1; reader = word / row_bits s % s.processes }

-- A copy of a bit, as an access names it.
abbrev pub access_to : BitCopy → Access
access_to c = copy c.register.owner c.register.field c.reader c.bit

-- the word of a bit with this value, while no write of it is open
abbrev pub closed_word : Bool → ℕ
closed_word true = 1
closed_word false = 0

-- the opening value of a word: that of its bit
abbrev pub opening_word : Setup → ℕ → ℕ
opening_word s word = closed_word (opening_bit s (access_to (copy_of s word)))

-- these are the opening words of a board
abbrev pub AreOpening : Setup → List ℕ → Type 0
AreOpening s words = (word : ℕ) → word < words_in s → slice_index words word ≡ opening_word s word

-- the word of a bit that has this cell: 2 while a write is open, and otherwise its value
abbrev pub shown : Cell → ℕ
shown cell = cond cell.writing 2 (closed_word cell.value)

-- the value of a read whose load found this word: the flick while a write is open, and otherwise the value of the bit
abbrev pub loaded : Bool → ℕ → Bool
loaded flick word = cond (word == 2) flick (word == 1)

-- the word that an access of a write stores, if the write is of this value
abbrev pub stored : Bool → Move → ℕ
stored value (BeginWrite v) = 2
stored value EndWrite = closed_word value
stored value (Settle v) = closed_word v
stored value BeginRead = 0
stored value (EndRead v) = 0
