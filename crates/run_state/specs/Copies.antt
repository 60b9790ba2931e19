-- The copies of a register as text, and the lines of registers.
use Rattle.std.specs.Prelude.{ℕ, Bool, true, false, not, List, [], ◌++◌, codes, cond, flat_map, length, map, slice_index_or, take, Option, None, Some, option_map}
use Rattle.std.specs.Fmt.{decimal}
use Rattle.std.specs.Global.{Vec}
use Rattle.std.specs.List.{list_all, list_any, range_with_len}
use Rattle.std.specs.Str.{bytes_eq}
use Rattle.plain_store.specs.{Contents, Setup, callers_of}
use Rattle.model.specs.safe_bit.Cell.{Cell}
use Rattle.model.specs.safe_number.{bits_in, number_of_bits}
use Rattle.model.specs.store_image.{image_of, store_in}
use Rattle.model.specs.{Access, Field, Past, bytes_of_bits, field_word, fields, image_bytes, opening_bits, processes}
use Rattle.model.specs.declared.access.Field.TheVariants.{Image0, Image1}
use Rattle.calls.specs.world.{cells_held}
use Rattle.calls.specs.world.laws.{cell_held}
use Rattle.calls.specs.world.process.registers.{has_open_write, values_in}
use Rattle.calls.specs.world.process.registers.reader_copies.{CopyState, copy_state}
use Rattle.run_state.specs.Stores.{number_word, store_text}

-- Bits.

-- the state of the bit of an access
abbrev pub bit_at : Setup → Past → Access → CopyState
bit_at s past a = copy_state (cell_held s past a)

-- the bits of a reader's copy of a register by their cells; none while a write of one of them is open
abbrev pub bits_in_cells : List Cell → Option (List Bool)
bits_in_cells cells = cond (has_open_write cells) None (Some (values_in cells))

-- the bits that a reader's copy of a register holds
abbrev pub bits_held : Setup → Past → ℕ → Field → ℕ → Option (List Bool)
bits_held s past owner field reader = bits_in_cells (cells_held s past (record { owner = owner; field = field }) reader)

-- the first n bits of bytes, where there are bytes
abbrev pub bits_read : ℕ → Option (List ℕ) → Option (List Bool)
bits_read n bytes = option_map (λ (b : List ℕ). bits_in b n) bytes

-- Copies.

-- the register holds an image
abbrev pub is_image : Field → Bool
is_image Image0 = true
is_image Image1 = true
is_image _ = false

-- the store whose image the bytes are, if they are one
abbrev pub image_text : Setup → List ℕ → List ℕ
image_text s bytes =
    let store : Contents = store_in s.slots (callers_of s) bytes in
    cond (bytes_eq (image_of store) bytes) (store_text (callers_of s) store) (codes "no-image")

-- the text of bits in such a register: a number, or a store
abbrev pub shown : Setup → Field → List Bool → List ℕ
shown s field bits = cond (is_image field) (image_text s (bytes_of_bits (image_bytes s) bits)) (decimal (number_of_bits bits))

-- the bits of a copy as text
abbrev pub bits_text : Setup → Field → Option (List Bool) → List ℕ
bits_text s field None = codes "flickers"
bits_text s field (Some bits) = shown s field bits

-- a copy as text
abbrev pub copy_text : Setup → Past → ℕ → Field → ℕ → List ℕ
copy_text s past owner field reader = bits_text s field (bits_held s past owner field reader)

-- two bits differ
abbrev pub differ : Bool → Bool → Bool
differ a b = cond a (not b) b

-- a bit is not as it opened, or a write of one is open
abbrev pub has_changed : (opening : List Bool) → Option (List Bool) → Bool
has_changed opening None = true
has_changed opening (Some bits) = list_any (λ (k : ℕ). differ (slice_index_or bits k false) (slice_index_or opening k false)) (range_with_len 0 (length bits))

-- a copy is not as its register opened
abbrev pub is_copy_changed : Setup → Past → ℕ → Field → ℕ → Bool
is_copy_changed s past owner field reader = has_changed (opening_bits s owner field) (bits_held s past owner field reader)

-- bytes are not these, or there are none
abbrev pub are_other : List ℕ → Option (List ℕ) → Bool
are_other these None = true
are_other these (Some bytes) = not (bytes_eq bytes these)

-- Lines.

-- a reader's text
abbrev pub text_at : List (List ℕ) → ℕ → List ℕ
text_at texts reader = slice_index_or texts reader []

-- a text is among texts
abbrev pub is_among : List ℕ → List (List ℕ) → Bool
is_among text texts = list_any (λ (t : List ℕ). bytes_eq t text) texts

-- all texts are this one
abbrev pub are_all : List ℕ → List (List ℕ) → Bool
are_all text texts = list_all (λ (t : List ℕ). bytes_eq t text) texts

-- the word of a reader, if it has this text
abbrev pub reader_if : List (List ℕ) → List ℕ → ℕ → List ℕ
reader_if texts text reader = cond (bytes_eq (text_at texts reader) text) (number_word reader) []

-- the line of the copies that have this text
abbrev pub copies_line : List ℕ → List (List ℕ) → List ℕ → List ℕ
copies_line name texts text = name ++ (codes " readers" ++ (flat_map (reader_if texts text) (range_with_len 0 (length texts)) ++ (codes " " ++ (text ++ codes "\n"))))

-- the line of a reader's text, unless an earlier reader has it
abbrev pub line_of_first : List ℕ → List (List ℕ) → ℕ → List ℕ
line_of_first name texts reader = cond (is_among (text_at texts reader) (take reader texts)) [] (copies_line name texts (text_at texts reader))

-- one line, if all readers have one text; otherwise one for each text
abbrev pub copies_lines : List ℕ → List (List ℕ) → List ℕ
copies_lines name texts =
    cond (are_all (text_at texts 0) texts)
    (name ++ (codes " " ++ (text_at texts 0 ++ codes "\n")))
    (flat_map (line_of_first name texts) (range_with_len 0 (length texts)))

-- the texts of vectors
abbrev pub texts_in : List (Vec ℕ) → List (List ℕ)
texts_in texts = map (λ (t : Vec ℕ). t.items) texts

-- the name of a register after the word `register`
abbrev pub register_words : ℕ → Field → List ℕ
register_words owner field = codes "register " ++ (decimal owner ++ (codes "." ++ field_word field))

-- the lines of a register, if a copy is changed
abbrev pub lines_of_register : Setup → Past → ℕ → Field → List ℕ
lines_of_register s past owner field =
    cond (list_any (is_copy_changed s past owner field) (processes s)) (copies_lines (register_words owner field) (map (copy_text s past owner field) (processes s))) []

-- the lines of all registers, by owner and field
abbrev pub register_lines : Setup → Past → List ℕ
register_lines s past = flat_map (λ owner. flat_map (lines_of_register s past owner) fields) (processes s)
