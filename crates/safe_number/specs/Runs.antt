-- The cursors of a register: how far a write or a read of it has come, and which access comes next.
use Rattle.std.specs.Prelude.{ℕ, ◌+◌, ◌*◌, ◌<◌, Bool, false, not, if◌then◌else◌, Option, Some, None, unwrap_or, List, [], ◌∷◌, ◌++◌, map, length}
use Rattle.std.specs.List.{range_with_len}
use Rattle.reader_copies.specs.safe_bit.Cell.{Cell, new_cell}
use Rattle.reader_copies.specs.{Made, Reading, Settling, Writing, next_read, next_write, row_after, torn_of, write_after}
use Rattle.safe_number.specs.Bytes.{bit_in}

-- a write of a register
pub record NumberWrite : Type 0 where
  pub width : ℕ
  -- the bit that is written now, and how far its write has come, once it has begun
  pub bit : ℕ
  pub run : Option Writing

-- a read of a register by one reader
pub record NumberRead : Type 0 where
  pub width : ℕ
  -- the bits that were read, and whether the read of the next one has begun
  pub bits : List Bool
  pub begun : Bool
  -- the greatest width that there is room for
  pub room : ℕ

-- the write before its first access
abbrev pub new_write : ℕ → NumberWrite
new_write width = record { width = width; bit = 0; run = None }

-- how far the write of the present bit of a value has come
abbrev pub bit_write : List ℕ → NumberWrite → Writing
bit_write value w = unwrap_or w.run (record { value = bit_in value w.bit; made = 0; ended = false })

-- the next access of a write of a value: its bit, and what is made of it
abbrev pub next_of_write : List ℕ → NumberWrite → ℕ × Made
next_of_write value w = (w.bit, next_write (bit_write value w))

-- the write has a next access, if each bit has this number of copies
abbrev pub IsGoing : List ℕ → NumberWrite → ℕ → Type 0
IsGoing value w readers = w.bit < w.width × (bit_write value w).made < 2 * readers

-- the register after it
abbrev pub register_written : List (List Cell) → List ℕ → NumberWrite → List (List Cell)
register_written row value w = row_after row w.bit (next_write (bit_write value w))

-- the write once its present bit has come so far
abbrev pub write_on : NumberWrite → Writing → NumberWrite
write_on w run = if run.ended
    then record { width = w.width; bit = w.bit + 1; run = None }
    else record { width = w.width; bit = w.bit; run = Some run }

-- the write after its next access, with n copies of each bit
abbrev pub number_write_after : ℕ → List ℕ → NumberWrite → NumberWrite
number_write_after n value w = write_on w (write_after n (bit_write value w))

-- the number of the unfinished bit, and what is left to settle of it
abbrev pub torn_with : ℕ → Option Settling → Option (ℕ × Settling)
torn_with k None = None
torn_with k (Some torn) = Some (k, torn)

-- bit k and the settling that its write needs, if this write has begun and has not ended on every copy
abbrev pub torn_run : ℕ → Option Writing → Option (ℕ × Settling)
torn_run k None = None
torn_run k (Some run) = torn_with k (torn_of run)

-- the number of the unfinished bit of a write of a register, and the settling that it needs
abbrev pub torn_bit : NumberWrite → Option (ℕ × Settling)
torn_bit w = torn_run w.bit w.run

-- the read before its first access
abbrev pub new_read : ℕ → ℕ → NumberRead
new_read width room = record { width = width; bits = []; begun = false; room = room }

-- how far the read of the present bit has come
abbrev pub bit_read : NumberRead → Reading
bit_read r = record { begun = r.begun; value = None }

-- the next access of a reader's read, whose end gives v: its bit, and what is made of it
abbrev pub next_of_read : ℕ → NumberRead → Bool → ℕ × Made
next_of_read reader r v = (length r.bits, next_read reader (bit_read r) v)

-- the read after that access
abbrev pub number_read_after : NumberRead → Bool → NumberRead
number_read_after r v = record { width = r.width; bits = if r.begun then r.bits ++ v ∷ [] else r.bits; begun = not r.begun; room = r.room }

-- each copy of each bit as if it had opened at that bit of a value
abbrev pub preset_number : List (List Cell) → List ℕ → List (List Cell)
preset_number row value = map (λ copies. map (λ k. new_cell (bit_in value k)) (range_with_len 0 (length copies))) row
