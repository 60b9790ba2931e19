-- Copies of bits in the states that several tests share.
use Rattle.std.specs.Prelude.{◌≡◌, ℕ, true, false, List, [], ◌∷◌}
use Rattle.reader_copies.specs.safe_bit.Cell.{Cell, cell_of}
use Rattle.model.specs.safe_bit.declared.Move.TheVariants.{BeginWrite, EndWrite, BeginRead, EndRead}
use Rattle.reader_copies.specs.{Made, cell_at, new_row, row_after}

-- a copy in which 1 was written
abbrev pub written_copy : Cell
written_copy = cell_of false (EndWrite ∷ BeginWrite true ∷ [])

-- 65 bits for 2 readers: a write of bit 0 is open for reader 0, and a read of bit 63 by reader 1
abbrev pub open_row : List (List Cell)
open_row = row_after (row_after (new_row 65 2) 0 (record { reader = 0; how = BeginWrite true })) 63 (record { reader = 1; how = BeginRead })

-- the accesses that write 1 to a bit with copies for 2 readers
abbrev pub first_made : Made
first_made = record { reader = 0; how = BeginWrite true }

abbrev pub second_made : Made
second_made = record { reader = 0; how = EndWrite }

abbrev pub third_made : Made
third_made = record { reader = 1; how = BeginWrite true }

abbrev pub last_made : Made
last_made = record { reader = 1; how = EndWrite }

-- a row in which 1 was written to the copies of bit 64
abbrev pub with_last_written : List (List Cell) → List (List Cell)
with_last_written row = row_after (row_after (row_after (row_after row 64 first_made) 64 second_made) 64 third_made) 64 last_made

-- the row once the open read and the open write have ended too
abbrev pub last_row : List (List Cell)
last_row = row_after (row_after (with_last_written open_row) 63 (record { reader = 1; how = EndRead false })) 0 (record { reader = 0; how = EndWrite })

-- in whatever state the accesses of the other bits are, that write leaves their copies as they are
abbrev pub OthersStay : Type 0
OthersStay = (row : List (List Cell)) (bit reader : ℕ) → (bit ≡ 64 → ⊥) → cell_at (with_last_written row) bit reader ≡ cell_at row bit reader
