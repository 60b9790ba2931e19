-- The effect of a write, a write that was cut and its settling on a row, whatever is read meanwhile.
use Rattle.std.specs.Prelude.{◌≡◌, ◌≢◌, ℕ, ◌+◌, ◌*◌, ◌<◌, ◌≤◌, ◌==◌, nat_lt, List, Bool, true, false, if◌then◌else◌}
use Rattle.safe_bit.specs.Cell.{Cell}
use Rattle.safe_bit.specs.{Move}
use Rattle.safe_bit.specs.declared.Move.TheVariants.{BeginWrite, EndWrite, BeginRead, EndRead, Settle}
use Rattle.reader_copies.specs.Row.{cell_at, HasCell}
use Rattle.reader_copies.specs.Runs.{is_open_at}

-- the access begins or ends a read
abbrev pub IsRead : Move → Type 0
IsRead (BeginWrite v) = ⊥
IsRead EndWrite = ⊥
IsRead BeginRead = Unit {0}
IsRead (EndRead v) = Unit {0}
IsRead (Settle v) = ⊥

-- the access belongs to a write
abbrev pub IsWrite : Move → Type 0
IsWrite (BeginWrite v) = Unit {0}
IsWrite EndWrite = Unit {0}
IsWrite BeginRead = ⊥
IsWrite (EndRead v) = ⊥
IsWrite (Settle v) = Unit {0}

-- the copy has this value, and no write of it is open
pub record IsAt (c : Cell) (v : Bool) : Type 0 where
  pub closed : c.writing ≡ false
  pub value : c.value ≡ v

-- a write of this value is open
pub record IsOpen (c : Cell) (v : Bool) : Type 0 where
  pub opened : c.writing ≡ true
  pub value : c.value ≡ v

-- a change of a copy that leaves its value and its write as they are
pub record KeepsWrite (c d : Cell) : Type 0 where
  pub value : d.value ≡ c.value
  pub writing : d.writing ≡ c.writing

-- a change of a row that leaves the values and the writes of all copies as they are
pub record KeepsWrites (row row' : List (List Cell)) : Type 0 where
  pub shape : (bit reader : ℕ) → HasCell row' bit reader → HasCell row bit reader
  pub each : (bit reader : ℕ) → HasCell row bit reader → KeepsWrite (cell_at row bit reader) (cell_at row' bit reader)

-- each copy of each bit has the value of its bit
pub record IsWritten (row : List (List Cell)) (v : ℕ → Bool) : Type 0 where
  pub copies : (bit reader : ℕ) → HasCell row bit reader → IsAt (cell_at row bit reader) (v bit)

-- a write of new values over old ones has come to the bit b, of which m accesses were made
pub record IsPartlyWritten (row : List (List Cell)) (old new : ℕ → Bool) (b m : ℕ) : Type 0 where
  pub below : (bit reader : ℕ) → HasCell row bit reader → bit < b → IsAt (cell_at row bit reader) (new bit)
  pub done : (reader : ℕ) → HasCell row b reader → 2 * reader + 1 < m → IsAt (cell_at row b reader) (new b)
  pub opened : (reader : ℕ) → HasCell row b reader → 2 * reader + 1 ≡ m → IsOpen (cell_at row b reader) (new b)
  pub rest : (reader : ℕ) → HasCell row b reader → m ≤ 2 * reader → IsAt (cell_at row b reader) (old b)
  pub above : (bit reader : ℕ) → HasCell row bit reader → b < bit → IsAt (cell_at row bit reader) (old bit)

-- a write of the bit b was cut after m accesses, and its settling at v has come to a reader's copy; the other bits have these values
pub record IsPartlySettled (row : List (List Cell)) (others : ℕ → Bool) (b m : ℕ) (v : Bool) (reader : ℕ) (begun : Bool) : Type 0 where
  pub apart : (bit r : ℕ) → HasCell row bit r → bit ≢ b → IsAt (cell_at row bit r) (others bit)
  pub done : (r : ℕ) → HasCell row b r → r < reader → IsAt (cell_at row b r) v
  pub opened : HasCell row b reader → begun ≡ true → IsOpen (cell_at row b reader) v
  pub next : HasCell row b reader → begun ≡ false → (cell_at row b reader).writing ≡ is_open_at m reader
  pub rest : (r : ℕ) → HasCell row b r → reader < r → (cell_at row b r).writing ≡ is_open_at m r

-- the values with that of one bit changed
abbrev pub with_value : (ℕ → Bool) → ℕ → Bool → ℕ → Bool
with_value v b x bit = if bit == b then x else v bit

-- the values of a write that was cut at the bit b
abbrev pub cut_values : (ℕ → Bool) → (ℕ → Bool) → ℕ → ℕ → Bool
cut_values old new b bit = if nat_lt bit b then new bit else old bit
