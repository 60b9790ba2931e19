-- The moments of a register during an access to it: the access's own steps, and the calls of others between them.
use Rattle.std.specs.Prelude.{◌≢◌, ℕ, ◌<◌, Bool, List, [], ◌∷◌, length, Option, Some, None, unwrap_or}
use Rattle.reader_copies.specs.safe_bit.Cell.{Cell}
use Rattle.reader_copies.specs.{DropsAt, IsReadCall, MakesAt, RowCall, Settling, next_settle, row_after, row_after_call, settle_after, settled_at}
use Rattle.safe_number.specs.Runs.{NumberWrite, NumberRead, number_write_after, number_read_after, register_written}
use Rattle.safe_number.specs.Written.{loaded, register_read}

-- a moment of an interval: the access's own next step, with the bit that is handed in, or a call of another caller
pub data Moment : Type 0 where
  Own : Bool → Moment
  Other : RowCall → Moment

-- a register, and a write of it
pub record WriteState : Type 0 where
  pub row : List (List Cell)
  pub run : NumberWrite

-- after one moment of a write
abbrev pub write_moment : List ℕ → WriteState → Moment → WriteState
write_moment value s (Own x) = record { row = register_written s.row value s.run; run = number_write_after (length s.row) value s.run }
write_moment value s (Other call) = record { row = row_after_call s.row call; run = s.run }

-- after these moments, the newest first
abbrev pub write_interval : List ℕ → WriteState → List Moment → WriteState
write_interval value s [] = s
write_interval value s (m ∷ moments) = write_moment value (write_interval value s moments) m

-- a write's own step needs a bit that is left, and the other calls only read
abbrev pub IsWriteMoment : WriteState → Moment → Type 0
IsWriteMoment s (Own x) = s.run.bit < s.run.width
IsWriteMoment s (Other call) = IsReadCall s.row call

-- `IsWriteMoment` holds at each of these moments
abbrev pub IsWriteInterval : List ℕ → WriteState → List Moment → Type 0
IsWriteInterval value s [] = Unit {0}
IsWriteInterval value s (m ∷ moments) = IsWriteMoment (write_interval value s moments) m × IsWriteInterval value s moments

-- a register, and the settling of one of its bits
pub record SettleState : Type 0 where
  pub row : List (List Cell)
  pub torn : Settling

-- after one moment of the settling of bit b
abbrev pub settle_moment : ℕ → SettleState → Moment → SettleState
settle_moment b s (Own x) = record { row = row_after s.row b (next_settle s.torn (settled_at s.torn x)); torn = settle_after s.torn (settled_at s.torn x) }
settle_moment b s (Other call) = record { row = row_after_call s.row call; torn = s.torn }

-- after these moments, the newest first
abbrev pub settle_interval : ℕ → SettleState → List Moment → SettleState
settle_interval b s [] = s
settle_interval b s (m ∷ moments) = settle_moment b (settle_interval b s moments) m

-- a settling's own step needs a copy that is left, and the other calls only read
abbrev pub IsSettleMoment : SettleState → Moment → Type 0
IsSettleMoment s (Own x) = s.torn.reader < length s.row
IsSettleMoment s (Other call) = IsReadCall s.row call

-- `IsSettleMoment` holds at each of these moments
abbrev pub IsSettleInterval : ℕ → SettleState → List Moment → Type 0
IsSettleInterval b s [] = Unit {0}
IsSettleInterval b s (m ∷ moments) = IsSettleMoment (settle_interval b s moments) m × IsSettleInterval b s moments

-- the bit that was handed in first
abbrev pub first_given : List Moment → Option Bool
first_given [] = None
first_given (Own x ∷ moments) = Some (unwrap_or (first_given moments) x)
first_given (Other call ∷ moments) = first_given moments

-- a register, and a read of it
pub record ReadState : Type 0 where
  pub row : List (List Cell)
  pub run : NumberRead

-- after one moment of a reader's read
abbrev pub read_moment : ℕ → ReadState → Moment → ReadState
read_moment reader s (Own flick) = record {
  row = register_read s.row reader s.run flick;
  run = number_read_after s.run (loaded s.row reader s.run flick);
}
read_moment reader s (Other call) = record { row = row_after_call s.row call; run = s.run }

-- after these moments, the newest first
abbrev pub read_interval : ℕ → ReadState → List Moment → ReadState
read_interval reader s [] = s
read_interval reader s (m ∷ moments) = read_moment reader (read_interval reader s moments) m

-- the reader whose copy a call is made on
abbrev pub reader_of : RowCall → ℕ
reader_of (MakesAt bit made) = made.reader
reader_of (DropsAt bit reader) = reader

-- no write meets the moment: the read's own step needs a bit that is left, and the others only read their own copies
abbrev pub MeetsNoWrite : ℕ → ReadState → Moment → Type 0
MeetsNoWrite reader s (Own flick) = length s.run.bits < s.run.width
MeetsNoWrite reader s (Other call) = IsReadCall s.row call × (reader_of call ≢ reader)

-- `MeetsNoWrite` holds at each of these moments
abbrev pub IsUndisturbedInterval : ℕ → ReadState → List Moment → Type 0
IsUndisturbedInterval reader s [] = Unit {0}
IsUndisturbedInterval reader s (m ∷ moments) = MeetsNoWrite reader (read_interval reader s moments) m × IsUndisturbedInterval reader s moments
