-- The state of one bit after its moves, as far as the safe rule needs it.
use Rattle.std.specs.Prelude.{◌≡◌, Bool, true, false, not, ◌&&◌, List, ◌∷◌, cond}
use Rattle.model.specs.safe_bit.{Move, before_read, is_overlapped, is_write_open, last_begun, last_written}
use Rattle.model.specs.safe_bit.declared.Move.TheVariants.{BeginRead, EndRead}
use Rattle.model.specs.{begins_read}
use Rattle.safe_monitor.specs.declared.monitored_bit.ReadEnd.{ReadEnd}
use Rattle.safe_monitor.specs.declared.monitored_bit.ReadEnd.TheVariants.{Free, Writing, Bound}
use Rattle.safe_monitor.specs.declared.monitored_bit.MonitoredBit.{MonitoredBit}

-- The end that the read that began last may have. It is bound to the value last written or settled before the read, if the read began and no write overlapped it. Otherwise it is any value; while a write is open it is any value too.
abbrev pub ending_of : Bool → List Move → ReadEnd
ending_of opening moves =
    cond (is_write_open moves) Writing
    (cond (begins_read moves && not (is_overlapped moves)) (Bound (last_written opening (before_read moves))) Free)

-- the look of a bit with this opening value, after these moves, the newest first
abbrev pub monitored_after : Bool → List Move → MonitoredBit
monitored_after opening moves = record { begun = last_begun opening moves; written = last_written opening moves; ending = ending_of opening moves }

-- the move ends a read that a write overlapped: one was open as the read that began last began, or has begun since
abbrev pub ends_overlapped : List Move → Move → Bool
ends_overlapped moves (EndRead v) = is_overlapped moves
ends_overlapped moves _ = false

-- the result is whether the move ends an overlapped read, if a read has begun
abbrev pub ReportsOverlap : Bool → List Move → Move → Type 0
ReportsOverlap reported moves how = begins_read moves ≡ true → reported ≡ ends_overlapped moves how

-- a fact holds for all moves after which a read has this end, and for each opening value
abbrev pub LeftBy : ReadEnd → (Bool → List Move → Type 0) → Type 0
LeftBy end P = (opening : Bool) (moves : List Move) → end ≡ ending_of opening moves → P opening moves

-- `then` is the end of the read after one more move, for all earlier moves
abbrev pub EndsOn : ReadEnd → Move → ReadEnd → Type 0
EndsOn end how then = LeftBy end (λ opening moves. then ≡ ending_of opening (how ∷ moves))

-- `then` is the end of the read after one more read begins, if `written` was last written or settled
abbrev pub ReadsOn : ReadEnd → Bool → ReadEnd → Type 0
ReadsOn end written then = LeftBy end (λ opening moves. written ≡ last_written opening moves → then ≡ ending_of opening (BeginRead ∷ moves))

-- a fact holds for all moves after which a bit has this look
abbrev pub MonitoredAfterMoves : MonitoredBit → (Bool → List Move → Type 0) → Type 0
MonitoredAfterMoves l P = (opening : Bool) (moves : List Move) → l ≡ monitored_after opening moves → P opening moves

-- `then` is the look of the bit after one more move, for all earlier moves
abbrev pub IsMonitoredAfter : MonitoredBit → Move → MonitoredBit → Type 0
IsMonitoredAfter l how then = MonitoredAfterMoves l (λ opening moves. then ≡ monitored_after opening (how ∷ moves))
