-- The reads of a run or of a record that writes overlap.
use Rattle.std.specs.Prelude.{◌≡◌, ◌<◌, ℕ, ◌==◌, Bool, true, false, ◌&&◌, nat_lt, cond, get_or, List, [], ◌∷◌, length, Option, None, Some, IfSome, Ok}
use Rattle.model.specs.safe_bit.{Move, is_begin_of_read}
use Rattle.model.specs.safe_bit.declared.Move.TheVariants.{EndRead}
use Rattle.model.specs.{Access, Entry, Past, begins_read, moves_of, same_bit, width}
use Rattle.model.specs.plain_store.{Setup, checked}
use Rattle.judge.specs.safe_monitor.{HasObserved, MonitorState, ends_overlapped}
use Rattle.judge.specs.safe_monitor.laws.{IsThere}
use Rattle.picture.specs.{held_in_64}
use Rattle.picture.specs.picture_layout.{OverlappedRead}
use Rattle.picture.specs.declared.reads.Reads.{Reads as Mode}
use Rattle.picture.specs.declared.reads.Reads.TheVariants.{All, Hidden, Shown}
use Rattle.draw.specs.declared.overlaps.BegunRead.{BegunRead}
use Rattle.draw.specs.declared.overlaps.OverlapsObserved.{OverlapsObserved}

-- the last read that a process has begun, after an access by an entry with this number
abbrev pub begun_with : ℕ → ℕ → Option Access → Option BegunRead → Option BegunRead
begun_with p entry None before = before
begun_with p entry (Some a) before = cond ((a.reader == p) && is_begin_of_read a.how) (Some (record { entry = entry; access = a })) before

-- the last read that a process has begun
abbrev pub read_begun : ℕ → Past → Option BegunRead
read_begun p [] = None
read_begun p (e ∷ past) = begun_with p (length past) e.access (read_begun p past)

-- whether the bit of an access exists
abbrev pub is_there : Setup → Access → Bool
is_there s a = nat_lt a.owner s.processes && (nat_lt a.reader s.processes && nat_lt a.bit (width s a.field))

-- the value that the end of a read gives
abbrev pub value_given : Move → Bool
value_given (EndRead v) = v
value_given _ = false

-- the read that an access ends, which began with that entry
abbrev pub read_ended : Setup → ℕ → ℕ → Access → OverlappedRead
read_ended s begin end a = record {
  reader = a.reader;
  owner = a.owner;
  field = a.field;
  bit = a.bit;
  is_wide = nat_lt 1 (width s a.field);
  begin = begin;
  end = end;
  value = value_given a.how;
  more = 0;
}

-- the read that an access ends, if the last read that the process has begun is of its bit
abbrev pub ended_of : Setup → ℕ → Access → Option BegunRead → List OverlappedRead
ended_of s end a None = []
ended_of s end a (Some b) = cond (same_bit a b.access) (read_ended s b.entry end a ∷ []) []

-- the read that an access ends, of a bit that exists, if a write of the bit was open when the read began, or has begun since
abbrev pub overlapped_with : Setup → Past → Option Access → List OverlappedRead
overlapped_with s past None = []
overlapped_with s past (Some a) = cond (is_there s a && ends_overlapped (moves_of a past) a.how) (ended_of s (length past) a (read_begun a.reader past)) []

-- the overlapped read that an entry ends
abbrev pub overlapped_by : Setup → Past → Entry → List OverlappedRead
overlapped_by s past e = overlapped_with s past e.access

-- of the reads that end between two lines, the first three are shown; the third one shows the number of the others
abbrev pub first_three : List OverlappedRead → List OverlappedRead
first_three (first ∷ second ∷ third ∷ others) = first ∷ second ∷ record third { more = held_in_64 (length others) } ∷ []
first_three reads = reads

-- the reads that are shown; if all accesses are shown, no reads are
abbrev pub shown_of : Mode → List OverlappedRead → List OverlappedRead
shown_of Hidden reads = []
shown_of Shown reads = first_three reads
shown_of All reads = []

-- the report whether an access ends an overlapped read: it is right if the bit exists and a read of it has begun, and false if the bit does not exist
pub record ReportsOver (s : Setup) (past : Past) (a : Access) (over : Bool) : Type 0 where
  pub there : IsThere s a → begins_read (moves_of a past) ≡ true → over ≡ ends_overlapped (moves_of a past) a.how
  pub stray : (IsThere s a → ⊥) → over ≡ false

-- the report for an entry, by its access, if reads are shown
abbrev pub ReportsEnd : Mode → Setup → Past → Option Access → Bool → Type 0
ReportsEnd Hidden s past access over = Unit {0}
ReportsEnd Shown s past access over = IfSome access (λ a. ReportsOver s past a over)
ReportsEnd All s past access over = Unit {0}

-- a monitor has observed these entries, if reads are shown
abbrev pub Monitors : Mode → Setup → Past → Option MonitorState → Type 0
Monitors Hidden s past None = Unit {0}
Monitors Shown s past (Some monitor) = (monitor.setup ≡ s) × HasObserved monitor past
Monitors All s past None = Unit {0}
Monitors _ s past monitor = ⊥

-- the state has observed these entries, and stores the reads that have ended since the last line, as far as they are shown
pub record Observes (s : Setup) (past : Past) (reads : List OverlappedRead) (overlaps : OverlapsObserved) : Type 0 where
  pub good : checked s ≡ Ok tt
  pub setup : overlaps.setup ≡ s
  pub begun : (p : ℕ) → p < 16 → get_or overlaps.begun p None ≡ read_begun p past
  pub room : length overlaps.begun ≡ 16
  pub ended : overlaps.ended.items ≡ first_three reads

-- a state has observed these entries, if reads are shown; otherwise there is no state
abbrev pub ObservesAll : Mode → Setup → Past → List OverlappedRead → Option OverlapsObserved → Type 0
ObservesAll Hidden s past reads None = Unit {0}
ObservesAll Shown s past reads (Some overlaps) = Observes s past reads overlaps
ObservesAll All s past reads None = Unit {0}
ObservesAll _ s past reads _ = ⊥
