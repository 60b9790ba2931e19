-- The state of a monitor: a look for each single-reader bit.
use Rattle.std.specs.Prelude.{◌≡◌, ℕ, ◌+◌, ◌*◌, ◌%◌, ◌<◌, Bool, false, List, [], ◌∷◌, length, slice_index_or, Option, Ok, Some, true}
use Rattle.model.specs.{Access, Entry, Field, Past, field_number, moves_of, opening_bit, width}
use Rattle.model.specs.safe_bit.{Move}
use Rattle.model.specs.safe_number.{bit_in}
use Rattle.plain_store.specs.{Setup, checked}
use Rattle.laws.specs.{IsThere}
use Rattle.safe_monitor.specs.declared.monitored_bit.MonitoredBit.{MonitoredBit}
use Rattle.safe_monitor.specs.MonitoredBits.{ReportsOverlap, monitored_after}
use Rattle.safe_monitor.specs.Safe.{ReportsSafe}

-- the looks of the bits of each register of each process
pub record MonitorState : Type 0 where
  pub setup : Setup
  pub registers : List (List MonitoredBit)

-- the register of an access: by owner, then by field
abbrev pub register_of : Access → ℕ
register_of a = a.owner * 7 + field_number a.field

-- the bit of an access in its register: by reader, then by bit
abbrev pub copy_of : Setup → Access → ℕ
copy_of s a = a.reader * width s a.field + a.bit

-- the look of the bit of an access, by its register and its index there
abbrev pub monitored_at : List (List MonitoredBit) → ℕ → ℕ → MonitoredBit
monitored_at registers register place = slice_index_or (slice_index_or registers register []) place (monitored_after false [])

-- a monitor has a look for each bit in range
pub record IsMonitor (w : MonitorState) : Type 0 where
  pub good : checked w.setup ≡ Ok tt
  pub registers : length w.registers ≡ w.setup.processes * 7
  pub bits : (owner : ℕ) (field : Field) → owner < w.setup.processes → length (slice_index_or w.registers (owner * 7 + field_number field) []) ≡ w.setup.processes * width w.setup field

-- the monitor has observed these entries: the look of each bit in range is the look after the moves on it
abbrev pub HasObserved : MonitorState → Past → Type 0
HasObserved w past = (a : Access) → IsThere w.setup a → monitored_at w.registers (register_of a) (copy_of w.setup a) ≡ monitored_after (opening_bit w.setup a) (moves_of a past)

-- a fact holds for each past that the monitor has observed, and for each entry with this access
abbrev pub OfObserved : MonitorState → Option Access → (Setup → Past → Entry → Type 0) → Type 0
OfObserved w access P = (past : Past) (e : Entry) → e.access ≡ access → HasObserved w past → P w.setup past e

-- an entry's access, if it has one, is of a bit in range
abbrev pub IsOfThere : Setup → Entry → Type 0
IsOfThere s e = (a : Access) → e.access ≡ Some a → IsThere s a

-- the access of each entry is of a bit in range
abbrev pub AllAreOfThere : Setup → Past → Type 0
AllAreOfThere s [] = Unit {0}
AllAreOfThere s (e ∷ past) = IsOfThere s e × AllAreOfThere s past

-- the result is whether an entry with this move keeps the law, for each past with this look of its bit
abbrev pub MonitoredReportsSafe : MonitoredBit → Move → Bool → Type 0
MonitoredReportsSafe l how reported =
    (s : Setup) (past : Past) (e : Entry) (a : Access) → e.access ≡ Some a → a.how ≡ how → l ≡ monitored_after (opening_bit s a) (moves_of a past) → ReportsSafe reported s past e

-- the result is true for an access of a bit out of range
abbrev pub PassesStray : Setup → Option Access → Bool → Type 0
PassesStray s access reported = (a : Access) → access ≡ Some a → (IsThere s a → ⊥) → reported ≡ true

-- the result is whether an entry keeps the law, if its bit is in range
abbrev pub IfThere : Bool → Setup → Past → Entry → Type 0
IfThere reported s past e = IsOfThere s e → ReportsSafe reported s past e

-- the result is whether an entry keeps the law, if the bits of all entries before it are in range
abbrev pub IfAllThere : Bool → Setup → Past → Entry → Type 0
IfAllThere reported s past e = AllAreOfThere s past → ReportsSafe reported s past e

-- the look is that of the bit of an access, after the observed entries
abbrev pub ReportsMonitored : MonitorState → Access → MonitoredBit → Type 0
ReportsMonitored w a monitored_bit = (past : Past) → HasObserved w past → monitored_bit ≡ monitored_after (opening_bit w.setup a) (moves_of a past)

-- the result is whether an access, if its bit is in range, ends a read that a write overlapped
abbrev pub ReportsEndThere : MonitorState → Access → Bool → Type 0
ReportsEndThere w a reported = (past : Past) → HasObserved w past → IsThere w.setup a → ReportsOverlap reported (moves_of a past) a.how

-- the bits of register n have the looks of their initial values
pub record IsOpened (s : Setup) (n : ℕ) (register : List MonitoredBit) : Type 0 where
  pub bits : (f : Field) → n % 7 ≡ field_number f → length register ≡ s.processes * width s f
  pub monitored_bits : (a : Access) → register_of a ≡ n → IsThere s a → slice_index_or register (copy_of s a) (monitored_after false []) ≡ monitored_after (opening_bit s a) []

-- these looks are of copies of `width` bits, whose initial values are in these bytes
abbrev pub OpenAs : List ℕ → ℕ → ℕ → List MonitoredBit → Type 0
OpenAs bytes width n monitored_bits = (k : ℕ) → k < n → slice_index_or monitored_bits k (monitored_after false []) ≡ monitored_after (bit_in bytes (k % width)) []
