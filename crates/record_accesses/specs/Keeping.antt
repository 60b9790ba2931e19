-- What is kept of the entries so far.
use Rattle.std.specs.Prelude.{◌≡◌, ℕ, ◌<◌, Bool, List, [], ◌∷◌, ◌++◌, cond, get_or, length, slice_set, Option, None, Some}
use Rattle.laws.specs.{IsThere}
use Rattle.plain_store.specs.{Setup}
use Rattle.model.specs.safe_bit.{gives_value}
use Rattle.model.specs.{Access, Entry, Mark, Past, opening_bit}
use Rattle.record_accesses.specs.declared.bits.BitState.{BitState}
use Rattle.picture_layout.specs.declared.limits.WaveLimit.{WaveLimit}
use Rattle.record_accesses.specs.declared.opened.OpenBitAccess.{OpenBitAccess}
use Rattle.record_accesses.specs.Accesses.{possible_past}
use Rattle.record_accesses.specs.Bits.{bit_of, new_bit}
use Rattle.record_accesses.specs.Opened.{begun_by, drops, left_open, opened}
use Rattle.record_accesses.specs.Rows.{row_in, waves_since, written_bits}

-- Bits.

-- The bits that were written, in the order of their rows, and the state of each.
pub record BitsState : Type 0 where
  pub names : List Access
  pub states : List BitState

-- No bit was written.
abbrev pub no_bits : BitsState
no_bits = record { names = []; states = [] }

-- The state in a row; of a bit that has none, that in which it opens.
abbrev pub state_at : BitsState → Option ℕ → Bool → BitState
state_at b None opening = new_bit opening
state_at b (Some row) opening = get_or b.states row (new_bit opening)

-- The bits after an access, whose bit had this row and has this state now. A bit without a row gets one if the access writes.
abbrev pub bits_taken : Option ℕ → Access → BitState → BitsState → BitsState
bits_taken (Some row) a state b = record { names = b.names; states = slice_set b.states row state }
bits_taken None a state b = cond (gives_value a.how) (record { names = b.names ++ a ∷ []; states = b.states ++ state ∷ [] }) b

-- These are the rows of a past, and each bit that exists has its state there.
pub record HasBits (s : Setup) (b : BitsState) (past : Past) : Type 0 where
  pub names : b.names ≡ written_bits past
  pub states : (a : Access) → IsThere s a → state_at b (row_in b.names a) (opening_bit s a) ≡ bit_of s past a

-- An entry by its parts.
abbrev pub entry_with : ℕ → Option Access → List Mark → Entry
entry_with p access marks = record { process = p; access = access; marks = marks }

-- An access of process p is possible: the process and the bit exist.
pub record IsPossible (s : Setup) (p : ℕ) (a : Access) : Type 0 where
  pub process : p < s.processes
  pub bit : IsThere s a

-- Open accesses.

-- The open accesses after an entry of process p with this number, with its access if there is one, which drops a read or not.
abbrev pub opened_taken : ℕ → ℕ → Option Access → Bool → List (Option OpenBitAccess) → List (Option OpenBitAccess)
opened_taken p number access drops_it current = slice_set current p (left_open drops_it (begun_by number access (get_or current p None)))

-- These are the open accesses of sixteen processes.
pub record HasOpened (all : List (Option OpenBitAccess)) (past : Past) : Type 0 where
  pub room : length all ≡ 16
  pub each : (p : ℕ) → p < 16 → get_or all p None ≡ opened p past

-- The monitor.

-- The setup, the bits, the bits that have waves, the open accesses, and the limit of waves.
pub record MonitorState : Type 0 where
  pub setup : Setup
  pub bits : BitsState
  pub waves : List Access
  pub opened : List (Option OpenBitAccess)
  pub limit : WaveLimit

-- It has taken these entries, whose accesses are possible.
pub record HasTaken (w : MonitorState) (past : Past) : Type 0 where
  pub bits : HasBits w.setup w.bits past
  pub waves : w.waves ≡ waves_since w.limit.from past
  pub opened : HasOpened w.opened past

-- This holds of each past of so many entries that was taken, and of each list of marks that drop a read or not.
abbrev pub OfTaken : MonitorState → ℕ → Bool → (Past → List Mark → Type 0) → Type 0
OfTaken w number drops_it P = (past : Past) (marks : List Mark) → HasTaken w past → number ≡ length past → drops marks ≡ drops_it → P past marks

-- The monitor has observed these entries of a record with this setup, and shows the waves within this limit.
pub record HasMonitored (w : MonitorState) (s : Setup) (limit : WaveLimit) (past : Past) : Type 0 where
  pub setup : w.setup ≡ s
  pub shows : w.limit ≡ limit
  pub taken : HasTaken w (possible_past s past)
