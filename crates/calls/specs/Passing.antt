-- Many entries at once within a register access: their accesses begin and end in turns, and are of one kind.
use Rattle.std.specs.Prelude.{◌≡◌, ℕ, zero, suc, ◌+◌, ◌/◌, ◌<◌, ◌^◌, Bool, true, false, ◌||◌, if◌then◌else◌, [], ◌∷◌, cond, Some, None}
use Rattle.plain_store.specs.{Setup}
use Rattle.model.specs.safe_bit.{Move, is_begin_of_read, is_begin_of_write, is_end_of_read, is_end_of_write, is_of_read}
use Rattle.model.specs.safe_bit.declared.Move.TheVariants.{BeginWrite, EndWrite, BeginRead, EndRead, Settle}
use Rattle.model.specs.{Access, Entry, Past, first_of, has, is_failed, number_in_call, width}
use Rattle.calls.specs.declared.called.Accesses.{Accesses}
use Rattle.calls.specs.declared.call_state.CallState.{CallState}
use Rattle.world.specs.{ends_overlapped_read}
use Rattle.calls.specs.Columns.{ends_number, more_if}

-- within a register access the second move comes after the first
abbrev pub follows : Move → Move → Bool
follows BeginRead how = is_end_of_read how
follows (EndRead v) how = is_begin_of_read how
follows (BeginWrite v) how = is_end_of_write how
follows EndWrite how = is_begin_of_write how
follows (Settle v) how = false

-- an entry of p with this access, and without a mark
abbrev pub quiet_entry : ℕ → Access → Entry
quiet_entry p a = record { process = p; access = Some a; marks = [] }

-- from one past to another p added a number of entries within a register access, the newest with this access; `overlapped` of them end an overlapped read
abbrev pub Passes : Setup → ℕ → ℕ → Access → ℕ → Past → Past → Type 0
Passes s p zero newest overlapped past after = (after ≡ past) × (overlapped ≡ 0)
Passes s p (suc n) newest overlapped past after =
    (mid : Past) × (before : Access) × (count : ℕ) × Passes s p n before count past mid × (0 < n → follows before.how newest.how ≡ true)
    × (ends_number (width s newest.field) newest.bit newest.how ≡ false) × (after ≡ quiet_entry p newest ∷ mid)
    × (overlapped ≡ more_if (ends_overlapped_read mid (quiet_entry p newest)) count)

-- how many of `steps` accesses begin, where begins and ends alternate; `begins` is whether the newest begins
abbrev pub begun_among : ℕ → Bool → ℕ
begun_among steps begins = (steps + (if begins then 1 else 0)) / 2

-- the move begins or ends a write
abbrev pub of_write : Move → Bool
of_write how = is_begin_of_write how || is_end_of_write how

-- how many of `steps` accesses begin a read or a write, where the newest makes this move
abbrev pub reads_begun : ℕ → Move → ℕ
reads_begun steps how = cond (is_of_read how) (begun_among steps (is_begin_of_read how)) 0

abbrev pub writes_begun : ℕ → Move → ℕ
writes_begun steps how = cond (of_write how) (begun_among steps (is_begin_of_write how)) 0

-- `reads` reads and `writes` writes more, the first of them with the entry of this number; `overlapped` reads were overlapped
abbrev pub with_passed : ℕ → ℕ → ℕ → ℕ → Accesses → Accesses
with_passed number reads writes overlapped k = record k { doorway = first_of k.doorway (Some number); reads = k.reads + reads; writes = k.writes + writes; overlapped = k.overlapped + overlapped }

-- the state of a process with these accesses
abbrev pub passed : ℕ → ℕ → ℕ → ℕ → CallState → CallState
passed number reads writes overlapped k = record k { last = record k.last { accesses = with_passed number reads writes overlapped k.last.accesses } }

-- p has not failed in its last call
abbrev pub HasNotFailed : ℕ → Past → Type 0
HasNotFailed p past = number_in_call p (has is_failed) past ≡ None

-- each count has room for these accesses
pub record HaveRoom (k : Accesses) (reads writes overlapped : ℕ) : Type 0 where
  pub reads_fit : k.reads + reads < 2 ^ 64
  pub writes_fit : k.writes + writes < 2 ^ 64
  pub overlapped_fit : k.overlapped + overlapped < 2 ^ 64
