-- The calls of a record of any lock, with any entries. What became of each call is found by looking back.
use Rattle.std.specs.Prelude.{◌≡◌, ◌-◌, ◌<◌, ℕ, ◌==◌, Bool, true, false, not, ◌&&◌, nat_lt, List, [], ◌∷◌, ◌++◌, cond, flat_map, length, slice_get, Option, None, Some}
use Rattle.model.specs.safe_bit.{is_begin_of_read, is_begin_of_write}
use Rattle.model.specs.{Access, Entry, Mark, Past, calls_in, has, is_called, last_command, moves_of, own, processes, same_bit, width}
use Rattle.plain_store.specs.{Setup}
use Rattle.world.specs.{ends_overlapped}
use Rattle.calls.specs.declared.called.Accesses.{Accesses}
use Rattle.calls.specs.declared.called.Called.{Called}
use Rattle.calls.specs.declared.call_state.CallState.{CallState}
use Rattle.calls.specs.Columns.{accesses_itself, called_at, count_in_call, first_in_call, is_calling, makes_itself, marked}
use Rattle.calls.specs.Observing.{TableState}
use Rattle.calls.specs.Lines.{header, line_of}

-- Overlapped reads.

-- the bit of an access exists
abbrev pub is_there : Setup → Access → Bool
is_there s a = nat_lt a.owner s.processes && nat_lt a.reader s.processes && nat_lt a.bit (width s a.field)

-- the later of two accesses
abbrev pub later_access : Option Access → Option Access → Option Access
later_access before None = before
later_access before (Some a) = Some a

-- p's last access
abbrev pub last_access : ℕ → Past → Option Access
last_access p [] = None
last_access p (e ∷ past) = cond (e.process == p) (later_access (last_access p past) e.access) (last_access p past)

-- an access begins a read of the bit of the next one
abbrev pub begins_read_of : Option Access → Access → Bool
begins_read_of None a = false
begins_read_of (Some b) a = is_begin_of_read b.how && same_bit a b

-- an access of p ends a read that a write overlapped: p's last access began that read, of a bit that exists
abbrev pub ends_own_overlapped : Setup → ℕ → Past → Access → Bool
ends_own_overlapped s p before a = is_there s a && begins_read_of (last_access p before) a && ends_overlapped (moves_of a before) a.how

-- the access of an entry ends such a read
abbrev pub overlaps_in : Setup → Past → Entry → Bool
overlaps_in s before e = elim e.access [ None ↦ false | Some a ↦ ends_own_overlapped s e.process before a ]

-- Calls.

-- the facts that the accesses of p's last call show; which process p waited for depends on the lock
abbrev pub recorded_accesses : Setup → ℕ → Past → Accesses
recorded_accesses s p past = record {
  doorway = first_in_call p (accesses_itself p) past;
  reads = count_in_call p (makes_itself p is_begin_of_read) past;
  writes = count_in_call p (makes_itself p is_begin_of_write) past;
  overlapped = count_in_call p (overlaps_in s) past;
  waited_for = None;
}

-- p's last call
abbrev pub recorded : Setup → ℕ → Past → Called
recorded s p past = record {
  process = p;
  call = calls_in (own p past);
  command = last_command (own p past);
  called = called_at p past;
  accesses = recorded_accesses s p past;
  marks = marked p past;
}

-- p's call, if it has not ended
abbrev pub open_recorded : Setup → ℕ → Past → Option Called
open_recorded s p past = cond (is_calling p past) (Some (recorded s p past)) None

-- the call of its process that ends with an entry: by the entry's marks, or because the process calls again
abbrev pub ended_of_process : Setup → Past → Entry → Option Called
ended_of_process s past e = elim (has is_called e) [
  | true ↦ open_recorded s e.process past
  | false ↦ cond (is_calling e.process past && not (is_calling e.process (e ∷ past))) (Some (recorded s e.process (e ∷ past))) None
]

-- the call that ends with an entry, if its process exists
abbrev pub ended_recorded : Setup → Past → Entry → Option Called
ended_recorded s past e = cond (nat_lt e.process s.processes) (ended_of_process s past e) None

-- The table.

-- the lines of the calls that have ended, in the order of their ends
abbrev pub recorded_lines : Setup → Past → List ℕ
recorded_lines s [] = []
recorded_lines s (e ∷ past) = recorded_lines s past ++ line_of (length past) (ended_recorded s past e)

-- the lines of the calls that have not ended, by process
abbrev pub open_recorded_lines : Setup → Past → List ℕ
open_recorded_lines s past = flat_map (λ p. line_of (length past - 1) (open_recorded s p past)) (processes s)

-- the table of the calls of a record
abbrev pub record_table : Setup → Past → List ℕ
record_table s past = header ++ (recorded_lines s past ++ open_recorded_lines s past)

-- The state of a table.

-- the state of process p in a table
abbrev pub listed : Setup → ℕ → Past → CallState
listed s p past = record { calling = is_calling p past; last = recorded s p past }

-- the call of a process with this state, if it has not ended
abbrev pub call_kept : Option CallState → Option Called
call_kept None = None
call_kept (Some k) = cond k.calling (Some k.last) None

-- a table has listed these entries of a record
pub record HasListed (t : TableState) (past : Past) : Type 0 where
  pub call_states : (p : ℕ) → p < t.setup.processes → slice_get t.call_states p ≡ Some (listed t.setup p past)
  pub entries : t.entries ≡ length past

-- the entry with these parts
abbrev pub entry_with : ℕ → Option Access → List Mark → Entry
entry_with p access marks = record { process = p; access = access; marks = marks }

-- a table lists one more entry, whatever it listed before, and this call ends with it
abbrev pub Lists : TableState → TableState → Bool → Entry → Option Called → Type 0
Lists old new overlapped e ended =
    (past : Past) → HasListed old past → (e.process < old.setup.processes → overlapped ≡ overlaps_in old.setup past e) →
    HasListed new (e ∷ past) × (ended ≡ ended_recorded old.setup past e)
