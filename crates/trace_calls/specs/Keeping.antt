-- What is kept of the entries so far, and what it becomes with one more entry.
use Rattle.std.specs.Prelude.{◌≡◌, ℕ, ◌+◌, ◌-◌, ◌^◌, ◌<◌, ◌≤◌, Bool, true, false, not, ◌&&◌, ◌||◌, List, length, map, option_map, slice_get, slice_set, cond, Option, None, Some, is_some}
use Rattle.std.specs.Option.{option_map_or}
use Rattle.std.specs.List.{list_any}
use Rattle.calls.specs.{first_if, more_if}
use Rattle.trace.specs.{Cell, CellAccess, LockMark, TracePast, begins, begins_read, reads, writes}
use Rattle.trace_engine.specs.trace_judge.lock_stages.{is_call, is_enter, is_wait}
use Rattle.trace_engine.specs.trace_judge.trace_memory.{MadeAccess, opened, same_cell}
use Rattle.trace_calls.specs.declared.kept.TraceCallState.{TraceCallState}
use Rattle.trace_calls.specs.declared.kept.TraceCall.{TraceCall}
use Rattle.trace_calls.specs.declared.opened.OpenMove.{OpenMove}
use Rattle.trace_calls.specs.Calls.{call_of, is_answer, is_calling, is_leave}
use Rattle.trace_calls.specs.Overlaps.{is_overlapped, writes_on}

-- Open accesses.

-- an access that is open, as it is kept
abbrev pub kept_move : ℕ → MadeAccess → OpenMove
kept_move n m = record { cell = m.access.cell; reads = begins_read m.access.how; overlapped = is_overlapped n m }

-- the access that p has open, as it is kept
abbrev pub kept_open : ℕ → ℕ → TracePast → Option OpenMove
kept_open n p past = option_map (kept_move n) (opened p past)

-- the number of processes, and an open access for each of sixteen
pub record OpenState : Type 0 where
  pub processes : ℕ
  pub opened : List (Option OpenMove)

-- this is what is to be kept of a past
abbrev pub HasOpened : OpenState → TracePast → Type 0
HasOpened k past = (p : ℕ) → p < k.processes → slice_get k.opened p ≡ Some (kept_open k.processes p past)

-- this holds of each past that was observed
abbrev pub OfOpened : OpenState → (TracePast → Type 0) → Type 0
OfOpened k P = (past : TracePast) → HasOpened k past → P past

-- an open access, after an access that may overlap it
abbrev pub seen : CellAccess → OpenMove → OpenMove
seen a k = record k { overlapped = writes_on k.cell a || k.overlapped }

-- one of these is a write of a cell
abbrev pub writes_cell : Cell → Option OpenMove → Bool
writes_cell c k = option_map_or (λ o. not o.reads && same_cell o.cell c) k false

-- the access that is open after an access, whose cell was being written or not
abbrev pub opened_by : Bool → CellAccess → Option OpenMove
opened_by written a = cond (begins a.how) (Some (record { cell = a.cell; reads = begins_read a.how; overlapped = written })) None

-- the open accesses after an access of p
abbrev pub opened_after : ℕ → Bool → CellAccess → OpenState → OpenState
opened_after p written a k = record k { opened = slice_set (map (option_map (seen a)) k.opened) p (opened_by written a) }

-- p's access ends a read of this cell that is kept as open and overlapped
abbrev pub ends_kept_read : Cell → Option OpenMove → Bool
ends_kept_read c k = option_map_or (λ o. o.reads && same_cell o.cell c && o.overlapped) k false

-- Calls.

-- what is kept of p
abbrev pub call_kept : ℕ → ℕ → TracePast → TraceCallState
call_kept n p past = record { calling = is_calling p past; last = call_of n p past }

-- with a call that begins with the entry of this number
abbrev pub begun : ℕ → TraceCallState → TraceCallState
begun number k = record {
  calling = true;
  last = record { call = k.last.call + 1; called = number; doorway = None; door_end = None; entered = None; remaining = None; answered = None; reads = 0; writes = 0; overlapped = 0 };
}

-- with an access and marks of the entry of this number
abbrev pub gone_on : ℕ → Bool → Option CellAccess → List LockMark → TraceCallState → TraceCallState
gone_on number overlapped access marks k = record {
  calling = k.calling && not (list_any is_answer marks);
  last = record k.last {
    doorway = first_if (is_some access) number k.last.doorway;
    door_end = first_if (list_any is_wait marks) number k.last.door_end;
    entered = first_if (list_any is_enter marks) number k.last.entered;
    remaining = first_if (list_any is_leave marks) number k.last.remaining;
    answered = first_if (list_any is_answer marks) number k.last.answered;
    reads = more_if (option_map_or (λ a. reads a.how) access false) k.last.reads;
    writes = more_if (option_map_or (λ a. writes a.how) access false) k.last.writes;
    overlapped = more_if overlapped k.last.overlapped;
  };
}

-- with an entry of this number: the call that it begins, or otherwise its access and its marks
abbrev pub kept_after : ℕ → Bool → Option CellAccess → List LockMark → TraceCallState → TraceCallState
kept_after number overlapped access marks k = elim (list_any is_call marks) [
  | true ↦ begun number k
  | false ↦ gone_on number overlapped access marks k
]

-- the call that ends as one state follows another, with marks that begin a call or not
abbrev pub ended_between : Bool → TraceCallState → TraceCallState → Option TraceCall
ended_between calls before after = elim calls [
  | true ↦ cond before.calling (Some before.last) None
  | false ↦ cond (before.calling && not after.calling) (Some after.last) None
]

-- each count has room for one more
pub record AreFew (c : TraceCall) : Type 0 where
  pub calls : c.call < 2 ^ 64 - 1
  pub reads : c.reads < 2 ^ 64 - 1
  pub writes : c.writes < 2 ^ 64 - 1
  pub overlapped : c.overlapped < 2 ^ 64 - 1

-- without an entry
abbrev pub at_rest : TraceCallState
at_rest = record { calling = false; last = record { call = 0; called = 0; doorway = None; door_end = None; entered = None; remaining = None; answered = None; reads = 0; writes = 0; overlapped = 0 } }

-- the open accesses, the calls of sixteen processes, and the number of entries
pub record CallsState : Type 0 where
  pub opened : OpenState
  pub kept : List TraceCallState
  pub entries : ℕ

-- each of at most sixteen processes has its places
pub record IsCalls (t : CallsState) : Type 0 where
  pub few : t.opened.processes ≤ 16
  pub kept : length t.kept ≡ 16

-- it has listed these entries
pub record HasListed (t : CallsState) (past : TracePast) : Type 0 where
  pub opened : HasOpened t.opened past
  pub kept : (p : ℕ) → p < t.opened.processes → slice_get t.kept p ≡ Some (call_kept t.opened.processes p past)
  pub entries : t.entries ≡ length past

-- this holds of each past that was listed
abbrev pub OfListed : CallsState → (TracePast → Type 0) → Type 0
OfListed t P = (past : TracePast) → HasListed t past → P past
