-- The calls of a trace, good or bad. Each number is found by looking back over a past, whose newest entry comes first.
use Rattle.std.specs.Prelude.{ℕ, ◌+◌, ◌==◌, nat_lt, Bool, true, false, not, ◌&&◌, [], ◌∷◌, length, cond, Option, None, Some, is_some}
use Rattle.std.specs.Option.{option_map_or}
use Rattle.std.specs.List.{list_any}
use Rattle.calls.specs.{first_if, more_if}
use Rattle.trace.specs.{CellMove, LockMark, TraceEntry, TracePast, reads, writes}
use Rattle.trace.specs.declared.marks.LockMark.TheVariants.{Leave, Answer}
use Rattle.trace_engine.specs.trace_judge.lock_stages.{is_call, is_enter, is_wait}
use Rattle.trace_calls.specs.declared.kept.TraceCall.{TraceCall}
use Rattle.trace_calls.specs.Overlaps.{overlaps_in}

-- Marks and moves.

-- the process leaves
abbrev pub is_leave : LockMark → Bool
is_leave Leave = true
is_leave _ = false

-- the call ends
abbrev pub is_answer : LockMark → Bool
is_answer Answer = true
is_answer _ = false

-- an entry has such a mark
abbrev pub has : (LockMark → Bool) → TraceEntry → Bool
has test e = list_any test e.marks

-- an entry has an access with such a move
abbrev pub moves : (CellMove → Bool) → TraceEntry → Bool
moves test e = option_map_or (λ a. test a.how) e.access false

-- Calls.

-- p has called, and its call has not ended
abbrev pub is_calling : ℕ → TracePast → Bool
is_calling p [] = false
is_calling p (e ∷ past) = elim (e.process == p) [
  | false ↦ is_calling p past
  | true ↦ elim (has is_call e) [ true ↦ true | false ↦ is_calling p past && not (has is_answer e) ]
]

-- how often p has called
abbrev pub calls_of : ℕ → TracePast → ℕ
calls_of p [] = 0
calls_of p (e ∷ past) = elim (e.process == p) [
  | false ↦ calls_of p past
  | true ↦ elim (has is_call e) [ true ↦ calls_of p past + 1 | false ↦ calls_of p past ]
]

-- the number of the entry with which p called last
abbrev pub called_at : ℕ → TracePast → ℕ
called_at p [] = 0
called_at p (e ∷ past) = elim (e.process == p) [
  | false ↦ called_at p past
  | true ↦ elim (has is_call e) [ true ↦ length past | false ↦ called_at p past ]
]

-- p's entries since its last call are folded over a start, oldest first, each with the past before it
abbrev pub over_call : {A : Type 0} → ℕ → A → (TracePast → TraceEntry → A → A) → TracePast → A
over_call p start with [] = start
over_call p start with (e ∷ past) = elim (e.process == p) [
  | false ↦ over_call p start with past
  | true ↦ elim (has is_call e) [ true ↦ start | false ↦ with past e (over_call p start with past) ]
]

-- how many entries of p's last call pass a test, each with the past before it
abbrev pub count_in_call : ℕ → (TracePast → TraceEntry → Bool) → TracePast → ℕ
count_in_call p test past = over_call p 0 (λ before e n. more_if (test before e) n) past

-- the number of the first entry of p's last call that passes a test
abbrev pub first_in_call : ℕ → (TraceEntry → Bool) → TracePast → Option ℕ
first_in_call p test past = over_call p None (λ before e found. first_if (test e) (length before) found) past

-- p's last call
abbrev pub call_of : ℕ → ℕ → TracePast → TraceCall
call_of n p past = record {
  call = calls_of p past;
  called = called_at p past;
  doorway = first_in_call p (λ e. is_some e.access) past;
  door_end = first_in_call p (has is_wait) past;
  entered = first_in_call p (has is_enter) past;
  remaining = first_in_call p (has is_leave) past;
  answered = first_in_call p (has is_answer) past;
  reads = count_in_call p (λ before e. moves reads e) past;
  writes = count_in_call p (λ before e. moves writes e) past;
  overlapped = count_in_call p (overlaps_in n) past;
}

-- p's call, if it has not ended
abbrev pub open_call : ℕ → ℕ → TracePast → Option TraceCall
open_call n p past = cond (is_calling p past) (Some (call_of n p past)) None

-- the call of its process that ends with an entry: by the entry's marks, or because the process calls again
abbrev pub ended_of_process : ℕ → TracePast → TraceEntry → Option TraceCall
ended_of_process n past e = elim (has is_call e) [
  | true ↦ open_call n e.process past
  | false ↦ cond (is_calling e.process past && has is_answer e) (Some (call_of n e.process (e ∷ past))) None
]

-- the call that ends with an entry, if its process is one of n processes
abbrev pub ended_call : ℕ → TracePast → TraceEntry → Option TraceCall
ended_call n past e = cond (nat_lt e.process n) (ended_of_process n past e) None
