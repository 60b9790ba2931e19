-- How an entry changes the state of a process.
use Rattle.std.specs.Prelude.{ℕ, ◌+◌, ◌-◌, ◌^◌, ◌<◌, Bool, true, false, ◌&&◌, List, fold, cond, Option, None, Some, is_none}
use Rattle.plain_store.specs.{Command, Setup}
use Rattle.plain_store.specs.declared.Command.TheVariants.{Ask}
use Rattle.model.specs.safe_bit.{is_begin_of_read, is_begin_of_write}
use Rattle.model.specs.{Access, Mark, Past, called_in, first_of}
use Rattle.model.specs.declared.marks.Mark.TheVariants as mark
use Rattle.calls.specs.declared.called.Accesses.{Accesses}
use Rattle.calls.specs.declared.called.EntryFacts.{EntryFacts}
use Rattle.calls.specs.declared.called.Marked.{Marked}
use Rattle.calls.specs.declared.call_state.CallState.{CallState}
use Rattle.calls.specs.Columns.{answer_after, called, first_if, goes_on_after, is_calling, more_if, number_after, reports_waiting}

-- the state of p
abbrev pub call_state : Setup → ℕ → Past → CallState
call_state s p past = record { calling = is_calling p past; last = called s p past }

-- no marks
abbrev pub no_marks : Marked
no_marks = record { door_end = None; entered = None; wait_end = None; taken = None; place = None; remaining = None; answered = None; failed = None; withdrew = None; ticket = None; answer = None }

-- no accesses
abbrev pub no_accesses : Accesses
no_accesses = record { doorway = None; reads = 0; writes = 0; overlapped = 0; waited_for = None }

-- without an entry
abbrev pub at_rest : ℕ → CallState
at_rest p = record { calling = false; last = record { process = p; call = 0; command = Ask; called = 0; accesses = no_accesses; marks = no_marks } }

-- with a call
abbrev pub begun : ℕ → Command → CallState → CallState
begun number c k = record {
  calling = true;
  last = record { process = k.last.process; call = k.last.call + 1; command = c; called = number; accesses = no_accesses; marks = no_marks };
}

-- an access shows that p waits for the register's owner, by the number that was read before it, if that is reported
abbrev pub waits_by : Setup → ℕ → Option ℕ → Option ℕ → Access → Option ℕ → Bool
waits_by s p ticket wait_end a None = false
waits_by s p ticket wait_end a (Some n) = reports_waiting s p ticket wait_end a (number_after a.bit a.how n)

-- with the access of the entry with this number, about which these facts are known
abbrev pub with_access : Setup → ℕ → ℕ → EntryFacts → Marked → Access → Accesses → Accesses
with_access s p number known m a k = record {
  doorway = first_if (is_none m.failed) number k.doorway;
  reads = more_if (is_begin_of_read a.how && is_none m.failed) k.reads;
  writes = more_if (is_begin_of_write a.how && is_none m.failed) k.writes;
  overlapped = more_if known.overlapped k.overlapped;
  waited_for = cond (waits_by s p m.ticket m.wait_end a known.read) (Some a.owner) k.waited_for;
}

-- with a mark of the entry with this number
abbrev pub with_mark : ℕ → Marked → Mark → Marked
with_mark number k (mark.Called c) = k
with_mark number k (mark.Waiting t) = record k { door_end = first_of k.door_end (Some number); ticket = first_of k.ticket (Some t) }
with_mark number k mark.Entered = record k { entered = first_of k.entered (Some number); wait_end = first_of k.wait_end (Some number) }
with_mark number k (mark.Taken place r) = record k { taken = first_of k.taken (Some number); place = first_of k.place (Some place) }
with_mark number k mark.Left = record k { remaining = first_of k.remaining (Some number) }
with_mark number k (mark.Answered a) = record k { answered = first_of k.answered (Some number); answer = answer_after k.answer (mark.Answered a) }
with_mark number k mark.Failed = record k { failed = first_of k.failed (Some number); wait_end = first_of k.wait_end (Some number) }
with_mark number k (mark.Settled v) = k
with_mark number k mark.Down = k
with_mark number k mark.Withdrew = record k { withdrew = first_of k.withdrew (Some number); wait_end = first_of k.wait_end (Some number) }
with_mark number k mark.Restarted = k

-- the state of a process with such a mark
abbrev pub marked_on : ℕ → CallState → Mark → CallState
marked_on number k m = record { calling = goes_on_after k.calling m; last = record k.last { marks = with_mark number k.last.marks m } }

-- with these marks
abbrev pub marked_all : ℕ → CallState → List Mark → CallState
marked_all number = fold (marked_on number)

-- with an access
abbrev pub accessed : Setup → ℕ → EntryFacts → Access → CallState → CallState
accessed s number known a k = record k { last = record k.last { accesses = with_access s k.last.process number known k.last.marks a k.last.accesses } }

-- with an access, if there is one
abbrev pub accessed_by : Setup → ℕ → EntryFacts → Option Access → CallState → CallState
accessed_by s number known None k = k
accessed_by s number known (Some a) k = accessed s number known a k

-- with an entry of this number: the call that it begins, or otherwise its access and its marks
abbrev pub observed : Setup → ℕ → EntryFacts → Option Access → List Mark → CallState → CallState
observed s number known access marks k = elim (called_in marks) [
  | Some c ↦ begun number c k
  | None ↦ marked_all number (accessed_by s number known access k) marks
]

-- each count has room for one more
pub record AreFew (k : Accesses) : Type 0 where
  pub reads : k.reads < 2 ^ 64 - 1
  pub writes : k.writes < 2 ^ 64 - 1
  pub overlapped : k.overlapped < 2 ^ 64 - 1
