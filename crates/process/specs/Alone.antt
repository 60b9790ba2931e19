-- Parts of a process's work that run without a whole call, and the facts that their drivers need.
use Rattle.std.specs.Prelude.{◌≡◌, ℕ, Bool, cond, true, false, [], Option, None, Some}
use Rattle.plain_store.specs.{Answer, Command, Setup}
use Rattle.model.specs.{Access, Call, Change, Closing, Field, Place, Settles, TornBit, cut, enter, pending_at, processes, torn_at, torn_closing}
use Rattle.model.specs.Parts.{Part, Clears, Lowers, Refuses, Waits, is_read, read_at, to_e, written_at}
use Rattle.laws.specs.{Doing, Closes, Runs, call}
use Rattle.process.specs.Places.{ProcessState}

-- the ticket with which a process ends its doorway, or waits
abbrev pub ticket_at : Part → Option ℕ
ticket_at (Lowers t) = Some t
ticket_at (Waits t w ws) = Some t
ticket_at _ = None

abbrev pub ticket_of : Doing → Option ℕ
ticket_of (Runs command number at) = ticket_at at.part
ticket_of _ = None

-- the process because of whose ticket the call is refused
abbrev pub full_at : Part → Option ℕ
full_at (Refuses full) = Some full
full_at _ = None

abbrev pub full_of : Doing → Option ℕ
full_of (Runs command number at) = full_at at.part
full_of _ = None

-- the change that the call writes
abbrev pub change_of : Setup → ℕ → Doing → Option Change
change_of s p (Runs command number at) = pending_at (call s p command number) at.part
change_of s p _ = None

-- the answer of the call
abbrev pub answer_at : Part → Option Answer
answer_at (Clears a) = Some a
answer_at _ = None

abbrev pub answer_of : Doing → Option Answer
answer_of (Runs command number at) = answer_at at.part
answer_of _ = None

-- the owner and the field of the register that a part accesses
abbrev pub register_at : Call → Part → ℕ × Field
register_at c part = cond (is_read part) (read_at c part) (c.process, (written_at c part).0)

-- the access is one to the register that the call of p accesses
abbrev pub IsOfRegister : Setup → ℕ → Doing → Access → Type 0
IsOfRegister s p (Runs command number at) a = (a.owner, a.field) ≡ register_at (call s p command number) at.part
IsOfRegister s p _ a = Unit {0}

-- the bit that is torn if the process fails
abbrev pub torn_of : Setup → ℕ → Doing → Option TornBit
torn_of s p (Runs command number at) = torn_at (call s p command number) at
torn_of s p (Closes command number at) = torn_closing at
torn_of s p _ = None

-- the position at which a call enters the critical section: the read of the first commit bit
abbrev pub inside_place : Call → Place
inside_place c = enter c (to_e (processes c.setup) [])

-- the process with a call at this position
abbrev pub called_inside : ProcessState → Command → ℕ → ProcessState
called_inside now command number = record now {
  doing = Runs command number (inside_place (call now.setup now.process command number));
  command = command;
  number = number;
}

-- the memory unit of the process settles a bit
abbrev pub settles : Doing → Bool
settles (Closes command number (Settles field bit begun taken inside t)) = true
settles _ = false

-- the work of a memory unit that settles this bit first, or has none to settle; no command is taken, and the process is not inside
abbrev pub unit_with : Call → Option TornBit → Closing
unit_with c torn = cut c torn false None false

abbrev pub settling_with : ProcessState → Option TornBit → ProcessState
settling_with now torn = record now { doing = Closes now.command now.number (unit_with (call now.setup now.process now.command now.number) torn) }
