-- The view of a seat: what it knows of its process, and the effect of an event of that process.
use Rattle.std.specs.Prelude.{◌≡◌, ℕ, ◌+◌, ◌==◌, Bool, true, false, cond, List, [], ◌∷◌, fold, map, Option, None, option_map}
use Rattle.plain_store.specs.{Command, Setup}
use Rattle.plain_store.specs.declared.Command.TheVariants.{Ask}
use Rattle.model.specs.{Entry, Event, Mark, Past, Raises, Refusal, Stage, Taken, call_number, ended_with, enter, has, is_called, is_event, last_command, own, placed, process_of, withdrawing}
use Rattle.model.specs.declared.events.Event.TheVariants as event
use Rattle.model.specs.declared.marks.Mark.TheVariants.{Called, Failed, Withdrew, Restarted}
use Rattle.laws.specs.{Closes, Doing, Rests, Runs, call, cut_of, does_then, doing, marks_with, next_of}
use Rattle.process.specs.{ProcessState, next_number, refusal_of, stage_doing}
use Rattle.history_laws.specs.{changes_taken}
use Rattle.board.specs.Calls.{Calls, calls_after, calls_of, no_calls}

-- an entry in which this is the position of the taken command
abbrev pub counted_at : ℕ → Entry → Entry
counted_at place e = record e { marks = map (placed place) e.marks }

-- the entries of process p since its last call, including the entry of that call, with positions counted in changes; all its entries, if it has not called
abbrev pub entries_of : Setup → ℕ → Past → Past
entries_of s p [] = []
entries_of s p (e ∷ past) =
    let earlier = entries_of s p past in
    cond (e.process == p) (counted_at (changes_taken s past) e ∷ cond (has is_called e) [] earlier) earlier

-- the view of one process: its entries since its last call, what it is doing, the command and the number of its last call, and its calls
pub record OwnView : Type 0 where
  pub process : ℕ
  pub entries : Past
  pub doing : Doing
  pub command : Command
  pub number : ℕ
  pub calls : Calls

-- the view of a seat: its process, and the changes that it has seen; the view of port 0 also has the number of seats made, and the processes of the seats joined to it. A joined seat is spent.
pub record ViewState : Type 0 where
  pub spent : Bool
  pub own : OwnView
  pub seen : List Taken
  pub made : ℕ
  pub joined : List ℕ

-- the view of process p in a past
abbrev pub own_view : Setup → Past → ℕ → OwnView
own_view s past p = record { process = p; entries = entries_of s p past; doing = doing s p past; command = last_command (own p past); number = call_number s (own p past); calls = calls_of s p past }

-- the view of a process that has done nothing
abbrev pub new_own : ℕ → OwnView
new_own p = record { process = p; entries = []; doing = Rests; command = Ask; number = 0; calls = no_calls }

-- the view of a new seat of process p, if `made` seats were made before
abbrev pub new_view : ℕ → ℕ → ViewState
new_view p made = record { spent = false; own = new_own p; seen = []; made = made; joined = [] }

-- the first view of port 0
abbrev pub first_view : ViewState
first_view = new_view 0 1

-- the view of a joined seat
abbrev pub spent_view : ViewState
spent_view = record (new_view 0 0) { spent = true }

-- the view of port 0 after one more seat was made
abbrev pub with_made : ViewState → ViewState
with_made v = record v { made = v.made + 1 }

-- the view of port 0 after another seat was joined to it
abbrev pub with_joined : ViewState → ViewState → ViewState
with_joined v other = record v { joined = other.own.process ∷ v.joined }

-- the state of the process in this view
abbrev pub process_at : Setup → OwnView → ProcessState
process_at s o = record { setup = s; process = o.process; doing = o.doing; command = o.command; number = o.number }

-- the stage of the process in this view
abbrev pub stage_in : Setup → OwnView → Stage
stage_in s o = stage_doing o.doing

-- the refusal of an event of the process, if it is refused
abbrev pub refusal_in : Setup → OwnView → Event → Option Refusal
refusal_in s o event = refusal_of (process_at s o) event

-- the entry of a process with this mark, and no access
abbrev pub entry_marked : ℕ → Mark → Entry
entry_marked p mark = record { process = p; access = None; marks = mark ∷ [] }

-- the entry of the next access, with this value, if `place` changes were taken before
abbrev pub entry_stepped : Setup → OwnView → (flick value : Bool) → ℕ → Entry
entry_stepped s o flick value place =
    counted_at place (record { process = o.process; access = option_map (ended_with value) (next_of s o.process o.doing flick); marks = marks_with s o.process o.doing flick value })

-- the view of the process after it has called, failed, withdrawn or restarted; a step leaves the view
abbrev pub with_event : Setup → OwnView → Event → OwnView
with_event s o (event.Call p command) =
    let number = next_number s o.number in
    record {
      process = o.process;
      entries = entry_marked o.process (Called command) ∷ [];
      doing = Runs command number (enter (call s o.process command number) Raises);
      command = command;
      number = number;
      calls = calls_after 0 o.calls (Called command);
    }
with_event s o (event.Step p flick) = o
with_event s o (event.Fail p) = record o { entries = entry_marked o.process Failed ∷ o.entries; doing = Closes o.command o.number (cut_of s o.process o.doing) }
with_event s o (event.Withdraw p) = record o { entries = entry_marked o.process Withdrew ∷ o.entries; doing = Closes o.command o.number (withdrawing (call s o.process o.command o.number)) }
with_event s o (event.Restart p) = record o { entries = entry_marked o.process Restarted ∷ o.entries; doing = Rests }

-- the view after several such events, the newest first
abbrev pub with_events : Setup → OwnView → List Event → OwnView
with_events s o [] = o
with_events s o (event ∷ events) = with_event s (with_events s o events) event

-- the view after the process, or its memory unit, has made its next access, with this value, if `place` changes were taken before
abbrev pub with_step : Setup → OwnView → (flick value : Bool) → ℕ → OwnView
with_step s o flick value place = record o {
  entries = entry_stepped s o flick value place ∷ o.entries;
  doing = does_then s o.process o.doing flick value;
  calls = fold (calls_after place) o.calls (marks_with s o.process o.doing flick value);
}

-- the event is not a step
abbrev pub is_marked : Event → Bool
is_marked (event.Step p flick) = false
is_marked _ = true

-- an event that the process may have, and that is not a step
pub record MayHappen (s : Setup) (o : OwnView) (event : Event) : Type 0 where
  pub marked : is_marked event ≡ true
  pub process : process_of event ≡ o.process
  pub accepted : refusal_in s o event ≡ None
  pub given : is_event event ≡ true

-- several such events, one after the other, the newest first
abbrev pub MayAllHappen : Setup → OwnView → List Event → Type 0
MayAllHappen s o [] = Unit {0}
MayAllHappen s o (event ∷ events) = MayAllHappen s o events × MayHappen s (with_events s o events) event

-- the view of a seat after these events of its process
abbrev pub at_events : Setup → ViewState → List Event → ViewState
at_events s v events = record v { own = with_events s v.own events }
