-- The record of a list of events.
use Rattle.std.specs.Prelude.{ℕ, ◌==◌, nat_lt, nat_le, Bool, true, false, ◌&&◌, List, [], ◌∷◌, length, map, reverse, Option, None, Some, cond, option_map}
use Rattle.plain_store.specs.{Setup}
use Rattle.model.specs.declared.events.Event.{Event}
use Rattle.model.specs.declared.events.Event.TheVariants.{Call, Step, Fail, Withdraw, Restart}
use Rattle.model.specs.declared.marks.Mark.{Mark}
use Rattle.model.specs.declared.marks.Mark.TheVariants.{Called, Taken, Failed, Withdrew, Restarted}
use Rattle.model.specs.declared.refusals.Refusal.{Refusal}
use Rattle.model.specs.declared.refusals.Refusal.TheVariants.{NoProcess, Busy, IsDown, NotRunning, NotWaiting, AlreadyFailed, NotDown, CallsFull}
use Rattle.model.specs.declared.stages.Stage.{Stage}
use Rattle.model.specs.declared.stages.Stage.TheVariants.{Idle, Waiting, Settling, Down}
use Rattle.model.specs.Calls.{read_so_far, calls_in, last_call}
use Rattle.model.specs.Entries.{Entry, Past, own, is_called, is_failed, starts, since, before}
use Rattle.model.specs.Histories.{history}
use Rattle.model.specs.Moves.{valued}
use Rattle.model.specs.Program.{local_program, withdrawn}
use Rattle.model.specs.Scripts.{Script, Next, nth, marks_at}
use Rattle.model.specs.Stages.{stage}
use Rattle.model.specs.Unit.{unit_program, settles_at}

-- the mark with which a program begins, if one of these does
abbrev pub start_in : List Mark → Option Mark
start_in [] = None
start_in (m ∷ marks) = cond (starts m) (Some m) (start_in marks)

-- the mark with which the last program began
abbrev pub last_start : Past → Option Mark
last_start [] = None
last_start (e ∷ past) = elim (start_in e.marks) [ None ↦ last_start past | Some m ↦ Some m ]

-- the program that began with a mark: a call's, a withdrawal's, or the memory unit's
abbrev pub program_from : Setup → ℕ → Bool → Past → Option Mark → Script
program_from s p flick mine (Some (Called c)) = local_program (last_call s p mine) (read_so_far s (since is_called mine)).finished
program_from s p flick mine (Some Withdrew) = withdrawn (last_call s p mine)
program_from s p flick mine (Some Failed) = unit_program (last_call s p mine) (before is_failed mine) (settles_at (since is_failed mine) flick)
program_from s p flick mine _ = []

-- the program that a process is in, by its own entries
abbrev pub program : Setup → ℕ → Bool → Past → Script
program s p flick mine = program_from s p flick mine (last_start mine)

-- a mark, with its place in the history
abbrev pub placed : ℕ → Mark → Mark
placed k (Taken _ r) = Taken k r
placed k mark = mark

-- the entry with which p makes this access: with the marks that its program has there once the access is made
abbrev pub entry_made : Setup → Past → ℕ → Bool → Next → Entry
entry_made s past p flick n =
    let e : Entry = record { process = p; access = Some (valued s past flick n.access); marks = [] } in
    let marks = marks_at (length (since starts (own p past))) (program s p flick (e ∷ own p past)) in
    record e { marks = map (placed (length (history s past))) marks }

-- a step of p: the access of its program whose number is that of the accesses made
abbrev pub stepped : Setup → Past → ℕ → Bool → Option Entry
stepped s past p flick = option_map (entry_made s past p flick) (nth (length (since starts (own p past))) (program s p flick (own p past)))

-- the process of an event
abbrev pub process_of : Event → ℕ
process_of (Call p c) = p
process_of (Step p flick) = p
process_of (Fail p) = p
process_of (Withdraw p) = p
process_of (Restart p) = p

-- the refusals that the stage of the process gives
abbrev pub refused_at : Event → Stage → Option Refusal
refused_at (Call p c) Idle = None
refused_at (Call p c) Settling = Some IsDown
refused_at (Call p c) Down = Some IsDown
refused_at (Call p c) _ = Some Busy
refused_at (Step p flick) Idle = Some NotRunning
refused_at (Step p flick) Down = Some NotRunning
refused_at (Step p flick) _ = None
refused_at (Withdraw p) Waiting = None
refused_at (Withdraw p) _ = Some NotWaiting
refused_at (Fail p) Settling = Some AlreadyFailed
refused_at (Fail p) Down = Some AlreadyFailed
refused_at (Fail p) _ = None
refused_at (Restart p) Down = None
refused_at (Restart p) _ = Some NotDown

-- the event is a call
abbrev pub is_call : Event → Bool
is_call (Call p c) = true
is_call _ = false

-- a call in version 2, of a process that has made 65,535 calls
abbrev pub calls_full : Setup → Past → Event → Bool
calls_full s past event = is_call event && (s.version == 2) && nat_le 65535 (calls_in (own (process_of event) past))

-- why an event is refused, if it is: the first of the refusals that applies
abbrev pub refused : Setup → Past → Event → Option Refusal
refused s past event =
    cond (nat_lt (process_of event) s.processes)
    (elim (refused_at event (stage (process_of event) past)) [ Some r ↦ Some r | None ↦ cond (calls_full s past event) (Some CallsFull) None ])
    (Some NoProcess)

-- an entry with one mark and no access
abbrev pub marked : ℕ → Mark → Option Entry
marked p mark = Some (record { process = p; access = None; marks = mark ∷ [] })

-- the entry that an accepted event adds
abbrev pub added : Setup → Past → Event → Option Entry
added s past (Call p c) = marked p (Called c)
added s past (Step p flick) = stepped s past p flick
added s past (Fail p) = marked p Failed
added s past (Withdraw p) = marked p Withdrew
added s past (Restart p) = marked p Restarted

-- the entry that an event adds: none if it is refused
abbrev pub entry_of : Setup → Past → Event → Option Entry
entry_of s past event = elim (refused s past event) [ Some r ↦ None | None ↦ added s past event ]

-- the past after one more event
abbrev pub with_event : Setup → Event → Past → Past
with_event s event past = elim (entry_of s past event) [ None ↦ past | Some e ↦ e ∷ past ]

-- the past after these events, the newest first
abbrev pub past_of : Setup → List Event → Past
past_of s [] = []
past_of s (event ∷ events) = with_event s event (past_of s events)

-- the record of a list of events, both the oldest first
abbrev pub record_of : Setup → List Event → List Entry
record_of s events = reverse (past_of s (reverse events))
