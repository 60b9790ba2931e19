-- The state of a process, computed from its call, its work and its cursor.
use Rattle.std.specs.Prelude.{◌≡◌, ◌<◌, ℕ, Bool, true, false, List, [], ◌∷◌, IfSome, Option, None, Some, length, option_map, slice_index_or}
use Rattle.plain_store.specs.{Reply, Setup}
use Rattle.model.specs.declared.access.Field.TheVariants.{Choosing, Commit, Ticket}
use Rattle.model.specs.{Closing, Mark, is_over, no_ticket, pending_at, taken_with, width, written_at}
use Rattle.model.specs.Closings as closing
use Rattle.laws.specs.Doings as doings
use Rattle.laws.specs.{Doing}
use Rattle.registers.specs.{CursorState, IsAtPart, RegisterAccessKind, WritesAt, is_fresh, is_torn, moved, place_at, settling_kept, write_kept}
use Rattle.registers.specs.declared.cursor.RegisterAccessKind.TheVariants as run
use Rattle.process.specs.declared.activity.Activity.{Activity}
use Rattle.process.specs.declared.activity.Activity.TheVariants as work
use Rattle.process.specs.CallParts.{PartState}
use Rattle.process.specs.Places.{ProcessState, marks_on, may_step, stepped}
use Rattle.process.specs.ValuesRead.{IsCall}

-- ITS WORK

-- the reply of the command that the settling of a commit bit may take
abbrev pub reply_taken : Option (Bool × Reply) → Option Reply
reply_taken taken = option_map (λ (t : Bool × Reply). t.1) taken

-- the unit settles the present bit of a cursor
abbrev pub settling_at : RegisterAccessKind → Bool → Option Reply → CursorState → Closing
settling_at (run.Settles cut value) inside taken cur = closing.Settles cur.register.field cur.bit (slice_index_or cur.bits cur.bit false) taken inside (settling_kept cut value cur)
settling_at _ inside taken cur = closing.Ended

-- the work that ends a call
abbrev pub closing_at : Activity → CursorState → Closing
closing_at work.Withdraws cur = closing.Withdraws (write_kept cur)
closing_at (work.Settles inside taken) cur = settling_at cur.run inside (reply_taken taken) cur
closing_at (work.Frees inside) cur = closing.Frees inside (write_kept cur)
closing_at work.Lowers cur = closing.Lowers (write_kept cur)
closing_at _ cur = closing.Ended

-- the work of a process
abbrev pub doing_at : PartState → Activity → CursorState → Doing
doing_at k work.Rests cur = doings.Rests
doing_at k work.Lies cur = doings.Lies
doing_at k work.Runs cur = doings.Runs k.call.command k.call.number (place_at k.part cur)
doing_at k w cur = doings.Closes k.call.command k.call.number (closing_at w cur)

-- a process with this last call and this work
abbrev pub with_doing : PartState → Doing → ProcessState
with_doing k d = record { setup = k.call.setup; process = k.call.process; doing = d; command = k.call.command; number = k.call.number }

-- the value of the fields that contracts see
abbrev pub state_at : PartState → Activity → CursorState → ProcessState
state_at k w cur = with_doing k (doing_at k w cur)

-- THE CURSOR

-- the cursor is at the part of the call
pub record RunsAt (k : PartState) (cur : CursorState) : Type 0 where
  pub going : is_over k.part ≡ false
  pub at : IsAtPart k.call k.part cur
  pub there : cur.register.owner < k.call.setup.processes

-- the unit of p settles a bit of a register; a commit bit that is settled at the value being written takes the command
pub record SettlesAt (s : Setup) (p : ℕ) (taken : Option (Bool × Reply)) (cur : CursorState) : Type 0 where
  pub cut : ℕ
  pub value : Option Bool
  pub run : cur.run ≡ run.Settles cut value
  pub owner : cur.register.owner ≡ p
  pub reader : cur.reader ≡ 0
  pub copies : cur.copies ≡ s.processes
  pub wide : cur.width ≡ width s cur.register.field
  pub copy : cur.copy < cur.copies
  pub going : cur.bit < cur.width
  pub known : cur.bit < length cur.bits
  pub settled : cur.begun ≡ true → (v : Bool) × (value ≡ Some v)
  pub written : IfSome taken (λ (t : Bool × Reply). t.0 ≡ slice_index_or cur.bits cur.bit false)

-- the cursor is that of the work
abbrev pub IsWorking : PartState → Activity → CursorState → Type 0
IsWorking k work.Runs cur = RunsAt k cur
IsWorking k work.Withdraws cur = WritesAt k.call.setup k.call.process (Ticket, no_ticket k.call) cur
IsWorking k (work.Settles inside taken) cur = SettlesAt k.call.setup k.call.process taken cur
IsWorking k (work.Frees inside) cur = WritesAt k.call.setup k.call.process (Ticket, no_ticket k.call) cur
IsWorking k work.Lowers cur = WritesAt k.call.setup k.call.process (Choosing, false ∷ []) cur
IsWorking k _ cur = Unit {0}

-- the invariant of the fields
pub record KeepsPlace (k : PartState) (w : Activity) (cur : CursorState) : Type 0 where
  pub call : IsCall k.call
  pub working : IsWorking k w cur

-- ITS NEXT ACCESS

-- the value of the next access: the flick for a unit that settles, and otherwise the value that a read returned
abbrev pub value_for_next : Activity → (flick value : Bool) → Bool
value_for_next (work.Settles inside taken) flick value = flick
value_for_next _ flick value = value

-- `before` is the cursor of a process that has an access to make, and `cur` is this cursor after the access
pub record HasMoved (k : PartState) (w : Activity) (flick value : Bool) (before cur : CursorState) (fresh : Bool) : Type 0 where
  pub keeps : KeepsPlace k w before
  pub goes : may_step (doing_at k w before) ≡ true
  pub moves : cur ≡ moved before (value_for_next w flick value)
  pub first : fresh ≡ is_fresh before

-- the cursor has made such an access from some cursor, with some flick and value
abbrev pub IsMoved : PartState → Activity → CursorState → (fresh : Bool) → Type 0
IsMoved k w cur fresh = (flick value : Bool) × (before : CursorState) × HasMoved k w flick value before cur fresh

-- `next` is then the process
abbrev pub IsStepped : PartState → Activity → CursorState → (fresh : Bool) → ProcessState → Type 0
IsStepped k w cur fresh next = (flick value : Bool) (before : CursorState) → HasMoved k w flick value before cur fresh → next ≡ stepped (state_at k w before) flick value

-- `marks` are then the marks
abbrev pub AreMarksOn : PartState → Activity → CursorState → (fresh : Bool) → List Mark → Type 0
AreMarksOn k w cur fresh marks = (flick value : Bool) (before : CursorState) → HasMoved k w flick value before cur fresh → marks ≡ marks_on (state_at k w before) flick value

-- THE STATE AT A FAILURE

-- the process writes, and its present bit has begun and has not ended on every copy
abbrev pub is_torn_at : Activity → CursorState → Bool
is_torn_at work.Runs cur = is_torn cur
is_torn_at work.Withdraws cur = is_torn cur
is_torn_at _ cur = false

-- the reply of the command that the settling of its bit may take
abbrev pub taken_at : PartState → Activity → Option Reply
taken_at k work.Runs = taken_with (written_at k.call k.part).0 (pending_at k.call k.part)
taken_at k _ = None

-- the process writes this new value to its commit bit
abbrev pub IsOfCommit : PartState → Activity → Bool × Reply → Type 0
IsOfCommit k work.Runs taken = written_at k.call k.part ≡ (Commit, taken.0 ∷ [])
IsOfCommit k _ taken = ⊥
