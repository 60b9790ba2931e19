-- The doorway and the waiting of a process: the results of its accesses. They are those of any call.
use Rattle.std.specs.Prelude.{◌≡◌, ℕ, Bool, true, false, List, [], ◌∷◌, Option, Some}
use Rattle.plain_store.specs.declared.Answer.TheVariants as answer
use Rattle.plain_store.specs.declared.Command.TheVariants.{Ask}
use Rattle.model.specs.{Access, Call, Mark, Place, Raises, Stage, TornBit, access_at, enter, is_at_door, is_waiting_stage, marks_of, place_after, stage_at, torn_at}
use Rattle.model.specs.declared.marks.Mark.TheVariants as mark
use Rattle.model.specs.declared.stages.Stage.TheVariants as stage
use Rattle.process.specs.laws.{Runs, runs}
use Rattle.process.specs.{ProcessState, full_of, stage_doing, ticket_of}
use Rattle.bakery.specs.declared.door_progress.DoorProgress.{DoorProgress}
use Rattle.bakery.specs.declared.door_progress.DoorProgress.TheVariants as reported
use Rattle.bakery.specs.Memory.{SetupMemory}
use Rattle.process.specs.registers.{answered}

-- the process is in its doorway, or waits
abbrev pub is_going : ProcessState → Bool
is_going d = is_at_door (stage_doing d.doing)

abbrev pub is_waiting : ProcessState → Bool
is_waiting d = is_waiting_stage (stage_doing d.doing)

-- THE RESULTS OF ACCESSES

-- the result, by the stage after the access; before it the process had this ticket, or was refused for the ticket of another process
abbrev pub reported_at : Stage → (ticket full : Option ℕ) → DoorProgress
reported_at stage.Waiting (Some t) full = reported.Waiting t
reported_at stage.Inside (Some t) full = reported.Inside t
reported_at stage.Idle ticket (Some full) = reported.Full full
reported_at _ _ _ = reported.Doorway

abbrev pub progress_on : ProcessState → ProcessState → DoorProgress
progress_on d then = reported_at (stage_doing then.doing) (ticket_of d.doing) (full_of d.doing)

-- the door has further accesses after this result
abbrev pub goes_on : DoorProgress → Bool
goes_on reported.Doorway = true
goes_on (reported.Waiting t) = true
goes_on _ = false

-- the process waits after this result
abbrev pub reports_wait : DoorProgress → Bool
reports_wait (reported.Waiting t) = true
reports_wait _ = false

-- the marks of an access with this result, by the stage before it
abbrev pub marks_reported : Stage → DoorProgress → List Mark
marks_reported stage.Doorway (reported.Waiting t) = mark.Waiting t ∷ []
marks_reported stage.Doorway (reported.Inside t) = mark.Waiting t ∷ mark.Entered ∷ []
marks_reported stage.Doorway (reported.Full full) = mark.Answered (answer.TicketsFull full) ∷ []
marks_reported stage.Waiting (reported.Inside t) = mark.Entered ∷ []
marks_reported _ _ = []

-- ANY CALL

-- a door at a place of a call of its process: which command it is, and which number, makes no difference here
abbrev pub door_at : Call → Place → ProcessState
door_at c at = record { setup = c.setup; process = c.process; doing = Runs Ask 0 at; command = Ask; number = 0 }

-- each call of its process begins at the door's place
abbrev pub BeginsCalls : ProcessState → ProcessState → Type 0
BeginsCalls d then = (c : Call) → d.setup ≡ c.setup → d.process ≡ c.process → then ≡ door_at c (enter c Raises)

-- the next access of the call; the end of a read has the value from the locks
abbrev pub IsNextOfCall : ProcessState → SetupMemory → Bool → Access → Type 0
IsNextOfCall d locks flick access = (c : Call) (at : Place) → d ≡ door_at c at → access ≡ answered c.setup.processes locks.registers flick (access_at c at.part at.run)

-- each next access, with value v, moves the call to its next place
abbrev pub CallGoesOn : ProcessState → Bool → ProcessState → Type 0
CallGoesOn d v then = (c : Call) (at : Place) → d ≡ door_at c at → then ≡ record d { doing = runs Ask 0 (place_after c at v) }

-- the marks of that access follow from its result
abbrev pub MarksOfCall : ProcessState → Bool → DoorProgress → Type 0
MarksOfCall d v progress = (c : Call) (at : Place) → d ≡ door_at c at → marks_of c at v ≡ marks_reported (stage_at at) progress

-- a halt before it tears this bit, or none
abbrev pub CallTears : ProcessState → Option TornBit → Type 0
CallTears d torn = (c : Call) (at : Place) → d ≡ door_at c at → torn ≡ torn_at c at
