-- A core after an event, computed from the seat of the process whose event it is.
use Rattle.std.specs.Prelude.{◌≡◌, ℕ, ◌≤◌, Bool, List, [], ◌∷◌, Option, None, Some, length, map, slice_set}
use Rattle.model.specs.safe_bit.Cell.{Cell}
use Rattle.model.specs.{Access, Event, Mark, process_of, value_of}
use Rattle.model.specs.declared.events.Event.TheVariants.{Call, Step, Fail, Withdraw, Restart}
use Rattle.model.specs.declared.marks.Mark.TheVariants.{Called, Failed, Withdrew, Restarted}
use Rattle.process.specs.{EventOutcome, answered_at, dropped, failed, marks_on, next_number, restarted, step_by, withdrawn}
use Rattle.world.specs.Changes.{reported, waiting_in}
use Rattle.world.specs.Cores.{CoreAdds, CoreMakes, CoreState, PendedUnlessCall, pending_with}
use Rattle.world.specs.Seats.{Seat, is_waiting, seat_called, seat_stepped, seat_with}

-- the seat of the process after the event on these registers; before: the processes that wait before a call
abbrev pub seat_made : List (List Cell) → List Bool → Seat → Event → Seat
seat_made registers before seat (Call p command) = seat_called seat command (next_number seat.process.setup seat.process.number) before
seat_made registers before seat (Step p flick) = seat_stepped (step_by flick (seat.process, registers)).0 seat
seat_made registers before seat (Fail p) = seat_with (failed seat.process) seat
seat_made registers before seat (Withdraw p) = seat_with (withdrawn seat.process) seat
seat_made registers before seat (Restart p) = seat_with (restarted seat.process) seat

-- the registers after the event
abbrev pub registers_made : List (List Cell) → Seat → Event → List (List Cell)
registers_made registers seat (Step p flick) = (step_by flick (seat.process, registers)).1
registers_made registers seat (Fail p) = dropped seat.process registers
registers_made registers seat (Withdraw p) = dropped seat.process registers
registers_made registers seat _ = registers

-- the core with these registers and this new seat of p; every seat is updated with whether p waits
abbrev pub core_with : CoreState → ℕ → Seat → Seat → List (List Cell) → CoreState
core_with c p seat then registers = record c { registers = registers; seats = map (reported p (is_waiting seat) (is_waiting then)) (slice_set c.seats p then) }

-- the seat of the process, and the whole core, after the event
abbrev pub seat_after : CoreState → Seat → Event → Seat
seat_after c seat event = seat_made c.registers (waiting_in c.seats) seat event

abbrev pub core_after : CoreState → Seat → Event → CoreState
core_after c seat event = core_with c (process_of event) seat (seat_after c seat event) (registers_made c.registers seat event)

-- the access of the event, which a step alone has
abbrev pub access_made : List (List Cell) → Seat → Event → Option Access
access_made registers seat (Step p flick) = Some (answered_at seat.process registers flick)
access_made registers seat _ = None

-- the marks of the event; the position of a command that is taken is 0 here
abbrev pub marks_made : List (List Cell) → Seat → Event → List Mark
marks_made registers seat (Call p command) = Called command ∷ []
marks_made registers seat (Step p flick) = marks_on seat.process flick (value_of (answered_at seat.process registers flick).how)
marks_made registers seat (Fail p) = Failed ∷ []
marks_made registers seat (Withdraw p) = Withdrew ∷ []
marks_made registers seat (Restart p) = Restarted ∷ []

-- a core makes an event with this effect and this access
pub record CoreGoes (old : CoreState) (event : Event) (effect : EventOutcome) (access : Option Access) (new : CoreState) : Type 0 where
  pub adds : CoreAdds old event effect access
  pub makes : CoreMakes old event effect new
  pub pending : PendedUnlessCall event old effect new
  pub few : pending_with effect new ≤ length old.seats
  pub setup : new.setup ≡ old.setup
