-- The seat of each process in a world.
use Rattle.std.specs.Prelude.{ℕ, Bool, false, ◌||◌, List, is_some, map}
use Rattle.std.specs.List.{range_with_len}
use Rattle.plain_store.specs.{Command, Setup}
use Rattle.model.specs.{Past, doorway_begin, is_ahead, is_at_door, is_waiting_stage}
use Rattle.process.specs.{ProcessState, called, process_after, stage_doing}
-- the process, whether the doorway of its last call has begun, and which processes wait in a doorway before it
pub use Rattle.world.specs.declared.seats.Seat.{Seat}

-- the process of the seat waits
abbrev pub is_waiting : Seat → Bool
is_waiting seat = is_waiting_stage (stage_doing seat.process.doing)

-- the process of the seat is in its doorway or waits
abbrev pub seat_at_door : Seat → Bool
seat_at_door seat = is_at_door (stage_doing seat.process.doing)

-- the seat with this new state of its process
abbrev pub seat_with : ProcessState → Seat → Seat
seat_with process seat = record seat { process = process }

-- the seat after a step of its process; if the process was in its doorway or waited, the doorway has begun
abbrev pub seat_stepped : ProcessState → Seat → Seat
seat_stepped process seat = record seat { process = process; begun = seat.begun || seat_at_door seat }

-- the seat after a call has begun, ahead of which these processes wait
abbrev pub seat_called : Seat → Command → ℕ → List Bool → Seat
seat_called seat command number before = record { process = called seat.process command number; begun = false; before = before }

-- for each of 16 processes, whether it waits and its doorway ended before that of p began
abbrev pub waiting_before : Past → ℕ → List Bool
waiting_before past p = map (λ j. is_ahead past j p) (range_with_len 0 16)

-- the seat of p after the past
abbrev pub seat_of : Setup → Past → ℕ → Seat
seat_of s past p = record { process = process_after s past p; begun = is_some (doorway_begin p past); before = waiting_before past p }

-- the setups of processes, by their seats
abbrev pub setups_in : List Seat → List Setup
setups_in seats = map (λ seat. seat.process.setup) seats
