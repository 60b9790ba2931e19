-- The state of a world, and the records that it shows.
use Rattle.std.specs.Prelude.{◌≡◌, List, map, Ok}
use Rattle.model.specs.safe_bit.Cell.{Cell}
use Rattle.plain_store.specs.{Setup, checked}
use Rattle.model.specs.{AreGiven, Event, Past, Taken, history, past_of, processes}
use Rattle.laws.specs.{cell_held}
use Rattle.process.specs.{memory_with}
use Rattle.world.specs.Seats.{Seat, seat_of}

-- the state of a world: the registers, the seat of each process, and the history
pub record WorldState : Type 0 where
  pub setup : Setup
  pub registers : List (List Cell)
  pub seats : List Seat
  pub history : List Taken

-- the state of a world of this setup after the past
abbrev pub world_of : Setup → Past → WorldState
world_of s past = record {
  setup = s;
  registers = memory_with (cell_held s past) s;
  seats = map (seat_of s past) (processes s);
  history = history s past;
}

-- the world shows the record of these events, the newest first
pub record Shows (w : WorldState) (events : List Event) : Type 0 where
  pub good : checked w.setup ≡ Ok tt
  pub given : AreGiven w.setup events
  pub shown : w ≡ world_of w.setup (past_of w.setup events)
