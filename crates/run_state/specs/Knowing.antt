-- Which past a core shows, and which one the lines of a process are of.
use Rattle.std.specs.Prelude.{◌≡◌, ◌<◌, List, Ok}
use Rattle.plain_store.specs.{checked}
use Rattle.model.specs.{Event, Past, Taken, past_of}
use Rattle.calls.specs.world.{CoreState, with_history}
use Rattle.calls.specs.world.Shows.{Shows}
use Rattle.run_state.specs.declared.process_lines.ProcessLines.{ProcessLines}
use Rattle.run_state.specs.Keeping.{kept}

-- with some history it shows this past
pub record CoreShows (c : CoreState) (past : Past) : Type 0 where
  pub taken : List Taken
  pub events : List Event
  pub shows : Shows (with_history c taken) events
  pub is : past_of c.setup events ≡ past

-- The setup is good and that of the core, and the process exists.
pub record AreGiven (l : ProcessLines) : Type 0 where
  pub good : checked l.setup.now ≡ Ok tt
  pub core : l.core.now.setup ≡ l.setup.now
  pub process : l.process < l.setup.now.processes

-- The core and the history are those after this past, and so is what is kept of the process.
pub record AreOf (l : ProcessLines) (past : Past) : Type 0 where
  pub events : List Event
  pub shows : Shows (with_history l.core.now l.history.now) events
  pub is : past_of l.core.now.setup events ≡ past
  pub kept : l.kept.now ≡ kept l.setup.now l.process past
