-- The state of a run: what an observed run keeps, and how it is written.
use Rattle.std.specs.Prelude.{◌≡◌, ◌<◌, ℕ, List, ◌++◌, Ok, Some, flat_map, length, slice_get}
use Rattle.plain_store.specs.{Setup, checked}
use Rattle.model.specs.{Event, Past, Taken, history, past_of, processes}
use Rattle.calls.specs.world.{CoreState, with_history}
use Rattle.calls.specs.world.Shows.{Shows}
use Rattle.run_state.specs.declared.kept.ProcessSummary.{ProcessSummary}
use Rattle.run_state.specs.Copies.{register_lines}
use Rattle.run_state.specs.Keeping.{kept}
use Rattle.run_state.specs.Processes.{process_lines}
use Rattle.run_state.specs.Stores.{history_lines}

-- the state of each process, and the number of entries
pub record SnapshotState : Type 0 where
  pub setup : Setup
  pub kept : List ProcessSummary
  pub entries : ℕ

-- the setup is good, and each of its processes has a state
pub record IsSnapshot (t : SnapshotState) : Type 0 where
  pub good : checked t.setup ≡ Ok tt
  pub processes : length t.kept ≡ t.setup.processes

-- it has observed these entries
pub record HasObserved (t : SnapshotState) (past : Past) : Type 0 where
  pub kept : (p : ℕ) → p < t.setup.processes → slice_get t.kept p ≡ Some (kept t.setup p past)
  pub entries : t.entries ≡ length past

-- it has observed the past of the world that has this core and this history
pub record HasObservedWorld (t : SnapshotState) (c : CoreState) (taken : List Taken) (past : Past) : Type 0 where
  pub observed : HasObserved t past
  pub setup : c.setup ≡ t.setup
  pub events : List Event
  pub shows : Shows (with_history c taken) events
  pub is_past : past ≡ past_of c.setup events

-- the state after a past: the lines of each process, those of registers, and those of the history
abbrev pub state_lines : Setup → Past → List ℕ
state_lines s past = flat_map (process_lines s past) (processes s) ++ (register_lines s past ++ history_lines s (history s past))
