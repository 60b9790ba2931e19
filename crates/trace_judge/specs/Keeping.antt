-- What a judge keeps of the entries so far.
use Rattle.std.specs.Prelude.{◌≡◌, true}
use Rattle.trace.specs.{TracePast, is_trace_setup}
use Rattle.lock_stages.specs.{HasObserved, StagesState}
use Rattle.trace_memory.specs.{HasMade, MemoryState}
use Rattle.trace_judge.specs.Laws.{lock_past}

-- the memory of a trace, and the stages of its processes
pub record TraceState : Type 0 where
  pub memory : MemoryState
  pub stages : StagesState

-- both are of one setup, which is in range
pub record IsState (k : TraceState) : Type 0 where
  pub processes : k.stages.processes ≡ k.memory.setup.processes
  pub good : is_trace_setup k.memory.setup ≡ true

-- this is what is to be kept of a past
pub record HasSeen (k : TraceState) (past : TracePast) : Type 0 where
  pub made : HasMade k.memory past
  pub observed : HasObserved k.stages (lock_past past)

-- this holds of each past that has been seen
abbrev pub OfSeen : TraceState → (TracePast → Type 0) → Type 0
OfSeen k P = (past : TracePast) → HasSeen k past → P past
