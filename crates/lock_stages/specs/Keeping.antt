-- What is kept of the entries so far, and what it becomes with one more entry.
use Rattle.std.specs.Prelude.{◌≡◌, ℕ, ◌<◌, Bool, List, length, slice_get, fold, cond, Some}
use Rattle.trace.specs.{LockMark}
use Rattle.lock_stages.specs.declared.states.LockStage.TheVariants.{Idle}
use Rattle.lock_stages.specs.declared.states.ProcessState.{ProcessState}
use Rattle.lock_stages.specs.Entries.{LockPast}
use Rattle.lock_stages.specs.Passages.{no_passage, with_access}
use Rattle.lock_stages.specs.States.{passage_marked, process_state, stage_after}

-- a process without entries
abbrev pub at_rest : ProcessState
at_rest = record { stage = Idle; passage = no_passage }

-- after the access of entry n, if that has one
abbrev pub accessed : ℕ → Bool → ProcessState → ProcessState
accessed n accesses k = record k { passage = cond accesses (with_access n k.passage) k.passage }

-- after a mark of entry n
abbrev pub marked : ℕ → ProcessState → LockMark → ProcessState
marked n k m = record { stage = stage_after k.stage m; passage = passage_marked n k.passage m }

-- after entry n, with its access and its marks
abbrev pub process_state_after : ℕ → Bool → List LockMark → ProcessState → ProcessState
process_state_after n accesses marks k = fold (marked n) (accessed n accesses k) marks

-- the number of processes, their states, and the number of entries
pub record StagesState : Type 0 where
  pub processes : ℕ
  pub states : List ProcessState
  pub entries : ℕ

-- this is what is to be kept of a past
pub record HasObserved (k : StagesState) (past : LockPast) : Type 0 where
  pub states : (p : ℕ) → p < 16 → slice_get k.states p ≡ Some (process_state p past)
  pub entries : k.entries ≡ length past

-- this holds of each past that has been observed
abbrev pub OfObserved : StagesState → (LockPast → Type 0) → Type 0
OfObserved k P = (past : LockPast) → HasObserved k past → P past
