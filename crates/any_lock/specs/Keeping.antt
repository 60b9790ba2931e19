-- The state kept of the observed entries, and its update by one more entry.
use Rattle.std.specs.Prelude.{slice_set, Result, MatchResult, ◌≡◌, ℕ, ◌+◌, ◌==◌, ◌<◌, ◌≤◌, Bool, true, false, ◌&&◌, List, [], ◌∷◌, fold, length, slice_get, cond, Option, None, Some, Ok}
use Rattle.plain_store.specs.declared.Command.TheVariants.{Ask}
use Rattle.plain_store.specs.{Contents, Reply, Setup, after, checked}
use Rattle.model.specs.{Access, Entry, Mark, Past, history, stage_after, store_after}
use Rattle.model.specs.declared.marks.Mark.TheVariants as mark
use Rattle.model.specs.declared.stages.Stage.TheVariants as stage
use Rattle.lock_stages.specs.{no_passage, with_access, with_call, with_enter, with_leave, with_wait, without_wait}
use Rattle.any_lock.specs.declared.refusals.MarkRefusal.{MarkRefusal}
use Rattle.any_lock.specs.declared.process_views.ProcessView.{ProcessView}
use Rattle.any_lock.specs.declared.any_lock_law.AnyLockLaw.{AnyLockLaw}
use Rattle.any_lock.specs.Refusals.{mark_refusal, same_reply}
use Rattle.any_lock.specs.ProcessViews.{begun_by, process_view, torn_after, write_of}

-- the state of a process without entries
abbrev pub at_rest : ProcessView
at_rest = record { stage = stage.Idle; withdrawn = false; number = 0; command = Ask; reply = None; opened = None; torn = None; passage = no_passage }

-- the state after an access, in the entry with this number
abbrev pub accessed : ℕ → ProcessView → Access → ProcessView
accessed entry k a = record k {
  opened = begun_by entry (Some a) k.opened;
  torn = torn_after (Some a) k.torn;
  passage = with_access entry k.passage;
}

-- the state after an access, if there is one
abbrev pub accessed_by : ℕ → ProcessView → Option Access → ProcessView
accessed_by entry k None = k
accessed_by entry k (Some a) = accessed entry k a

-- the number of the next call of a process
abbrev pub next_number : Setup → ℕ → ℕ
next_number s number = cond (s.version == 2) (number + 1) 0

-- the state after a mark of an entry with this number
abbrev pub marked : Setup → ℕ → ProcessView → Mark → ProcessView
marked s entry k (mark.Called c) = record k {
  stage = stage.Doorway;
  withdrawn = false;
  number = next_number s k.number;
  command = c;
  reply = None;
  passage = with_call k.passage;
}
marked s entry k (mark.Waiting t) = record k { stage = stage.Waiting; passage = with_wait entry k.passage }
marked s entry k mark.Entered = record k { stage = stage.Inside; passage = with_enter entry k.passage }
marked s entry k (mark.Taken n r) = record k { reply = Some r }
marked s entry k mark.Left = record k { stage = stage_after k.stage mark.Left; passage = with_leave k.passage }
marked s entry k (mark.Answered a) = record k { stage = stage.Idle; passage = without_wait k.passage }
marked s entry k mark.Failed = record k { stage = stage.Settling; opened = None; torn = write_of k.opened; passage = without_wait k.passage }
marked s entry k (mark.Settled v) = k
marked s entry k mark.Down = record k { stage = stage.Down; passage = without_wait k.passage }
marked s entry k mark.Withdrew = record k { stage = stage.Leaving; withdrawn = true; opened = write_of k.opened; passage = without_wait k.passage }
marked s entry k mark.Restarted = record k { stage = stage.Idle; passage = without_wait k.passage }

-- the refusal of the first refused mark, if the process is in this state before them
abbrev pub refusal_on : Setup → ℕ → ProcessView → List Mark → Option MarkRefusal
refusal_on s entry k [] = None
refusal_on s entry k (m ∷ marks) = elim (mark_refusal k m) [ Some r ↦ Some r | None ↦ refusal_on s entry (marked s entry k m) marks ]

-- this is the refusal of these marks
abbrev pub IsRefusedFor : Setup → ℕ → ProcessView → List Mark → MarkRefusal → Type 0
IsRefusedFor s entry k marks why = refusal_on s entry k marks ≡ Some why

-- the state after these marks
abbrev pub marked_all : Setup → ℕ → ProcessView → List Mark → ProcessView
marked_all s entry = fold (marked s entry)

-- the mark takes a command
abbrev pub is_taken : Mark → Bool
is_taken (mark.Taken n r) = true
is_taken _ = false

-- the mark takes no command, or one with this position and this reply
abbrev pub is_taken_as : ℕ → Reply → Mark → Bool
is_taken_as place reply (mark.Taken n r) = (n == place) && same_reply r reply
is_taken_as place reply _ = true

-- the states of the processes, the sequential store, and the numbers of commands and entries
pub record LockRunState : Type 0 where
  pub setup : Setup
  pub process_views : List ProcessView
  pub store : Contents
  pub taken : ℕ
  pub entries : ℕ

-- the kept state, if process p is in this state
abbrev pub with_view : ℕ → ProcessView → LockRunState → LockRunState
with_view p process_view k = record k { process_views = slice_set k.process_views p process_view }

-- the store after a command of process p, if one is taken
abbrev pub TakesInto : LockRunState → ℕ → Bool → Contents → Type 0
TakesInto k p takes store = (at : ProcessView) → slice_get k.process_views p ≡ Some at → store ≡ cond takes (after k.store at.command (record { process = p; number = at.number })) k.store

-- the setup is good, each process has a state, and there are no more commands than entries
pub record IsLockRun (k : LockRunState) : Type 0 where
  pub good : checked k.setup ≡ Ok tt
  pub processes : length k.process_views ≡ k.setup.processes
  pub few : k.taken ≤ k.entries

-- the kept state is that of this past
pub record Knows (k : LockRunState) (past : Past) : Type 0 where
  pub process_views : (p : ℕ) → p < k.setup.processes → slice_get k.process_views p ≡ Some (process_view k.setup p past)
  pub store : k.store ≡ store_after k.setup (history k.setup past)
  pub taken : k.taken ≡ length (history k.setup past)
  pub entries : k.entries ≡ length past

-- this holds of each past with this kept state
abbrev pub OfPast : LockRunState → (Setup → Past → Type 0) → Type 0
OfPast k P = (past : Past) → Knows k past → P k.setup past

-- this holds of each such past, and of each entry of process p with this access and these marks
abbrev pub OfEntry : LockRunState → ℕ → Option Access → List Mark → (Setup → Past → Entry → Type 0) → Type 0
OfEntry k p access marks P = (past : Past) (e : Entry) → e.process ≡ p → e.access ≡ access → e.marks ≡ marks → Knows k past → P k.setup past e

-- this is the value of f at each entry of process p with this access and these marks
abbrev pub IsOfEntry : {A : Type 0} → A → (Setup → Past → Entry → A) → LockRunState → ℕ → Option Access → List Mark → Type 0
IsOfEntry reported f k p access marks = OfEntry k p access marks (λ s past e. reported ≡ f s past e)

-- this is the value of f at each entry of process p with this access
abbrev pub IsOfAccess : {A : Type 0} → A → (Setup → Past → Entry → A) → LockRunState → ℕ → Option Access → Type 0
IsOfAccess reported f k p access = (past : Past) (e : Entry) → e.process ≡ p → e.access ≡ access → Knows k past → reported ≡ f k.setup past e

-- this is the value of f at each entry of process p with these marks
abbrev pub IsOfMarks : {A : Type 0} → A → (Setup → Past → Entry → A) → LockRunState → ℕ → List Mark → Type 0
IsOfMarks reported f k p marks = (past : Past) (e : Entry) → e.process ≡ p → e.marks ≡ marks → Knows k past → reported ≡ f k.setup past e

-- this is the value of f at each entry of process p
abbrev pub IsOfProcess : {A : Type 0} → A → (Setup → Past → Entry → A) → LockRunState → ℕ → Type 0
IsOfProcess reported f k p = (past : Past) (e : Entry) → e.process ≡ p → Knows k past → reported ≡ f k.setup past e

-- the state of process p after its access
abbrev pub made_at : LockRunState → ℕ → Option Access → Past → ProcessView
made_at k p access past = accessed_by k.entries (process_view k.setup p past) access

-- the state of process p after its entry, if f gives no objection, and otherwise that objection
abbrev pub ViewAfter : {R : Type 0} → (Setup → Past → Entry → Option R) → Result ProcessView R → LockRunState → ℕ → Option Access → List Mark → Type 0
ViewAfter f reported k p access marks =
    OfEntry k p access marks (λ s past e. MatchResult reported (λ at. (f s past e ≡ None) × (at ≡ process_view s p (e ∷ past))) (λ against. f s past e ≡ Some against))

-- this is the kept state of the past with the entry
abbrev pub KnowsOn : LockRunState → Setup → Past → Entry → Type 0
KnowsOn then s past e = Knows then (e ∷ past)

-- it is so if the entry breaks no law
abbrev pub GoesOn : Option AnyLockLaw → LockRunState → Setup → Past → Entry → Type 0
GoesOn law then s past e = law ≡ None → KnowsOn then s past e

-- it is so for each entry of process p with these marks, after which the process is in this state
abbrev pub KnowsOnAt : LockRunState → ℕ → List Mark → ProcessView → LockRunState → Type 0
KnowsOnAt k p marks at then = (past : Past) (e : Entry) → e.process ≡ p → e.marks ≡ marks → at ≡ process_view k.setup p (e ∷ past) → Knows k past → Knows then (e ∷ past)
