-- The state of an auditor, and its result for an entry or for a stretch of accesses.
use Rattle.std.specs.Prelude.{◌≡◌, ◌↔◌, ℕ, zero, suc, ◌+◌, ◌-◌, ◌<◌, ◌≤◌, ◌^◌, IsTrue, map, nat_lt, Bool, true, false, Contains, List, [], ◌∷◌, length, Option, None, Some}
use Rattle.model.specs.safe_bit.declared.Move.TheVariants.{BeginWrite, EndWrite, BeginRead, EndRead, Settle}
use Rattle.model.specs.{Access, Entry, Event, Mark, Past, Taken, entry_of, history, past_of, placed, reply_taken, stage, takings}
use Rattle.plain_store.specs.{Reply, Setup}
use Rattle.model.specs.declared.events.Event.TheVariants.{Call, Step, Fail, Withdraw, Restart}
use Rattle.model.specs.declared.marks.Mark.TheVariants.{Called, Failed, Withdrew, Restarted}
use Rattle.model.specs.declared.stages.Stage.TheVariants.{Settling}
use Rattle.safe_monitor.specs.{entry_by}
use Rattle.world.specs.{CoreState, remaining_in, with_history}
use Rattle.world.specs.choices.{FlickState, flick_of, flicks_after}
use Rattle.world.specs.Shows.{Shows}
use Rattle.world.specs.process.{StepOutcome, marks_reported}
use Rattle.safe_monitor.specs.declared.verdicts.Law.{Law}
use Rattle.safe_monitor.specs.declared.verdicts.Law.TheVariants as law
use Rattle.auditor.specs.Verdicts.{IsAlike, Keeps, KeepsAll, number_of}

-- the flick that an access determines: the value with which a read ends, or a write begins or is settled
abbrev pub flick_in : Option Access → Bool
flick_in None = false
flick_in (Some a) = elim a.how [ BeginWrite v ↦ v | EndWrite ↦ false | BeginRead ↦ false | EndRead v ↦ v | Settle v ↦ v ]

-- how many commands were taken: their number, or `None` from 2^64 on
abbrev pub IsCount : Option ℕ → ℕ → Type 0
IsCount None n = 2 ^ 64 ≤ n
IsCount (Some k) n = k ≡ n

-- the state of an auditor: a core, and how many commands were taken
pub record AuditorState : Type 0 where
  pub core : CoreState
  pub taken : Option ℕ

-- the auditor has observed these entries, and none of them broke a law
pub record HasObserved (a : AuditorState) (past : Past) : Type 0 where
  pub events : List Event
  pub past_is : past_of a.core.setup events ≡ past
  pub shows : Shows (with_history a.core (history a.core.setup past)) events
  pub counted : IsCount a.taken (length (history a.core.setup past))

-- a law is the first after `Safe` that an entry breaks
pub record BreaksNext (l : Law) (s : Setup) (past : Past) (e : Entry) : Type 0 where
  pub later : 0 < number_of l
  pub broken : Keeps l s past e → ⊥
  pub before : (k : Law) → 0 < number_of k → number_of k < number_of l → Keeps k s past e

-- the result for an entry: `None` if it keeps all laws, and otherwise the first law after `Safe` that it breaks
abbrev pub IsObserved : Setup → Past → Entry → AuditorState → Option Law → Type 0
IsObserved s past e then None = KeepsAll s past e × HasObserved then (e ∷ past)
IsObserved s past e then (Some l) = BreaksNext l s past e

-- this holds of every past that the auditor has observed
abbrev pub OfObserved : AuditorState → (Setup → Past → Type 0) → Type 0
OfObserved a P = (past : Past) → HasObserved a past → P a.core.setup past

-- this is the entry that a step of p adds by this flick, if it adds one
abbrev pub IsAddedByStep : AuditorState → ℕ → Bool → Option Entry → Type 0
IsAddedByStep a p flick added = OfObserved a (λ s past. length past < 2 ^ 64 → added ≡ entry_of s past (Step p flick))

-- this is the result for an entry, for every past that the auditor has observed
abbrev pub Observes : AuditorState → Entry → AuditorState → Option Law → Type 0
Observes a e then law = OfObserved a (λ s past. IsObserved s past e then law)

-- these events, followed by n steps of p, each by the next flick; the newest first
abbrev pub steps_on : ℕ → FlickState → ℕ → List Event → List Event
steps_on p f zero events = events
steps_on p f (suc n) events = Step p (flick_of (flicks_after n f)) ∷ steps_on p f n events

-- this holds of every past that the auditor has observed, after n more steps of p by these flicks
abbrev pub OfObservedSteps : AuditorState → FlickState → ℕ → ℕ → (Setup → Past → Type 0) → Type 0
OfObservedSteps a f p n P =
    (events : List Event) → HasObserved a (past_of a.core.setup events) → P a.core.setup (past_of a.core.setup (steps_on p f n events))

-- the auditor has then observed these steps, too
abbrev pub ObservesSteps : AuditorState → FlickState → ℕ → ℕ → AuditorState → Type 0
ObservesSteps a f p n then = OfObservedSteps a f p n (λ s past. HasObserved then past)

-- this is the result for a stretch of n accesses of p within a register access: that for the newest access, after p has made the others
abbrev pub ObservesRun : AuditorState → FlickState → ℕ → ℕ → Access → AuditorState → Option Law → Type 0
ObservesRun a f p n newest then law =
    n ≤ remaining_in a.core.seats p → OfObservedSteps a f p (n - 1) (λ s past. IsObserved s past (entry_by p (Some newest) []) then law)

-- the auditor has then observed the stretch except its newest access
abbrev pub ObservesBefore : AuditorState → FlickState → ℕ → ℕ → AuditorState → Type 0
ObservesBefore a f p n then = n ≤ remaining_in a.core.seats p → ObservesSteps a f p (n - 1) then

-- the event other than a step whose entry of process p has just these marks, if there is one
abbrev pub event_marked : ℕ → List Mark → Option Event
event_marked p (Called c ∷ []) = Some (Call p c)
event_marked p (Failed ∷ []) = Some (Fail p)
event_marked p (Withdrew ∷ []) = Some (Withdraw p)
event_marked p (Restarted ∷ []) = Some (Restart p)
event_marked p _ = None

-- the event other than a step that an entry may be of
abbrev pub event_in : Entry → Option Event
event_in e = elim e.access [ None ↦ event_marked e.process e.marks | Some a ↦ None ]

-- this is the result for each entry of an event
abbrev pub ObservesEvent : AuditorState → Event → AuditorState → Option Law → Type 0
ObservesEvent a event then law = (past : Past) (e : Entry) → event_in e ≡ Some event → HasObserved a past → IsObserved a.core.setup past e then law

-- n, and one more if a command is taken
abbrev pub with_reply : ℕ → Option Reply → ℕ
with_reply n None = n
with_reply n (Some r) = n + 1

-- the count of commands after what a step leads to
abbrev pub CountsOn : Option ℕ → StepOutcome → Option ℕ → Type 0
CountsOn taken reported then = (n : ℕ) → IsCount taken n → IsCount then (with_reply n (reply_taken (marks_reported reported)))

-- the result is whether a process that exists settles, for each history and list of events that the core shows
abbrev pub ReportsSettling : CoreState → ℕ → Bool → Type 0
ReportsSettling core p reported =
    (taken : List Taken) (events : List Event) → Shows (with_history core taken) events → nat_lt p core.setup.processes ≡ true → IsTrue reported ↔ (stage p (past_of core.setup events) ≡ Settling)

-- each command that the marks take has position n
abbrev pub AreAt : ℕ → List Mark → Type 0
AreAt n ms = (k : ℕ) (r : Reply) → Contains (takings ms) (k, r) → k ≡ n

-- the law broken by an entry that differs from its process's step in more than positions, by whether it has the mark of an event, and whether the process is settling
abbrev pub law_of_wrong : Bool → Bool → Law
law_of_wrong true settles = law.Program
law_of_wrong false true = law.Unit
law_of_wrong false false = law.Program

-- the law broken by an entry that differs only in positions, by whether it has the mark of an event
abbrev pub law_of_misplaced : Bool → Law
law_of_misplaced true = law.Program
law_of_misplaced false = law.History

-- the entry of a step that has this access and leads to this, without the position of its command
abbrev pub stepped_as : ℕ → Access → StepOutcome → Entry
stepped_as p a t = record { process = p; access = Some a; marks = marks_reported t }

-- the entry of such a step, with position n
abbrev pub step_reported : ℕ → ℕ → Access → StepOutcome → Entry
step_reported n p a t = record { process = p; access = Some a; marks = map (placed n) (marks_reported t) }

-- the result is whether an entry with this access and these marks is that of the step, except for positions, whichever process makes both
abbrev pub ReportsAlike : Option Access → List Mark → Access → StepOutcome → Bool → Type 0
ReportsAlike access marks made t reported = (p : ℕ) → IsTrue reported ↔ IsAlike (entry_by p access marks) (stepped_as p made t)
