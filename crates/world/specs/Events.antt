-- The effect of an accepted event on a world, in every record that the world shows.
use Rattle.std.specs.Prelude.{◌≡◌, ◌⊎◌, ℕ, ◌+◌, ◌≤◌, Bool, true, cond, nat_lt, List, ◌∷◌, length, IfSome, Option, None, Some}
use Rattle.history_laws.specs.{changes_taken}
use Rattle.model.specs.{Access, Act, Entry, Event, KeepsMainTheorem, Past, Refusal, Stage, entry_of, is_call, past_of, process_of, refused, stage}
use Rattle.model.specs.declared.events.Event.TheVariants.{Step}
use Rattle.model.specs.declared.refusals.Refusal.TheVariants.{Memory}
use Rattle.process.specs.{EventOutcome, StepOutcome, act_of, changes_of_event}
use Rattle.process.specs.declared.outcomes.EventOutcome.TheVariants.{Steps}
use Rattle.plain_store.specs.{Setup}
use Rattle.world.specs.Changes.{pending_in}
use Rattle.world.specs.Shows.{Shows, WorldState}

-- the entry of a process with this act
abbrev pub entry_with : ℕ → Act → Entry
entry_with p act = record { process = p; access = act.access; marks = act.marks }

-- P holds in the past of each record that the world shows
abbrev pub InEachPast : WorldState → (Setup → Past → Type 0) → Type 0
InEachPast w P = (events : List Event) → Shows w events → P w.setup (past_of w.setup events)

-- the reason for which an event is refused, if it is, in every record that the world shows
abbrev pub IsRefused : WorldState → Event → Option Refusal → Type 0
IsRefused w event refusal = (events : List Event) → Shows w events → refused w.setup (past_of w.setup events) event ≡ refusal

-- P holds unless the event is refused
abbrev pub UnlessRefused : WorldState → Event → Type 0 → Type 0
UnlessRefused w event P = (events : List Event) → Shows w events → refused w.setup (past_of w.setup events) event ≡ None → P

-- the event adds the entry of p with this act
abbrev pub Adds : WorldState → Event → ℕ → Act → Type 0
Adds w event p act = (events : List Event) → Shows w events → entry_of w.setup (past_of w.setup events) event ≡ Some (entry_with p act)

-- the entry with this act keeps the main theorem, after each record that the world shows
abbrev pub KeepsTheMainTheorem : WorldState → ℕ → Act → Type 0
KeepsTheMainTheorem w p act = (events : List Event) → Shows w events → KeepsMainTheorem w.setup (past_of w.setup events) (entry_with p act)

-- the act of an event with this access and this effect; a command that it takes is the next of the history
abbrev pub act_next : WorldState → Option Access → EventOutcome → Act
act_next w access effect = act_of (length w.history) (record { access = access; effect = effect })

-- an event adds the entry with this access and this effect; below, this entry keeps the main theorem
abbrev pub AddsEvent : WorldState → Event → EventOutcome → Option Access → Type 0
AddsEvent w event effect access = Adds w event (process_of event) (act_next w access effect)

abbrev pub EventKeepsMainTheorem : WorldState → Event → EventOutcome → Option Access → Type 0
EventKeepsMainTheorem w event effect access = KeepsTheMainTheorem w (process_of event) (act_next w access effect)

-- a step adds the entry with this access and this outcome; below, this entry keeps the main theorem
abbrev pub AddsStep : WorldState → ℕ → Bool → StepOutcome → Access → Type 0
AddsStep w p flick reported access = AddsEvent w (Step p flick) (Steps reported) (Some access)

abbrev pub StepKeepsMainTheorem : WorldState → ℕ → StepOutcome → Access → Type 0
StepKeepsMainTheorem w p reported access = KeepsTheMainTheorem w p (act_next w (Some access) (Steps reported))

-- if an event reports a number of changes, this many were taken before it, in every record that the world shows; below, a step reports it
abbrev pub EventReportsChanges : WorldState → EventOutcome → Type 0
EventReportsChanges w effect = InEachPast w (λ s past. IfSome (changes_of_event effect) (λ changes. changes ≡ changes_taken s past))

abbrev pub ReportsChanges : WorldState → StepOutcome → Type 0
ReportsChanges w reported = EventReportsChanges w (Steps reported)

-- the world then shows the event too
abbrev pub GoesOn : WorldState → Event → WorldState → Type 0
GoesOn old event new = (events : List Event) → Shows old events → Shows new (event ∷ events)

-- an event is refused, or is a call for which there is no memory
abbrev pub IsTurnedAway : WorldState → Event → Refusal → Type 0
IsTurnedAway w event refusal = IsRefused w event (Some refusal) ⊎ ((is_call event ≡ true) × (refusal ≡ Memory) × IsRefused w event None)

-- the invariant of a world: it shows some events, and its history has room for each call that may still be taken
pub record KeepsWorld (w : WorldState) (capacity : ℕ) : Type 0 where
  pub events : List Event
  pub shows : Shows w events
  pub room : length w.history + pending_in w.seats ≤ capacity

-- the stage of a process that exists, and no stage otherwise
abbrev pub stage_in : Setup → Past → ℕ → Option Stage
stage_in s past p = cond (nat_lt p s.processes) (Some (stage p past)) None
