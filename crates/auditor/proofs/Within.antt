-- An entry with an access and without a mark, of a process that is within a register access.
use Rattle.std.proofs.Common.{◌≡◌, ◌<◌, ℕ, Bool, false, true≢false, List, [], Option, None, Some, refl, sym, ap, subst, ◌∙◌}
use Rattle.std.specs.Prelude.{unwrap_or}
use Rattle.model.specs.{Access, Entry, Past, Taken, history}
use Rattle.model.specs.declared.events.Event.TheVariants as event
use Rattle.world.specs.process.declared.outcomes.StepOutcome.TheVariants.{Nothing}
use Rattle.world.specs.{CoreAddsQuietly, CoreState, MakesQuietly, remaining_in, with_history}
use Rattle.world.specs.Walks.{AddsQuietly}
use Rattle.world.proofs.WithinStages.{within-unsettled}
use Rattle.safe_monitor.specs.declared.verdicts.Law.TheVariants as law
use Rattle.auditor.specs.{AuditorState, BreaksNext, HasObserved, IsObserved, flick_in}
use Rattle.auditor.proofs.Observing.{observed_on, observed_wrong}

-- the facts about a step within a register access that the auditor has made
abbrev pub MadeWithin : CoreState → ℕ → Bool → Access → Bool → CoreState → Type 0
MadeWithin core p flick made overlapped new = (taken : List Taken) → MakesQuietly (with_history core taken) p flick made overlapped (with_history new taken)

made_adds : (core new : CoreState) (p : ℕ) (flick overlapped : Bool) (made : Access) → MadeWithin core p flick made overlapped new → (taken : List Taken) → AddsQuietly (with_history core taken) p flick made
made_adds core new p flick overlapped made m taken = subst (AddsQuietly (with_history core taken) p flick) (m taken).access_is (m taken).steps.adds

-- the entry of a process with this access, without a mark
abbrev pub access_entry : ℕ → Access → Entry
access_entry p access = record { process = p; access = Some access; marks = [] }

-- the facts about the next access, which is not made yet
pub record IsNextWithin (core : CoreState) (p : ℕ) (flick : Bool) (next : Access) : Type 0 where
  pub within : 0 < remaining_in core.seats p
  pub adds : CoreAddsQuietly core p flick next

-- one entry has one access
same_access : (p : ℕ) (a b : Access) → Some (access_entry p a) ≡ Some (access_entry p b) → a ≡ b
same_access p a b both = ap (λ (o : Option Entry). elim o as (λ _. Access) [ None ↦ a | Some e ↦ unwrap_or e.access a ]) both

-- the access that is made is the next one
next_made : (a : AuditorState) (past : Past) (p : ℕ) (flick overlapped : Bool) (next made : Access) (new : CoreState) → IsNextWithin a.core p flick next → MadeWithin a.core p flick made overlapped new → HasObserved a past → made ≡ next
next_made a past p flick overlapped next made new is m h =
    let before : List Taken = history a.core.setup past in
    same_access p made next (sym (made_adds a.core new p flick overlapped made m before h.events h.shows) ∙ is.adds before h.events h.shows)

-- the entry of that step is observed
pub observed_within : (a : AuditorState) (past : Past) (p : ℕ) (overlapped : Bool) (access next made : Access) (new : CoreState) → IsNextWithin a.core p (flick_in (Some access)) next → next ≡ access → MadeWithin a.core p (flick_in (Some access)) made overlapped new → HasObserved a past →
    IsObserved a.core.setup past (access_entry p access) (record { core = new; taken = a.taken }) None
observed_within a past p overlapped access next made new is same m h =
    let before : List Taken = history a.core.setup past in
    let flick : Bool = flick_in (Some access) in
    subst (λ x. IsObserved a.core.setup past (access_entry p x) (record { core = new; taken = a.taken }) None) (next_made a past p flick overlapped next made new is m h ∙ same)
    (observed_on a.core new a.taken a.taken past h (event.Step p flick) (access_entry p made) before (m before).steps.setup (made_adds a.core new p flick overlapped made m before h.events h.shows) ((m before).steps.shows h.events h.shows) h.counted)

-- an entry with another access breaks a law
pub other_observed : (a : AuditorState) (past : Past) (p : ℕ) (access next : Access) → IsNextWithin a.core p (flick_in (Some access)) next → HasObserved a past → (next ≡ access → ⊥) → BreaksNext law.Program a.core.setup past (access_entry p access)
other_observed a past p access next is h wrong =
    observed_wrong a past (access_entry p access) next Nothing (record { observed = h; none = refl; adds = is.adds }) false
    (λ alike. let both : Some access ≡ Some next = alike.access in wrong (cc))
    (λ below. (λ yes. absurd (true≢false (sym yes)), λ settling. absurd (within-unsettled (with_history a.core (history a.core.setup past)) h.events p h.shows is.within settling)))
