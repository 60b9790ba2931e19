-- The state and the result of an auditor after it has observed an entry.
use Rattle.std.proofs.Common.{◌≡◌, ℕ, nat_lt, Bool, true, false, List, [], ◌∷◌, length, map, Option, Some, None, Ok, refl, sym, ap, subst, ◌∙◌, true≢false, arith, IsTrue}
use Rattle.std.specs.List.{list_any}
use Rattle.plain_store.specs.{Reply, Setup, checked}
use Rattle.model.specs.{Access, AreGiven, Entry, Event, Mark, Past, Refusal, Taken, entry_of, has, history, past_of, placed, process_of, reply_taken, stage}
use Rattle.model.specs.declared.events.Event.TheVariants as event
use Rattle.model.specs.declared.marks.Mark.TheVariants as mark
use Rattle.model.specs.declared.stages.Stage.TheVariants as stages
use Rattle.model.proofs.World.{entry-accepted}
use Rattle.std.specs.Prelude.{◌↔◌, zero, suc}
use Rattle.std.proofs.lemmas.List.{length_push}
use Rattle.world.specs.process.{EventOutcome, StepOutcome, act_of, marks_of, marks_reported}
use Rattle.world.specs.process.declared.outcomes.EventOutcome.TheVariants.{Steps, Calls, Fails, Withdraws, Restarts}
use Rattle.world.specs.process.declared.outcomes.StepOutcome.TheVariants.{Nothing, Waits, WaitsAndEnters, Enters, Took, Leaves, Answers, Settles, SettlesAndTakes, Lies}
use Rattle.world.specs.{Adds, CoreMakes, CoreRefuses, CoreState, CoreSteps, call_in, entry_with, with_history, with_taken}
use Rattle.world.specs.Shows.{Shows, WorldState}
use Rattle.world.proofs.WorldShows.{past-after}
use Rattle.safe_monitor.specs.declared.verdicts.Law.TheVariants as law
use Rattle.auditor.specs.{AreAt, AuditorState, BreaksNext, HasObserved, IsAlike, IsCount, IsObserved, KeepsAll, event_in, event_marked, flick_in, law_of_misplaced, law_of_wrong, step_reported, stepped_as, reports_event, with_reply}
use Rattle.auditor.proofs.Events.{reported-adds}
use Rattle.auditor.proofs.Marks.{all_placed-again}
use Rattle.auditor.proofs.Obeys.{obeys}
use Rattle.auditor.proofs.Tried.{IsTried, refused_step, refused_event, tried, right_place, wrong_event, wrong_place, wrong_step, wrong_unit}

-- The auditor observes an entry that keeps all laws.
pub observed_on : (old new : CoreState) (before after : Option ℕ) (past : Past) (h : HasObserved (record { core = old; taken = before }) past) (w : Event) (e : Entry) (taken : List Rattle.model.specs.declared.history.Taken.Taken) →
    new.setup ≡ old.setup → entry_of old.setup (past_of old.setup h.events) w ≡ Some e → Shows (with_history new taken) (w ∷ h.events) → IsCount after (length taken) →
    IsObserved old.setup past e (record { core = new; taken = after }) None
observed_on old new before after past h w e taken same adds shows counted = (
  subst (λ past. KeepsAll s past e) h.past_is (obeys s good h.events w e (subst (λ s. AreGiven s (w ∷ h.events)) same shows.given) adds),
  record {
    events = w ∷ h.events;
    past_is = now;
    shows = subst (λ t. Shows (with_history new t) (w ∷ h.events)) taken_is shows;
    counted = subst (λ (t : List Rattle.model.specs.declared.history.Taken.Taken). IsCount after (length t)) taken_is counted;
  },
)
  where
    s : Setup
    s = old.setup

    good : checked s ≡ Ok tt
    good = h.shows.good

    now : past_of new.setup (w ∷ h.events) ≡ e ∷ past
    now = ap (λ s. past_of s (w ∷ h.events)) same ∙ past-after s h.events w e adds ∙ ap (λ l. e ∷ l) h.past_is

    taken_is : taken ≡ history new.setup (e ∷ past)
    taken_is = ap (λ (w : WorldState). w.history) shows.shown ∙ ap (history new.setup) now

-- The results of the auditor, branch by branch.

-- the marks of a step have their position
at-placed : (n : ℕ) (ms : List Mark) → AreAt n (map (placed n) ms)
at-placed n [] k r (i, l, e) = absurd (omega (arith, l))
at-placed n (mark.Taken j q ∷ ms) k r (zero, l, e) = sym (ap (λ (t : ℕ × Reply). t.0) e)
at-placed n (mark.Taken j q ∷ ms) k r (suc i, l, e) = at-placed n ms k r (i, omega (arith, l), e)
at-placed n (_ ∷ ms) k r h = at-placed n ms k r h

alike-open : (n : ℕ) (e : Entry) (a : Access) (t : StepOutcome) → IsAlike e (step_reported n e.process a t) → IsAlike e (stepped_as e.process a t)
alike-open n e a t h = record { process = h.process; access = h.access; marks = h.marks ∙ all_placed-again 0 n (marks_reported t) }

alike-placed : (n : ℕ) (e : Entry) (a : Access) (t : StepOutcome) → IsAlike e (stepped_as e.process a t) → IsAlike e (step_reported n e.process a t)
alike-placed n e a t h = record { process = h.process; access = h.access; marks = h.marks ∙ sym (all_placed-again 0 n (marks_reported t)) }

-- the facts about a step that the auditor has made
pub record StepMade (a : AuditorState) (past : Past) (e : Entry) (access : Access) (reported : StepOutcome) : Type 0 where
  pub observed : HasObserved a past
  pub none : event_in e ≡ None
  pub adds : (taken : List Taken) → Adds (with_history a.core taken) (event.Step e.process (flick_in e.access)) e.process (act_of (length taken) (record { access = Some access; effect = Steps reported }))

pub observed_refused : (a : AuditorState) (past : Past) (e : Entry) (r : Refusal) → HasObserved a past → event_in e ≡ None → CoreRefuses a.core (event.Step e.process (flick_in e.access)) (Some r) → BreaksNext law.Program a.core.setup past e
observed_refused a past e r h none refuses = subst (λ past. BreaksNext law.Program a.core.setup past e) h.past_is
    (refused_step a.core.setup h.shows.good h.events e r (refuses (history a.core.setup past) h.events h.shows) none)

count-more : (taken : List Taken) (p : ℕ) (command : Rattle.plain_store.specs.declared.Command.Command) (number : ℕ) (o : Option Reply) → with_reply (length taken) o ≡ length (with_taken taken p command number o)
count-more taken p command number None = refl
count-more taken p command number (Some r) = sym (length_push taken (record { process = p; command = command; reply = r; number = number }))

module _ (a : AuditorState) (past : Past) (e : Entry) (access : Access) (reported : StepOutcome) (h : StepMade a past e access reported) where
  abbrev setup : Setup
  setup = a.core.setup

  abbrev place : ℕ
  place = length (history a.core.setup past)

  abbrev stepped : Entry
  stepped = step_reported (length (history a.core.setup past)) e.process access reported

  step_tried : IsTried setup h.observed.events e stepped
  step_tried = record { good = h.observed.shows.good; given = h.observed.shows.given; adds = h.adds (history setup past) h.observed.events h.observed.shows }

  same_place : length (history setup (past_of setup h.observed.events)) ≡ place
  same_place = ap (λ l. length (history setup l)) h.observed.past_is

  pub observed_wrong : (settles : Bool) → (IsAlike e (stepped_as e.process access reported) → ⊥) → (nat_lt e.process setup.processes ≡ true → IsTrue settles ↔ (stage e.process (past_of setup h.observed.events) ≡ stages.Settling)) →
      BreaksNext (law_of_wrong (has reports_event e) settles) setup past e
  observed_wrong settles wrong at = subst (λ past. BreaksNext (law_of_wrong (has reports_event e) settles) setup past e) h.observed.past_is (go (has reports_event e) refl settles refl)
    where
      no_match : IsAlike e stepped → ⊥
      no_match k = wrong (alike-open place e access reported k)

      settling : IsTrue settles ↔ (stage e.process (past_of setup h.observed.events) ≡ stages.Settling)
      settling = at (tried setup h.observed.events e stepped step_tried).0

      go : (b : Bool) → has reports_event e ≡ b → (c : Bool) → settles ≡ c → BreaksNext (law_of_wrong b c) setup (past_of setup h.observed.events) e
      go true k c l = wrong_event setup h.observed.events e stepped step_tried (λ same. no_match (subst (IsAlike e) same (record { process = refl; access = refl; marks = refl }))) h.none k
      go false k true l = wrong_unit setup h.observed.events e stepped step_tried no_match k (settling.0 l)
      go false k false l = wrong_step setup h.observed.events e stepped step_tried no_match k (λ st. true≢false (sym (settling.1 st) ∙ l))

  pub observed_misplaced : IsAlike e (stepped_as e.process access reported) → (AreAt place e.marks → ⊥) → BreaksNext (law_of_misplaced (has reports_event e)) setup past e
  observed_misplaced alike wrong = subst (λ past. BreaksNext (law_of_misplaced (has reports_event e)) setup past e) h.observed.past_is (go (has reports_event e) refl)
    where
      go : (b : Bool) → has reports_event e ≡ b → BreaksNext (law_of_misplaced b) setup (past_of setup h.observed.events) e
      go true k = wrong_event setup h.observed.events e stepped step_tried (λ same. wrong (subst (λ (x : Entry). AreAt place x.marks) (sym same) (at-placed place (marks_reported reported)))) h.none k
      go false k = wrong_place setup h.observed.events e stepped step_tried (alike-placed place e access reported alike) k (λ at. wrong (subst (λ m. AreAt m e.marks) same_place at))

  pub observed_step : (new : CoreState) (after : Option ℕ) → IsAlike e (stepped_as e.process access reported) → AreAt place e.marks →
      new.setup ≡ setup → CoreSteps a.core e.process (flick_in e.access) reported new → ((n : ℕ) → IsCount a.taken n → IsCount after (with_reply n (reply_taken (marks_reported reported)))) →
      IsObserved setup past e (record { core = new; taken = after }) None
  observed_step new after alike at same steps counts =
      observed_on a.core new a.taken after past h.observed (event.Step e.process (flick_in e.access)) e (with_taken (history setup past) e.process (call_in new.seats e.process).0 (call_in new.seats e.process).1 (reply_taken (marks_reported reported)))
      same (step_tried.adds ∙ ap Some (sym is)) (steps.goes (history setup past) h.observed.events h.observed.shows)
      (subst (IsCount after) (count-more (history setup past) e.process (call_in new.seats e.process).0 (call_in new.seats e.process).1 (reply_taken (marks_reported reported))) (counts place h.observed.counted))
    where
      is : e ≡ stepped
      is = right_place setup h.observed.events e stepped step_tried (alike-placed place e access reported alike) (subst (λ m. AreAt m e.marks) (sym same_place) at)

-- Two steps of a process by one flick have the same entry.
pub alike_again : (a : AuditorState) (past : Past) (e : Entry) (access other : Access) (reported then : StepOutcome) → StepMade a past e access reported → StepMade a past e other then → IsAlike e (stepped_as e.process access reported) → IsAlike e (stepped_as e.process other then)
alike_again a past e access other reported then first second alike =
    let before : List Taken = history a.core.setup past in
    let n : ℕ = length before in
    let both : Some (step_reported n e.process access reported) ≡ Some (step_reported n e.process other then) = sym (first.adds before first.observed.events first.observed.shows) ∙ second.adds before first.observed.events first.observed.shows in
    let same : step_reported n e.process access reported ≡ step_reported n e.process other then = cc in
    alike-open n e other then (subst (IsAlike e) same (alike-placed n e access reported alike))

-- An event other than a step.

marked-reports : (p : ℕ) (marks : List Mark) (w : Event) → event_marked p marks ≡ Some w → list_any reports_event marks ≡ true
marked-reports p (mark.Called c ∷ ms) w h = refl
marked-reports p (mark.Failed ∷ ms) w h = refl
marked-reports p (mark.Withdrew ∷ ms) w h = refl
marked-reports p (mark.Restarted ∷ ms) w h = refl
marked-reports p [] w h = absurd (cc)
marked-reports p (_ ∷ ms) w h = absurd (cc)

event-reports : (e : Entry) (w : Event) → event_in e ≡ Some w → has reports_event e ≡ true
event-reports e w h = go e.access h
  where
    go : (o : Option Access) → elim o as (λ _. Option Event) [ None ↦ event_marked e.process e.marks | Some a ↦ None ] ≡ Some w → has reports_event e ≡ true
    go None l = marked-reports e.process e.marks w l
    go (Some a) l = absurd (cc)

pub observed_refused_event : (a : AuditorState) (past : Past) (e : Entry) (w : Event) (r : Refusal) → HasObserved a past → event_in e ≡ Some w → CoreRefuses a.core w (Some r) → BreaksNext law.Program a.core.setup past e
observed_refused_event a past e w r h is refuses = subst (λ past. BreaksNext law.Program a.core.setup past e) h.past_is
    (refused_event a.core.setup (past_of a.core.setup h.events) e w r is (refuses (history a.core.setup past) h.events h.shows) (event-reports e w is))

-- the mark of an event other than a step takes no command
takes_none : (p n : ℕ) (access : Option Access) (effect : EventOutcome) (w : Event) → event_in (entry_with p (act_of n (record { access = access; effect = effect }))) ≡ Some w → reply_taken (marks_of effect) ≡ None
takes_none p n (Some a) effect w h = absurd (cc)
takes_none p n None (Calls c) w h = refl
takes_none p n None Fails w h = refl
takes_none p n None Withdraws w h = refl
takes_none p n None Restarts w h = refl
takes_none p n None (Steps Nothing) w h = refl
takes_none p n None (Steps (Waits t)) w h = refl
takes_none p n None (Steps (WaitsAndEnters t)) w h = refl
takes_none p n None (Steps Enters) w h = refl
takes_none p n None (Steps (Took r changes)) w h = absurd (cc)
takes_none p n None (Steps Leaves) w h = refl
takes_none p n None (Steps (Answers a)) w h = refl
takes_none p n None (Steps (Settles v)) w h = refl
takes_none p n None (Steps (SettlesAndTakes v r)) w h = absurd (cc)
takes_none p n None (Steps Lies) w h = refl

-- the facts about an event that the auditor has made
pub record EventMade (a : AuditorState) (past : Past) (e : Entry) (w : Event) (access : Option Access) (effect : EventOutcome) (new : CoreState) : Type 0 where
  pub observed : HasObserved a past
  pub is : event_in e ≡ Some w
  pub adds : (taken : List Taken) → Adds (with_history a.core taken) w (process_of w) (act_of (length taken) (record { access = access; effect = effect }))
  pub makes : CoreMakes a.core w effect new
  pub setup : new.setup ≡ a.core.setup

pub observed_event : (a : AuditorState) (past : Past) (e : Entry) (w : Event) (access : Option Access) (effect : EventOutcome) (new : CoreState) → EventMade a past e w access effect new →
    IsObserved a.core.setup past e (record { core = new; taken = a.taken }) None
observed_event a past e w access effect new h =
    observed_on a.core new a.taken a.taken past h.observed w e (history s past) h.setup (made ∙ ap Some (sym same))
    (subst (λ o. Shows (with_history new (with_taken (history s past) (process_of w) (call_in new.seats (process_of w)).0 (call_in new.seats (process_of w)).1 o)) (w ∷ h.observed.events))
    (takes_none (process_of w) n access effect w (ap event_in (sym same) ∙ h.is)) (h.makes.goes (history s past) h.observed.events h.observed.shows)) h.observed.counted
  where
    s : Setup
    s = a.core.setup

    n : ℕ
    n = length (history s past)

    made : entry_of s (past_of s h.observed.events) w ≡ Some (entry_with (process_of w) (act_of n (record { access = access; effect = effect })))
    made = h.adds (history s past) h.observed.events h.observed.shows

    -- the entry that the event adds is the one that determined it
    same : e ≡ entry_with (process_of w) (act_of n (record { access = access; effect = effect }))
    same =
        let both : Some e ≡ Some (entry_with (process_of w) (act_of n (record { access = access; effect = effect }))) =
        sym (reported-adds s (past_of s h.observed.events) e w h.is).adds ∙ (entry-accepted s (past_of s h.observed.events) w _ made).2 in
        cc
