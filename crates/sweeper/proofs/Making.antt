-- A runner makes an event, and its auditor observes the entry, which keeps all laws.
use Rattle.std.proofs.Common.{◌≡◌, ℕ, ◌+◌, Bool, true, false, List, ◌∷◌, length, map, Option, None, Some, refl, ap, sym, subst, ◌∙◌}
use Rattle.std.specs.Prelude.{is_none, is_some, not}
use Rattle.model.specs.{Access, AreGiven, Entry, Event, Mark, Past, Refusal, Taken, entry_of, history, is_event, past_of, placed, process_of, refused, reply_taken}
use Rattle.plain_store.specs.{Setup}
use Rattle.world.specs.process.{EventOutcome, act_of, marks_of}
use Rattle.world.specs.{Adds, CoreMakes, CoreRefuses, CoreState, call_in, entry_with, taking, with_history, with_taken}
use Rattle.world.specs.Shows.{Shows, WorldState}
use Rattle.world.proofs.CoreKeeps.{taken_length}
use Rattle.world.proofs.WorldShows.{past-after}
use Rattle.auditor.specs.{AuditorState, HasObserved, IsObserved, KeepsAll, Law}
use Rattle.auditor.specs.safe_monitor.{entry_by}
use Rattle.auditor.proofs.Obeys.{obeys}
use Rattle.sweeper.specs.{Accepts, Follows, RunnerState, RunsOn, is_accepted}
use Rattle.sweeper.proofs.Accepted.{adds_accepted, past_kept, refused_not, shows_refused}

-- a history with which the core shows events is that of the events
history_of : (c : CoreState) (taken : List Taken) (events : List Event) → Shows (with_history c taken) events → taken ≡ history c.setup (past_of c.setup events)
history_of c taken events shows = ap (λ (w : WorldState). w.history) shows.shown

-- the refusal of a core shows whether an event is accepted
pub accepts_is : (r : RunnerState) (event : Event) (o : Option Refusal) (b : Bool) → CoreRefuses r.core event o → is_some o ≡ not b → (events : List Event) → Follows r events → b ≡ is_accepted r.core.setup events event
accepts_is r event o b reported is events follows = by o b is ∙ sym (ap is_none (reported (history r.core.setup (past_of r.core.setup events)) events follows.shows))
  where
    by : (o : Option Refusal) (b : Bool) → is_some o ≡ not b → b ≡ is_none o
    by None true is = refl
    by None false is = absurd (cc)
    by (Some x) true is = absurd (cc)
    by (Some x) false is = refl

-- the core has made an event
pub record IsMade (old : RunnerState) (event : Event) (access : Option Access) (effect : EventOutcome) (core : CoreState) : Type 0 where
  pub adds : (taken : List Taken) → Adds (with_history old.core taken) event (process_of event) (act_of (length taken) (record { access = access; effect = effect }))
  pub makes : CoreMakes old.core event effect core
  pub setup : core.setup ≡ old.core.setup

-- an auditor has returned this law for an entry
pub record IsAnswered (old : AuditorState) (e : Entry) (law : Option Law) (new : AuditorState) : Type 0 where
  pub observed : (past : Past) → HasObserved old past → IsObserved old.core.setup past e new law
  pub setup : law ≡ None → new.core.setup ≡ old.core.setup

module _ (old : RunnerState) (event : Event) (access : Option Access) (effect : EventOutcome) (core : CoreState) (made : IsMade old event access effect core) (events : List Event) (follows : Follows old events) where
  abbrev s : Setup
  s = old.core.setup

  abbrev past : Past
  past = past_of s events

  abbrev e : Entry
  e = entry_with (process_of event) (act_of (length (history s past)) (record { access = access; effect = effect }))

  adds_it : entry_of s past event ≡ Some e
  adds_it = made.adds (history s past) events follows.shows

  on : Shows (with_history core (with_taken (history s past) (process_of event) (call_in core.seats (process_of event)).0 (call_in core.seats (process_of event)).1 (reply_taken (marks_of effect)))) (event ∷ events)
  on = made.makes.goes (history s past) events follows.shows

  given : AreGiven s (event ∷ events)
  given = subst (λ (s : Setup). AreGiven s (event ∷ events)) made.setup on.given

  keeps : KeepsAll s past e
  keeps = obeys s follows.shows.good events event e given adds_it

  -- the event was accepted
  pub made_accepted : is_accepted old.core.setup events event ≡ true
  made_accepted = adds_accepted s events event e adds_it

  -- the entry that the auditor observes is the one that the event adds
  reported_is : (p : ℕ) (marks : List Mark) → p ≡ process_of event → marks ≡ map (placed old.taken) (marks_of effect) → entry_by p access marks ≡ e
  reported_is p marks process are = λ i. entry_by (process i) access ((are ∙ ap (λ n. map (placed n) (marks_of effect)) follows.taken) i)

  -- the auditor therefore returns `None`
  answer_none : (reported : Entry) (law : Option Law) (auditor : AuditorState) → reported ≡ e → IsAnswered old.auditor reported law auditor → law ≡ None
  answer_none reported None auditor is a = refl
  answer_none reported (Some l) auditor is a =
      absurd ((a.observed past follows.observed).broken (subst (λ (x : Entry). KeepsAll old.auditor.core.setup past x) (sym is) (subst (λ (s : Setup). KeepsAll s past e) (sym follows.alike) keeps) l))

  -- the auditor has observed the entry
  observed_next : (reported : Entry) (law : Option Law) (auditor : AuditorState) → reported ≡ e → law ≡ None → IsAnswered old.auditor reported law auditor → HasObserved auditor (e ∷ past)
  observed_next reported None auditor is none a = subst (λ (x : Entry). HasObserved auditor (x ∷ past)) is (a.observed past follows.observed).1
  observed_next reported (Some l) auditor is none a = absurd (cc)

  pub none_broken : (p : ℕ) (marks : List Mark) (law : Option Law) (auditor : AuditorState) → p ≡ process_of event → marks ≡ map (placed old.taken) (marks_of effect) → IsAnswered old.auditor (entry_by p access marks) law auditor → law ≡ None
  none_broken p marks law auditor process are a = answer_none (entry_by p access marks) law auditor (reported_is p marks process are) a

  -- the runner shows the event too
  pub follows_made : (p : ℕ) (marks : List Mark) (law : Option Law) (auditor : AuditorState) (taken : ℕ) → p ≡ process_of event → marks ≡ map (placed old.taken) (marks_of effect) → taken ≡ old.taken + taking effect →
      IsAnswered old.auditor (entry_by p access marks) law auditor → Follows (record { core = core; auditor = auditor; taken = taken }) (event ∷ events)
  follows_made p marks law auditor taken process are counted a =
      let reported : entry_by p access marks ≡ e = reported_is p marks process are in
      let none : law ≡ None = none_broken p marks law auditor process are a in
      let after : past_of core.setup (event ∷ events) ≡ e ∷ past = ap (λ (s : Setup). past_of s (event ∷ events)) made.setup ∙ past-after s events event e adds_it in
      let h : List Taken = with_taken (history s past) (process_of event) (call_in core.seats (process_of event)).0 (call_in core.seats (process_of event)).1 (reply_taken (marks_of effect)) in
      let its : h ≡ history core.setup (past_of core.setup (event ∷ events)) = history_of core h (event ∷ events) on in
      record {
        shows = subst (λ (taken : List Taken). Shows (with_history core taken) (event ∷ events)) its on;
        observed = subst (HasObserved auditor) (sym after) (observed_next (entry_by p access marks) law auditor reported none a);
        alike = a.setup none ∙ follows.alike ∙ sym made.setup;
        taken = counted ∙ ap (λ n. n + taking effect) follows.taken
            ∙ sym (taken_length (history s past) (process_of event) (call_in core.seats (process_of event)).0 (call_in core.seats (process_of event)).1 (reply_taken (marks_of effect)))
            ∙ ap length its;
      }

-- A refused event leaves the runner unchanged, and the runner shows the event too.
module _ (old seen : RunnerState) (is_seen : old ≡ seen) (event : Event) (r : Refusal) (away : CoreRefuses old.core event (Some r)) where
  away_from : (events : List Event) → Follows old events → refused old.core.setup (past_of old.core.setup events) event ≡ Some r
  away_from events follows = away (history old.core.setup (past_of old.core.setup events)) events follows.shows

  pub accepts_refused : Accepts seen event false
  accepts_refused = subst (λ (r : RunnerState). Accepts r event false) is_seen (λ events follows. sym (refused_not old.core.setup events event r (away_from events follows)))

  pub follows_refused : (core : CoreState) → core ≡ old.core → is_event event ≡ true → RunsOn seen (record { core = core; auditor = old.auditor; taken = old.taken }) (λ events. event ∷ events)
  follows_refused core remaining given = subst (λ (r : RunnerState). RunsOn r (record { core = core; auditor = old.auditor; taken = old.taken }) (λ events. event ∷ events)) is_seen (λ events follows.
      let s : Setup = old.core.setup in
      let is = away_from events follows in
      let same : past_of s (event ∷ events) ≡ past_of s events = past_kept s events event r is in
      subst (λ (core : CoreState). Follows (record { core = core; auditor = old.auditor; taken = old.taken }) (event ∷ events)) (sym remaining) (record {
        shows = subst (λ (past : Past). Shows (with_history old.core (history s past)) (event ∷ events)) (sym same) (shows_refused (with_history old.core (history s (past_of s events))) events event r follows.shows given is);
        observed = subst (HasObserved old.auditor) (sym same) follows.observed;
        alike = follows.alike;
        taken = follows.taken ∙ ap (λ (past : Past). length (history s past)) (sym same);
      }))
