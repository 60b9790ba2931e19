-- A runner makes a stretch of steps within a register access, and its auditor observes them as one.
use Rattle.std.proofs.Common.{◌≡◌, ℕ, zero, suc, ◌+◌, ◌-◌, ◌<◌, ◌≤◌, true, cond, List, [], ◌∷◌, length, Option, None, Some, refl, ap, sym, subst, ◌∙◌, arith}
use Rattle.plain_store.specs.{Setup}
use Rattle.model.specs.{Access, AreGiven, Entry, Event, Taken, entry_of, history, past_of}
use Rattle.model.specs.declared.events.Event.TheVariants.{Step}
use Rattle.world.specs.choices.{FlickState, Mode, after_flick, flick_of, flicks_after, is_constant}
use Rattle.world.specs.choices.Flicks.{after_flick_by, is_constant_by}
use Rattle.world.specs.choices.declared.Mode.TheVariants.{Constant, Generator}
use Rattle.world.specs.{CoreState, CoreWalks, remaining_in, with_history}
use Rattle.world.specs.Shows.{Shows, WorldState}
use Rattle.world.specs.Walks.{Walks}
use Rattle.world.proofs.WorldOpen.{core-shown, core_of, history-shown}
use Rattle.world.proofs.WorldShows.{past-after}
use Rattle.auditor.specs.{AuditorState, HasObserved, ObservesRun, IsObserved, KeepsAll, Law, steps_on}
use Rattle.auditor.specs.safe_monitor.{entry_by}
use Rattle.auditor.proofs.Obeys.{obeys}
use Rattle.auditor.proofs.Stretches.{walks-flicks, walks-setup, walks-shown}
use Rattle.sweeper.specs.{Follows, RunnerState, is_accepted, steps_of}
use Rattle.sweeper.proofs.Accepted.{adds_accepted}
use Rattle.sweeper.proofs.Going.{as_long_more}

-- The steps of a stretch.

-- the newest of them adds its access, after those before it
newest-adds : (k : ℕ) (newest : Access) (overlapped : ℕ) (old new : WorldState) (f g : FlickState) (p : ℕ) (events : List Event) → Walks old f p (suc k) newest overlapped new g → Shows old events →
    entry_of old.setup (past_of old.setup (steps_on p f k events)) (Step p (flick_of (flicks_after k f))) ≡ Some (entry_by p (Some newest) [])
newest-adds k newest overlapped old new f g p events (w, x, access, before, walks, last, made, after, counts) shows =
    subst (λ (s : Setup). entry_of s (past_of s (steps_on p f k events)) (Step p (flick_of (flicks_after k f))) ≡ Some (entry_by p (Some newest) [])) (walks-setup k access before old w f x p walks)
    (subst (λ (x : FlickState). entry_of w.setup (past_of w.setup (steps_on p f k events)) (Step p (flick_of x)) ≡ Some (entry_by p (Some newest) [])) (walks-flicks k access before old w f x p walks)
    (made.steps.adds (steps_on p f k events) (walks-shown k access before old w f x p events walks shows) ∙ ap (λ a. Some (entry_by p (Some a) [])) made.access_is))

-- flicks that are all the same bit stay
flick-stays : (f : FlickState) → is_constant f ≡ true → after_flick f ≡ f
flick-stays f is = by f.mode refl is
  where
    by : (m : Mode) → f.mode ≡ m → is_constant_by m ≡ true → after_flick f ≡ f
    by (Constant bit) same is = ap (λ m. let g : FlickState = record f { generator = after_flick_by m f.generator } in g) same
    by Generator same is = absurd (cc)

flicks-stay : (f : FlickState) → is_constant f ≡ true → (n : ℕ) → flicks_after n f ≡ f
flicks-stay f is zero = refl
flicks-stay f is (suc n) = ap after_flick (flicks-stay f is n) ∙ flick-stays f is

-- p has each of these steps to make
pub all-made : (n : ℕ) (newest : Access) (overlapped : ℕ) (old new : WorldState) (f g : FlickState) (p : ℕ) (events : List Event) → is_constant f ≡ true → Walks old f p n newest overlapped new g → Shows old events →
    steps_of old.setup p (flick_of f) n events ≡ steps_on p f n events
all-made zero newest overlapped old new f g p events is walks shows = refl
all-made (suc k) newest overlapped old new f g p events is (w, x, access, before, walks, last, made, after, counts) shows =
    ap (λ n. steps_of old.setup p (flick_of f) n events) one
    ∙ as_long_more (λ events. is_accepted old.setup events (Step p (flick_of f))) (λ events. Step p (flick_of f) ∷ events) k 1 events
    ∙ ap (steps_of old.setup p (flick_of f) 1) (all-made k access before old w f x p events is walks shows)
    ∙ ap (λ b. cond b (Step p (flick_of f) ∷ steps_on p f k events) (steps_on p f k events)) accepted
    ∙ ap (λ x. Step p (flick_of x) ∷ steps_on p f k events) (sym (flicks-stay f is k))
  where
    one : suc k ≡ k + 1
    one = omega arith

    accepted : is_accepted old.setup (steps_on p f k events) (Step p (flick_of f)) ≡ true
    accepted = subst (λ (x : FlickState). is_accepted old.setup (steps_on p f k events) (Step p (flick_of x)) ≡ true) (flicks-stay f is k)
        (adds_accepted old.setup (steps_on p f k events) (Step p (flick_of (flicks_after k f))) (entry_by p (Some newest) [])
        (newest-adds k newest overlapped old new f g p events (w, x, access, before, walks, last, made, after, counts) shows))

-- The result of the auditor.

-- the core of the auditor is equal to that of the runner
same-core : (r : RunnerState) (events : List Event) → Follows r events → r.auditor.core ≡ r.core
same-core r events follows =
    let h = follows.observed in
    core-shown r.auditor.core (history r.auditor.core.setup (past_of r.core.setup events)) h.events h.shows
    ∙ (λ i. core_of (follows.alike i) (h.past_is i))
    ∙ sym (core-shown r.core (history r.core.setup (past_of r.core.setup events)) events follows.shows)

-- an auditor has returned this law for a stretch
pub record IsAnsweredRun (old : AuditorState) (f : FlickState) (p n : ℕ) (newest : Access) (law : Option Law) (new : AuditorState) : Type 0 where
  pub observed : ObservesRun old f p n newest new law
  pub setup : new.core.setup ≡ old.core.setup

module _ (old : RunnerState) (core : CoreState) (f g : FlickState) (p k overlapped : ℕ) (newest : Access) (runs : CoreWalks old.core f p (suc k) newest overlapped core g) (within : suc k ≤ remaining_in old.core.seats p) (law : Option Law) (auditor : AuditorState)
    (a : IsAnsweredRun old.auditor f p (suc k) newest law auditor) (events : List Event) (follows : Follows old events) where
  abbrev s : Setup
  s = old.core.setup

  abbrev taken : List Taken
  taken = history s (past_of s events)

  abbrev before : List Event
  before = steps_on p f k events

  abbrev after : List Event
  after = steps_on p f (suc k) events

  abbrev e : Entry
  e = entry_by p (Some newest) []

  shown : Shows (with_history core taken) after
  shown = walks-shown (suc k) newest overlapped (with_history old.core taken) (with_history core taken) f g p events (runs.walks taken) follows.shows

  pub same-setup : core.setup ≡ s
  same-setup = walks-setup (suc k) newest overlapped (with_history old.core taken) (with_history core taken) f g p (runs.walks taken)

  adds : entry_of s (past_of s before) (Step p (flick_of (flicks_after k f))) ≡ Some e
  adds = newest-adds k newest overlapped (with_history old.core taken) (with_history core taken) f g p events (runs.walks taken) follows.shows

  keeps : KeepsAll s (past_of s before) e
  keeps = obeys s follows.shows.good before (Step p (flick_of (flicks_after k f))) e (subst (λ (s : Setup). AreGiven s after) same-setup shown.given) adds

  answer : IsObserved s (past_of s before) e auditor law
  answer =
      let less : suc k - 1 ≡ k = omega arith in
      let here : HasObserved old.auditor (past_of old.auditor.core.setup events) = subst (λ (s : Setup). HasObserved old.auditor (past_of s events)) (sym follows.alike) follows.observed in
      let there : suc k ≤ remaining_in old.auditor.core.seats p = subst (λ (c : CoreState). suc k ≤ remaining_in c.seats p) (sym (same-core old events follows)) within in
      subst (λ (s : Setup). IsObserved s (past_of s before) e auditor law) follows.alike
      (subst (λ n. IsObserved old.auditor.core.setup (past_of old.auditor.core.setup (steps_on p f n events)) e auditor law) less (a.observed there events here))

  pub none-answered : law ≡ None
  none-answered = by law answer
    where
      by : (law : Option Law) → IsObserved s (past_of s before) e auditor law → law ≡ None
      by None is = refl
      by (Some l) is = absurd (is.broken (keeps l))

  observed : HasObserved auditor (e ∷ past_of s before)
  observed = (subst (IsObserved s (past_of s before) e auditor) none-answered answer).1

  follows-after : Follows (record { core = core; auditor = auditor; taken = old.taken }) after
  follows-after =
      let now : past_of core.setup after ≡ e ∷ past_of s before = ap (λ (s : Setup). past_of s after) same-setup ∙ past-after s before (Step p (flick_of (flicks_after k f))) e adds in
      let its : taken ≡ history core.setup (past_of core.setup after) = history-shown core taken after shown in
      record {
        shows = subst (λ (taken : List Taken). Shows (with_history core taken) after) its shown;
        observed = subst (HasObserved auditor) (sym now) observed;
        alike = a.setup ∙ follows.alike ∙ sym same-setup;
        taken = follows.taken ∙ ap length its;
      }

  -- the runner therefore shows the steps too
  pub follows-run : is_constant f ≡ true → Follows (record { core = core; auditor = auditor; taken = old.taken }) (steps_of s p (flick_of f) (suc k) events)
  follows-run is = subst (Follows (record { core = core; auditor = auditor; taken = old.taken }))
      (sym (all-made (suc k) newest overlapped (with_history old.core taken) (with_history core taken) f g p events is (runs.walks taken) follows.shows)) follows-after

-- the runner after a stretch
pub record HasRunOn (old : RunnerState) (f : FlickState) (p n : ℕ) (law : Option Law) (new : RunnerState) (events : List Event) : Type 0 where
  pub none : law ≡ None
  pub follows : Follows new (steps_of old.core.setup p (flick_of f) n events)
  pub setup : new.core.setup ≡ old.core.setup

pub has-run-on : (old : RunnerState) (core : CoreState) (f g : FlickState) (p n overlapped : ℕ) (newest : Access) → 0 < n → n ≤ remaining_in old.core.seats p → is_constant f ≡ true → CoreWalks old.core f p n newest overlapped core g →
    (law : Option Law) (auditor : AuditorState) → IsAnsweredRun old.auditor f p n newest law auditor → (events : List Event) → Follows old events → HasRunOn old f p n law (record { core = core; auditor = auditor; taken = old.taken }) events
has-run-on old core f g p zero overlapped newest some within constant runs law auditor a events follows = absurd (omega (arith, some))
has-run-on old core f g p (suc k) overlapped newest some within constant runs law auditor a events follows = record {
  none = none-answered old core f g p k overlapped newest runs within law auditor a events follows;
  follows = follows-run old core f g p k overlapped newest runs within law auditor a events follows constant;
  setup = same-setup old core f g p k overlapped newest runs within law auditor a events follows;
}
