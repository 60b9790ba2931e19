-- A stretch of steps of a process within a register access, made on the auditor's own core.
use Rattle.std.proofs.Common.{◌≡◌, ℕ, zero, suc, List, ◌∷◌, None, Some, length, ap, subst, sym, ◌∙◌}
use Rattle.plain_store.specs.{Setup}
use Rattle.model.specs.{Access, Event, Past, Taken, entry_of, history, past_of}
use Rattle.model.specs.declared.events.Event.TheVariants.{Step}
use Rattle.world.specs.choices.{FlickState, after_flick, flick_of, flicks_after}
use Rattle.world.specs.{CoreState, CoreWalks, with_history}
use Rattle.world.specs.Shows.{Shows, WorldState}
use Rattle.world.specs.Walks.{Walks}
use Rattle.auditor.specs.{AuditorState, HasObserved, IsCount, steps_on}

-- n steps take n flicks
pub walks-flicks : (n : ℕ) (newest : Access) (overlapped : ℕ) (old new : WorldState) (f g : FlickState) (p : ℕ) → Walks old f p n newest overlapped new g → g ≡ flicks_after n f
walks-flicks zero newest overlapped old new f g p (same, same_flicks, none) = same_flicks
walks-flicks (suc n) newest overlapped old new f g p (w, x, access, before, walks, last, made, after, counts) = after ∙ ap after_flick (walks-flicks n access before old w f x p walks)

-- a world keeps its setup
pub walks-setup : (n : ℕ) (newest : Access) (overlapped : ℕ) (old new : WorldState) (f g : FlickState) (p : ℕ) → Walks old f p n newest overlapped new g → new.setup ≡ old.setup
walks-setup zero newest overlapped old new f g p (same, same_flicks, none) = ap (λ (w : WorldState). w.setup) same
walks-setup (suc n) newest overlapped old new f g p (w, x, access, before, walks, last, made, after, counts) = made.steps.setup ∙ walks-setup n access before old w f x p walks

-- the world also shows the n steps
pub walks-shown : (n : ℕ) (newest : Access) (overlapped : ℕ) (old new : WorldState) (f g : FlickState) (p : ℕ) (events : List Event) → Walks old f p n newest overlapped new g → Shows old events → Shows new (steps_on p f n events)
walks-shown zero newest overlapped old new f g p events (same, same_flicks, none) shows = subst (λ w. Shows w events) (sym same) shows
walks-shown (suc n) newest overlapped old new f g p events (w, x, access, before, walks, last, made, after, counts) shows =
    subst (λ (x : FlickState). Shows new (Step p (flick_of x) ∷ steps_on p f n events)) (walks-flicks n access before old w f x p walks)
    (made.steps.shows (steps_on p f n events) (walks-shown n access before old w f x p events walks shows))

-- after equal pasts the steps lead to equal pasts
pub steps-alike : (s : Setup) (p : ℕ) (f : FlickState) (n : ℕ) (x y : List Event) → past_of s x ≡ past_of s y → past_of s (steps_on p f n x) ≡ past_of s (steps_on p f n y)
steps-alike s p f zero x y same = same
steps-alike s p f (suc n) x y same =
    ap (λ (past : Past). elim (entry_of s past (Step p (flick_of (flicks_after n f)))) as (λ _. Past) [ None ↦ past | Some e ↦ e ∷ past ]) (steps-alike s p f n x y same)

-- the auditor has observed the steps that it has made
pub observed-steps : (a : AuditorState) (new : CoreState) (f g : FlickState) (p n : ℕ) (newest : Access) (overlapped : ℕ) → CoreWalks a.core f p n newest overlapped new g → (events : List Event) → HasObserved a (past_of a.core.setup events) →
    HasObserved (record { core = new; taken = a.taken }) (past_of a.core.setup (steps_on p f n events))
observed-steps a new f g p n newest overlapped runs events h = record {
  events = steps_on p f n h.events;
  past_is = now;
  shows = subst (λ (taken : List Taken). Shows (with_history new taken) (steps_on p f n h.events)) taken_is shown;
  counted = subst (λ (taken : List Taken). IsCount a.taken (length taken)) taken_is h.counted;
}
  where
    s : Setup
    s = a.core.setup

    taken : List Taken
    taken = history s (past_of s events)

    shown : Shows (with_history new taken) (steps_on p f n h.events)
    shown = walks-shown n newest overlapped (with_history a.core taken) (with_history new taken) f g p h.events (runs.walks taken) h.shows

    same : new.setup ≡ s
    same = walks-setup n newest overlapped (with_history a.core taken) (with_history new taken) f g p (runs.walks taken)

    now : past_of new.setup (steps_on p f n h.events) ≡ past_of s (steps_on p f n events)
    now = ap (λ s. past_of s (steps_on p f n h.events)) same ∙ steps-alike s p f n h.events events h.past_is

    taken_is : taken ≡ history new.setup (past_of s (steps_on p f n events))
    taken_is = ap (λ (w : WorldState). w.history) shown.shown ∙ ap (history new.setup) now
