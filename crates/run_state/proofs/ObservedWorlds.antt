-- Facts about a world whose past an observed run has observed.
use Rattle.std.proofs.Common.{◌≡◌, ◌<◌, ℕ, nat_lt, Bool, true, false, cond, List, Option, None, Some, refl, ap, sym, subst, ◌∙◌, arith}
use Rattle.std.proofs.lemmas.Bool.Decides.{nat_tests}
use Rattle.std.specs.Prelude.{OnOk, Result, Ok, Err}
use Rattle.plain_store.specs.{Setup}
use Rattle.model.specs.{Access, Entry, Past, Taken, entry_of, history, past_of, stage}
use Rattle.model.specs.declared.events.Event.TheVariants.{Step}
use Rattle.model.proofs.Width.{is_good}
use Rattle.calls.specs.world.laws.{IsThere}
use Rattle.calls.proofs.world_proofs.laws_proofs.HeldThere.{access_there}
use Rattle.calls.specs.world.process.{ProcessState, process_after}
use Rattle.calls.specs.world.{CoreState, InEachCorePast, WorldState, stage_in}
use Rattle.run_state.specs.{AreGiven, AreOf, ComesNext, CoreShows, ProcessLines, SnapshotState, HasObservedWorld, access_in}

-- the past, by the observed run's setup
pub past_is : (t : SnapshotState) (c : CoreState) (taken : List Taken) (past : Past) → (u : HasObservedWorld t c taken past) → past_of t.setup u.events ≡ past
past_is t c taken past u = ap (λ (s : Setup). past_of s u.events) (sym u.setup) ∙ sym u.is_past

-- the history
pub taken_is : (t : SnapshotState) (c : CoreState) (taken : List Taken) (past : Past) → HasObservedWorld t c taken past → taken ≡ history t.setup past
taken_is t c taken past u =
    ap (λ (w : WorldState). w.history) u.shows.shown ∙ ap (λ (s : Setup). history s (past_of s u.events)) u.setup ∙ ap (history t.setup) (past_is t c taken past u)

-- the stage of an existing process
pub stage_is : (t : SnapshotState) (c : CoreState) (taken : List Taken) (past : Past) (p : ℕ) → p < t.setup.processes → (u : HasObservedWorld t c taken past) → stage_in c.setup (past_of c.setup u.events) p ≡ Some (stage p past)
stage_is t c taken past p there u =
    let within : nat_lt p t.setup.processes ≡ true = grind (arith, nat_tests) in
    ap (λ (s : Setup). stage_in s (past_of c.setup u.events) p) u.setup ∙ ap (λ (q : Past). stage_in t.setup q p) (sym u.is_past)
    ∙ ap (λ (b : Bool). cond b (Some (stage p past)) None) within

-- the core shows the past
pub core_shows : (t : SnapshotState) (c : CoreState) (taken : List Taken) (past : Past) → HasObservedWorld t c taken past → CoreShows c past
core_shows t c taken past u = record { taken = taken; events = u.events; shows = u.shows; is = sym u.is_past }

-- a consequence, where no allocation failed
pub ok_then : {A E : Type 0} (r : Result A E) {P Q : Type 0} → (P → Q) → OnOk r P → OnOk r Q
ok_then (Ok a) then p = then p
ok_then (Err e) then p = tt

-- The past and the core of a process's lines.

pub core_of : (l : ProcessLines) (past : Past) → AreOf l past → CoreShows l.core.now past
core_of l past u = record { taken = l.history.now; events = u.events; shows = u.shows; is = u.is }

pub history_is : (l : ProcessLines) (past : Past) → AreGiven l → AreOf l past → l.history.now ≡ history l.setup.now past
history_is l past g u = ap (λ (w : WorldState). w.history) u.shows.shown ∙ (λ i. history (g.core i) (u.is i))

-- the past is that of these events
pub events_of : (l : ProcessLines) (past : Past) → AreGiven l → (u : AreOf l past) → past_of l.setup.now u.events ≡ past
events_of l past g u = ap (λ (s : Setup). past_of s u.events) (sym g.core) ∙ u.is

-- the next access is of an existing register
pub next_there : (l : ProcessLines) (past : Past) (a : Access) → AreGiven l → AreOf l past → ComesNext l.setup.now past l.process a → IsThere l.setup.now a
next_there l past a g u next = go (entry_of s (past_of s u.events) (Step l.process false)) refl (subst (λ q. ComesNext s q l.process a) (sym (events_of l past g u)) next)
  where
    s : Setup
    s = l.setup.now

    go : (o : Option Entry) → entry_of s (past_of s u.events) (Step l.process false) ≡ o → access_in o ≡ Some a → IsThere s a
    go None is some = absurd (cc)
    go (Some e) is some = access_there s (is_good s g.good) u.events (Step l.process false) e is a some

-- the core's state of the process
pub place_is : (l : ProcessLines) (past : Past) (q : ProcessState) → AreGiven l → AreOf l past → InEachCorePast l.core.now (λ s past. q ≡ process_after s past l.process) → q ≡ process_after l.setup.now past l.process
place_is l past q g u is = is l.history.now u.events u.shows ∙ (λ i. process_after (g.core i) (u.is i) l.process)
