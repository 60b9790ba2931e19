-- A world is a core and a history. It keeps its invariant after each method of its core.
use Rattle.std.proofs.Common.{◌≡◌, ℕ, zero, suc, ◌+◌, ◌≤◌, Bool, true, false, List, [], ◌∷◌, length, map, refl, sym, ap, subst, ◌∙◌, arith}
use Rattle.std.specs.List.{range_with_len}
use Rattle.plain_store.specs.{Setup}
use Rattle.model.specs.{Access, Event, Taken, is_call, process_of, reply_taken}
use Rattle.model.specs.declared.events.Event.TheVariants.{Step}
use Rattle.process.specs.{EventOutcome, StepOutcome, marks_of, marks_reported}
use Rattle.process.specs.declared.outcomes.EventOutcome.TheVariants.{Steps}
use Rattle.world.specs.{CoreMakes, CoreState, CoreSteps, CoreWalks, KeepsWorld, call_in, pending_in, seat_of, taking, with_history, with_taken}
use Rattle.choices.specs.{FlickState, flick_of}
use Rattle.world.specs.Shows.{Shows, WorldState}
use Rattle.world.specs.Walks.{Walks}
use Rattle.world.proofs.CoreKeeps.{taken_length}

-- in a new world no call is pending
new-pending : (s : Setup) (a n : ℕ) → pending_in (map (seat_of s []) (range_with_len a n)) ≡ 0
new-pending s a zero = refl
new-pending s a (suc n) = let more = new-pending s (a + 1) n in omega (arith, more)

-- a new world
pub new_keeps : (c : CoreState) (h : List Taken) (capacity : ℕ) → h ≡ [] → Shows (with_history c []) [] → KeepsWorld (with_history c h) capacity
new_keeps c h capacity empty shows = record {
  events = [];
  shows = subst (λ h. Shows (with_history c h) []) (sym empty) shows;
  room =
      let none : pending_in c.seats ≡ 0 = ap (λ (w : WorldState). pending_in w.seats) shows.shown ∙ new-pending c.setup 0 c.setup.processes in
      let long = ap length empty in
      omega (arith, none, long);
}

-- after an event that may take a command, there is room for this command and then for each other pending call
pub made_keeps : (c new : CoreState) (h then : List Taken) (what : Event) (effect : EventOutcome) (capacity more : ℕ) → KeepsWorld (with_history c h) capacity → CoreMakes c what effect new → length h + (pending_in new.seats + taking effect) ≤ more →
    then ≡ with_taken h (process_of what) (call_in new.seats (process_of what)).0 (call_in new.seats (process_of what)).1 (reply_taken (marks_of effect)) → KeepsWorld (with_history new then) more
made_keeps c new h then what effect capacity more keeps makes room is = subst (λ h. KeepsWorld (with_history new h) more) (sym is) (record {
  events = what ∷ keeps.events;
  shows = makes.goes h keeps.events keeps.shows;
  room =
      let long = taken_length h (process_of what) (call_in new.seats (process_of what)).0 (call_in new.seats (process_of what)).1 (reply_taken (marks_of effect)) in
      omega (arith, room, long);
})

-- the room, of a call and of each other event
pub made_room : (c new : CoreState) (h : List Taken) (what : Event) (effect : EventOutcome) (capacity more : ℕ) → KeepsWorld (with_history c h) capacity → capacity ≤ more → (is_call what ≡ true → length h + length c.seats ≤ more) →
    pending_in new.seats + taking effect ≤ length c.seats → (is_call what ≡ false → pending_in new.seats + taking effect ≤ pending_in c.seats) → length h + (pending_in new.seats + taking effect) ≤ more
made_room c new h what effect capacity more keeps grown room few fewer = by (is_call what) refl
  where
    by : (b : Bool) → is_call what ≡ b → length h + (pending_in new.seats + taking effect) ≤ more
    by true call = let all = room call in omega (arith, all, few)
    by false other = let remaining = fewer other in let had = keeps.room in omega (arith, had, remaining, grown)

-- the invariant with more room
pub wider_keeps : (c : CoreState) (h then : List Taken) (capacity more : ℕ) → KeepsWorld (with_history c h) capacity → capacity ≤ more → then ≡ h → KeepsWorld (with_history c then) more
wider_keeps c h then capacity more keeps grown same = subst (λ h. KeepsWorld (with_history c h) more) (sym same) (record {
  events = keeps.events;
  shows = keeps.shows;
  room = let room = keeps.room in omega (arith, room, grown);
})

pub step_keeps : (c new : CoreState) (h then : List Taken) (p : ℕ) (flick : Bool) (reported : StepOutcome) (capacity more : ℕ) → KeepsWorld (with_history c h) capacity → CoreSteps c p flick reported new → pending_in new.seats + taking (Steps reported) ≤ pending_in c.seats →
    then ≡ with_taken h p (call_in new.seats p).0 (call_in new.seats p).1 (reply_taken (marks_reported reported)) → capacity ≤ more → KeepsWorld (with_history new then) more
step_keeps c new h then p flick reported capacity more keeps steps fewer is grown = let room = keeps.room in made_keeps c new h then (Step p flick) (Steps reported) capacity more keeps steps (omega (arith, room, fewer, grown)) is

-- after several steps
walks-shown : (n : ℕ) (newest : Access) (overlapped : ℕ) (old new : WorldState) (f g : FlickState) (p : ℕ) (events : List Event) → Walks old f p n newest overlapped new g → Shows old events → (later : List Event) × Shows new later
walks-shown zero newest overlapped old new f g p events (same, same_flicks, none) shows = (events, subst (λ w. Shows w events) (sym same) shows)
walks-shown (suc n) newest overlapped old new f g p events (w, x, access, count, walks, last, made, after, counts) shows =
    let before : (later : List Event) × Shows w later = walks-shown n access count old w f x p events walks shows in
    (Step p (flick_of x) ∷ before.0, made.steps.shows before.0 before.1)

pub walk_keeps : (n : ℕ) (newest : Access) (overlapped : ℕ) (c new : CoreState) (h : List Taken) (f g : FlickState) (p capacity : ℕ) → KeepsWorld (with_history c h) capacity → CoreWalks c f p n newest overlapped new g → KeepsWorld (with_history new h) capacity
walk_keeps n newest overlapped c new h f g p capacity keeps runs =
    let then : (later : List Event) × Shows (with_history new h) later = walks-shown n newest overlapped (with_history c h) (with_history new h) f g p keeps.events (runs.walks h) keeps.shows in
    record { events = then.0; shows = then.1; room = let room = keeps.room in let fewer = runs.pending in omega (arith, room, fewer) }
