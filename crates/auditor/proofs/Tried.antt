-- An entry that differs from the entry of the step that it determines, and the law that it breaks first.
use Rattle.std.proofs.Common.{◌≡◌, ℕ, ◌<◌, nat_lt, Bool, true, false, cond, List, [], ◌∷◌, length, map, Option, Some, None, Ok, refl, sym, ap, subst, ◌∙◌, true≢false, arith}
use Rattle.std.specs.List.{list_any}
use Rattle.std.proofs.lemmas.Bool.Decides.{nat_tests}
use Rattle.plain_store.specs.{Setup, checked}
use Rattle.model.specs.{AreGiven, Entry, Event, Mark, Past, Refusal, Stage, added, entry_of, has, history, is_entered, past_of, placed, process_of, refused, refused_at, stage, stepped}
use Rattle.model.specs.declared.events.Event.TheVariants as event
use Rattle.model.specs.declared.marks.Mark.TheVariants as mark
use Rattle.model.specs.declared.refusals.Refusal.TheVariants.{NoProcess}
use Rattle.model.specs.declared.stages.Stage.TheVariants as stages
use Rattle.model.proofs.Width.{is_good}
use Rattle.model.proofs.World.{entry-accepted}
use Rattle.auditor.specs.{AreAt, BreaksNext, IsAlike, IsMade, IsOfEvent, Keeps, KeepsAll, KeepsProgram, Law, OwesAt, event_in, flick_in, number_of, reports_event}
use Rattle.safe_monitor.specs.declared.verdicts.Law.TheVariants as law
use Rattle.auditor.proofs.Events.{IsNoStep, calls, fails, withdraws, restarts, step-reports-none, reports-it}
use Rattle.auditor.proofs.ReportedAgain.{reported_again}
use Rattle.auditor.proofs.Marks.{same_marks}
use Rattle.auditor.proofs.Obeys.{obeys}
use Rattle.auditor.proofs.Recovers.{StepIs, makes, owes, step_is}

-- The step that an entry determines was made, and m is its entry.
pub record IsTried (s : Setup) (events : List Event) (e m : Entry) : Type 0 where
  pub good : checked s ≡ Ok tt
  pub given : AreGiven s events
  pub adds : entry_of s (past_of s events) (event.Step e.process (flick_in e.access)) ≡ Some m

-- the process of the tried step exists, its stage does not refuse the step, and the step adds m
pub tried : (s : Setup) (events : List Event) (e m : Entry) → IsTried s events e m →
    (nat_lt e.process s.processes ≡ true) × (refused_at (event.Step e.process (flick_in e.access)) (stage e.process (past_of s events)) ≡ None) × (stepped s (past_of s events) e.process (flick_in e.access) ≡ Some m)
tried s events e m t = entry-accepted s (past_of s events) (event.Step e.process (flick_in e.access)) m t.adds

less : (a b : ℕ) → nat_lt a b ≡ true → a < b
less a b h = grind (arith, nat_tests)

not-less : (a b : ℕ) → a < b → nat_lt a b ≡ true
not-less a b h = grind (arith, nat_tests)

-- whether a step is refused does not depend on its flick
any-flick : (p : ℕ) (f g : Bool) (x : Stage) → refused_at (event.Step p f) x ≡ None → refused_at (event.Step p g) x ≡ None
any-flick p f g stages.Idle h = absurd (cc)
any-flick p f g stages.Down h = absurd (cc)
any-flick p f g stages.Settling h = refl
any-flick p f g stages.Doorway h = refl
any-flick p f g stages.Waiting h = refl
any-flick p f g stages.Inside h = refl
any-flick p f g stages.Leaving h = refl

-- a step that adds an entry with this access and process adds the tried one
same_step : (s : Setup) (events : List Event) (e m : Entry) → IsTried s events e m → (flick : Bool) (made : Entry) → stepped s (past_of s events) e.process flick ≡ Some made → e.access ≡ made.access → made ≡ m
same_step s events e m t flick made is acc =
    let known = tried s events e m t in
    let again : stepped s (past_of s events) e.process (flick_in made.access) ≡ Some made =
    reported_again s (is_good s t.good) events e.process flick made (any-flick e.process (flick_in e.access) flick (stage e.process (past_of s events)) known.1) is in
    let both : Some made ≡ Some m = sym again ∙ ap (λ a. stepped s (past_of s events) e.process (flick_in a)) (sym acc) ∙ known.2 in
    cc

-- an entry that is not alike to the tried one is not made
not_made : (s : Setup) (events : List Event) (e m : Entry) → IsTried s events e m → (IsAlike e m → ⊥) → IsMade s (past_of s events) e → ⊥
not_made s events e m t wrong (flick, made, is, alike) = wrong (subst (IsAlike e) (same_step s events e m t flick made is alike.access) alike)

-- an entry that is not the tried one, and for which `event_in` finds no event, is of no event
not_of_event : (s : Setup) (events : List Event) (e m : Entry) → IsTried s events e m → (e ≡ m → ⊥) → event_in e ≡ None → IsOfEvent s (past_of s events) e → ⊥
not_of_event s events e m t wrong none (w, is) = by w (entry-accepted s past w e is).2
  where
    past : Past
    past = past_of s events

    other : (w : Event) → IsNoStep w → added s past w ≡ Some e → ⊥
    other w n h = let f : None ≡ Some w = sym none ∙ reports-it s past e w n h in cc

    by : (w : Event) → added s past w ≡ Some e → ⊥
    by (event.Call p c) h = other _ (calls p c) h
    by (event.Fail p) h = other _ (fails p) h
    by (event.Withdraw p) h = other _ (withdraws p) h
    by (event.Restart p) h = other _ (restarts p) h
    by (event.Step p flick) h = wrong (same_step s events e m t flick e (ap (λ q. stepped s past q flick) (step_is s past p flick e h).process ∙ h) refl)

-- no law after `Safe` precedes `Program`
none-before : (s : Setup) (past : Past) (e : Entry) (k : Law) → 0 < number_of k → number_of k < 1 → Keeps k s past e
none-before s past e law.Safe a b = absurd (omega (arith, a))
none-before s past e law.Program a b = absurd (omega (arith, b))
none-before s past e law.Unit a b = absurd (omega (arith, b))
none-before s past e law.Together a b = absurd (omega (arith, b))
none-before s past e law.Overtaken a b = absurd (omega (arith, b))
none-before s past e law.History a b = absurd (omega (arith, b))

pub breaks-program : (s : Setup) (past : Past) (e : Entry) → (KeepsProgram s past e → ⊥) → BreaksNext law.Program s past e
breaks-program s past e wrong = record { later = omega arith; broken = wrong; before = none-before s past e }

only-program : (s : Setup) (past : Past) (e : Entry) → KeepsProgram s past e → (k : Law) → 0 < number_of k → number_of k < 2 → Keeps k s past e
only-program s past e kept law.Safe a b = absurd (omega (arith, a))
only-program s past e kept law.Program a b = kept
only-program s past e kept law.Unit a b = absurd (omega (arith, b))
only-program s past e kept law.Together a b = absurd (omega (arith, b))
only-program s past e kept law.Overtaken a b = absurd (omega (arith, b))
only-program s past e kept law.History a b = absurd (omega (arith, b))

-- An entry whose step is refused, and that determines no other event.
pub refused_step : (s : Setup) → checked s ≡ Ok tt → (events : List Event) (e : Entry) (r : Refusal) → refused s (past_of s events) (event.Step e.process (flick_in e.access)) ≡ Some r → event_in e ≡ None →
    BreaksNext law.Program s (past_of s events) e
refused_step s good events e r wrong none = breaks-program s past e (λ kept. go (has reports_event e) kept.0 kept.1)
  where
    past : Past
    past = past_of s events

    -- the step would not be refused
    free : (flick : Bool) → e.process < s.processes → refused_at (event.Step e.process flick) (stage e.process past) ≡ None → ⊥
    free flick below ok = let f : Some r ≡ None = sym wrong ∙ here (nat_lt e.process s.processes) (not-less e.process s.processes below) (refused_at (event.Step e.process (flick_in e.access)) (stage e.process past)) (any-flick e.process flick (flick_in e.access) (stage e.process past) ok) in cc
      where
        here : (b : Bool) → b ≡ true → (o : Option Refusal) → o ≡ None → cond b (elim o as (λ _. Option Refusal) [ Some x ↦ Some x | None ↦ None ]) (Some NoProcess) ≡ None
        here true k None l = refl
        here true k (Some x) l = absurd (cc)
        here false k o l = absurd (cc)

    other : (w : Event) → IsNoStep w → added s past w ≡ Some e → ⊥
    other w n h = let f : None ≡ Some w = sym none ∙ reports-it s past e w n h in cc

    by : (w : Event) → refused_at w (stage (process_of w) past) ≡ None → added s past w ≡ Some e → e.process < s.processes → ⊥
    by (event.Call p c) ok h below = other _ (calls p c) h
    by (event.Fail p) ok h below = other _ (fails p) h
    by (event.Withdraw p) ok h below = other _ (withdraws p) h
    by (event.Restart p) ok h below = other _ (restarts p) h
    by (event.Step p flick) ok h below = free flick below (subst (λ q. refused_at (event.Step q flick) (stage q past) ≡ None) (sym (step_is s past p flick e h).process) ok)

    go : (b : Bool) → e.process < s.processes → elim b as (λ _. Type 0) [ true ↦ IsOfEvent s past e | false ↦ OwesAt (stage e.process past) s past e ] → ⊥
    go true below (w, is) = let a = entry-accepted s past w e is in by w a.1 a.2 below
    go false below h = free false below (owes s past e (stage e.process past) h false)

-- An entry that determines an event which is refused.
pub refused_event : (s : Setup) (past : Past) (e : Entry) (w : Event) (r : Refusal) → event_in e ≡ Some w → refused s past w ≡ Some r → has reports_event e ≡ true → BreaksNext law.Program s past e
refused_event s past e w r is wrong reports = breaks-program s past e (λ kept. go (has reports_event e) reports kept.1)
  where
    other : (v : Event) → IsNoStep v → added s past v ≡ Some e → entry_of s past v ≡ Some e → ⊥
    other v n h l =
        let both : Some v ≡ Some w = sym (reports-it s past e v n h) ∙ is in
        let same : v ≡ w = cc in
        let f : None ≡ Some e = sym (ap (λ o. elim o as (λ _. Option Entry) [ Some r ↦ None | None ↦ added s past w ]) wrong) ∙ ap (entry_of s past) (sym same) ∙ l in
        cc

    by : (v : Event) → added s past v ≡ Some e → entry_of s past v ≡ Some e → ⊥
    by (event.Call p c) h l = other _ (calls p c) h l
    by (event.Fail p) h l = other _ (fails p) h l
    by (event.Withdraw p) h l = other _ (withdraws p) h l
    by (event.Restart p) h l = other _ (restarts p) h l
    by (event.Step p flick) h l = let f : None ≡ Some w = sym (step-reports-none s past p flick e h) ∙ is in cc

    go : (b : Bool) → b ≡ true → elim b as (λ _. Type 0) [ true ↦ IsOfEvent s past e | false ↦ OwesAt (stage e.process past) s past e ] → ⊥
    go true k (v, l) = by v (entry-accepted s past v e l).2 l
    go false k h = true≢false (sym k)

-- An entry that is not alike to that of the tried step.
pub wrong_step : (s : Setup) (events : List Event) (e m : Entry) → IsTried s events e m → (IsAlike e m → ⊥) → has reports_event e ≡ false → (stage e.process (past_of s events) ≡ stages.Settling → ⊥) → BreaksNext law.Program s (past_of s events) e
wrong_step s events e m t wrong plain runs = breaks-program s past e (λ kept. go (has reports_event e) plain kept.1)
  where
    past : Past
    past = past_of s events

    go : (b : Bool) → b ≡ false → elim b as (λ _. Type 0) [ true ↦ IsOfEvent s past e | false ↦ OwesAt (stage e.process past) s past e ] → ⊥
    go true k h = true≢false k
    go false k h = not_made s events e m t wrong (makes s past e (stage e.process past) h (λ st. absurd (runs st)))

owed-settling : (s : Setup) (past : Past) (e : Entry) (x : Stage) → x ≡ stages.Settling → OwesAt x s past e
owed-settling s past e x h = subst (λ x. OwesAt x s past e) (sym h) tt

plain-program : (s : Setup) (past : Past) (e : Entry) → e.process < s.processes → has reports_event e ≡ false → OwesAt (stage e.process past) s past e → KeepsProgram s past e
plain-program s past e below plain owed = (below, subst (λ b. elim b as (λ _. Type 0) [ true ↦ IsOfEvent s past e | false ↦ OwesAt (stage e.process past) s past e ]) (sym plain) owed)

pub wrong_unit : (s : Setup) (events : List Event) (e m : Entry) → IsTried s events e m → (IsAlike e m → ⊥) → has reports_event e ≡ false → stage e.process (past_of s events) ≡ stages.Settling → BreaksNext law.Unit s (past_of s events) e
wrong_unit s events e m t wrong plain st = record {
  later = omega arith;
  broken = λ kept. not_made s events e m t wrong (kept st);
  before = only-program s past e (plain-program s past e (less e.process s.processes (tried s events e m t).0) plain (owed-settling s past e (stage e.process past) st));
}
  where
    past : Past
    past = past_of s events

-- An entry with the mark of an event, which is the entry of no event.
pub wrong_event : (s : Setup) (events : List Event) (e m : Entry) → IsTried s events e m → (e ≡ m → ⊥) → event_in e ≡ None → has reports_event e ≡ true → BreaksNext law.Program s (past_of s events) e
wrong_event s events e m t wrong none reports = breaks-program s past e (λ kept. go (has reports_event e) reports kept.1)
  where
    past : Past
    past = past_of s events

    go : (b : Bool) → b ≡ true → elim b as (λ _. Type 0) [ true ↦ IsOfEvent s past e | false ↦ OwesAt (stage e.process past) s past e ] → ⊥
    go true k h = not_of_event s events e m t wrong none h
    go false k h = true≢false (sym k)

-- An entry that is that of the tried step, except for positions.

any-placed : (k : ℕ) (ms : List Mark) → list_any is_entered (map (placed k) ms) ≡ list_any is_entered ms
any-placed k [] = refl
any-placed k (mark.Entered ∷ ms) = refl
any-placed k (mark.Taken i r ∷ ms) = any-placed k ms
any-placed k (_ ∷ ms) = any-placed k ms

same_entering : (e m : Entry) → IsAlike e m → has is_entered e ≡ has is_entered m
same_entering e m alike = sym (any-placed 0 e.marks) ∙ ap (list_any is_entered) alike.marks ∙ any-placed 0 m.marks

owed-made : (s : Setup) (past : Past) (e : Entry) (p : ℕ) (flick : Bool) (x : Stage) → refused_at (event.Step p flick) x ≡ None → IsMade s past e → OwesAt x s past e
owed-made s past e p flick stages.Idle h m = absurd (cc)
owed-made s past e p flick stages.Down h m = absurd (cc)
owed-made s past e p flick stages.Settling h m = tt
owed-made s past e p flick stages.Doorway h m = m
owed-made s past e p flick stages.Waiting h m = m
owed-made s past e p flick stages.Inside h m = m
owed-made s past e p flick stages.Leaving h m = m

all-but-history : (s : Setup) (past : Past) (e : Entry) → Keeps law.Program s past e → Keeps law.Unit s past e → Keeps law.Together s past e → Keeps law.Overtaken s past e → (k : Law) → 0 < number_of k → number_of k < 5 → Keeps k s past e
all-but-history s past e p u t o law.Safe a b = absurd (omega (arith, a))
all-but-history s past e p u t o law.Program a b = p
all-but-history s past e p u t o law.Unit a b = u
all-but-history s past e p u t o law.Together a b = t
all-but-history s past e p u t o law.Overtaken a b = o
all-but-history s past e p u t o law.History a b = absurd (omega (arith, b))

-- events in range, followed by a step, are in range
given-step : (s : Setup) (events : List Event) (p : ℕ) (flick : Bool) → AreGiven s events → AreGiven s (event.Step p flick ∷ events)
given-step s events p flick g = record { opening = g.opening; commands = g.commands }

pub wrong_place : (s : Setup) (events : List Event) (e m : Entry) → IsTried s events e m → IsAlike e m → has reports_event e ≡ false → (AreAt (length (history s (past_of s events))) e.marks → ⊥) → BreaksNext law.History s (past_of s events) e
wrong_place s events e m t alike plain wrong = record {
  later = omega arith;
  broken = λ kept. wrong (λ k r c. (kept k r c).0);
  before = all-but-history s past e
      (plain-program s past e (less e.process s.processes known.0) plain (owed-made s past e e.process (flick_in e.access) (stage e.process past) known.1 made))
      (λ st. made)
      (λ enters j inside. kept law.Together (sym (same_entering e m alike) ∙ enters) j inside ∙ sym alike.process)
      (λ enters j. subst (λ q. Rattle.model.specs.Doorways.is_ahead past j q ≡ false) (sym alike.process) (kept law.Overtaken (sym (same_entering e m alike) ∙ enters) j));
}
  where
    past : Past
    past = past_of s events

    known : (nat_lt e.process s.processes ≡ true) × (refused_at (event.Step e.process (flick_in e.access)) (stage e.process past) ≡ None) × (stepped s past e.process (flick_in e.access) ≡ Some m)
    known = tried s events e m t

    made : IsMade s past e
    made = (flick_in e.access, m, known.2, alike)

    kept : KeepsAll s past m
    kept = obeys s t.good events (event.Step e.process (flick_in e.access)) m (given-step s events e.process (flick_in e.access) t.given) t.adds

-- if its positions are right, it is that of the tried step
pub right_place : (s : Setup) (events : List Event) (e m : Entry) → IsTried s events e m → IsAlike e m → AreAt (length (history s (past_of s events))) e.marks → e ≡ m
right_place s events e m t alike at =
    let is : StepIs s (past_of s events) e.process m = step_is s (past_of s events) e.process (flick_in e.access) m (tried s events e m t).2 in
    let marks : e.marks ≡ m.marks = same_marks (length (history s (past_of s events))) e.marks m.marks is.rest at is.marks alike.marks in
    λ i. let x : Entry = record { process = alike.process i; access = alike.access i; marks = marks i } in x
