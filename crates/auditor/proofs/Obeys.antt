-- The entry of an event keeps each law.
use Rattle.std.proofs.Common.{◌≡◌, ℕ, ◌==◌, Bool, true, false, cond, List, ◌∷◌, Some, None, Ok, refl, sym, ap, subst, ◌∙◌, true≢false, eqb-true, fold}
use Rattle.plain_store.specs.{Setup, checked}
use Rattle.model.specs.{AreGiven, Entry, Event, Past, Stage, added, entry_of, has, inside, inside_after, past_of, process_of, refused_at, stage, stepped}
use Rattle.model.specs.declared.events.Event.TheVariants as event
use Rattle.model.specs.declared.stages.Stage.TheVariants as stages
use Rattle.model.proofs.Width.{IsGood, is_good}
use Rattle.model.proofs.World.{entry-accepted}
use Rattle.safe_monitor.specs.laws.{doing, is_inside}
use Rattle.safe_monitor.proofs.laws.FrameEvents.{Accepted, accepted}
use Rattle.safe_monitor.proofs.laws.FrameInside.{inside-is}
use Rattle.safe_monitor.proofs.laws.FrameMarks.{entered-is}
use Rattle.safe_monitor.proofs.laws.SafeRecords.{ends_as_it_may}
use Rattle.world.proofs.history_laws_proofs.MainTheorems.{alone, history_is_one, in_turn}
use Rattle.world.proofs.WorldShows.{past-after}
use Rattle.safe_monitor.specs.declared.verdicts.Law.TheVariants as law
use Rattle.auditor.specs.{IsMade, IsOfEvent, KeepsAll, KeepsProgram, KeepsUnit, KeepsTogether, OwesAt, reports_event}

-- an entry of a step is made by that step
pub made_by : (s : Setup) (past : Past) (e : Entry) (p : ℕ) (flick : Bool) → e.process ≡ p → stepped s past p flick ≡ Some e → IsMade s past e
made_by s past e p flick is h = (flick, e, ap (λ q. stepped s past q flick) is ∙ h, record { process = refl; access = refl; marks = refl })

marks_only : (e x : Entry) → Some x ≡ Some e → has reports_event x ≡ true → has reports_event e ≡ false → ⊥
marks_only e x h shown none = let is : x ≡ e = cc in true≢false (sym shown ∙ ap (has reports_event) is ∙ none)

-- the entry of a step that is not refused is owed
owed : (s : Setup) (past : Past) (e : Entry) (p : ℕ) (flick : Bool) (x : Stage) → refused_at (event.Step p flick) x ≡ None → IsMade s past e → OwesAt x s past e
owed s past e p flick stages.Idle h m = absurd (cc)
owed s past e p flick stages.Down h m = absurd (cc)
owed s past e p flick stages.Settling h m = tt
owed s past e p flick stages.Doorway h m = m
owed s past e p flick stages.Waiting h m = m
owed s past e p flick stages.Inside h m = m
owed s past e p flick stages.Leaving h m = m

program_kept : (s : Setup) → IsGood s → (events : List Event) (what : Event) (e : Entry) → entry_of s (past_of s events) what ≡ Some e → KeepsProgram s (past_of s events) e
program_kept s g events what e is = (acc.below, go (has reports_event e) refl)
  where
    past : Past
    past = past_of s events

    acc : Accepted s past what e
    acc = accepted s g events what e is

    by : (w : Event) → e.process ≡ process_of w → refused_at w (stage (process_of w) past) ≡ None → added s past w ≡ Some e → has reports_event e ≡ false → OwesAt (stage e.process past) s past e
    by (event.Call p c) i r h k = absurd (marks_only e _ h refl k)
    by (event.Fail p) i r h k = absurd (marks_only e _ h refl k)
    by (event.Withdraw p) i r h k = absurd (marks_only e _ h refl k)
    by (event.Restart p) i r h k = absurd (marks_only e _ h refl k)
    by (event.Step p flick) i r h k = subst (λ q. OwesAt (stage q past) s past e) (sym i) (owed s past e p flick (stage p past) r (made_by s past e p flick i h))

    go : (b : Bool) → has reports_event e ≡ b → elim b as (λ _. Type 0) [ true ↦ IsOfEvent s past e | false ↦ OwesAt (stage e.process past) s past e ]
    go true k = (what, is)
    go false k = let a = entry-accepted s past what e is in by what acc.process a.1 a.2 k

unit_kept : (s : Setup) → IsGood s → (events : List Event) (what : Event) (e : Entry) → entry_of s (past_of s events) what ≡ Some e → KeepsUnit s (past_of s events) e
unit_kept s g events what e is st = let a = entry-accepted s past what e is in by what (accepted s g events what e is).process a.1 a.2
  where
    past : Past
    past = past_of s events

    by : (w : Event) → e.process ≡ process_of w → refused_at w (stage (process_of w) past) ≡ None → added s past w ≡ Some e → IsMade s past e
    by (event.Call p c) i r h = let f : refused_at (event.Call p c) stages.Settling ≡ None = ap (refused_at (event.Call p c)) (sym (sym (ap (λ q. stage q past) i) ∙ st)) ∙ r in absurd (cc)
    by (event.Fail p) i r h = let f : refused_at (event.Fail p) stages.Settling ≡ None = ap (refused_at (event.Fail p)) (sym (sym (ap (λ q. stage q past) i) ∙ st)) ∙ r in absurd (cc)
    by (event.Withdraw p) i r h = let f : refused_at (event.Withdraw p) stages.Settling ≡ None = ap (refused_at (event.Withdraw p)) (sym (sym (ap (λ q. stage q past) i) ∙ st)) ∙ r in absurd (cc)
    by (event.Restart p) i r h = let f : refused_at (event.Restart p) stages.Settling ≡ None = ap (refused_at (event.Restart p)) (sym (sym (ap (λ q. stage q past) i) ∙ st)) ∙ r in absurd (cc)
    by (event.Step p flick) i r h = made_by s past e p flick i h

together_kept : (s : Setup) → checked s ≡ Ok tt → (events : List Event) (what : Event) (e : Entry) → entry_of s (past_of s events) what ≡ Some e → KeepsTogether (past_of s events) e
together_kept s good events what e is enters j in_past = go (e.process == j) refl
  where
    past : Past
    past = past_of s events

    g : IsGood s
    g = is_good s good

    after : past_of s (what ∷ events) ≡ e ∷ past
    after = past-after s events what e is

    inside_now : inside e.process (past_of s (what ∷ events)) ≡ true
    inside_now = inside-is s g (what ∷ events) e.process
        ∙ ap (λ l. is_inside (doing s e.process l)) after
        ∙ (entered-is s g events what e is enters).1

    go : (b : Bool) → (e.process == j) ≡ b → j ≡ e.process
    go true k = sym (eqb-true e.process j k)
    go false k = alone s good (what ∷ events) j e.process
        (ap (inside j) after ∙ ap (λ b. cond b (fold inside_after (inside j past) e.marks) (inside j past)) k ∙ in_past) inside_now

-- the entry of an event keeps all laws
pub obeys : (s : Setup) → checked s ≡ Ok tt → (events : List Event) (what : Event) (e : Entry) → AreGiven s (what ∷ events) → entry_of s (past_of s events) what ≡ Some e → KeepsAll s (past_of s events) e
obeys s good events what e given is law.Safe = λ a v acc how begun. ends_as_it_may s (past_of s events) what e is a v acc how
obeys s good events what e given is law.Program = program_kept s (is_good s good) events what e is
obeys s good events what e given is law.Unit = unit_kept s (is_good s good) events what e is
obeys s good events what e given is law.Together = together_kept s good events what e is
obeys s good events what e given is law.Overtaken = in_turn s good events what e is
obeys s good events what e given is law.History = history_is_one.taken s good events what e given is
