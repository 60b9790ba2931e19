-- The invariant holds of every past of a record: before the first entry, and with each entry that an event adds.
use Rattle.std.proofs.Common.{◌≡◌, ℕ, ◌<◌, Bool, true, false, List, [], ◌∷◌, Some, refl, sym, ap, ◌∙◌, arith}
use Rattle.std.proofs.lemmas.Bool.{false≢true}
use Rattle.model.specs.{Access, Entry, Event, Past, Place, access_at, entry_of, is_over, is_read, past-induction, past_of, place_after, value_of, valued}
use Rattle.plain_store.specs.{Command, Setup}
use Rattle.model.proofs.Width.{IsGood}
use Rattle.laws.specs.{Doing, Runs, call, runs, doing}
use Rattle.laws.proofs.Doings.{Step, calls, withdraws, fails, restarts, steps, closes_on}
use Rattle.laws.proofs.Invariant.{Inv}
use Rattle.laws.proofs.Frame.{doing-other, notes-other}
use Rattle.laws.proofs.FrameCells.{EntryBy}
use Rattle.laws.proofs.FrameSteps.{step_of, entry-by}
use Rattle.laws.proofs.FrameWires.{wires-others, touches-apart, answer-untouched}
use Rattle.laws.proofs.Moving.{Apart}
use Rattle.laws.proofs.ReadSteps.{AnswersTruly, read_keeps}
use Rattle.laws.proofs.Stepping.{At, call_keeps, withdrawal_keeps, failure_keeps, restart_keeps, write_keeps, closing_keeps}

-- before the first entry nothing is shown, and nothing was seen
inv_opens : (s : Setup) → Inv s []
inv_opens s = record {
  own = λ p below. record {
    past = record {
      announced_at_past = omega arith;
      held_at_past = omega arith;
      began_past = omega arith;
      ended_past = omega arith;
      since_past = omega arith;
      choosing_past = λ j. omega arith;
      asked_past = λ j. omega arith;
      let_past = λ j. omega arith;
    };
    whole = record { choosing = λ e. none e; ticket_whole = λ e. none e };
    senior = record { fits = λ e. none e; positive = λ e. none e; began_before = λ e. none e; from = λ e. none e; above = λ e. none e; held = λ e. e; passed = λ e. none e };
    corresponds = refl;
  };
  pair = λ r o rb ob ne. record { knows = record { doorway = λ e. none e; waiting = λ e. none e; early = λ e. none e; pass = λ e. none e }; clean = tt };
}
  where
    none : {X : Type 0} → false ≡ true → X
    none e = absurd (false≢true e)

-- an entry leaves all other processes as they were
apart : (s : Setup) (past : Past) (e : Entry) → EntryBy e.process e → Apart s past e.process e
apart s past e by = record {
  doing = λ q ne. doing-other s q e past (λ h. ne (sym h));
  notes = λ q ne. notes-other s q e past (λ h. ne (sym h));
  wires = λ q ne. wires-others s past e e.process q by ne;
  touches = λ o r op rp. touches-apart s past e e.process o r by op rp;
}

-- each step keeps the invariant
step_keeps : (s : Setup) → IsGood s → (past : Past) (e : Entry) → e.process < s.processes → EntryBy e.process e → AnswersTruly s past → Inv s past → (d : Doing) → doing s e.process past ≡ d → Step s past e.process e d (doing s e.process (e ∷ past)) → Inv s (e ∷ past)
step_keeps s g past e below by truly inv d does step = go step
  where
    at : (d' : Doing) → d ≡ d' → At s past e.process e d'
    at d' is = record { good = g; below = below; inv = inv; process = refl; apart = apart s past e by; does = does ∙ is }

    -- an access of its call, which is part of a read or of a write
    access_keeps : (command : Command) (number : ℕ) (place : Place) (flick : Bool)
        → let x : Access = valued s past flick (access_at (call s e.process command number) place.part place.run) in
        d ≡ Runs command number place → is_over place.part ≡ false → e.access ≡ Some x → doing s e.process (e ∷ past) ≡ runs command number (place_after (call s e.process command number) place (value_of x.how)) →
        (reads : Bool) → is_read place.part ≡ reads → Inv s (e ∷ past)
    access_keeps command number place flick was over made then true reads = read_keeps s past e.process e command number place.part place.run flick (at _ was) reads made truly then
    access_keeps command number place flick was over made then false writes = write_keeps s past e.process e command number place.part place.run flick (at _ was) writes over made then

    go : Step s past e.process e d (doing s e.process (e ∷ past)) → Inv s (e ∷ past)
    go (calls command number was none then) = call_keeps s past e.process e command number (at _ was) none then
    go (withdraws command number t w ws run was none then) = withdrawal_keeps s past e.process e command number t w ws run (at _ was) none then
    go (fails command number cl cut none then) = failure_keeps s past e.process e d command number cl (at d refl) cut none then
    go (restarts was none then) = restart_keeps s past e.process e (at _ was) none then
    go (steps command number place a flick was over access is then) =
        access_keeps command number place flick was over (access ∙ ap Some is) (then ∙ ap (λ (a : Access). runs command number (place_after (call s e.process command number) place (value_of a.how))) is) (is_read place.part) refl
    go (closes_on command number place flick n was next access then) = closing_keeps s past e.process e command number place flick n (at _ was) next access then

-- every event keeps the invariant, and so every past of a record has it
abbrev Holds : Setup → Past → Type 0
Holds s past = IsGood s → Inv s past

pub inv_of : (s : Setup) → IsGood s → (events : List Event) → Inv s (past_of s events)
inv_of s g events = past-induction Holds s (λ g. inv_opens s) more events g
  where
    more : (events : List Event) (what : Event) (e : Entry) → entry_of s (past_of s events) what ≡ Some e → Holds s (past_of s events) → Holds s (e ∷ past_of s events)
    more events what e h ih g =
        let step = step_of s g events what e h in
        step_keeps s g (past_of s events) e step.1 (entry-by s g events what e h) (answer-untouched s g events) (ih g) _ refl step.2
