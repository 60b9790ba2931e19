-- The invariant of the data holds of every past of a record whose values are of their types: before the first entry, and with each entry that an event adds.
use Rattle.std.proofs.Common.{◌≡◌, ℕ, ◌<◌, Bool, true, false, List, [], ◌∷◌, length, map, Option, Some, None, Ok, refl, sym, ap, subst, ◌∙◌, inl, inr}
use Rattle.std.proofs.lemmas.Bool.{false≢true}
use Rattle.model.specs.{Access, AreGiven, AsksCommit, AsksImage, AsksStamp, Clears, Closing, Entry, Event, Part, Past, Place, Settles, Waits, WritesCommit, WritesImage, WritesStamp, access_at, entry_of, history, is_fresh, marks_of, past_of, place_after, placed, value_of, valued}
use Rattle.plain_store.specs.{Command, Setup, checked}
use Rattle.model.proofs.Width.{IsGood, is_good}
use Rattle.laws.proofs.Always.{inv_of}
use Rattle.laws.specs.{Doing, Rests, Lies, Runs, Closes, call, doing, runs, is_inside, is_inside_at}
use Rattle.laws.proofs.Frame.{Happens, a_call, a_withdrawal, a_failure, a_restart, a_step, a_closing}
use Rattle.laws.proofs.FrameEvents.{accepted}
use Rattle.history_laws.proofs.Cutting.{failure_keeps}
use Rattle.history_laws.proofs.DataReadSteps.{is_data_read}
use Rattle.history_laws.proofs.Entering.{idle-keeps}
use Rattle.history_laws.proofs.Given.{given_before, given_of}
use Rattle.history_laws.proofs.Kept.{Data}
use Rattle.history_laws.proofs.Lifting.{Keeps, lifts}
use Rattle.history_laws.proofs.Opening.{opens}
use Rattle.history_laws.proofs.Outside.{is_settling_inside, is_working, idle-untouched}
use Rattle.history_laws.proofs.ReadEntries.{reads_keep}
use Rattle.history_laws.proofs.SettleSteps.{settling-keeps}
use Rattle.history_laws.proofs.Sound.{IsGivenTo}
use Rattle.history_laws.proofs.WriteSteps.{is_data_write, write-keeps}

-- a process that works on versions is inside
working_inside : (d : Doing) → is_working d ≡ true → is_inside d ≡ true
working_inside Rests h = absurd (false≢true h)
working_inside Lies h = absurd (false≢true h)
working_inside (Runs command number at) h = go at.part h
  where
    go : (x : Part) → is_inside_at x false ≡ true → is_inside_at x (is_fresh at.run) ≡ true
    go (Clears a) h = absurd (false≢true h)
    go (AsksCommit k ks vs) h = refl
    go (AsksStamp k ks vs b) h = refl
    go (AsksImage vs) h = refl
    go (WritesImage vs st) h = refl
    go (WritesStamp vs st) h = refl
    go (WritesCommit vs st) h = refl
    go _ h = absurd (false≢true h)
working_inside (Closes command number at) h = go at h
  where
    go : (at : Closing) → is_settling_inside at ≡ true → is_inside (Closes command number at) ≡ true
    go (Settles f bit begun taken is t) h = h
    go _ h = absurd (false≢true h)

-- such a process reads versions, or writes one
reads_or_writes : (x : Part) → is_inside_at x false ≡ true → is_data_read x ≡ false → is_data_write x ≡ true
reads_or_writes (WritesImage vs st) inside not_read = refl
reads_or_writes (WritesStamp vs st) inside not_read = refl
reads_or_writes (WritesCommit vs st) inside not_read = refl
reads_or_writes (AsksCommit k ks vs) inside not_read = absurd (false≢true (sym not_read))
reads_or_writes (AsksStamp k ks vs b) inside not_read = absurd (false≢true (sym not_read))
reads_or_writes (AsksImage vs) inside not_read = absurd (false≢true (sym not_read))
reads_or_writes _ inside not_read = absurd (false≢true inside)

-- Every entry of a process that works on versions keeps the data: a read, a write, a settling, or a failure.
working_keeps : (s : Setup) → IsGood s → (events : List Event) (what : Event) (e : Entry) → let past : Past = past_of s events in
    entry_of s past what ≡ Some e → is_working (doing s e.process past) ≡ true → Data s past → Keeps s past e
working_keeps s g events what e h works known = go (accepted s g events what e h).happens
  where
    past : Past
    past = past_of s events

    p : ℕ
    p = e.process

    d : Doing
    d = doing s p past

    works_as : (x : Doing) → d ≡ x → is_working x ≡ true
    works_as x is = sym (ap is_working is) ∙ works

    stepped : (command : Command) (number : ℕ) (at : Place) (a : Access) (flick : Bool) → d ≡ Runs command number at → e.access ≡ Some a →
        a ≡ valued s past flick (access_at (call s p command number) at.part at.run) → e.marks ≡ map (placed (length (history s past))) (marks_of (call s p command number) at (value_of a.how)) →
        doing s p (e ∷ past) ≡ runs command number (place_after (call s p command number) at (value_of a.how)) → (reads : Bool) → is_data_read at.part ≡ reads → Keeps s past e
    stepped command number at a flick does access made marks to true is = reads_keep s g events what e h command number at.part at.run flick does (access ∙ ap Some made)
        (marks ∙ ap (λ (a : Access). map (placed (length (history s past))) (marks_of (call s p command number) at (value_of a.how))) made)
        (to ∙ ap (λ (a : Access). runs command number (place_after (call s p command number) at (value_of a.how))) made) is known
    stepped command number at a flick does access made marks to false is = write-keeps s g events what e h command number at does (reads_or_writes at.part (works_as (Runs command number at) does) is) a access known

    closed : (command : Command) (number : ℕ) (at : Closing) → d ≡ Closes command number at → is_settling_inside at ≡ true → Keeps s past e
    closed command number (Settles f bit begun taken true t) does inside = settling-keeps s g events what e h command number f bit begun taken t does known
    closed command number _ does inside = absurd (false≢true inside)

    go : Happens s past p e d (doing s p (e ∷ past)) → Keeps s past e
    go (a_call command number does none marks to) = absurd (false≢true (works_as Rests does))
    go (a_withdrawal command number t w ws run does none marks to) = absurd (false≢true (works_as (Runs command number (record { part = Waits t w ws; run = run })) does))
    go (a_failure command number may none marks to) = failure_keeps s g events what e h command number may none marks to works known
    go (a_restart does none marks to) = absurd (false≢true (works_as Lies does))
    go (a_step command number at a flick does over access made marks to) = stepped command number at a flick does access made marks to (is_data_read at.part) refl
    go (a_closing command number at flick n does next access ended marks to) = closed command number at does (works_as (Closes command number at) does)

-- Every entry keeps it.
entry_keeps : (s : Setup) → IsGood s → (events : List Event) (what : Event) (e : Entry) → let past : Past = past_of s events in
    entry_of s past what ≡ Some e → ((p : ℕ) → p < s.processes → IsGivenTo (doing s p (e ∷ past))) → Data s past → Data s (e ∷ past)
entry_keeps s g events what e h given known = go (is_working (doing s e.process (past_of s events))) refl
  where
    past : Past
    past = past_of s events

    below : e.process < s.processes
    below = (accepted s g events what e h).below

    go : (b : Bool) → is_working (doing s e.process past) ≡ b → Data s (e ∷ past)
    go true works = lifts s past e (inv_of s g events) below (inl (working_inside (doing s e.process past) works)) given known (working_keeps s g events what e h works known)
    go false idle = lifts s past e (inv_of s g events) below (inr (idle-untouched s g events what e h idle)) given known (idle-keeps s g events what e h idle known)

-- The invariant holds of every past.
pub data_of : (s : Setup) → checked s ≡ Ok tt → (events : List Event) → AreGiven s events → Data s (past_of s events)
data_of s good [] given = opens s good [] given
data_of s good (what ∷ events) given = go (entry_of s (past_of s events) what) refl (data_of s good events (given_before s what events given))
  where
    past : Past
    past = past_of s events

    go : (x : Option Entry) → entry_of s past what ≡ x → Data s past → Data s (elim x as (λ _. Past) [ None ↦ past | Some e ↦ e ∷ past ])
    go None h before = before
    go (Some e) h before = entry_keeps s (is_good s good) events what e h
        (λ p below. subst (λ (x : Past). IsGivenTo (doing s p x)) (ap (λ x. elim x as (λ _. Past) [ None ↦ past | Some e ↦ e ∷ past ]) h) (given_of s (is_good s good) (what ∷ events) given p below)) before
