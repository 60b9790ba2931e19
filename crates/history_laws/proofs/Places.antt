-- The places of the commands that are taken, and how the history grows.
use Rattle.std.proofs.Common.{◌≡◌, ℕ, zero, suc, ◌<◌, List, [], ◌∷◌, ◌++◌, Some, None, length, map, refl, sym, ap, subst, arith, append-nil, Contains}
use Rattle.plain_store.specs.{Reply, Setup}
use Rattle.model.specs.{Entry, Event, Mark, Past, Taken, entry_of, history, marks_of, past_of, placed, reply_taken, takings, value_of}
use Rattle.model.specs.declared.marks.Mark.TheVariants as mark
use Rattle.model.proofs.Width.{IsGood}
use Rattle.laws.specs.{Doing, call, doing}
use Rattle.laws.proofs.Frame.{Happens, a_call, a_withdrawal, a_failure, a_restart, a_step, a_closing}
use Rattle.laws.proofs.FrameEvents.{accepted}
use Rattle.history_laws.specs.{taken_with}
use Rattle.history_laws.proofs.Took.{Says, begins, goes}
use Rattle.history_laws.proofs.Reported.{says}

-- the marks of an entry have their place in the history
marks-placed : (s : Setup) (past : Past) (p : ℕ) (e : Entry) (d d' : Doing) → Happens s past p e d d' → (ms : List Mark) × (e.marks ≡ map (placed (length (history s past))) ms)
marks-placed s past p e d d' (a_call command number i a m k) = (mark.Called command ∷ [], m)
marks-placed s past p e d d' (a_withdrawal command number t w ws run i a m k) = (mark.Withdrew ∷ [], m)
marks-placed s past p e d d' (a_failure command number may a m k) = (mark.Failed ∷ [], m)
marks-placed s past p e d d' (a_restart i a m k) = (mark.Restarted ∷ [], m)
marks-placed s past p e d d' (a_step command number at a flick i o is made m k) = (marks_of (call s p command number) at (value_of a.how), m)
marks-placed s past p e d d' (a_closing command number at flick n i next is v m k) = (n.marks, m)

placed-at : (n : ℕ) (ms : List Mark) (k : ℕ) (r : Reply) → Contains (takings (map (placed n) ms)) (k, r) → k ≡ n
placed-at n [] k r (i, l, e) = absurd (omega (arith, l))
placed-at n (mark.Taken j q ∷ ms) k r (zero, l, e) = sym (ap (λ (t : ℕ × Reply). t.0) e)
placed-at n (mark.Taken j q ∷ ms) k r (suc i, l, e) = placed-at n ms k r (i, omega (arith, l), e)
placed-at n (_ ∷ ms) k r h = placed-at n ms k r h

-- The place of a command that is taken is the number of commands taken before.
pub at_its_place : (s : Setup) → IsGood s → (events : List Event) (event : Event) (e : Entry) → entry_of s (past_of s events) event ≡ Some e →
    (k : ℕ) (r : Reply) → Contains (takings e.marks) (k, r) → k ≡ length (history s (past_of s events))
at_its_place s g events event e is k r h =
    let past : Past = past_of s events in
    let m = marks-placed s past e.process e (doing s e.process past) (doing s e.process (e ∷ past)) (accepted s g events event e is).happens in
    placed-at (length (history s past)) m.0 k r (subst (λ l. Contains (takings l) (k, r)) m.1 h)

-- an entry takes at most one command
one_taken : (taken : List (ℕ × Reply)) (d d' : Doing) (ms : List Mark) → Says taken d d' ms → length (takings ms) < 2
one_taken taken d d' ms (begins command m h) = let n : length (takings ms) ≡ 0 = ap (λ l. length (takings l)) m in omega (arith, n)
one_taken taken d d' ms (goes t) = t.one

grows-by : (to : Reply → Taken) (before : List Taken) (ms : List Mark) → length (takings ms) < 2 →
    elim (reply_taken ms) as (λ _. List Taken) [ None ↦ before | Some r ↦ before ++ to r ∷ [] ] ≡ before ++ map (λ (t : ℕ × Reply). to t.1) (takings ms)
grows-by to before [] h = sym (append-nil before)
grows-by to before (mark.Taken k r ∷ ms) h = go (takings ms) h
  where
    go : (more : List (ℕ × Reply)) → suc (length more) < 2 → before ++ to r ∷ [] ≡ before ++ to r ∷ map (λ (t : ℕ × Reply). to t.1) more
    go [] h = refl
    go (t ∷ more) h = absurd (omega (arith, h))
grows-by to before (_ ∷ ms) h = grows-by to before ms h

-- An entry adds to the history what its marks take.
pub grows_by_the_taken : (s : Setup) → IsGood s → (events : List Event) (event : Event) (e : Entry) → entry_of s (past_of s events) event ≡ Some e →
    history s (e ∷ past_of s events) ≡ history s (past_of s events) ++ map (λ (t : ℕ × Reply). taken_with s (past_of s events) e t.1) (takings e.marks)
grows_by_the_taken s g events event e is =
    grows-by (taken_with s (past_of s events) e) (history s (past_of s events)) e.marks (one_taken _ _ _ e.marks (says s g events event e is))
