-- Each entry's marks, and the knowledge of each process from the entries of its present call.
use Rattle.std.proofs.Common.{◌≡◌, ◌≢◌, ℕ, true, false, List, [], ◌∷◌, Some, length, refl, sym, ap, subst, arith}
use Rattle.std.specs.List.{list_any}
use Rattle.plain_store.specs.{Reply, Setup}
use Rattle.model.specs.{Entry, Event, Mark, Past, all_takings, ends_span, entry_of, has, history, is_called, is_failed, own, past_of, since, value_of}
use Rattle.model.specs.declared.marks.Mark.TheVariants.{Withdrew, Restarted}
use Rattle.model.proofs.Width.{IsGood}
use Rattle.laws.proofs.AtPlaces.{own-induction, either}
use Rattle.laws.specs.{Doing, Rests, Lies, call, doing}
use Rattle.laws.proofs.Doings.{Step}
use Rattle.laws.proofs.Frame.{Happens, a_call, a_withdrawal, a_failure, a_restart, a_step, a_closing, doing-other, own-other, own-own}
use Rattle.laws.proofs.FrameEvents.{accepted}
use Rattle.laws.proofs.FrameSteps.{step_of}
use Rattle.history_laws.proofs.ClosingMarks.{closing-reports, failure-reports}
use Rattle.history_laws.proofs.PartMarks.{step-reports}
use Rattle.history_laws.proofs.Took.{TookBy, Reported, Reports, Says, begins, goes, silent-reports}

reports-of : (taken : List (ℕ × Reply)) (d d' x x' : Doing) (ms ns : List Mark) → d ≡ x → d' ≡ x' → ms ≡ ns → Reports taken x x' ns → Reports taken d d' ms
reports-of taken d d' x x' ms ns i k m t = subst (Reports taken d d') (sym m) (subst (λ y. Reports taken y d' ns) (sym i) (subst (λ y. Reports taken x y ns) (sym k) t))

-- by what an accepted event is for its process
happens-says : (s : Setup) (past : Past) (p : ℕ) (e : Entry) (d d' : Doing) (taken : List (ℕ × Reply)) → Happens s past p e d d' → Step s past p e d d' → TookBy d taken → Says taken d d' e.marks
happens-says s past p e d d' taken (a_call command number i a m k) step h = begins command m (subst (λ x. TookBy x []) (sym k) refl)
happens-says s past p e d d' taken (a_withdrawal command number t w ws run i a m k) step h = goes (reports-of taken d d' _ _ e.marks (Withdrew ∷ []) i k m
    (silent-reports taken _ _ (Withdrew ∷ []) (record { taken = refl; called = refl; failed = refl; ended = refl }) (subst (λ x. TookBy x taken) i h) (λ x. refl) (λ x. refl)))
happens-says s past p e d d' taken (a_failure command number may a m k) step h =
    goes (subst (Reports taken d d') (sym m) (failure-reports s past p e d d' command number (call s p command number) (own p past) taken step a k h))
happens-says s past p e d d' taken (a_restart i a m k) step h = goes (reports-of taken d d' Lies Rests e.marks (Restarted ∷ []) i k m
    (silent-reports taken Lies Rests (Restarted ∷ []) (record { taken = refl; called = refl; failed = refl; ended = refl }) (subst (λ x. TookBy x taken) i h) (λ x. cc) (λ x. cc)))
happens-says s past p e d d' taken (a_step command number at a flick i o is made m k) step h = goes (reports-of taken d d' _ _ e.marks _ i k m
    (step-reports (call s p command number) command number at (value_of a.how) (length (history s past)) taken o (subst (λ x. TookBy x taken) i h)))
happens-says s past p e d d' taken (a_closing command number at flick n i next is v m k) step h = goes (reports-of taken d d' _ _ e.marks _ i k m
    (closing-reports (call s p command number) command number (length (history s past)) at flick n taken next (subst (λ x. TookBy x taken) i h)))

-- The knowledge extends to one more entry.

pub since-called : (e : Entry) (mine : Past) → has is_called e ≡ true → since is_called (e ∷ mine) ≡ []
since-called e mine h = ap (λ b. elim b as (λ _. Past) [ true ↦ [] | false ↦ e ∷ since is_called mine ]) h

pub since-uncalled : (e : Entry) (mine : Past) → has is_called e ≡ false → since is_called (e ∷ mine) ≡ e ∷ since is_called mine
since-uncalled e mine h = ap (λ b. elim b as (λ _. Past) [ true ↦ [] | false ↦ e ∷ since is_called mine ]) h

goes-on : (d d' : Doing) (mine : Past) (e : Entry) → Reported d (since is_called mine) → Says (all_takings (since is_called mine)) d d' e.marks → Reported d' (since is_called (e ∷ mine))
goes-on d d' mine e t (begins command m h) = subst (Reported d') (sym (since-called e mine (ap (list_any is_called) m))) (record { took = h; uncut = λ x. refl; unended = λ x. refl })
goes-on d d' mine e t (goes x) = subst (Reported d') (sym (since-uncalled e mine x.uncalled)) (record {
  took = x.took;
  uncut = λ m. either (has is_failed e) (list_any (has is_failed) (since is_called mine)) (x.uncut m).0 (t.uncut (x.uncut m).1);
  unended = λ m. either (has ends_span e) (list_any (has ends_span) (since is_called mine)) (x.unended m).0 (t.unended (x.unended m).1);
})

-- the knowledge of a process of a past
abbrev pub ReportedOf : Setup → Past → ℕ → Type 0
ReportedOf s past p = Reported (doing s p past) (since is_called (own p past))

-- the marks of an entry that is added to a past
abbrev pub SaysAfter : Setup → Past → Entry → Type 0
SaysAfter s past e = Says (all_takings (since is_called (own e.process past))) (doing s e.process past) (doing s e.process (e ∷ past)) e.marks

says-from : (s : Setup) → IsGood s → (events : List Event) (event : Event) (e : Entry) → entry_of s (past_of s events) event ≡ Some e → ReportedOf s (past_of s events) e.process → SaysAfter s (past_of s events) e
says-from s g events event e is t =
    let past : Past = past_of s events in
    happens-says s past e.process e (doing s e.process past) (doing s e.process (e ∷ past)) (all_takings (since is_called (own e.process past)))
    (accepted s g events event e is).happens (step_of s g events event e is).2 t.took

-- The knowledge of every process of every record.
pub reported : (s : Setup) → IsGood s → (events : List Event) (p : ℕ) → ReportedOf s (past_of s events) p
reported s g = own-induction s (ReportedOf s) none others on
  where
    none : (p : ℕ) → ReportedOf s [] p
    none p = record { took = omega arith; uncut = λ x. cc; unended = λ x. cc }

    others : (past : Past) (e : Entry) (p : ℕ) → e.process ≢ p → ReportedOf s past p → ReportedOf s (e ∷ past) p
    others past e p apart h =
        subst (λ (m : Past). Reported (doing s p (e ∷ past)) (since is_called m)) (sym (own-other p e past apart))
        (subst (λ (d : Doing). Reported d (since is_called (own p past))) (sym (doing-other s p e past apart)) h)

    on : (events : List Event) (event : Event) (e : Entry) → entry_of s (past_of s events) event ≡ Some e → ReportedOf s (past_of s events) e.process → ReportedOf s (e ∷ past_of s events) e.process
    on events event e is h =
        let past : Past = past_of s events in
        subst (λ (m : Past). Reported (doing s e.process (e ∷ past)) (since is_called m)) (sym (own-own e.process e past refl))
        (goes-on (doing s e.process past) (doing s e.process (e ∷ past)) (own e.process past) e h (says-from s g events event e is h))

-- The marks of every entry.
pub says : (s : Setup) → IsGood s → (events : List Event) (event : Event) (e : Entry) → entry_of s (past_of s events) event ≡ Some e → SaysAfter s (past_of s events) e
says s g events event e is = says-from s g events event e is (reported s g events e.process)
