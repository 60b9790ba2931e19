-- The answers of calls, over all their entries. Store answers are in the history.
use Rattle.std.proofs.Common.{◌≡◌, ◌≢◌, ℕ, zero, suc, ◌+◌, ◌<◌, ◌==◌, ◌||◌, Bool, true, false, cond, List, [], ◌∷◌, ◌++◌, Option, None, Some, Ok, length, slice_get, take, refl, sym, ap, subst, ◌∙◌, arith, Contains}
use Rattle.std.specs.List.{list_any}
use Rattle.std.proofs.lemmas.Bool.{or_right}
use Rattle.std.proofs.lemmas.Option.{slice_get_within}
use Rattle.plain_store.specs.{Answer, Command, Reply, Setup, checked, reply_to}
use Rattle.plain_store.specs.declared.Answer.TheVariants as answer
use Rattle.model.specs.{AreGiven, Call, Entry, Event, IsAnswerTo, Mark, Past, IsInHistory, Taken, TakenInHistory, all_takings, call_of, called_in, caller, ends_span, entries_of_call, entry_of, has, history, is_called, last_call, last_command, own, past_of, reply_taken, since, store_after, takings, takings_of_call}
use Rattle.model.specs.declared.marks.Mark.TheVariants as mark
use Rattle.model.specs.declared.marks.Mark.TheVariants.{Answered}
use Rattle.model.proofs.Singles.{get-append, get-remaining}
use Rattle.model.proofs.Width.{IsGood, is_good}
use Rattle.laws.proofs.AtPlaces.{own-induction}
use Rattle.laws.proofs.Frame.{own-other, own-own}
use Rattle.history_laws.proofs.CallSpans.{Older, older, whole, OneMore, outside, belongs, one_more, since-whole}
use Rattle.history_laws.proofs.CountedChanges.{history-none, history-takes, taken_at}
use Rattle.history_laws.proofs.HistoryItems.{HasItsReply, calls-uncalled, each_has_its_reply}
use Rattle.history_laws.proofs.Order.{answers_report, in-append, keeps_takings}
use Rattle.history_laws.proofs.Places.{at_its_place}
use Rattle.history_laws.proofs.Reported.{SaysAfter, says, since-called, since-uncalled}
use Rattle.history_laws.proofs.Took.{EachAnswer, answer-at, begins, goes}

-- A test finds what a list has.
any_at : {X : Type 0} (test : X → Bool) (xs : List X) (x : X) → Contains xs x → test x ≡ true → list_any test xs ≡ true
any_at test [] x (k, l, e) h = absurd (omega (arith, l))
any_at test (y ∷ xs) x (zero, l, e) h = ap (λ b. b || list_any test xs) (ap test e ∙ h)
any_at test (y ∷ xs) x (suc k, l, e) h = or_right (test y) (list_any test xs) (any_at test xs x (k, omega (arith, l), e) h)

-- Calls take what they are answered.

-- Once a call is answered it takes nothing more: what it took in all its entries is what it was answered.
pub answered_whole : (s : Setup) → IsGood s → (later : Past) (events : List Event) (x answering : Entry) (earlier : Past) (a : Answer) → past_of s events ≡ later ++ x ∷ earlier → has is_called x ≡ true →
    Contains (entries_of_call x.process later) answering → Contains answering.marks (Answered a) → IsAnswerTo a (takings_of_call x.process later)
answered_whole s g [] events x y earlier a h c (k, l, e) reported = absurd (omega (arith, l))
answered_whole s g (e ∷ later) events x y earlier a h c among reported = go (answered_whole s g later o.events x y earlier a o.past c) (one_more p e later)
  where
    p : ℕ
    p = x.process

    o : Older s e (later ++ x ∷ earlier)
    o = older s events e (later ++ x ∷ earlier) h

    Reports : Past → Type 0
    Reports call = IsAnswerTo a (all_takings call)

    -- the answer was among its entries before: the call takes no more
    as_reported : Contains (entries_of_call p later) y → Reports (entries_of_call p later) → Reports (entries_of_call p (e ∷ later))
    as_reported there so_far =
        let ended = any_at (has ends_span) (entries_of_call p later) y there (any_at ends_span y.marks (Answered a) reported refl) in
        subst (IsAnswerTo a) (sym (keeps_takings s g (e ∷ []) events later x earlier h c ended).1) so_far

    -- the new entry has it
    answers : e.process ≡ p → list_any (has is_called) (own p (e ∷ later)) ≡ false → Contains e.marks (Answered a) → Reports (entries_of_call p (e ∷ later))
    answers i none here = subst Reports
        ((λ j. since is_called (own (i j) (e ∷ o.past j))) ∙ since-whole (e ∷ later) x earlier c none ∙ sym (whole (own p (e ∷ later)) none))
        (answers_report s g o.events o.event e o.added a here)

    go : (Contains (entries_of_call p later) y → Contains y.marks (Answered a) → Reports (entries_of_call p later)) → OneMore p e later → Reports (entries_of_call p (e ∷ later))
    go ih (outside k) = subst Reports (sym k) (ih (subst (λ (call : Past). Contains call y) k among) reported)
    go ih (belongs i mine none n) = at (subst (λ (call : Past). Contains call y) (whole (own p (e ∷ later)) none ∙ mine) among)
      where
        at : Contains (e ∷ own p later) y → Reports (entries_of_call p (e ∷ later))
        at (zero, l, is) = answers i none (subst (λ (f : Entry). Contains f.marks (Answered a)) (sym is) reported)
        at (suc k, l, is) =
            let there : Contains (entries_of_call p later) y = subst (λ (call : Past). Contains call y) (sym (whole (own p later) n)) (k, omega (arith, l), is) in
            as_reported there (ih there reported)

-- A command that a call took is in the history.

-- a command of a call, taken with this reply
abbrev with_reply : Call → Reply → Taken
with_reply c r = record { process = c.process; command = c.command; reply = r; number = c.number }

-- a command that the present call of a process took is at its place
abbrev IsAsReported : Setup → Past → ℕ → Type 0
IsAsReported s past p = (k : ℕ) (r : Reply) → Contains (all_takings (since is_called (own p past))) (k, r) → slice_get (history s past) k ≡ Some (with_reply (last_call s p (own p past)) r)

-- the history keeps what it has
still : (s : Setup) (past : Past) (e : Entry) (k : ℕ) (t : Taken) → slice_get (history s past) k ≡ Some t → slice_get (history s (e ∷ past)) k ≡ Some t
still s past e k t at = go (reply_taken e.marks) refl
  where
    go : (o : Option Reply) → reply_taken e.marks ≡ o → slice_get (history s (e ∷ past)) k ≡ Some t
    go None r = ap (λ h. slice_get h k) (history-none s past e r) ∙ at
    go (Some q) r = ap (λ h. slice_get h k) (history-takes s past e q r) ∙ get-remaining (history s past) (taken_at s past e q ∷ []) k (slice_get_within (history s past) k t at) ∙ at

-- the reply that an entry takes is in its one mark that takes a command
reply_of : (ms : List Mark) (k : ℕ) (r : Reply) → length (takings ms) < 2 → Contains (takings ms) (k, r) → reply_taken ms ≡ Some r
reply_of [] k r one (i, l, e) = absurd (omega (arith, l))
reply_of (mark.Taken j q ∷ ms) k r one (zero, l, e) = ap (λ (t : ℕ × Reply). Some t.1) e
reply_of (mark.Taken j q ∷ ms) k r one (suc i, l, e) = absurd (omega (arith, one, l))
reply_of (_ ∷ ms) k r one h = reply_of ms k r one h

at_the_end : (taken : List Taken) (t : Taken) (k : ℕ) → k ≡ length taken → slice_get (taken ++ t ∷ []) k ≡ Some t
at_the_end taken t k is =
    let last : k ≡ length taken + 0 = omega (arith, is) in
    ap (slice_get (taken ++ t ∷ [])) last ∙ get-append taken (t ∷ []) 0

-- if no call begins, the last call is the one before
no_command : (ms : List Mark) → list_any is_called ms ≡ false → called_in ms ≡ None
no_command [] h = refl
no_command (mark.Called command ∷ ms) h = cc
no_command (_ ∷ ms) h = no_command ms h

call-uncalled : (s : Setup) (p : ℕ) (e : Entry) (mine : Past) → has is_called e ≡ false → last_call s p (e ∷ mine) ≡ last_call s p mine
call-uncalled s p e mine h = λ i. record {
  setup = s;
  process = p;
  command = elim (no_command e.marks h i) as (λ _. Command) [ None ↦ last_command mine | Some command ↦ command ];
  number = cond (s.version == 2) (calls-uncalled e mine h i) 0;
}

as_reported : (s : Setup) → IsGood s → (events : List Event) (p : ℕ) → IsAsReported s (past_of s events) p
as_reported s g = own-induction s (IsAsReported s) none others own_entry
  where
    none : (p : ℕ) → IsAsReported s [] p
    none p k r (i, l, e) = absurd (omega (arith, l))

    others : (past : Past) (e : Entry) (p : ℕ) → e.process ≢ p → IsAsReported s past p → IsAsReported s (e ∷ past) p
    others past e p apart h k r =
        subst (λ (mine : Past). Contains (all_takings (since is_called mine)) (k, r) → slice_get (history s (e ∷ past)) k ≡ Some (with_reply (last_call s p mine) r)) (sym (own-other p e past apart))
        (λ took. still s past e k (with_reply (last_call s p (own p past)) r) (h k r took))

    own_entry : (events : List Event) (event : Event) (e : Entry) → entry_of s (past_of s events) event ≡ Some e → IsAsReported s (past_of s events) e.process → IsAsReported s (e ∷ past_of s events) e.process
    own_entry events event e is h k r =
        subst (λ (all : Past). Contains (all_takings (since is_called all)) (k, r) → slice_get (history s (e ∷ past)) k ≡ Some (with_reply (last_call s p all) r)) (sym (own-own p e past refl)) (go (says s g events event e is))
      where
        p : ℕ
        p = e.process

        past : Past
        past = past_of s events

        mine : Past
        mine = own p past

        Here : Type 0
        Here = slice_get (history s (e ∷ past)) k ≡ Some (with_reply (last_call s p mine) r)

        now : length (takings e.marks) < 2 → Contains (takings e.marks) (k, r) → Here
        now one took =
            ap (λ h. slice_get h k) (history-takes s past e r (reply_of e.marks k r one took))
            ∙ at_the_end (history s past) (taken_at s past e r) k (at_its_place s g events event e is k r took)

        go : SaysAfter s past e → Contains (all_takings (since is_called (e ∷ mine))) (k, r) → slice_get (history s (e ∷ past)) k ≡ Some (with_reply (last_call s p (e ∷ mine)) r)
        go (begins command m t) took = let none = ap all_takings (since-called e mine (ap (list_any is_called) m)) in absurd (nothing (subst (λ l. Contains l (k, r)) none took))
          where
            nothing : Contains {X = ℕ × Reply} [] (k, r) → ⊥
            nothing (i, l, e) = omega (arith, l)
        go (goes t) took = subst (λ c. slice_get (history s (e ∷ past)) k ≡ Some (with_reply c r)) (sym (call-uncalled s p e mine t.uncalled))
            (in-append Here (all_takings (since is_called mine)) (takings e.marks) (k, r) (subst (λ (call : Past). Contains (all_takings call) (k, r)) (since-uncalled e mine t.uncalled) took)
            (λ before. still s past e k (with_reply (last_call s p mine) r) (h k r before)) (now t.one))

-- A store answer is in the history, with the sequential store's reply at its place.
pub answers_in_history : TakenInHistory → (s : Setup) → checked s ≡ Ok tt → (events : List Event) (event : Event) (e : Entry) → AreGiven s (event ∷ events) → entry_of s (past_of s events) event ≡ Some e →
    IsInHistory s (past_of s events) e
answers_in_history law s ok events event e given is r answered = (reported.0, record { there = there; reply = reply })
  where
    g : IsGood s
    g = is_good s ok

    past : Past
    past = past_of s events

    c : Call
    c = call_of s past e

    after : past_of s (event ∷ events) ≡ e ∷ past
    after = ap (λ o. elim o as (λ _. Past) [ None ↦ past | Some x ↦ x ∷ past ]) is

    reported : IsAnswerTo (answer.Reply r) (all_takings (since is_called (own e.process (e ∷ past))))
    reported = answers_report s g events event e is (answer.Reply r) answered

    uncalled : SaysAfter s past e → has is_called e ≡ false
    uncalled (begins command m k) = absurd (answer-at (λ _. ⊥) e.marks (answer.Reply r) (subst (EachAnswer (λ _. ⊥)) (sym m) tt) answered)
    uncalled (goes t) = t.uncalled

    same : last_call s e.process (own e.process (e ∷ past)) ≡ c
    same = ap (last_call s e.process) (own-own e.process e past refl) ∙ call-uncalled s e.process e (own e.process past) (uncalled (says s g events event e is))

    there : slice_get (history s (e ∷ past)) reported.0 ≡ Some (with_reply c r)
    there = subst (λ d. slice_get (history s (e ∷ past)) reported.0 ≡ Some (with_reply d r)) same
        (subst (λ (p : Past). IsAsReported s p e.process) after (as_reported s g (event ∷ events) e.process) reported.0 r (subst (λ l. Contains l (reported.0, r)) (sym reported.1) (0, omega arith, refl)))

    reply : r ≡ reply_to (store_after s (take reported.0 (history s (e ∷ past)))) c.command (caller c)
    reply = subst (λ (p : Past). (k : ℕ) (t : Taken) → slice_get (history s p) k ≡ Some t → HasItsReply s (take k (history s p)) t) after (each_has_its_reply law s ok (event ∷ events) given) reported.0 (with_reply c r) there
