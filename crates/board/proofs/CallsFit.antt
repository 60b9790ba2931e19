-- In every past, the calls of each process are consistent with the list of changes.
use Rattle.std.proofs.Common.{◌≡◌, ℕ, ◌+◌, ◌<◌, ◌==◌, Bool, true, false, cond, List, [], ◌∷◌, ◌++◌, Option, Some, None, Ok, length, refl, sym, ap, subst, ◌∙◌, arith, eqb-true, Contains}
use Rattle.std.specs.Prelude.{fold}
use Rattle.std.specs.List.{list_any}
use Rattle.std.proofs.lemmas.Bool.{eqb-false}
use Rattle.std.proofs.lemmas.List.{append-nil, length-append}
use Rattle.plain_store.specs.{Answer, Command, Contents, Reply, Setup, changes, checked, opening_store, reply_to}
use Rattle.model.specs.{AreGiven, Entry, Event, IsAnswerTo, Mark, Past, Stage, all_takings, calls_in, entry_of, has, history, is_at_rest, is_called, last_command, own, past_of, reply_taken, since, stage, stage_after, store_after, takings, value_of}
use Rattle.model.specs.declared.marks.Mark.TheVariants as mark
use Rattle.model.proofs.Width.{IsGood, is_good}
use Rattle.laws.specs.{Doing, Rests, Lies, call, doing}
use Rattle.laws.proofs.Frame.{Does, Happens, a_call, a_withdrawal, a_failure, a_restart, a_step, a_closing}
use Rattle.laws.proofs.FrameEvents.{accepted, does_all}
use Rattle.history_laws.specs.{changes_taken}
use Rattle.history_laws.proofs.CountedChanges.{history-takes, taken_at}
use Rattle.history_laws.proofs.DataMainTheorem.{taken}
use Rattle.history_laws.proofs.Given.{given_before}
use Rattle.history_laws.proofs.Reported.{SaysAfter, says}
use Rattle.history_laws.proofs.Took.{EachAnswer, begins, goes, doing-few}
use Rattle.board.specs.Calls.{Calls, and_then, calls_after, calls_of, changes_of, changing}
use Rattle.board.specs.{FitsChanges}
use Rattle.board.proofs.Along.{changes_none, so_many_changes}
use Rattle.board.proofs.Changes.{changing-push, store_of_changes}
use Rattle.board.proofs.EntryMarks.{StepMarks, plain, takes, answers, downs, call_marks, closing_marks, plain-calls, plain-quiet, plain-reply, plain-takings, plain-uncalled, quiet-before, both-false, reports}
use Rattle.board.proofs.KnownCalls.{Known, KnownCallsFit, known, known-own, known-uncalled, known_then, other_entry}
use Rattle.board.proofs.StageFits.{last_caller, one_change, stage_fits_answered, stage_fits_called, stage_fits_down, stage_fits_none, stage_fits_on, stage_fits_taken, taken_here}
use Rattle.board.proofs.FittingCalls.{finished_fits}

-- The marks of an entry of the process itself.

data OwnMarks (s : Setup) (past : Past) (e : Entry) : Type 0 where
  calls_now : (command : Command) → is_at_rest (stage e.process past) ≡ true → e.marks ≡ mark.Called command ∷ [] → OwnMarks s past e
  restarted : is_at_rest (stage e.process past) ≡ true → e.marks ≡ mark.Restarted ∷ [] → OwnMarks s past e
  steps : StepMarks e.marks → OwnMarks s past e

quiet_rests : (s : Setup) (p : ℕ) (mine : Past) (st : Stage) (d : Doing) → Does s p mine st d → d ≡ Rests → is_at_rest st ≡ true
quiet_rests s p mine st d h k = grind arith

quiet_lies : (s : Setup) (p : ℕ) (mine : Past) (st : Stage) (d : Doing) → Does s p mine st d → d ≡ Lies → is_at_rest st ≡ true
quiet_lies s p mine st d h k = grind arith

own_marks : (s : Setup) → IsGood s → (events : List Event) (event : Event) (e : Entry) → entry_of s (past_of s events) event ≡ Some e → OwnMarks s (past_of s events) e
own_marks s g events event e is = go (accepted s g events event e is).happens
  where
    past : Past
    past = past_of s events

    p : ℕ
    p = e.process

    does : Does s p (own p past) (stage p past) (doing s p past)
    does = does_all s g events p

    go : Happens s past p e (doing s p past) (doing s p (e ∷ past)) → OwnMarks s past e
    go (a_call command number i a m k) = calls_now command (quiet_rests s p (own p past) (stage p past) (doing s p past) does i) m
    go (a_withdrawal command number t w ws run i a m k) = steps (subst StepMarks (sym m) (plain refl))
    go (a_failure command number may a m k) = steps (subst StepMarks (sym m) (plain refl))
    go (a_restart i a m k) = restarted (quiet_lies s p (own p past) (stage p past) (doing s p past) does i) m
    go (a_step command number at a flick i o access made m k) = steps (subst StepMarks (sym m) (call_marks (call s p command number) at (value_of a.how) (length (history s past))))
    go (a_closing command number at flick n i next access same m k) = steps (subst StepMarks (sym m) (closing_marks (call s p command number) at flick (length (history s past)) n next))

-- An entry that takes a command adds one change, or none.
changes-takes : (s : Setup) (past : Past) (e : Entry) (r : Reply) → reply_taken e.marks ≡ Some r →
    changes_of s (e ∷ past) ≡ changes_of s past ++ one_change s (changes_of s past) (last_caller s e.process (calls_in (own e.process past))) (last_command (own e.process past)) r
changes-takes s past e r h =
    ap (changing (opening_store s)) (history-takes s past e r h)
    ∙ changing-push (opening_store s) (history s past) (taken_at s past e r)
    ∙ ap (λ (x : Contents). changes_of s past ++ cond (changes x (last_command (own e.process past))) (taken_at s past e r ∷ []) []) (sym (store_of_changes s past))

-- The cases of an entry of the process itself.

own_called : (s : Setup) (past : Past) (e : Entry) (command : Command) → is_at_rest (stage e.process past) ≡ true → e.marks ≡ mark.Called command ∷ [] → KnownCallsFit s e.process (known s past e.process) → KnownCallsFit s e.process (known_then s past e)
own_called s past e command quiet is h = subst (λ (ms : List Mark). KnownCallsFit s e.process (known_then s past (record e { marks = ms }))) (sym is)
    (stage_fits_called s e.process k.stage _ k.number k.command command k.taken k.list k.calls.done k.calls.now quiet refl h)
  where
    k : Known
    k = known s past e.process

own_restarted : (s : Setup) (past : Past) (e : Entry) → is_at_rest (stage e.process past) ≡ true → e.marks ≡ mark.Restarted ∷ [] → KnownCallsFit s e.process (known s past e.process) → KnownCallsFit s e.process (known_then s past e)
own_restarted s past e quiet is h = subst (λ (ms : List Mark). KnownCallsFit s e.process (known_then s past (record e { marks = ms }))) (sym is)
    (subst (λ (taken : List (ℕ × Reply)). KnownCallsFit s e.process (record k { stage = Rattle.model.specs.declared.stages.Stage.TheVariants.Idle; taken = taken })) (sym (append-nil k.taken))
    (stage_fits_on s e.process k.stage _ k.number k.command k.taken k.list k.calls.done k.calls.now (λ _. quiet) h))
  where
    k : Known
    k = known s past e.process

-- The state after an entry whose last marks begin no call and take nothing, and whose other marks do not concern calls.
known_after : (s : Setup) (past : Past) (e : Entry) (before last : List Mark) → list_any reports before ≡ false → e.marks ≡ before ++ last → list_any is_called last ≡ false → reply_taken last ≡ None → takings last ≡ [] →
    known_then s past e ≡ record (known s past e.process) { stage = fold stage_after (stage e.process past) e.marks; calls = fold (calls_after (changes_taken s past)) (calls_of s e.process past) last }
known_after s past e before last none is uncalled untaken nothing = known-uncalled s past e (ap (list_any is_called) is ∙ plain-uncalled before last none ∙ uncalled) ∙ (λ i. record k {
  stage = fold stage_after k.stage e.marks;
  taken = (ap (λ (l : List (ℕ × Reply)). k.taken ++ l) (ap takings is ∙ plain-takings before last none ∙ nothing) ∙ append-nil k.taken) i;
  list = changes_none s past e (ap reply_taken is ∙ plain-reply before last none ∙ untaken) i;
  calls = (ap (fold (calls_after (changes_taken s past)) k.calls) is ∙ plain-calls (changes_taken s past) k.calls before last none) i;
})
  where
    k : Known
    k = known s past e.process

own_plain : (s : Setup) (past : Past) (e : Entry) → list_any reports e.marks ≡ false → KnownCallsFit s e.process (known s past e.process) → KnownCallsFit s e.process (known_then s past e)
own_plain s past e none h =
    let k : Known = known s past e.process in
    subst (KnownCallsFit s e.process) (sym (known_after s past e e.marks [] none (sym (append-nil e.marks)) refl refl refl))
    (stage_fits_on s e.process k.stage _ k.number k.command k.taken k.list k.calls.done k.calls.now (plain-quiet k.stage e.marks none) h)

-- The commands taken in the call of an entry, if its marks begin no call.

append-one : {X : Type 0} (xs : List X) (x : X) → length (xs ++ x ∷ []) < 2 → xs ≡ []
append-one [] x few = refl
append-one (y ∷ xs) x few = let n : length (xs ++ x ∷ []) ≡ length xs + 1 = length-append xs (x ∷ []) in absurd (omega (arith, few, n))

-- a call that takes a command has taken none before
none_before : (s : Setup) (past : Past) (e : Entry) (k : ℕ) (r : Reply) → takings e.marks ≡ (k, r) ∷ [] → SaysAfter s past e → all_takings (since is_called (own e.process past)) ≡ []
none_before s past e k r is (begins command m t) = let none : length (takings e.marks) ≡ 0 = ap (λ (ms : List Mark). length (takings ms)) m in let one : length (takings e.marks) ≡ 1 = ap (λ (l : List (ℕ × Reply)). length l) is in absurd (omega (arith, none, one))
none_before s past e k r is (goes t) =
    let before : List (ℕ × Reply) = all_takings (since is_called (own e.process past)) in
    append-one before (k, r) (subst (λ (l : List (ℕ × Reply)). length (before ++ l) < 2) is (doing-few (doing s e.process (e ∷ past)) (before ++ takings e.marks) t.took))

one-answer : (P : Answer → Type 0) (m : Mark) (ms : List Mark) → reports m ≡ false → EachAnswer P (m ∷ ms) → EachAnswer P ms
one-answer P (mark.Answered a) ms none h = cc
one-answer P _ ms none h = h

last-answer : (P : Answer → Type 0) (before : List Mark) (a : Answer) → list_any reports before ≡ false → EachAnswer P (before ++ mark.Answered a ∷ []) → P a
last-answer P [] a none h = h.0
last-answer P (m ∷ before) a none h =
    let both = both-false (reports m) (list_any reports before) none in
    last-answer P before a both.1 (one-answer P m (before ++ mark.Answered a ∷ []) both.0 h)

-- the answer to a call is the reply of the command that it took
answers_taken : (s : Setup) (past : Past) (e : Entry) (before : List Mark) (a : Answer) → list_any reports before ≡ false → e.marks ≡ before ++ mark.Answered a ∷ [] → SaysAfter s past e →
    IsAnswerTo a (all_takings (since is_called (own e.process past)))
answers_taken s past e before a none is (begins command m t) =
    let f : true ≡ false = sym (ap (list_any is_called) m) ∙ (ap (list_any is_called) is ∙ plain-uncalled before (mark.Answered a ∷ []) none) in cc
answers_taken s past e before a none is (goes t) =
    let taken : List (ℕ × Reply) = all_takings (since is_called (own e.process past)) in
    let here = last-answer _ before a none (subst (EachAnswer _) is t.answers) in
    subst (IsAnswerTo a) (ap (λ (l : List (ℕ × Reply)). taken ++ l) (ap takings is ∙ plain-takings before (mark.Answered a ∷ []) none) ∙ append-nil taken) here.0

-- A stage that is quiet after such marks was quiet before them.
quiet_after : (st : Stage) (before : List Mark) (k : ℕ) (r : Reply) → list_any reports before ≡ false → is_at_rest (fold stage_after st (before ++ mark.Taken k r ∷ [])) ≡ true → is_at_rest st ≡ true
quiet_after st [] k r none q = q
quiet_after st (m ∷ before) k r none q =
    let both = both-false (reports m) (list_any reports before) none in
    quiet-before st m both.0 (quiet_after (stage_after st m) before k r both.1 q)

own_takes : (s : Setup) (past : Past) (e : Entry) (before : List Mark) (j : ℕ) (r : Reply) → list_any reports before ≡ false → e.marks ≡ before ++ mark.Taken j r ∷ [] → SaysAfter s past e →
    r ≡ reply_to (store_after s (history s past)) (last_command (own e.process past)) (last_caller s e.process (calls_in (own e.process past))) →
    KnownCallsFit s e.process (known s past e.process) → KnownCallsFit s e.process (known_then s past e)
own_takes s past e before j r none is reported reply h = subst (KnownCallsFit s p) (sym (known-uncalled s past e uncalled ∙ same))
    (stage_fits_taken s p k.stage then k.number k.command j r k.list k.calls.done k.calls.now quiet
    (reply ∙ ap (λ (x : Contents). reply_to x k.command (last_caller s p k.number)) (sym (store_of_changes s past)))
    (subst (λ (taken : List (ℕ × Reply)). KnownCallsFit s p (record k { taken = taken })) nothing h))
  where
    p : ℕ
    p = e.process

    k : Known
    k = known s past p

    then : Stage
    then = fold stage_after k.stage e.marks

    uncalled : has is_called e ≡ false
    uncalled = ap (list_any is_called) is ∙ plain-uncalled before (mark.Taken j r ∷ []) none

    quiet : is_at_rest then ≡ true → is_at_rest k.stage ≡ true
    quiet q = quiet_after k.stage before j r none (ap (λ (ms : List Mark). is_at_rest (fold stage_after k.stage ms)) (sym is) ∙ q)

    took : takings e.marks ≡ (j, r) ∷ []
    took = ap takings is ∙ plain-takings before (mark.Taken j r ∷ []) none

    nothing : k.taken ≡ []
    nothing = none_before s past e j r took reported

    place : changes_taken s past ≡ length k.list
    place = sym (so_many_changes s past)

    same : record k { stage = then; taken = k.taken ++ takings e.marks; list = changes_of s (e ∷ past); calls = fold (calls_after (changes_taken s past)) k.calls e.marks }
        ≡ record k { stage = then; taken = (j, r) ∷ []; list = k.list ++ one_change s k.list (last_caller s p k.number) k.command r; calls = record k.calls { now = taken_here (length k.list) k.calls.now } }
    same = λ i. record k {
      stage = then;
      taken = nothing i ++ took i;
      list = changes-takes s past e r (ap reply_taken is ∙ plain-reply before (mark.Taken j r ∷ []) none) i;
      calls = (ap (fold (calls_after (changes_taken s past)) k.calls) is ∙ plain-calls (changes_taken s past) k.calls before (mark.Taken j r ∷ []) none ∙ ap (λ (n : ℕ). record k.calls { now = taken_here n k.calls.now }) place) i;
    }

-- An entry that finishes a call.
own_answers : (s : Setup) (past : Past) (e : Entry) (before : List Mark) (a : Answer) → list_any reports before ≡ false → e.marks ≡ before ++ mark.Answered a ∷ [] → SaysAfter s past e →
    KnownCallsFit s e.process (known s past e.process) → KnownCallsFit s e.process (known_then s past e)
own_answers s past e before a none is reported h =
    let k : Known = known s past e.process in
    subst (KnownCallsFit s e.process) (sym (known_after s past e before (mark.Answered a ∷ []) none is refl refl refl))
    (stage_fits_answered s e.process k.stage _ k.number k.command k.taken a k.list k.calls.done k.calls.now (answers_taken s past e before a none is reported) h)

own_downs : (s : Setup) (past : Past) (e : Entry) (before : List Mark) → list_any reports before ≡ false → e.marks ≡ before ++ mark.Down ∷ [] → KnownCallsFit s e.process (known s past e.process) → KnownCallsFit s e.process (known_then s past e)
own_downs s past e before none is h =
    let k : Known = known s past e.process in
    subst (KnownCallsFit s e.process) (sym (known_after s past e before (mark.Down ∷ []) none is refl refl refl))
    (stage_fits_down s e.process k.stage _ k.number k.command k.taken k.list k.calls.done k.calls.now h)

taking_among : (e : Entry) (before : List Mark) (j : ℕ) (r : Reply) → list_any reports before ≡ false → e.marks ≡ before ++ mark.Taken j r ∷ [] → Contains (takings e.marks) (j, r)
taking_among e before j r none is = subst (λ (l : List (ℕ × Reply)). Contains l (j, r)) (sym (ap takings is ∙ plain-takings before (mark.Taken j r ∷ []) none)) (0, omega arith, refl)

-- Each entry of the process keeps the invariant.
own_entry : (s : Setup) → checked s ≡ Ok tt → (events : List Event) (event : Event) (e : Entry) → AreGiven s (event ∷ events) → entry_of s (past_of s events) event ≡ Some e →
    KnownCallsFit s e.process (known s (past_of s events) e.process) → KnownCallsFit s e.process (known_then s (past_of s events) e)
own_entry s ok events event e given is h = go (own_marks s g events event e is)
  where
    g : IsGood s
    g = is_good s ok

    past : Past
    past = past_of s events

    reported : SaysAfter s past e
    reported = says s g events event e is

    by : StepMarks e.marks → KnownCallsFit s e.process (known_then s past e)
    by (plain none) = own_plain s past e none h
    by (takes before j r none m) = own_takes s past e before j r none m reported (taken s ok events event e given is j r (taking_among e before j r none m)).1 h
    by (answers before a none m) = own_answers s past e before a none m reported h
    by (downs before none m) = own_downs s past e before none m h

    go : OwnMarks s past e → KnownCallsFit s e.process (known_then s past e)
    go (calls_now command quiet m) = own_called s past e command quiet m h
    go (restarted quiet m) = own_restarted s past e quiet m h
    go (steps marks) = by marks

-- The calls of every process of every past.
pub calls_fit : (s : Setup) → checked s ≡ Ok tt → (events : List Event) → AreGiven s events → (p : ℕ) → KnownCallsFit s p (known s (past_of s events) p)
calls_fit s ok [] given p = stage_fits_none s p
calls_fit s ok (event ∷ events) given p = go (entry_of s past event) refl (calls_fit s ok events (given_before s event events given))
  where
    past : Past
    past = past_of s events

    at : (e : Entry) → entry_of s past event ≡ Some e → ((q : ℕ) → KnownCallsFit s q (known s past q)) → (b : Bool) → (e.process == p) ≡ b → KnownCallsFit s p (known s (e ∷ past) p)
    at e is before true i = subst (λ (q : ℕ). KnownCallsFit s q (known s (e ∷ past) q)) (eqb-true e.process p i) (subst (KnownCallsFit s e.process) (sym (known-own s past e)) (own_entry s ok events event e given is (before e.process)))
    at e is before false i = other_entry s past e p (eqb-false e.process p i) (before p)

    go : (o : Option Entry) → entry_of s past event ≡ o → ((q : ℕ) → KnownCallsFit s q (known s past q)) → KnownCallsFit s p (known s (elim o as (λ _. Past) [ None ↦ past | Some e ↦ e ∷ past ]) p)
    go None is before = before p
    go (Some e) is before = at e is before (e.process == p) refl

-- so the finished calls, and all calls, are consistent with the changes
pub calls_in_the_changes : (s : Setup) → checked s ≡ Ok tt → (events : List Event) → AreGiven s events → (p : ℕ) →
    let calls : Calls = calls_of s p (past_of s events) in
    FitsChanges s p calls.done (changes_of s (past_of s events)) × FitsChanges s p (and_then calls.done calls.now) (changes_of s (past_of s events))
calls_in_the_changes s ok events given p = (finished_fits s p (calls_of s p past).done (calls_of s p past).now (changes_of s past) all, all)
  where
    past : Past
    past = past_of s events

    all : FitsChanges s p (and_then (calls_of s p past).done (calls_of s p past).now) (changes_of s past)
    all = (calls_fit s ok events given p).fits
