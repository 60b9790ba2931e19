-- The entry of an event keeps the law `Marks` of any lock.
use Rattle.std.proofs.Common.{◌≡◌, ℕ, ◌==◌, ◌&&◌, ◌||◌, not, nat_le, nat_lt, Bool, true, false, cond, List, [], ◌∷◌, Option, Some, None, length, map, refl, sym, ap, subst, ◌∙◌, true≢false}
use Rattle.std.specs.List.{list_any}
use Rattle.model.specs.{Access, Call, Clears, Closing, Ended, Entry, Event, Mark, Part, Past, Place, Quit, Refusal, Settles, Withdraws, added, all_takings, bits_with, calls_full, calls_in, closing_after, enter, entry_of, history, inside, is_call, is_down, is_failed, is_fresh, is_last, is_over, is_running, is_settling, is_waiting_stage, marks_of, own, part_after, past_of, place_after, placed, process_of, refused_at, run_after, stage, stage_of, starts, value_of}
use Rattle.plain_store.specs.{Command, Setup}
use Rattle.model.specs.declared.events.Event.TheVariants as event
use Rattle.model.specs.declared.marks.Mark.TheVariants as mark
use Rattle.model.specs.declared.refusals.Refusal.TheVariants as refused_by
use Rattle.model.specs.declared.stages.Stage.TheVariants as stages
use Rattle.model.proofs.Turns.{and_false}
use Rattle.model.proofs.Width.{IsGood}
use Rattle.model.proofs.World.{entry-accepted}
use Rattle.any_lock.specs.safe_monitor.laws.{Closes, Doing, Lies, Rests, Runs, call, closes, doing, is_inside, next_of, runs}
use Rattle.any_lock.proofs.safe_monitor.laws.Alone.{ClosesInside, closes_inside}
use Rattle.any_lock.proofs.safe_monitor.laws.AtPlaces.{AtPlace}
use Rattle.any_lock.proofs.safe_monitor.laws.Doings as laws
use Rattle.any_lock.proofs.safe_monitor.laws.Frame.{Happens, a_call, a_withdrawal, a_failure, a_restart, a_step, a_closing, may_fail}
use Rattle.any_lock.proofs.safe_monitor.laws.FrameEvents.{Accepted, accepted}
use Rattle.any_lock.proofs.safe_monitor.laws.FrameInside.{inside-is, stage-is}
use Rattle.any_lock.proofs.safe_monitor.laws.Steps.{step_is}
use Rattle.judge.proofs.history_laws.Reported.{reported}
use Rattle.judge.proofs.history_laws.Took.{TookBy}
use Rattle.any_lock.specs.{BegunAccess, MarkRefusal, ProcessView, accessed, first_that, has_one_mark, its_call, mark_refusal, opened, refusal_of_marks, refusal_on, process_view, must_be_alone, torn, torn_after}
use Rattle.any_lock.specs.declared.refusals.MarkRefusal.TheVariants as refusal
use Rattle.any_lock.proofs.Markings.{ArePlain, no_failure, none_of, with_marks}
use Rattle.any_lock.proofs.Steps.{torn-mine}
use Rattle.any_lock.proofs.Took.{CallTakes}
use Rattle.any_lock.proofs.Whole.{refused}
use Rattle.judge.proofs.OpenDoings.{opened_access, opens}
use Rattle.judge.proofs.Opened.{FitsNext}
use Rattle.judge.proofs.StepMarks.{plain_closing, plain_step}
use Rattle.judge.proofs.PlainMarks.{Fine}
use Rattle.judge.proofs.PlaceMarks.{closing_fine_at, is_done, is_settler, part_fine}
use Rattle.judge.proofs.Torn.{TornIn}
use Rattle.judge.proofs.TornDoings.{torn_is}
use Rattle.judge.proofs.Withdrawals.{WithdrawnIn, answers_withdrawn, never_withdrawn, withdrawn_is}

-- Entries with a mark alone.

alone_fine : (s : Setup) (past : Past) (e : Entry) (m : Mark) → e.access ≡ None → e.marks ≡ m ∷ [] → mark_refusal (process_view s e.process past) m ≡ None → refusal_of_marks s past e ≡ None
alone_fine s past e m none marks allowed =
    let is : e ≡ with_marks e.process None (m ∷ []) = λ i. record { process = e.process; access = none i; marks = marks i } in
    ap (refusal_of_marks s past) is ∙ refused s e.process past None (m ∷ []) refl (and_false (must_be_alone m || false))
    ∙ ap (λ r. elim r as (λ _. Option MarkRefusal) [ Some r ↦ Some r | None ↦ None ]) allowed

-- an accepted call is not refused because of the number of calls
not_full : (s : Setup) (past : Past) (what : Event) (e : Entry) → entry_of s past what ≡ Some e → calls_full s past what ≡ false
not_full s past what e is = go (nat_lt (process_of what) s.processes) (refused_at what (stage (process_of what) past)) (calls_full s past what) is
  where
    go : (b : Bool) (r : Option Refusal) (full : Bool) →
        elim (cond b (elim r as (λ _. Option Refusal) [ Some r ↦ Some r | None ↦ cond full (Some refused_by.CallsFull) None ]) (Some refused_by.NoProcess)) as (λ _. Option Entry) [ Some r ↦ None | None ↦ added s past what ] ≡ Some e → full ≡ false
    go false r full h = cc
    go true (Some r) full h = cc
    go true None true h = cc
    go true None false h = refl

-- an event whose entry has the mark of a call is a call
is_a_call : (s : Setup) → IsGood s → (events : List Event) (what : Event) (e : Entry) (command : Command) → entry_of s (past_of s events) what ≡ Some e → e.marks ≡ mark.Called command ∷ [] → is_call what ≡ true
is_a_call s g events what e command is marks = go what is (entry-accepted s (past_of s events) what e is).2
  where
    other : (x : Entry) (m : Mark) → x.marks ≡ m ∷ [] → Some x ≡ Some e → starts m ≡ true → m ≡ mark.Called command
    other x m shown h st = let same : x ≡ e = cc in let both : m ∷ [] ≡ mark.Called command ∷ [] = sym shown ∙ ap (λ (y : Entry). y.marks) same ∙ marks in cc

    go : (what : Event) → entry_of s (past_of s events) what ≡ Some e → added s (past_of s events) what ≡ Some e → is_call what ≡ true
    go (event.Call q c) is h = refl
    go (event.Fail q) is h = let f : mark.Failed ≡ mark.Called command = other _ mark.Failed refl h refl in cc
    go (event.Withdraw q) is h = let f : mark.Withdrew ≡ mark.Called command = other _ mark.Withdrew refl h refl in cc
    go (event.Restart q) is h =
        let same : record { process = q; access = None; marks = mark.Restarted ∷ [] } ≡ e = cc in
        let both : mark.Restarted ∷ [] ≡ mark.Called command ∷ [] = ap (λ (y : Entry). y.marks) same ∙ marks in cc
    go (event.Step q flick) is h = absurd (true≢false (sym (ap (list_any starts) marks) ∙ (step_is s g events q flick e is).plain))

few_calls : (version calls : ℕ) → (version == 2 && nat_le 65535 calls) ≡ false → nat_le 65535 (cond (version == 2) calls 0) ≡ false
few_calls version calls h = go (version == 2) h
  where
    go : (b : Bool) → (b && nat_le 65535 calls) ≡ false → nat_le 65535 (cond b calls 0) ≡ false
    go true h = h
    go false h = refl

-- the stages at which a process may fail
part_calm : (x : Part) (fresh : Bool) → (is_settling (stage_of x fresh) || is_down (stage_of x fresh)) ≡ false
part_calm (Clears a) true = refl
part_calm (Clears a) false = refl
part_calm _ fresh = refl

fails_at : (d : Doing) → may_fail d ≡ true → (is_settling (laws.stage_of d) || is_down (laws.stage_of d)) ≡ false
fails_at Rests may = refl
fails_at (Runs command number at) may = part_calm at.part (is_fresh at.run)
fails_at (Closes command number (Withdraws w)) may = refl
fails_at _ may = absurd (true≢false (sym may))

-- Entries with an access.

stepped_fine : (s : Setup) (past : Past) (e : Entry) (a : Access) (place : ℕ) (ms : List Mark) → e.access ≡ Some a → e.marks ≡ map (placed place) ms → ArePlain e.marks →
    Fine s (length past) place (accessed (length past) (process_view s e.process past) a) ms → refusal_of_marks s past e ≡ None
stepped_fine s past e a place ms acc marks plain fine =
    let is : e ≡ with_marks e.process (Some a) e.marks = λ i. record { process = e.process; access = acc i; marks = e.marks } in
    ap (refusal_of_marks s past) is ∙ refused s e.process past (Some a) e.marks refl (ap (λ b. b && not (has_one_mark (with_marks e.process (Some a) e.marks))) plain)
    ∙ ap (refusal_on s (length past) (accessed (length past) (process_view s e.process past) a)) marks ∙ fine

-- the process rests or is down
abbrev is_resting : Doing → Bool
is_resting Rests = true
is_resting Lies = true
is_resting _ = false

rests_after : (s : Setup) (p : ℕ) (command : Command) (number : ℕ) (at : Place) (v : Bool) → is_last (call s p command number) at.part at.run ≡ true → is_over (part_after (call s p command number) at.part (bits_with at.run v)) ≡ true →
    is_resting (runs command number (place_after (call s p command number) at v)) ≡ true
rests_after s p command number at v last over =
    let c : Call = call s p command number in
    let to : Place = enter c (part_after c at.part (bits_with at.run v)) in
    ap (λ b. is_resting (runs command number (cond b to (record { part = at.part; run = run_after c at.part at.run v })))) last
    ∙ ap (λ b. is_resting (cond b Rests (Runs command number to))) over

done_after : (command : Command) (number : ℕ) (at : Closing) → is_done at ≡ true → is_resting (closes command number at) ≡ true
done_after command number Quit h = refl
done_after command number Ended h = refl
done_after command number _ h = absurd (true≢false (sym h))

-- a process that rests or is down has no open access
rest_closed : (s : Setup) (p : ℕ) (o : Option BegunAccess) (d : Doing) → is_resting d ≡ true → FitsNext o (next_of s p d false) → o ≡ None
rest_closed s p o Rests h fits = fits
rest_closed s p o Lies h fits = fits
rest_closed s p o (Runs command number at) h fits = absurd (true≢false (sym h))
rest_closed s p o (Closes command number at) h fits = absurd (true≢false (sym h))

-- without a unit that settles, no bit is torn
settler_torn : (s : Setup) (p : ℕ) (torn : Option BegunAccess) (command : Command) (number : ℕ) (at : Closing) → is_settler at ≡ false → TornIn s p torn (closes command number at) → torn ≡ None
settler_torn s p torn command number (Settles f bit begun taken is r) h t = absurd (true≢false h)
settler_torn s p torn command number _ h t = t

-- No mark of the entry of an event is refused, if the reply that the look-back finds in its call is the one with which its command was taken.
pub keeps_marks : (s : Setup) → IsGood s → (events : List Event) (what : Event) (e : Entry) → entry_of s (past_of s events) what ≡ Some e → CallTakes e.process (past_of s events) → refusal_of_marks s (past_of s events) e ≡ None
keeps_marks s g events what e is takes = go acc.happens
  where
    past : Past
    past = past_of s events

    p : ℕ
    p = e.process

    k : ProcessView
    k = process_view s p past

    n : ℕ
    n = length past

    place : ℕ
    place = length (history s past)

    acc : Accepted s past what e
    acc = accepted s g events what e is

    after : past_of s (what ∷ events) ≡ e ∷ past
    after = ap (λ o. elim o as (λ _. Past) [ None ↦ past | Some x ↦ x ∷ past ]) is

    st : (d : Doing) → doing s p past ≡ d → stage p past ≡ laws.stage_of d
    st d h = stage-is s g events p ∙ ap laws.stage_of h

    within : (d : Doing) → doing s p past ≡ d → inside p past ≡ is_inside d
    within d h = inside-is s g events p ∙ ap is_inside h

    took : (d : Doing) → doing s p past ≡ d → TookBy d (all_takings (its_call p past))
    took d h = subst (λ d. TookBy d (all_takings (its_call p past))) h (reported s g events p).took

    withdrew : (d : Doing) → doing s p past ≡ d → WithdrawnIn k.withdrawn d
    withdrew d h = subst (WithdrawnIn k.withdrawn) h (withdrawn_is s g events p)

    -- the open access and the torn bit after the entry
    closed : (d : Doing) → doing s p (e ∷ past) ≡ d → is_resting d ≡ true → opened p (e ∷ past) ≡ None
    closed d h rests = rest_closed s p (opened p (e ∷ past)) d rests (subst (λ d. FitsNext (opened p (e ∷ past)) (next_of s p d false)) h (subst (λ l. FitsNext (opened p l) (next_of s p (doing s p l) false)) after (opens s g (what ∷ events) p false)))

    torn_then : (d : Doing) → doing s p (e ∷ past) ≡ d → TornIn s p (torn p (e ∷ past)) d
    torn_then d h = subst (TornIn s p (torn p (e ∷ past))) h (subst (λ l. TornIn s p (torn p l) (doing s p l)) after (torn_is s g (what ∷ events) p).torn_in)

    with_access : (a : Access) → e.access ≡ Some a → ArePlain e.marks → (accessed n k a).torn ≡ torn p (e ∷ past)
    with_access a h plain = sym (torn-mine p e past refl false (none_of is_failed no_failure e.marks plain) ∙ ap (λ o. torn_after o (torn p past)) h)

    go : Happens s past p e (doing s p past) (doing s p (e ∷ past)) → refusal_of_marks s past e ≡ None
    go (a_call command number i none m d') =
        let idle : stage p past ≡ stages.Idle = st Rests i in
        let called : is_call what ≡ true = is_a_call s g events what e command is m in
        let room : (s.version == 2 && nat_le 65535 (calls_in (own p past))) ≡ false =
        ap (λ q. s.version == 2 && nat_le 65535 (calls_in (own q past))) acc.process ∙ sym (ap (λ b. b && (s.version == 2) && nat_le 65535 (calls_in (own (process_of what) past))) called) ∙ not_full s past what e is in
        alone_fine s past e (mark.Called command) none m
        (λ x. first_that ((is_running (idle x), refusal.Busy) ∷ (is_settling (idle x) || is_down (idle x), refusal.IsDown) ∷ (few_calls s.version (calls_in (own p past)) room x, refusal.CallsFull) ∷ []))
    go (a_withdrawal command number t w ws run i none m d') = alone_fine s past e mark.Withdrew none m (ap (λ x. first_that ((not (is_waiting_stage x), refusal.NotWaiting) ∷ [])) (st _ i))
    go (a_failure command number may none m d') =
        alone_fine s past e mark.Failed none m (ap (λ b. first_that ((b, refusal.AlreadyFailed) ∷ [])) (ap (λ x. is_settling x || is_down x) (st (doing s p past) refl) ∙ fails_at (doing s p past) may))
    go (a_restart i none m d') = alone_fine s past e mark.Restarted none m (ap (λ x. first_that ((not (is_down x), refusal.NotDown) ∷ [])) (st Lies i))
    go (a_step command number at a flick i over h made m d') =
        let c : Call = call s p command number in
        let v : Bool = value_of a.how in
        let plain : ArePlain e.marks = plain_step c at v place e.marks m in
        stepped_fine s past e a place (marks_of c at v) h m plain
        (part_fine s n place (accessed n k a) (all_takings (its_call p past)) c at.part (is_fresh at.run) (is_last c at.part at.run) (bits_with at.run v) (record {
          at_stage = st (Runs command number at) i;
          inside = within (Runs command number at) i;
          unwithdrawn = withdrew (Runs command number at) i;
          replies = takes;
          took = took (Runs command number at) i;
          other = subst (AtPlace (λ command number at. answers_withdrawn at.part ≡ false)) i (never_withdrawn s g events p);
          closed = λ last end. sym (opened_access past e a h plain) ∙ closed (runs command number (place_after c at v)) d' (rests_after s p command number at v last end);
        }))
    go (a_closing command number x flick next i is_next h made m d') =
        let c : Call = call s p command number in
        let d : Doing = Closes command number x in
        let plain : ArePlain e.marks = plain_closing c x flick next is_next place e.marks m in
        let to : Closing = closing_after c x flick in
        stepped_fine s past e next.access place next.marks h m plain
        (closing_fine_at s n place p (accessed n k next.access) (all_takings (its_call p past)) command number flick x next is_next (record {
          at_stage = st d i;
          inside = within d i;
          withdrawn = withdrew d i;
          replies = takes;
          took = took d i;
          settles_inside = subst ClosesInside i (closes_inside s g events p);
          closed = λ done. sym (opened_access past e next.access h plain) ∙ closed (closes command number to) d' (done_after command number to done);
          whole = λ none. with_access next.access h plain ∙ settler_torn s p (torn p (e ∷ past)) command number to none (torn_then (closes command number to) d');
        }))
