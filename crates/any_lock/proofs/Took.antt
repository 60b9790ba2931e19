-- Entries that keep all laws: an answered reply is the one that its call has taken.
use Rattle.std.proofs.Common.{◌≡◌, ◌≢◌, ℕ, zero, suc, ◌<◌, Bool, true, false, not, ◌&&◌, ◌||◌, List, [], ◌∷◌, ◌++◌, Option, None, Some, length, get_or, refl, sym, ap, ◌∙◌, subst, arith, true≢false, ◌⊎◌, inl, inr}
use Rattle.std.specs.Prelude.{Contains}
use Rattle.std.specs.List.{list_any}
use Rattle.std.proofs.lemmas.Bool.{cases_eq}
use Rattle.std.proofs.lemmas.List.{append-nil}
use Rattle.plain_store.specs.{Answer, Reply, Setup}
use Rattle.plain_store.specs.declared.Answer.TheVariants as answer
use Rattle.model.specs.{Access, Entry, IsAnswerTo, Mark, Past, all_takings, is_called, is_in_doorway, is_leaving, is_settling, is_waiting_stage, reply_taken, since, takings}
use Rattle.model.specs.declared.marks.Mark.TheVariants as mark
use Rattle.model.specs.declared.stages.Stage.TheVariants as stage
use Rattle.any_lock.specs.declared.refusals.MarkRefusal.TheVariants as refusal
use Rattle.any_lock.specs.{AnswersWhatItTook, ProcessView, accessed_by, has_other_reply, is_reply, is_withdrawn, its_call, mark_refusal, marked, marked_all, refusal_on, reply_in, process_view, must_be_alone}
use Rattle.any_lock.proofs.Alone.{AllKeep, Keeps}
use Rattle.any_lock.proofs.Breaks.{none_else, none_if}
use Rattle.any_lock.proofs.Cuts.{IsSound, Orderly, all_sound, answered_plain, answers_not, cut_after, first_unrefused, holds, is_cut, orderly, own-other, rest_unrefused, sound_accessed, sound_marked, unrefused_on}
use Rattle.any_lock.proofs.Markings.{ArePlain, or_left, or_right, reply_or, reply_nil, since-mine, untaken, with_marks}
use Rattle.any_lock.proofs.RepliesInHistory.{answered_in}
use Rattle.any_lock.proofs.Steps.{own-mine}
use Rattle.any_lock.proofs.Whole.{one_alone, whole_applied}

-- The commands that marks take.

-- a call that has this reply has taken one command with it, and one without has taken none
abbrev pub Takes : Option Reply → List (ℕ × Reply) → Type 0
Takes None ts = ts ≡ []
Takes (Some r) ts = (k : ℕ) × (ts ≡ (k, r) ∷ [])

-- after a taken command no other is taken
takes_no_more : (s : Setup) (n : ℕ) (ms : List Mark) (k : ProcessView) (r : Reply) → refusal_on s n k ms ≡ None → ArePlain ms → k.reply ≡ Some r → (takings ms ≡ []) × (reply_taken ms ≡ None)
takes_no_more s n [] k r none plain is = (refl, refl)
takes_no_more s n (mark.Waiting t ∷ ms) k r none plain is = takes_no_more s n ms (marked s n k (mark.Waiting t)) r (rest_unrefused s n k (mark.Waiting t) ms none) plain is
takes_no_more s n (mark.Entered ∷ ms) k r none plain is = takes_no_more s n ms (marked s n k mark.Entered) r (rest_unrefused s n k mark.Entered ms none) plain is
takes_no_more s n (mark.Taken j q ∷ ms) k r none plain is = absurd (let both : None ≡ Some r = sym (untaken k j q (first_unrefused s n k (mark.Taken j q) ms none)) ∙ is in cc)
takes_no_more s n (mark.Left ∷ ms) k r none plain is = takes_no_more s n ms (marked s n k mark.Left) r (rest_unrefused s n k mark.Left ms none) plain is
takes_no_more s n (mark.Answered a ∷ ms) k r none plain is = takes_no_more s n ms (marked s n k (mark.Answered a)) r (rest_unrefused s n k (mark.Answered a) ms none) plain is
takes_no_more s n (mark.Settled v ∷ ms) k r none plain is = takes_no_more s n ms (marked s n k (mark.Settled v)) r (rest_unrefused s n k (mark.Settled v) ms none) plain is
takes_no_more s n (mark.Down ∷ ms) k r none plain is = takes_no_more s n ms (marked s n k mark.Down) r (rest_unrefused s n k mark.Down ms none) plain is
takes_no_more s n (_ ∷ ms) k r none plain is = absurd (true≢false plain)

-- otherwise at most one is taken
takes_one : (s : Setup) (n : ℕ) (ms : List Mark) (k : ProcessView) → refusal_on s n k ms ≡ None → ArePlain ms → Takes (reply_taken ms) (takings ms)
takes_one s n [] k none plain = refl
takes_one s n (mark.Waiting t ∷ ms) k none plain = takes_one s n ms (marked s n k (mark.Waiting t)) (rest_unrefused s n k (mark.Waiting t) ms none) plain
takes_one s n (mark.Entered ∷ ms) k none plain = takes_one s n ms (marked s n k mark.Entered) (rest_unrefused s n k mark.Entered ms none) plain
takes_one s n (mark.Taken j q ∷ ms) k none plain =
    (j, ap (λ (l : List (ℕ × Reply)). (j, q) ∷ l) (takes_no_more s n ms (marked s n k (mark.Taken j q)) q (rest_unrefused s n k (mark.Taken j q) ms none) plain refl).0)
takes_one s n (mark.Left ∷ ms) k none plain = takes_one s n ms (marked s n k mark.Left) (rest_unrefused s n k mark.Left ms none) plain
takes_one s n (mark.Answered a ∷ ms) k none plain = takes_one s n ms (marked s n k (mark.Answered a)) (rest_unrefused s n k (mark.Answered a) ms none) plain
takes_one s n (mark.Settled v ∷ ms) k none plain = takes_one s n ms (marked s n k (mark.Settled v)) (rest_unrefused s n k (mark.Settled v) ms none) plain
takes_one s n (mark.Down ∷ ms) k none plain = takes_one s n ms (marked s n k mark.Down) (rest_unrefused s n k mark.Down ms none) plain
takes_one s n (_ ∷ ms) k none plain = absurd (true≢false plain)

-- The commands that a call takes.

abbrev pub CallTakes : ℕ → Past → Type 0
CallTakes p past = Takes (reply_in (its_call p past)) (all_takings (its_call p past))

same_reply_kept : (n : ℕ) (k : ProcessView) (o : Option Access) → (accessed_by n k o).reply ≡ k.reply
same_reply_kept n k None = refl
same_reply_kept n k (Some a) = refl

-- with plain marks
call_plain : (s : Setup) (past : Past) (p : ℕ) (o : Option Access) (ms : List Mark) → refusal_on s (length past) (accessed_by (length past) (process_view s p past) o) ms ≡ None → ArePlain ms → CallTakes p past → CallTakes p (with_marks p o ms ∷ past)
call_plain s past p o ms none plain before =
    subst (λ l. Takes (reply_in l) (all_takings l)) (sym (since-mine p o ms past plain)) (by (reply_in (its_call p past)) refl before)
  where
    k : ProcessView
    k = accessed_by (length past) (process_view s p past) o

    by : (q : Option Reply) → reply_in (its_call p past) ≡ q → Takes (reply_in (its_call p past)) (all_takings (its_call p past)) →
        Takes (reply_or (reply_taken ms) (reply_in (its_call p past))) (all_takings (its_call p past) ++ takings ms)
    by None h before =
        let nothing : all_takings (its_call p past) ≡ [] = subst (λ x. Takes x (all_takings (its_call p past))) h before in
        subst (λ x. Takes x (all_takings (its_call p past) ++ takings ms)) (sym (ap (reply_or (reply_taken ms)) h ∙ reply_nil (reply_taken ms)))
        (subst (λ l. Takes (reply_taken ms) (l ++ takings ms)) (sym nothing) (takes_one s (length past) ms k none plain))
    by (Some r) h before =
        let rest = takes_no_more s (length past) ms k r none plain (same_reply_kept (length past) (process_view s p past) o ∙ h) in
        let one : (j : ℕ) × (all_takings (its_call p past) ≡ (j, r) ∷ []) = subst (λ x. Takes x (all_takings (its_call p past))) h before in
        subst (λ x. Takes x (all_takings (its_call p past) ++ takings ms)) (sym (ap (λ x. reply_or x (reply_in (its_call p past))) rest.1 ∙ h))
        (one.0, ap (λ l. all_takings (its_call p past) ++ l) rest.0 ∙ append-nil (all_takings (its_call p past)) ∙ one.1)

-- with a mark that must be alone
call_alone : (past : Past) (p : ℕ) (m : Mark) → must_be_alone m ≡ true → CallTakes p past → CallTakes p (with_marks p None (m ∷ []) ∷ past)
call_alone past p (mark.Called c) h before = subst (λ l. Takes (reply_in (since is_called l)) (all_takings (since is_called l))) (sym (own-mine p (with_marks p None (mark.Called c ∷ [])) past refl)) refl
call_alone past p mark.Failed h before = subst (λ l. Takes (reply_in (since is_called l)) (all_takings (since is_called l))) (sym (own-mine p (with_marks p None (mark.Failed ∷ [])) past refl))
    (subst (λ l. Takes (reply_in (its_call p past)) l) (sym (append-nil (all_takings (its_call p past)))) before)
call_alone past p mark.Withdrew h before = subst (λ l. Takes (reply_in (since is_called l)) (all_takings (since is_called l))) (sym (own-mine p (with_marks p None (mark.Withdrew ∷ [])) past refl))
    (subst (λ l. Takes (reply_in (its_call p past)) l) (sym (append-nil (all_takings (its_call p past)))) before)
call_alone past p mark.Restarted h before = subst (λ l. Takes (reply_in (since is_called l)) (all_takings (since is_called l))) (sym (own-mine p (with_marks p None (mark.Restarted ∷ [])) past refl))
    (subst (λ l. Takes (reply_in (its_call p past)) l) (sym (append-nil (all_takings (its_call p past)))) before)
call_alone past p _ h before = absurd (true≢false (sym h))

call_mine : (s : Setup) (past : Past) (p : ℕ) (o : Option Access) (ms : List Mark) → Keeps s past (with_marks p o ms) → CallTakes p past → CallTakes p (with_marks p o ms ∷ past)
call_mine s past p o ms kept before = go (list_any must_be_alone ms) refl
  where
    fine : Orderly o p ms
    fine = orderly s past p o ms kept.marks

    go : (b : Bool) → list_any must_be_alone ms ≡ b → CallTakes p (with_marks p o ms ∷ past)
    go false plain = call_plain s past p o ms (unrefused_on s past p o ms kept.marks) plain before
    go true any = let one = one_alone o ms p any fine.apart in
        subst (λ x. CallTakes p (with_marks p x ms ∷ past)) (sym one.1) (subst (λ x. CallTakes p (with_marks p None x ∷ past)) (sym one.2) (call_alone past p one.0 one.3 before))

pub all_take : (s : Setup) (past : Past) → AllKeep s past → (p : ℕ) → CallTakes p past
all_take s [] all p = refl
all_take s (e ∷ past) all p = go (cases_eq e.process p) (all_take s past all.1 p)
  where
    go : (e.process ≡ p) ⊎ (e.process ≢ p) → CallTakes p past → CallTakes p (e ∷ past)
    go (inl same) before = subst (λ q. CallTakes q (e ∷ past)) same (call_mine s past e.process e.access e.marks all.0 (subst (λ q. CallTakes q past) (sym same) before))
    go (inr apart) before = subst (λ l. Takes (reply_in (since is_called l)) (all_takings (since is_called l))) (sym (own-other p e past apart)) before

-- An answer that is not a reply.

-- no mark follows at rest
pub at_rest_none : (s : Setup) (n : ℕ) (k : ProcessView) (ms : List Mark) → k.stage ≡ stage.Idle → k.passage.inside ≡ false → refusal_on s n k ms ≡ None → ArePlain ms → ms ≡ []
at_rest_none s n k [] idle out none plain = refl
at_rest_none s n k (m ∷ ms) idle out none plain = absurd (by m (first_unrefused s n k m ms none) (or_left (must_be_alone m) (list_any must_be_alone ms) plain))
  where
    clashes : (b : Bool) → b ≡ false → b ≡ true → ⊥
    clashes b f t = true≢false (sym t ∙ f)

    by : (m : Mark) → mark_refusal k m ≡ None → must_be_alone m ≡ false → ⊥
    by (mark.Waiting t) h apart = clashes (not (is_in_doorway k.stage)) (none_if (not (is_in_doorway k.stage)) refusal.NotInDoorway _ h) (ap (λ x. not (is_in_doorway x)) idle)
    by mark.Entered h apart = clashes (not (is_waiting_stage k.stage)) (none_if (not (is_waiting_stage k.stage)) refusal.NotWaiting _ h) (ap (λ x. not (is_waiting_stage x)) idle)
    by (mark.Taken j q) h apart = clashes (not k.passage.inside) (none_if (not k.passage.inside) refusal.NotInside _ h) (ap not out)
    by mark.Left h apart = clashes (not k.passage.inside) (none_if (not k.passage.inside) refusal.NotInside _ h) (ap not out)
    by (mark.Answered a) h apart = clashes (not (is_in_doorway k.stage || is_leaving k.stage)) (none_if (not (is_in_doorway k.stage || is_leaving k.stage)) refusal.NotLeaving _ h) (ap (λ x. not (is_in_doorway x || is_leaving x)) idle)
    by (mark.Settled v) h apart = clashes (not (is_settling k.stage)) (none_if (not (is_settling k.stage)) refusal.NotSettling _ h) (ap (λ x. not (is_settling x)) idle)
    by mark.Down h apart = clashes (not (is_settling k.stage)) (none_if (not (is_settling k.stage)) refusal.NotSettling _ h) (ap (λ x. not (is_settling x)) idle)
    by _ h apart = true≢false apart

-- if a call returns such an answer, it has taken nothing
pub unreplied : (o : Option Reply) (a : Answer) → is_reply a ≡ false → has_other_reply o a ≡ false → o ≡ None
unreplied None a not_reply other = refl
unreplied (Some q) (answer.Reply r) not_reply other = absurd (true≢false not_reply)
unreplied (Some q) (answer.TicketsFull j) not_reply other = absurd (true≢false other)
unreplied (Some q) answer.StampsFull not_reply other = absurd (true≢false other)
unreplied (Some q) answer.Withdrawn not_reply other = absurd (true≢false other)

pub outside : (k : ProcessView) (cut : Bool) → IsSound k cut → holds k.stage ≡ false → k.passage.inside ≡ false
outside k cut sound h = by k.passage.inside refl
  where
    by : (b : Bool) → k.passage.inside ≡ b → k.passage.inside ≡ false
    by false is = is
    by true is = absurd (true≢false (sym (sound.inside is) ∙ h))

answered_none : (s : Setup) (n : ℕ) (ms : List Mark) (k : ProcessView) (cut : Bool) (i : ℕ) (a : Answer) → refusal_on s n k ms ≡ None → IsSound k cut → ArePlain ms →
    i < length ms → get_or ms i (mark.Answered a) ≡ mark.Answered a → is_reply a ≡ false → (marked_all s n k ms).reply ≡ None
answered_none s n [] k cut i a none sound plain within is not_reply = absurd (omega arith)
answered_none s n (m ∷ ms) k cut zero a none sound plain within is not_reply =
    let first : mark_refusal k (mark.Answered a) ≡ None = subst (λ x. mark_refusal k x ≡ None) is (first_unrefused s n k m ms none) in
    let b = none_else (not (is_in_doorway k.stage || is_leaving k.stage)) refusal.NotLeaving _ first in
    let d = none_else (k.withdrawn && not (is_withdrawn a)) refusal.WasWithdrawn _ b in
    let reply : k.reply ≡ None = unreplied k.reply a not_reply (none_if (has_other_reply k.reply a) refusal.OtherReply _ d) in
    let out : k.passage.inside ≡ false = outside k cut sound (answers_not k.stage (none_if (not (is_in_doorway k.stage || is_leaving k.stage)) refusal.NotLeaving _ first)).0 in
    let rest : refusal_on s n (marked s n k (mark.Answered a)) ms ≡ None = subst (λ x. refusal_on s n (marked s n k x) ms ≡ None) is (rest_unrefused s n k m ms none) in
    let last : ms ≡ [] = at_rest_none s n (marked s n k (mark.Answered a)) ms refl out rest (or_right (must_be_alone m) (list_any must_be_alone ms) plain) in
    ap (λ x. (marked_all s n (marked s n k x) ms).reply) is ∙ ap (λ l. (marked_all s n (marked s n k (mark.Answered a)) l).reply) last ∙ reply
answered_none s n (m ∷ ms) k cut (suc i) a none sound plain within is not_reply =
    answered_none s n ms (marked s n k m) (cut_after cut m) i a (rest_unrefused s n k m ms none) (sound_marked s n k m cut (first_unrefused s n k m ms none) sound)
    (or_right (must_be_alone m) (list_any must_be_alone ms) plain) (omega arith) is not_reply

pub answers_what_it_took : (s : Setup) (past : Past) (e : Entry) → AllKeep s past → Keeps s past e → AnswersWhatItTook past e
answers_what_it_took s past e all kept a among = by a among (all_take s (e ∷ past) (kept, all) e.process)
  where
    fine : Orderly e.access e.process e.marks
    fine = orderly s past e.process e.access e.marks kept.marks

    k : ProcessView
    k = accessed_by (length past) (process_view s e.process past) e.access

    none : refusal_on s (length past) (accessed_by (length past) (process_view s e.process past) e.access) e.marks ≡ None
    none = unrefused_on s past e.process e.access e.marks kept.marks

    whole : marked_all s (length past) (accessed_by (length past) (process_view s e.process past) e.access) e.marks ≡ process_view s e.process (e ∷ past)
    whole = whole_applied s e.process past e.access e.marks fine.apart none

    sound : IsSound (accessed_by (length past) (process_view s e.process past) e.access) (is_cut e.process past)
    sound = sound_accessed (length past) (process_view s e.process past) e.access (is_cut e.process past) (all_sound s past all e.process)

    other : (a : Answer) → is_reply a ≡ false → (i : ℕ) → i < length e.marks → get_or e.marks i (mark.Answered a) ≡ mark.Answered a → reply_in (its_call e.process (e ∷ past)) ≡ None
    other a not_reply i within is = ap (λ (x : ProcessView). x.reply) (sym whole)
        ∙ answered_none s (length past) e.marks (accessed_by (length past) (process_view s e.process past) e.access) (is_cut e.process past) i a none sound (answered_plain e.access e.process e.marks i a fine within is) within is not_reply

    by : (a : Answer) → Contains e.marks (mark.Answered a) → CallTakes e.process (e ∷ past) → IsAnswerTo a (all_takings (its_call e.process (e ∷ past)))
    by (answer.Reply r) among takes = subst (λ x. Takes x (all_takings (its_call e.process (e ∷ past))))
        (ap (λ (x : ProcessView). x.reply) (sym whole)
        ∙ answered_in s (length past) e.marks (accessed_by (length past) (process_view s e.process past) e.access) among.0 r none (answered_plain e.access e.process e.marks among.0 (answer.Reply r) fine among.1 among.2) among.1 among.2) takes
    by (answer.TicketsFull j) among takes = subst (λ x. Takes x (all_takings (its_call e.process (e ∷ past)))) (other (answer.TicketsFull j) refl among.0 among.1 among.2) takes
    by answer.StampsFull among takes = subst (λ x. Takes x (all_takings (its_call e.process (e ∷ past)))) (other answer.StampsFull refl among.0 among.1 among.2) takes
    by answer.Withdrawn among takes = subst (λ x. Takes x (all_takings (its_call e.process (e ∷ past)))) (other answer.Withdrawn refl among.0 among.1 among.2) takes
