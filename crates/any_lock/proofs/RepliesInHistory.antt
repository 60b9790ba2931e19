-- Entries that keep all laws: an answered reply is that of a command in the history.
use Rattle.std.proofs.Common.{◌≡◌, ◌≢◌, ℕ, zero, suc, ◌<◌, ◌≤◌, Bool, true, false, not, ◌&&◌, ◌||◌, List, [], ◌∷◌, ◌++◌, Option, None, Some, is_none, length, get_or, slice_get, refl, sym, ap, ◌∙◌, subst, arith, true≢false, ◌⊎◌, inl, inr}
use Rattle.std.specs.Prelude.{Contains}
use Rattle.std.specs.List.{list_any}
use Rattle.std.proofs.lemmas.Bool.{cases_eq}
use Rattle.std.proofs.lemmas.Option.{slice_get_within}
use Rattle.std.proofs.lemmas.List.{take-append-le}
use Rattle.std.proofs.Math.Seq.{take-append_seam}
use Rattle.plain_store.specs.declared.Answer.TheVariants as answer
use Rattle.plain_store.specs.{Reply, Setup, reply_to}
use Rattle.model.specs.{Access, Call, Entry, Mark, Past, IsTakenAt, IsInHistory, Taken, caller, history, is_called, is_in_doorway, is_leaving, last_call, own, reply_taken, since, store_after, takings}
use Rattle.model.specs.declared.marks.Mark.TheVariants as mark
use Rattle.any_lock.specs.declared.refusals.MarkRefusal.TheVariants as refusal
use Rattle.any_lock.specs.{ProcessView, accessed_by, has_other_reply, is_reply, is_withdrawn, its_call, mark_refusal, marked, marked_all, refusal_on, reply_in, same_reply, process_view, must_be_alone}
use Rattle.any_lock.proofs.Alone.{AllKeep, Keeps, not_not, same_is, takes_its_place}
use Rattle.any_lock.proofs.Breaks.{none_else, none_if}
use Rattle.any_lock.proofs.Cuts.{Orderly, answered_plain, first_unrefused, orderly, own-other, rest_unrefused, unrefused_on}
use Rattle.any_lock.proofs.Going.{history_with, taken_now}
use Rattle.any_lock.proofs.Markings.{ArePlain, command-plain, number-plain, or_left, or_right, reply-plain, reply_or, untaken, with_marks}
use Rattle.any_lock.proofs.Steps.{own-mine}
use Rattle.any_lock.proofs.Whole.{one_alone, whole_applied}

-- A command in a history is at the same position in a longer one.

slice_get-front : (xs ys : List Taken) (k : ℕ) (t : Taken) → slice_get xs k ≡ Some t → slice_get (xs ++ ys) k ≡ Some t
slice_get-front [] ys k t is = absurd (omega (arith, slice_get_within {A = Taken} [] k t is))
slice_get-front (x ∷ xs) ys zero t is = is
slice_get-front (x ∷ xs) ys (suc k) t is = slice_get-front xs ys k t is

slice_get-seam : (xs : List Taken) (t : Taken) → slice_get (xs ++ t ∷ []) (length xs) ≡ Some t
slice_get-seam [] t = refl
slice_get-seam (x ∷ xs) t = slice_get-seam xs t

in_longer_history : (s : Setup) (xs ys : List Taken) (c : Call) (r : Reply) (k : ℕ) → IsTakenAt s xs c r k → IsTakenAt s (xs ++ ys) c r k
in_longer_history s xs ys c r k at =
    let within : k < length xs = slice_get_within xs k _ at.there in
    let below : k ≤ length xs = omega arith in
    record {
      there = slice_get-front xs ys k _ at.there;
      reply = at.reply ∙ ap (λ (l : List Taken). reply_to (store_after s l) c.command (caller c)) (sym (take-append-le k xs ys below));
    }

-- The commands that a call has taken are in the history.

abbrev pub TakenIsInHistory : Setup → Past → ℕ → Type 0
TakenIsInHistory s past p = (r : Reply) → reply_in (its_call p past) ≡ Some r → (k : ℕ) × IsTakenAt s (history s past) (last_call s p (own p past)) r k

-- marks with a reply take a command with it
taking_of : (ms : List Mark) (r : Reply) → reply_taken ms ≡ Some r → (n : ℕ) × Contains (takings ms) (n, r)
taking_of [] r h = absurd (let both : None ≡ Some r = h in cc)
taking_of (mark.Taken n q ∷ ms) r h = let same : q ≡ r = cc in (n, (0, omega arith, ap (λ x. (n, x)) same))
taking_of (_ ∷ ms) r h = taking_of ms r h

-- the history with one more entry extends the one before
goes_on : (s : Setup) (past : Past) (e : Entry) (c : Call) (r : Reply) (k : ℕ) → IsTakenAt s (history s past) c r k → IsTakenAt s (history s (e ∷ past)) c r k
goes_on s past e c r k at = by (reply_taken e.marks) refl
  where
    by : (o : Option Reply) → reply_taken e.marks ≡ o → IsTakenAt s (history s (e ∷ past)) c r k
    by None h = subst (λ l. IsTakenAt s l c r k) (sym (history_with s past e None h)) at
    by (Some q) h = subst (λ l. IsTakenAt s l c r k) (sym (history_with s past e (Some q) h)) (in_longer_history s (history s past) (taken_now s e.process past q ∷ []) c r k at)

-- the command that an entry takes is in the history
in_history_now : (s : Setup) (past : Past) (e : Entry) (r : Reply) → Keeps s past e → reply_taken e.marks ≡ Some r → IsTakenAt s (history s (e ∷ past)) (last_call s e.process (own e.process past)) r (length (history s past))
in_history_now s past e r kept h =
    let taking = taking_of e.marks r h in
    let right = takes_its_place s past e kept taking.0 r taking.1 in
    subst (λ l. IsTakenAt s l (last_call s e.process (own e.process past)) r (length (history s past))) (sym (history_with s past e (Some r) h)) (record {
      there = slice_get-seam (history s past) (taken_now s e.process past r);
      reply = right.1 ∙ ap (λ (l : List Taken). reply_to (store_after s l) (last_call s e.process (own e.process past)).command (caller (last_call s e.process (own e.process past))))
          (sym (take-append_seam (history s past) (taken_now s e.process past r ∷ [])));
    })

call-plain : (s : Setup) (p : ℕ) (o : Option Access) (ms : List Mark) (past : Past) → ArePlain ms → last_call s p (own p (with_marks p o ms ∷ past)) ≡ last_call s p (own p past)
call-plain s p o ms past plain = λ i. record { setup = s; process = p; command = command-plain p o ms past plain i; number = number-plain s p o ms past plain i }

-- an entry of the process with plain marks
mine_plain : (s : Setup) (past : Past) (p : ℕ) (o : Option Access) (ms : List Mark) → Keeps s past (with_marks p o ms) → ArePlain ms → TakenIsInHistory s past p → TakenIsInHistory s (with_marks p o ms ∷ past) p
mine_plain s past p o ms kept plain before r is = by (reply_taken ms) refl (sym (reply-plain p o ms past plain) ∙ is)
  where
    by : (q : Option Reply) → reply_taken ms ≡ q → reply_or (reply_taken ms) (reply_in (its_call p past)) ≡ Some r →
        (k : ℕ) × IsTakenAt s (history s (with_marks p o ms ∷ past)) (last_call s p (own p (with_marks p o ms ∷ past))) r k
    by None h is =
        let at = before r (ap (λ x. reply_or x (reply_in (its_call p past))) (sym h) ∙ is) in
        (at.0, subst (λ c. IsTakenAt s (history s (with_marks p o ms ∷ past)) c r at.0) (sym (call-plain s p o ms past plain)) (goes_on s past (with_marks p o ms) (last_call s p (own p past)) r at.0 at.1))
    by (Some q) h is =
        let both : Some q ≡ Some r = ap (λ x. reply_or x (reply_in (its_call p past))) (sym h) ∙ is in
        let same : q ≡ r = cc in (
          length (history s past),
          subst (λ c. IsTakenAt s (history s (with_marks p o ms ∷ past)) c r (length (history s past))) (sym (call-plain s p o ms past plain))
              (in_history_now s past (with_marks p o ms) r kept (h ∙ ap Some same)),
        )

-- an entry with a mark that must be alone
mine_alone : (s : Setup) (past : Past) (p : ℕ) (m : Mark) → must_be_alone m ≡ true → TakenIsInHistory s past p → TakenIsInHistory s (with_marks p None (m ∷ []) ∷ past) p
mine_alone s past p m alone before r is = by m alone is
  where
    kept : (m : Mark) → ((own p (with_marks p None (m ∷ []) ∷ past)) ≡ with_marks p None (m ∷ []) ∷ own p past) →
        reply_in (its_call p past) ≡ Some r → last_call s p (with_marks p None (m ∷ []) ∷ own p past) ≡ last_call s p (own p past) →
        (k : ℕ) × IsTakenAt s (history s (with_marks p None (m ∷ []) ∷ past)) (last_call s p (own p (with_marks p None (m ∷ []) ∷ past))) r k
    kept m mine is same =
        let at = before r is in (
          at.0,
          subst (λ c. IsTakenAt s (history s (with_marks p None (m ∷ []) ∷ past)) c r at.0) (sym (ap (last_call s p) mine ∙ same))
              (goes_on s past (with_marks p None (m ∷ [])) (last_call s p (own p past)) r at.0 at.1),
        )

    by : (m : Mark) → must_be_alone m ≡ true → reply_in (its_call p (with_marks p None (m ∷ []) ∷ past)) ≡ Some r →
        (k : ℕ) × IsTakenAt s (history s (with_marks p None (m ∷ []) ∷ past)) (last_call s p (own p (with_marks p None (m ∷ []) ∷ past))) r k
    by (mark.Called c) h is =
        let mine = own-mine p (with_marks p None (mark.Called c ∷ [])) past refl in
        let none : None ≡ Some r = sym (ap (λ l. reply_in (since is_called l)) mine) ∙ is in absurd (cc)
    by mark.Failed h is = let mine = own-mine p (with_marks p None (mark.Failed ∷ [])) past refl in kept mark.Failed mine (sym (ap (λ l. reply_in (since is_called l)) mine) ∙ is) refl
    by mark.Withdrew h is = let mine = own-mine p (with_marks p None (mark.Withdrew ∷ [])) past refl in kept mark.Withdrew mine (sym (ap (λ l. reply_in (since is_called l)) mine) ∙ is) refl
    by mark.Restarted h is = let mine = own-mine p (with_marks p None (mark.Restarted ∷ [])) past refl in kept mark.Restarted mine (sym (ap (λ l. reply_in (since is_called l)) mine) ∙ is) refl
    by _ h is = absurd (true≢false (sym h))

mine : (s : Setup) (past : Past) (p : ℕ) (o : Option Access) (ms : List Mark) → Keeps s past (with_marks p o ms) → TakenIsInHistory s past p → TakenIsInHistory s (with_marks p o ms ∷ past) p
mine s past p o ms kept before = go (list_any must_be_alone ms) refl
  where
    fine : Orderly o p ms
    fine = orderly s past p o ms kept.marks

    go : (b : Bool) → list_any must_be_alone ms ≡ b → TakenIsInHistory s (with_marks p o ms ∷ past) p
    go false plain = mine_plain s past p o ms kept plain before
    go true any = let one = one_alone o ms p any fine.apart in
        subst (λ x. TakenIsInHistory s (with_marks p x ms ∷ past) p) (sym one.1) (subst (λ x. TakenIsInHistory s (with_marks p None x ∷ past) p) (sym one.2) (mine_alone s past p one.0 one.3 before))

pub all_in_history : (s : Setup) (past : Past) → AllKeep s past → (p : ℕ) → TakenIsInHistory s past p
all_in_history s [] all p r is = absurd (let both : None ≡ Some r = is in cc)
all_in_history s (e ∷ past) all p r is = go (cases_eq e.process p) (all_in_history s past all.1 p) r is
  where
    go : (e.process ≡ p) ⊎ (e.process ≢ p) → TakenIsInHistory s past p → TakenIsInHistory s (e ∷ past) p
    go (inl same) before = subst (λ q. TakenIsInHistory s (e ∷ past) q) same (mine s past e.process e.access e.marks all.0 (subst (λ q. TakenIsInHistory s past q) (sym same) before))
    go (inr apart) before = λ r is.
        let same = own-other p e past apart in
        let at = before r (sym (ap (λ l. reply_in (since is_called l)) same) ∙ is) in
        (at.0, subst (λ c. IsTakenAt s (history s (e ∷ past)) c r at.0) (sym (ap (last_call s p) same)) (goes_on s past e (last_call s p (own p past)) r at.0 at.1))

-- An answered reply is the one that its call has taken.

-- the reply at the answer
replied : (o : Option Reply) (r : Reply) → has_other_reply o (answer.Reply r) ≡ false → (is_none o && true) ≡ false → o ≡ Some r
replied None r other none = absurd (true≢false none)
replied (Some q) r other none = ap Some (sym (same_is r q (not_not (same_reply r q) other)))

answered_reply : (k : ProcessView) (r : Reply) → mark_refusal k (mark.Answered (answer.Reply r)) ≡ None → k.reply ≡ Some r
answered_reply k r none =
    let a = none_else (not (is_in_doorway k.stage || is_leaving k.stage)) refusal.NotLeaving _ none in
    let b = none_else (k.withdrawn && not (is_withdrawn (answer.Reply r))) refusal.WasWithdrawn _ a in
    let d = none_else (has_other_reply k.reply (answer.Reply r)) refusal.OtherReply _ b in
    replied k.reply r (none_if (has_other_reply k.reply (answer.Reply r)) refusal.OtherReply _ b) (none_if (is_none k.reply && is_reply (answer.Reply r)) refusal.NotTaken _ d)

-- the reply is unchanged by later marks
reply_stays : (s : Setup) (n : ℕ) (ms : List Mark) (k : ProcessView) (r : Reply) → refusal_on s n k ms ≡ None → list_any must_be_alone ms ≡ false → k.reply ≡ Some r → (marked_all s n k ms).reply ≡ Some r
reply_stays s n [] k r none plain is = is
reply_stays s n (m ∷ ms) k r none plain is =
    reply_stays s n ms (marked s n k m) r (rest_unrefused s n k m ms none) (or_right (must_be_alone m) (list_any must_be_alone ms) plain)
    (one m (first_unrefused s n k m ms none) (or_left (must_be_alone m) (list_any must_be_alone ms) plain))
  where
    one : (m : Mark) → mark_refusal k m ≡ None → must_be_alone m ≡ false → (marked s n k m).reply ≡ Some r
    one (mark.Called c) first apart = absurd (true≢false apart)
    one (mark.Waiting t) first apart = is
    one mark.Entered first apart = is
    one (mark.Taken j q) first apart = let both : None ≡ Some r = sym (untaken k j q first) ∙ is in absurd (cc)
    one mark.Left first apart = is
    one (mark.Answered a) first apart = is
    one mark.Failed first apart = absurd (true≢false apart)
    one (mark.Settled v) first apart = is
    one mark.Down first apart = is
    one mark.Withdrew first apart = absurd (true≢false apart)
    one mark.Restarted first apart = absurd (true≢false apart)

pub answered_in : (s : Setup) (n : ℕ) (ms : List Mark) (k : ProcessView) (i : ℕ) (r : Reply) → refusal_on s n k ms ≡ None → list_any must_be_alone ms ≡ false →
    i < length ms → get_or ms i (mark.Answered (answer.Reply r)) ≡ mark.Answered (answer.Reply r) → (marked_all s n k ms).reply ≡ Some r
answered_in s n [] k i r none plain within is = absurd (omega arith)
answered_in s n (m ∷ ms) k zero r none plain within is =
    let first : mark_refusal k (mark.Answered (answer.Reply r)) ≡ None = subst (λ x. mark_refusal k x ≡ None) is (first_unrefused s n k m ms none) in
    reply_stays s n (m ∷ ms) k r none plain (answered_reply k r first)
answered_in s n (m ∷ ms) k (suc i) r none plain within is =
    answered_in s n ms (marked s n k m) i r (rest_unrefused s n k m ms none) (or_right (must_be_alone m) (list_any must_be_alone ms) plain) (omega arith) is

pub reply_in_history : (s : Setup) (past : Past) (e : Entry) → AllKeep s past → Keeps s past e → IsInHistory s past e
reply_in_history s past e all kept r among =
    let fine = orderly s past e.process e.access e.marks kept.marks in
    let none = unrefused_on s past e.process e.access e.marks kept.marks in
    let plain = answered_plain e.access e.process e.marks among.0 (answer.Reply r) fine among.1 among.2 in
    let k : ProcessView = accessed_by (length past) (process_view s e.process past) e.access in
    let reply : reply_in (its_call e.process (e ∷ past)) ≡ Some r =
    ap (λ (x : ProcessView). x.reply) (sym (whole_applied s e.process past e.access e.marks fine.apart none)) ∙ answered_in s (length past) e.marks k among.0 r none plain among.1 among.2 in
    let at = all_in_history s (e ∷ past) (kept, all) e.process r reply in
    (at.0, subst (λ c. IsTakenAt s (history s (e ∷ past)) c r at.0) (call-plain s e.process e.access e.marks past plain) at.1)
