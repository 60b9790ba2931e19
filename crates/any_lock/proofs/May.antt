-- Each entry changed as its reasons state keeps all laws.
use Rattle.std.proofs.Common.{◌≡◌, ℕ, ◌==◌, nat_lt, not, ◌&&◌, ◌||◌, Bool, true, false, cond, if◌then◌else◌, List, [], ◌∷◌, Option, None, Some, length, map, refl, sym, ap, ◌∙◌, subst, arith, true≢false}
use Rattle.std.proofs.lemmas.Bool.Decides.{Decides-int_eq, nat_tests}
use Rattle.std.proofs.lemmas.List.{length-map}
use Rattle.std.specs.List.{list_all, list_any}
use Rattle.std.specs.Option.{is_none, is_some}
use Rattle.model.specs.safe_bit.{Move, before_read, is_overlapped, last_written}
use Rattle.model.specs.safe_bit.declared.Move.TheVariants.{BeginWrite, EndWrite, BeginRead, EndRead, Settle}
use Rattle.plain_store.specs.{Answer, Reply, Setup}
use Rattle.plain_store.specs.declared.Answer.TheVariants as answer
use Rattle.plain_store.specs.declared.Reply.TheVariants as reply
use Rattle.plain_store.proofs.Changes.{same_value-Decides}
use Rattle.model.specs.{Access, Entry, Mark, Past, begins_read, has, history, is_entered, is_in_doorway, is_leaving, moves_of, opening_bit, takings}
use Rattle.model.specs.declared.marks.Mark.TheVariants as mark
use Rattle.any_lock.specs.{AnyLockLaw, MarkRefusal, MaysKeepAllLaws, Remedy, ProcessView, accessed_by, breaks_access, breaks_history, breaks_marks, breaks_overtaken, breaks_safe, breaks_together, broken_inside, broken_later, change_of, changed, ends_with, ends_wrongly, first_broken, first_that, has_other_reply, is_reply, is_that, is_withdrawn, mark_refusal, mark_with, marked, other_ahead, other_inside, other_value, passage_in, refusal_of_marks, refusal_on, right_reply, same_reply, same_truth, process_view, must_be_alone, value_in, with_value}
use Rattle.any_lock.specs.declared.reasons.Remedy.TheVariants.{Value, Taking}
use Rattle.any_lock.specs.declared.any_lock_law.AnyLockLaw.TheVariants as law
use Rattle.any_lock.specs.declared.refusals.MarkRefusal.TheVariants as refusal
use Rattle.any_lock.proofs.Alone.{AllKeep, all_keep}
use Rattle.any_lock.proofs.Breaks.{none_else, none_if}
use Rattle.lock_stages.proofs.Lowest.{unsome}
use Rattle.any_lock.proofs.Cuts.{IsSound, Orderly, all_sound, answers_not, cut_after, first_unrefused, is_cut, orderly, rest_unrefused, sound_accessed, sound_marked, unrefused_on}
use Rattle.any_lock.proofs.Loops.{refused_later}
use Rattle.any_lock.proofs.Markings.{ArePlain, or_left, or_right, untaken, with_marks}
use Rattle.any_lock.proofs.Took.{at_rest_none, outside, unreplied}
use Rattle.any_lock.proofs.Whole.{one_alone, refused}

-- a changed value leaves the marks unchanged
same_marks : (v : Bool) (ms : List Mark) → map (mark_with (Value v)) ms ≡ ms
same_marks v [] = refl
same_marks v (m ∷ ms) = ap (λ (l : List Mark). m ∷ l) (same_marks v ms)

value_changed : (v : Bool) (e : Entry) → changed (Value v) e ≡ with_value v e
value_changed v e = ap (λ (l : List Mark). let x : Entry = record { process = e.process; access = ends_with v e.access; marks = l } in x) (same_marks v e.marks)

-- if one value is wrong, the other is right
other_is_right : (opening : Bool) (moves : List Move) (v : Bool) → ends_wrongly opening moves (EndRead v) ≡ true → ends_wrongly opening moves (EndRead (not v)) ≡ false
other_is_right opening moves v wrong = by (begins_read moves) (is_overlapped moves) v (last_written opening (before_read moves)) wrong
  where
    by : (a b v w : Bool) → ((a && not b) && not (same_truth v w)) ≡ true → ((a && not b) && not (same_truth (not v) w)) ≡ false
    by false b v w wrong = refl
    by true true v w wrong = refl
    by true false true true wrong = absurd (true≢false (sym wrong))
    by true false true false wrong = refl
    by true false false true wrong = refl
    by true false false false wrong = absurd (true≢false (sym wrong))

-- the entry with the other value
with_other_value : (s : Setup) (past : Past) (e : Entry) (c : Remedy) → breaks_safe s past e ≡ true → other_value s past e ≡ Some c → first_broken s past (changed c e) ≡ None
with_other_value s past e c breaks may = by e.access refl breaks may
  where
    safe_of : Option Access → Bool
    safe_of o = elim o as (λ _. Bool) [ None ↦ false | Some a ↦ ends_wrongly (opening_bit s a) (moves_of a past) a.how ]

    whole : (v : Bool) → safe_of (ends_with (not v) e.access) ≡ false → broken_later s past (with_value (not v) e) ≡ None → Value (not v) ≡ c → first_broken s past (changed c e) ≡ None
    whole v safe later is = subst (λ (c : Remedy). first_broken s past (changed c e) ≡ None) is
        (subst (λ (x : Entry). first_broken s past x ≡ None) (sym (value_changed (not v) e)) (ap (λ b. if b then Some law.Safe else broken_later s past (with_value (not v) e)) safe ∙ later))

    reported : (v : Bool) → safe_of (ends_with (not v) e.access) ≡ false → (b : Bool) → is_none (broken_later s past (with_value (not v) e)) ≡ b → cond b (Some (Value (not v))) None ≡ Some c → first_broken s past (changed c e) ≡ None
    reported v safe true none may = let same : Value (not v) ≡ c = cc in whole v safe (unnone (broken_later s past (with_value (not v) e)) none) same
      where
        unnone : (o : Option AnyLockLaw) → is_none o ≡ true → o ≡ None
        unnone None is = refl
        unnone (Some l) is = absurd (true≢false (sym is))
    reported v safe false none may = absurd (cc)

    ending : (a : Access) (m : Move) → a.how ≡ m → e.access ≡ Some a → ends_wrongly (opening_bit s a) (moves_of a past) m ≡ true →
        elim (elim m as (λ _. Option Bool) [ EndRead v ↦ Some v | BeginWrite v ↦ None | EndWrite ↦ None | BeginRead ↦ None | Settle v ↦ None ]) as (λ _. Option Remedy) [ None ↦ None | Some v ↦ cond (is_none (broken_later s past (with_value (not v) e))) (Some (Value (not v))) None ] ≡ Some c →
        first_broken s past (changed c e) ≡ None
    ending a (EndRead v) how is breaks may = reported v (ap (λ (o : Option Access). safe_of (ends_with (not v) o)) is ∙ other_is_right (opening_bit s a) (moves_of a past) v breaks) (is_none (broken_later s past (with_value (not v) e))) refl may
    ending a _ how is breaks may = absurd (true≢false (sym breaks))

    by : (o : Option Access) → e.access ≡ o → safe_of o ≡ true →
        elim (value_in o) as (λ _. Option Remedy) [ None ↦ None | Some v ↦ cond (is_none (broken_later s past (with_value (not v) e))) (Some (Value (not v))) None ] ≡ Some c → first_broken s past (changed c e) ≡ None
    by None is breaks may = absurd (true≢false (sym breaks))
    by (Some a) is breaks may = ending a a.how refl is breaks may

-- The right position and reply.

-- a reply equals itself
pub same_as_itself : (r : Reply) → same_reply r r ≡ true
same_as_itself (reply.Value x) = (same_value-Decides x x).1 refl
same_as_itself (reply.Sum n) = (Decides-int_eq n n).1 refl
same_as_itself (reply.Kept x) = (same_value-Decides x x).1 refl
same_as_itself (reply.Last n) = grind (arith, nat_tests)
same_as_itself _ = refl

-- an entry that breaks `History` first breaks no other law
none_but_history : (a b c d f h : Bool) → (if a then Some law.Safe else if b then Some law.Access else if c then Some law.Marks else first_that ((d, law.Together) ∷ (f, law.Overtaken) ∷ (h, law.History) ∷ [])) ≡ Some law.History →
    (a ≡ false) × (b ≡ false) × (c ≡ false) × (d ≡ false) × (f ≡ false) × (h ≡ true)
none_but_history false false false false false true is = (refl, refl, refl, refl, refl, refl)
none_but_history _ _ _ _ _ _ is = absurd (cc)

module _ (n : ℕ) (r : Reply) where
  abbrev put : Mark → Mark
  put = mark_with (Taking n r)

  put_any : (test : Mark → Bool) → ((m : Mark) → test (put m) ≡ test m) → (ms : List Mark) → list_any test (map put ms) ≡ list_any test ms
  put_any test same [] = refl
  put_any test same (m ∷ ms) = ap (λ b. b || list_any test (map put ms)) (same m) ∙ ap (λ b. test m || b) (put_any test same ms)

  alone_same : (m : Mark) → must_be_alone (put m) ≡ must_be_alone m
  alone_same (mark.Answered (answer.Reply q)) = refl
  alone_same _ = refl

  entered_same : (m : Mark) → is_entered (put m) ≡ is_entered m
  entered_same (mark.Answered (answer.Reply q)) = refl
  entered_same _ = refl

  -- each command is taken with that position and reply
  put_taken : (ms : List Mark) → list_all (is_that n r) (takings (map put ms)) ≡ true
  put_taken [] = refl
  put_taken (mark.Taken j q ∷ ms) =
      let place : (n == n) ≡ true = grind (arith, nat_tests) in
      ap (λ b. (b && same_reply r r) && list_all (is_that n r) (takings (map put ms))) place
      ∙ ap (λ b. b && list_all (is_that n r) (takings (map put ms))) (same_as_itself r) ∙ put_taken ms
  put_taken (mark.Answered (answer.Reply q) ∷ ms) = put_taken ms
  put_taken (_ ∷ ms) = put_taken ms

  -- the state of its process, with this reply
  abbrev replied : ProcessView → ProcessView
  replied k = record k { reply = Some r }

  -- a mark after the one that takes a command is refused no more than before
  abbrev GoesOnSo : Setup → ℕ → ProcessView → Mark → Type 0
  GoesOnSo s j k m = (mark_refusal (replied k) (put m) ≡ None) × (marked s j (replied k) (put m) ≡ replied (marked s j k m)) × ((marked s j k m).reply ≡ k.reply)

  answers_so : (k : ProcessView) (q q0 : Reply) → k.reply ≡ Some q0 → mark_refusal k (mark.Answered (answer.Reply q)) ≡ None → mark_refusal (replied k) (mark.Answered (answer.Reply r)) ≡ None
  answers_so k q q0 some none =
      let a = none_if (not (is_in_doorway k.stage || is_leaving k.stage)) refusal.NotLeaving _ none in
      let rest = none_else (not (is_in_doorway k.stage || is_leaving k.stage)) refusal.NotLeaving _ none in
      let b = none_if (k.withdrawn && true) refusal.WasWithdrawn _ rest in
      let rest' = none_else (k.withdrawn && true) refusal.WasWithdrawn _ rest in
      let rest'' = none_else (has_other_reply k.reply (answer.Reply q)) refusal.OtherReply _ rest' in
      let rest''' = none_else (is_none k.reply && true) refusal.NotTaken _ rest'' in
      ap (λ t. if t then Some refusal.NotLeaving else first_that ((k.withdrawn && true, refusal.WasWithdrawn) ∷ (not (same_reply r r), refusal.OtherReply) ∷ (false, refusal.NotTaken) ∷ (not k.withdrawn && false, refusal.NotWithdrawn) ∷ (is_some k.opened, refusal.AccessOpen) ∷ [])) a
      ∙ ap (λ t. if t then Some refusal.WasWithdrawn else first_that ((not (same_reply r r), refusal.OtherReply) ∷ (false, refusal.NotTaken) ∷ (not k.withdrawn && false, refusal.NotWithdrawn) ∷ (is_some k.opened, refusal.AccessOpen) ∷ [])) b
      ∙ ap (λ t. if not t then Some refusal.OtherReply else first_that ((false, refusal.NotTaken) ∷ (not k.withdrawn && false, refusal.NotWithdrawn) ∷ (is_some k.opened, refusal.AccessOpen) ∷ [])) (same_as_itself r)
      ∙ rest'''

  never : (k : ProcessView) (a : Answer) (q0 : Reply) → k.reply ≡ Some q0 → is_reply a ≡ false → mark_refusal k (mark.Answered a) ≡ None → ⊥
  never k a q0 some other none =
      let rest = none_else (not (is_in_doorway k.stage || is_leaving k.stage)) refusal.NotLeaving _ none in
      let rest' = none_else (k.withdrawn && not (is_withdrawn a)) refusal.WasWithdrawn _ rest in
      let nothing : k.reply ≡ None = unreplied k.reply a other (none_if (has_other_reply k.reply a) refusal.OtherReply _ rest') in
      let both : Some q0 ≡ None = sym some ∙ nothing in cc

  goes_on_so : (s : Setup) (j : ℕ) (k : ProcessView) (q0 : Reply) (m : Mark) → k.reply ≡ Some q0 → must_be_alone m ≡ false → mark_refusal k m ≡ None → GoesOnSo s j k m
  goes_on_so s j k q0 (mark.Called c) some plain none = absurd (true≢false plain)
  goes_on_so s j k q0 (mark.Taken i q) some plain none = let both : Some q0 ≡ None = sym some ∙ untaken k i q none in absurd (cc)
  goes_on_so s j k q0 (mark.Answered (answer.Reply q)) some plain none = (answers_so k q q0 some none, refl, refl)
  goes_on_so s j k q0 (mark.Answered (answer.TicketsFull i)) some plain none = absurd (never k (answer.TicketsFull i) q0 some refl none)
  goes_on_so s j k q0 (mark.Answered answer.StampsFull) some plain none = absurd (never k answer.StampsFull q0 some refl none)
  goes_on_so s j k q0 (mark.Answered answer.Withdrawn) some plain none = absurd (never k answer.Withdrawn q0 some refl none)
  goes_on_so s j k q0 mark.Failed some plain none = absurd (true≢false plain)
  goes_on_so s j k q0 mark.Withdrew some plain none = absurd (true≢false plain)
  goes_on_so s j k q0 mark.Restarted some plain none = absurd (true≢false plain)
  goes_on_so s j k q0 _ some plain none = (none, refl, refl)

  marks_after : (s : Setup) (j : ℕ) (ms : List Mark) (k : ProcessView) (q0 : Reply) → k.reply ≡ Some q0 → ArePlain ms → refusal_on s j k ms ≡ None → refusal_on s j (replied k) (map put ms) ≡ None
  marks_after s j [] k q0 some plain none = refl
  marks_after s j (m ∷ ms) k q0 some plain none =
      let so = goes_on_so s j k q0 m some (or_left (must_be_alone m) (list_any must_be_alone ms) plain) (first_unrefused s j k m ms none) in
      let rest = marks_after s j ms (marked s j k m) q0 (so.2 ∙ some) (or_right (must_be_alone m) (list_any must_be_alone ms) plain) (rest_unrefused s j k m ms none) in
      refused_later s j (replied k) (put m) (map put ms) so.0 ∙ ap (λ x. refusal_on s j x (map put ms)) so.1 ∙ rest

  -- a mark before that one is refused no more than before
  marks_before : (s : Setup) (j : ℕ) (ms : List Mark) (k : ProcessView) (cut : Bool) → IsSound k cut → ArePlain ms → refusal_on s j k ms ≡ None → (takings ms ≡ [] → ⊥) → refusal_on s j k (map put ms) ≡ None
  marks_before s j [] k cut sound plain none takes = refl
  marks_before s j (m ∷ ms) k cut sound plain none takes =
      by (λ (x : Mark) first more. marks_before s j ms (marked s j k x) (cut_after cut x) (sound_marked s j k x cut first sound) (or_right (must_be_alone m) (list_any must_be_alone ms) plain) more)
      m (or_left (must_be_alone m) (list_any must_be_alone ms) plain) (first_unrefused s j k m ms none) (rest_unrefused s j k m ms none) takes
    where
      later : ArePlain ms
      later = or_right (must_be_alone m) (list_any must_be_alone ms) plain

      by : ((x : Mark) → mark_refusal k x ≡ None → refusal_on s j (marked s j k x) ms ≡ None → (takings ms ≡ [] → ⊥) → refusal_on s j (marked s j k x) (map put ms) ≡ None) →
          (m : Mark) → must_be_alone m ≡ false → mark_refusal k m ≡ None → refusal_on s j (marked s j k m) ms ≡ None → (takings (m ∷ ms) ≡ [] → ⊥) → refusal_on s j k (put m ∷ map put ms) ≡ None
      by on (mark.Taken i q) apart first more takes =
          refused_later s j k (mark.Taken n r) (map put ms) first
          ∙ marks_after s j ms (marked s j k (mark.Taken i q)) q refl later more
      by on (mark.Answered a) apart first more takes =
          let out : k.passage.inside ≡ false = outside k cut sound (answers_not k.stage (none_if (not (is_in_doorway k.stage || is_leaving k.stage)) refusal.NotLeaving _ first)).0 in
          absurd (takes (ap takings (at_rest_none s j (marked s j k (mark.Answered a)) ms refl out more later)))
      by on (mark.Waiting t) apart first more takes = refused_later s j k (mark.Waiting t) (map put ms) first ∙ on (mark.Waiting t) first more takes
      by on mark.Entered apart first more takes = refused_later s j k mark.Entered (map put ms) first ∙ on mark.Entered first more takes
      by on mark.Left apart first more takes = refused_later s j k mark.Left (map put ms) first ∙ on mark.Left first more takes
      by on (mark.Settled v) apart first more takes = refused_later s j k (mark.Settled v) (map put ms) first ∙ on (mark.Settled v) first more takes
      by on mark.Down apart first more takes = refused_later s j k mark.Down (map put ms) first ∙ on mark.Down first more takes
      by on _ apart first more takes = absurd (true≢false apart)

-- a mark that must be alone takes nothing
alone_takes_none : (m : Mark) → must_be_alone m ≡ true → takings (m ∷ []) ≡ []
alone_takes_none (mark.Called c) is = refl
alone_takes_none mark.Failed is = refl
alone_takes_none mark.Withdrew is = refl
alone_takes_none mark.Restarted is = refl
alone_takes_none _ is = absurd (true≢false (sym is))

with_right_taking : (s : Setup) (past : Past) (e : Entry) → AllKeep s past → first_broken s past e ≡ Some law.History → first_broken s past (changed (Taking (length (history s past)) (right_reply s past e.process)) e) ≡ None
with_right_taking s past e all breaks =
    let is = none_but_history (breaks_safe s past e) (breaks_access s past e) (breaks_marks s past e) (breaks_together s past e) (breaks_overtaken s past e) (breaks_history s past e) breaks in
    let unrefused : refusal_of_marks s past (with_marks p o ms) ≡ None = unsome (refusal_of_marks s past e) is.2 in
    let takes : takings ms ≡ [] → ⊥ = λ none. true≢false (sym is.5 ∙ ap (λ (ts : List (ℕ × Reply)). not (list_all (is_that n r) ts)) none) in
    let fine = orderly s past p o ms unrefused in
    let marks = unrefused_with fine takes (unrefused_on s past p o ms unrefused) in
    ap (λ b. if b then Some law.Safe else broken_later s past x) is.0
    ∙ ap (λ b. if b then Some law.Access else (if breaks_marks s past x then Some law.Marks else broken_inside s past x)) is.1
    ∙ ap (λ (w : Option MarkRefusal). if is_some w then Some law.Marks else broken_inside s past x) marks
    ∙ ap (λ b. first_that ((b && is_some (other_inside (passage_in past) s.processes p), law.Together) ∷ (breaks_overtaken s past x, law.Overtaken) ∷ (breaks_history s past x, law.History) ∷ [])) entered
    ∙ ap (λ b. if b then Some law.Together else first_that ((breaks_overtaken s past x, law.Overtaken) ∷ (breaks_history s past x, law.History) ∷ [])) is.3
    ∙ ap (λ b. first_that ((b && is_some (other_ahead (passage_in past) s.processes p), law.Overtaken) ∷ (breaks_history s past x, law.History) ∷ [])) entered
    ∙ ap (λ b. if b then Some law.Overtaken else first_that ((breaks_history s past x, law.History) ∷ [])) is.4
    ∙ ap (λ b. if not b then Some law.History else None) (put_taken n r ms)
  where
    p : ℕ
    p = e.process

    o : Option Access
    o = e.access

    ms : List Mark
    ms = e.marks

    n : ℕ
    n = length (history s past)

    r : Reply
    r = right_reply s past e.process

    x : Entry
    x = changed (Taking (length (history s past)) (right_reply s past e.process)) e

    entered : has is_entered (changed (Taking (length (history s past)) (right_reply s past e.process)) e) ≡ has is_entered e
    entered = put_any (length (history s past)) (right_reply s past e.process) is_entered (entered_same (length (history s past)) (right_reply s past e.process)) e.marks

    unrefused_with : Orderly e.access e.process e.marks → (takings e.marks ≡ [] → ⊥) → refusal_on s (length past) (accessed_by (length past) (process_view s e.process past) e.access) e.marks ≡ None →
        refusal_of_marks s past (changed (Taking (length (history s past)) (right_reply s past e.process)) e) ≡ None
    unrefused_with fine takes none =
        let m = length (history s past) in
        let q = right_reply s past e.process in
        let long : length (map (mark_with (Taking m q)) e.marks) ≡ length e.marks = length-map e.marks (mark_with (Taking m q)) in
        let alone : list_any must_be_alone (map (mark_with (Taking m q)) e.marks) ≡ list_any must_be_alone e.marks = put_any m q must_be_alone (alone_same m q) e.marks in
        let k : ProcessView = accessed_by (length past) (process_view s e.process past) e.access in
        refused s e.process past e.access (map (mark_with (Taking m q)) e.marks)
        (ap (λ l. is_none e.access && (l == 0)) long ∙ fine.something)
        (ap (λ b. b && not (is_none e.access && (length (map (mark_with (Taking m q)) e.marks) == 1))) alone ∙ ap (λ l. list_any must_be_alone e.marks && not (is_none e.access && (l == 1))) long ∙ fine.apart)
        ∙ marks_before m q s (length past) e.marks k (is_cut e.process past) (sound_accessed (length past) (process_view s e.process past) e.access (is_cut e.process past) (all_sound s past all e.process))
        (plain (list_any must_be_alone e.marks) refl) none takes
      where
        plain : (b : Bool) → list_any must_be_alone e.marks ≡ b → list_any must_be_alone e.marks ≡ false
        plain false is = is
        plain true any =
            let one = one_alone e.access e.marks e.process any fine.apart in
            absurd (takes (ap takings one.2 ∙ alone_takes_none one.0 one.3))

-- Each change keeps all laws.
pub mays_keep : MaysKeepAllLaws
mays_keep s past good e l c breaks may = by l breaks may
  where
    safe : (b : Bool) → breaks_safe s past e ≡ b → (if b then Some law.Safe else broken_later s past e) ≡ Some law.Safe → breaks_safe s past e ≡ true
    safe true is breaks = is
    safe false is breaks = later (breaks_access s past e) (breaks_marks s past e) (breaks_together s past e) (breaks_overtaken s past e) (breaks_history s past e) breaks
      where
        later : (b c d f h : Bool) → (if b then Some law.Access else if c then Some law.Marks else first_that ((d, law.Together) ∷ (f, law.Overtaken) ∷ (h, law.History) ∷ [])) ≡ Some law.Safe → breaks_safe s past e ≡ true
        later true c d f h is = absurd (cc)
        later false true d f h is = absurd (cc)
        later false false true f h is = absurd (cc)
        later false false false true h is = absurd (cc)
        later false false false false true is = absurd (cc)
        later false false false false false is = absurd (cc)

    taking : (b : Bool) → cond b (Some (Taking (length (history s past)) (right_reply s past e.process))) None ≡ Some c → Taking (length (history s past)) (right_reply s past e.process) ≡ c
    taking true is = cc
    taking false is = absurd (cc)

    by : (l : AnyLockLaw) → first_broken s past e ≡ Some l → change_of l s past e ≡ Some c → first_broken s past (changed c e) ≡ None
    by law.Safe breaks may = with_other_value s past e c (safe (breaks_safe s past e) refl breaks) may
    by law.History breaks may = subst (λ (c : Remedy). first_broken s past (changed c e) ≡ None) (taking (nat_lt e.process s.processes) may) (with_right_taking s past e (all_keep s past good) breaks)
    by law.Access breaks may = absurd (cc)
    by law.Marks breaks may = absurd (cc)
    by law.Together breaks may = absurd (cc)
    by law.Overtaken breaks may = absurd (cc)
