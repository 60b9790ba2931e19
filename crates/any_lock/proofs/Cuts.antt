-- Entries that keep all laws: a call that was cut by a failure is not answered.
use Rattle.std.proofs.Common.{◌≡◌, ◌≢◌, ℕ, zero, suc, ◌<◌, Bool, true, false, not, ◌&&◌, ◌||◌, cond, List, [], ◌∷◌, Option, None, Some, fold, length, get_or, refl, sym, ap, ◌∙◌, subst, arith, true≢false, ◌⊎◌, inl, inr, ne_eqb}
use Rattle.std.specs.List.{list_any}
use Rattle.std.proofs.lemmas.Bool.{cases_eq}
use Rattle.plain_store.specs.{Answer, Setup}
use Rattle.model.specs.{Access, AnswersNoCutCall, Entry, Mark, Past, Stage, has, is_called, is_down, is_failed, is_in_doorway, is_leaving, is_running, is_settling, is_waiting_stage, own, since, stage_after}
use Rattle.model.specs.declared.marks.Mark.TheVariants as mark
use Rattle.model.specs.declared.stages.Stage.TheVariants as stage
use Rattle.any_lock.specs.{MarkRefusal, ProcessView, accessed_by, has_nothing, has_one_mark, its_call, mark_refusal, marked, marked_all, refusal_of_marks, refusal_on, process_view, must_be_alone}
use Rattle.any_lock.specs.declared.refusals.MarkRefusal.TheVariants as refusal
use Rattle.any_lock.proofs.Alone.{AllKeep, Keeps, not_not}
use Rattle.any_lock.proofs.Breaks.{none_else, none_if}
use Rattle.any_lock.proofs.Markings.{no_failure, none_of, or_false, or_left, or_right, since-mine, with_marks}
use Rattle.any_lock.proofs.Steps.{own-mine, process_view-other}
use Rattle.any_lock.proofs.Whole.{one_alone, refusal_or, refused, whole_applied}

-- Entries whose marks are not refused.

-- an entry has an access or a mark, and a mark that must be alone is alone
pub record Orderly (o : Option Access) (p : ℕ) (ms : List Mark) : Type 0 where
  pub something : has_nothing (with_marks p o ms) ≡ false
  pub apart : (list_any must_be_alone ms && not (has_one_mark (with_marks p o ms))) ≡ false

pub orderly : (s : Setup) (past : Past) (p : ℕ) (o : Option Access) (ms : List Mark) → refusal_of_marks s past (with_marks p o ms) ≡ None → Orderly o p ms
orderly s past p o ms none = record {
  something = none_if (has_nothing (with_marks p o ms)) refusal.Nothing _ none;
  apart = none_if (list_any must_be_alone ms && not (has_one_mark (with_marks p o ms))) refusal.NotAlone _ (none_else (has_nothing (with_marks p o ms)) refusal.Nothing _ none);
}

pub unrefused_on : (s : Setup) (past : Past) (p : ℕ) (o : Option Access) (ms : List Mark) → refusal_of_marks s past (with_marks p o ms) ≡ None →
    refusal_on s (length past) (accessed_by (length past) (process_view s p past) o) ms ≡ None
unrefused_on s past p o ms none = let fine = orderly s past p o ms none in sym (refused s p past o ms fine.something fine.apart) ∙ none

-- the refusals of the first mark, and of the marks after it
pub first_unrefused : (s : Setup) (n : ℕ) (k : ProcessView) (m : Mark) (ms : List Mark) → refusal_on s n k (m ∷ ms) ≡ None → mark_refusal k m ≡ None
first_unrefused s n k m ms none = go (mark_refusal k m) refl
  where
    go : (r : Option MarkRefusal) → mark_refusal k m ≡ r → mark_refusal k m ≡ None
    go None h = h
    go (Some r) h = absurd (let both : Some r ≡ None = ap (λ x. refusal_or x (refusal_on s n (marked s n k m) ms)) (sym h) ∙ none in cc)

pub rest_unrefused : (s : Setup) (n : ℕ) (k : ProcessView) (m : Mark) (ms : List Mark) → refusal_on s n k (m ∷ ms) ≡ None → refusal_on s n (marked s n k m) ms ≡ None
rest_unrefused s n k m ms none = ap (λ x. refusal_or x (refusal_on s n (marked s n k m) ms)) (sym (first_unrefused s n k m ms none)) ∙ none

-- The invariant of the state of a process, and of whether its call was cut.

-- the stages of a process that is inside
abbrev pub holds : Stage → Bool
holds stage.Inside = true
holds stage.Settling = true
holds _ = false

-- the stages of a process whose call was cut
abbrev pub rests : Stage → Bool
rests stage.Idle = true
rests stage.Settling = true
rests stage.Down = true
rests _ = false

-- whether the call was cut, after a mark
abbrev pub cut_after : Bool → Mark → Bool
cut_after cut (mark.Called c) = false
cut_after cut mark.Failed = true
cut_after cut _ = cut

pub record IsSound (k : ProcessView) (is_cut : Bool) : Type 0 where
  pub inside : k.passage.inside ≡ true → holds k.stage ≡ true
  pub cut : is_cut ≡ true → rests k.stage ≡ true

is_doorway : (x : Stage) → is_in_doorway x ≡ true → x ≡ stage.Doorway
is_doorway stage.Doorway h = refl
is_doorway _ h = absurd (true≢false (sym h))

is_waits : (x : Stage) → is_waiting_stage x ≡ true → x ≡ stage.Waiting
is_waits stage.Waiting h = refl
is_waits _ h = absurd (true≢false (sym h))

is_downs : (x : Stage) → is_down x ≡ true → x ≡ stage.Down
is_downs stage.Down h = refl
is_downs _ h = absurd (true≢false (sym h))

-- a stage at which a call may be answered is in neither list
pub answers_not : (x : Stage) → not (is_in_doorway x || is_leaving x) ≡ false → (holds x ≡ false) × (rests x ≡ false)
answers_not stage.Doorway h = (refl, refl)
answers_not stage.Leaving h = (refl, refl)
answers_not _ h = absurd (true≢false h)

calls_idle : (x : Stage) → is_running x ≡ false → (is_settling x || is_down x) ≡ false → holds x ≡ false
calls_idle stage.Inside a b = absurd (true≢false a)
calls_idle stage.Settling a b = absurd (true≢false b)
calls_idle _ a b = refl

clash : (b : Bool) → b ≡ true → b ≡ false → ⊥
clash b t f = true≢false (sym t ∙ f)

-- each mark that is not refused keeps the invariant
pub sound_marked : (s : Setup) (n : ℕ) (k : ProcessView) (m : Mark) (cut : Bool) → mark_refusal k m ≡ None → IsSound k cut → IsSound (marked s n k m) (cut_after cut m)
sound_marked s n k (mark.Called c) cut none sound =
    let rest = none_else (is_running k.stage) refusal.Busy _ none in
    record {
      inside = λ i. absurd (clash (holds k.stage) (sound.inside i) (calls_idle k.stage (none_if (is_running k.stage) refusal.Busy _ none) (none_if (is_settling k.stage || is_down k.stage) refusal.IsDown _ rest)));
      cut = λ h. absurd (true≢false (sym h));
    }
sound_marked s n k (mark.Waiting t) cut none sound =
    let is : k.stage ≡ stage.Doorway = is_doorway k.stage (not_not (is_in_doorway k.stage) (none_if (not (is_in_doorway k.stage)) refusal.NotInDoorway _ none)) in
    record { inside = λ i. absurd (clash (holds k.stage) (sound.inside i) (ap holds is)); cut = λ h. absurd (clash (rests k.stage) (sound.cut h) (ap rests is)) }
sound_marked s n k mark.Entered cut none sound =
    let is : k.stage ≡ stage.Waiting = is_waits k.stage (not_not (is_waiting_stage k.stage) (none_if (not (is_waiting_stage k.stage)) refusal.NotWaiting _ none)) in
    record { inside = λ i. refl; cut = λ h. absurd (clash (rests k.stage) (sound.cut h) (ap rests is)) }
sound_marked s n k (mark.Taken j r) cut none sound = record { inside = sound.inside; cut = sound.cut }
sound_marked s n k mark.Left cut none sound = record { inside = λ i. absurd (true≢false (sym i)); cut = λ h. by k.stage (sound.cut h) (sound.inside (not_not k.passage.inside (none_if (not k.passage.inside) refusal.NotInside _ none))) }
  where
    by : (x : Stage) → rests x ≡ true → holds x ≡ true → rests (stage_after x mark.Left) ≡ true
    by stage.Settling a b = refl
    by stage.Idle a b = absurd (true≢false (sym b))
    by stage.Down a b = absurd (true≢false (sym b))
    by stage.Doorway a b = absurd (true≢false (sym a))
    by stage.Waiting a b = absurd (true≢false (sym a))
    by stage.Inside a b = absurd (true≢false (sym a))
    by stage.Leaving a b = absurd (true≢false (sym a))
sound_marked s n k (mark.Answered a) cut none sound =
    let both = answers_not k.stage (none_if (not (is_in_doorway k.stage || is_leaving k.stage)) refusal.NotLeaving _ none) in
    record { inside = λ i. absurd (clash (holds k.stage) (sound.inside i) both.0); cut = λ h. refl }
sound_marked s n k mark.Failed cut none sound = record { inside = λ i. refl; cut = λ h. refl }
sound_marked s n k (mark.Settled v) cut none sound = record { inside = sound.inside; cut = sound.cut }
sound_marked s n k mark.Down cut none sound =
    let rest = none_else (not (is_settling k.stage)) refusal.NotSettling _ none in
    record { inside = λ i. absurd (clash k.passage.inside i (none_if k.passage.inside refusal.StillInside _ rest)); cut = λ h. refl }
sound_marked s n k mark.Withdrew cut none sound =
    let is : k.stage ≡ stage.Waiting = is_waits k.stage (not_not (is_waiting_stage k.stage) (none_if (not (is_waiting_stage k.stage)) refusal.NotWaiting _ none)) in
    record { inside = λ i. absurd (clash (holds k.stage) (sound.inside i) (ap holds is)); cut = λ h. absurd (clash (rests k.stage) (sound.cut h) (ap rests is)) }
sound_marked s n k mark.Restarted cut none sound =
    let is : k.stage ≡ stage.Down = is_downs k.stage (not_not (is_down k.stage) (none_if (not (is_down k.stage)) refusal.NotDown _ none)) in
    record { inside = λ i. absurd (clash (holds k.stage) (sound.inside i) (ap holds is)); cut = λ h. refl }

pub sound_accessed : (n : ℕ) (k : ProcessView) (o : Option Access) (cut : Bool) → IsSound k cut → IsSound (accessed_by n k o) cut
sound_accessed n k None cut sound = sound
sound_accessed n k (Some a) cut sound = record { inside = sound.inside; cut = sound.cut }

sound_all : (s : Setup) (n : ℕ) (ms : List Mark) (k : ProcessView) (cut : Bool) → refusal_on s n k ms ≡ None → IsSound k cut → IsSound (marked_all s n k ms) (fold cut_after cut ms)
sound_all s n [] k cut none sound = sound
sound_all s n (m ∷ ms) k cut none sound = sound_all s n ms (marked s n k m) (cut_after cut m) (rest_unrefused s n k m ms none) (sound_marked s n k m cut (first_unrefused s n k m ms none) sound)

-- whether the last call of p was cut
abbrev pub is_cut : ℕ → Past → Bool
is_cut p past = list_any (has is_failed) (its_call p past)

same_cut : (cut : Bool) (ms : List Mark) → list_any must_be_alone ms ≡ false → fold cut_after cut ms ≡ cut
same_cut cut [] plain = refl
same_cut cut (mark.Called c ∷ ms) plain = absurd (true≢false plain)
same_cut cut (mark.Failed ∷ ms) plain = absurd (true≢false plain)
same_cut cut (mark.Withdrew ∷ ms) plain = absurd (true≢false plain)
same_cut cut (mark.Restarted ∷ ms) plain = absurd (true≢false plain)
same_cut cut (_ ∷ ms) plain = same_cut cut ms plain

cut_plain : (p : ℕ) (o : Option Access) (ms : List Mark) (past : Past) → list_any must_be_alone ms ≡ false → is_cut p (with_marks p o ms ∷ past) ≡ is_cut p past
cut_plain p o ms past plain = ap (list_any (has is_failed)) (since-mine p o ms past plain) ∙ ap (λ b. b || is_cut p past) (none_of is_failed no_failure ms plain)

abbrev pub CutGoesOn : ℕ → Past → Option Access → List Mark → Type 0
CutGoesOn p past o ms = is_cut p (with_marks p o ms ∷ past) ≡ fold cut_after (is_cut p past) ms

cut_alone : (p : ℕ) (m : Mark) (past : Past) → must_be_alone m ≡ true → CutGoesOn p past None (m ∷ [])
cut_alone p (mark.Called c) past h = ap (λ l. list_any (has is_failed) (since is_called l)) (own-mine p (with_marks p None (mark.Called c ∷ [])) past refl)
cut_alone p mark.Failed past h = ap (λ l. list_any (has is_failed) (since is_called l)) (own-mine p (with_marks p None (mark.Failed ∷ [])) past refl)
cut_alone p mark.Withdrew past h = ap (λ l. list_any (has is_failed) (since is_called l)) (own-mine p (with_marks p None (mark.Withdrew ∷ [])) past refl)
cut_alone p mark.Restarted past h = ap (λ l. list_any (has is_failed) (since is_called l)) (own-mine p (with_marks p None (mark.Restarted ∷ [])) past refl)
cut_alone p _ past h = absurd (true≢false (sym h))

cut_on : (p : ℕ) (past : Past) (o : Option Access) (ms : List Mark) → Orderly o p ms → CutGoesOn p past o ms
cut_on p past o ms fine = go (list_any must_be_alone ms) refl
  where
    go : (b : Bool) → list_any must_be_alone ms ≡ b → CutGoesOn p past o ms
    go false plain = cut_plain p o ms past plain ∙ sym (same_cut (is_cut p past) ms plain)
    go true any = let one = one_alone o ms p any fine.apart in
        subst (λ x. CutGoesOn p past x ms) (sym one.1) (subst (λ x. CutGoesOn p past None x) (sym one.2) (cut_alone p one.0 past one.3))

pub own-other : (q : ℕ) (e : Entry) (past : Past) → e.process ≢ q → own q (e ∷ past) ≡ own q past
own-other q e past h = ap (λ b. cond b (e ∷ own q past) (own q past)) (ne_eqb e.process q h)

pub all_sound : (s : Setup) (past : Past) → AllKeep s past → (p : ℕ) → IsSound (process_view s p past) (is_cut p past)
all_sound s [] all p = record { inside = λ i. absurd (true≢false (sym i)); cut = λ h. refl }
all_sound s (e ∷ past) all p = go (cases_eq e.process p) (all_sound s past all.1 p)
  where
    mine : IsSound (process_view s e.process past) (is_cut e.process past) → IsSound (process_view s e.process (e ∷ past)) (is_cut e.process (e ∷ past))
    mine before =
        let fine = orderly s past e.process e.access e.marks all.0.marks in
        let none = unrefused_on s past e.process e.access e.marks all.0.marks in
        subst (λ k. IsSound k (is_cut e.process (e ∷ past))) (whole_applied s e.process past e.access e.marks fine.apart none)
        (subst (λ b. IsSound (marked_all s (length past) (accessed_by (length past) (process_view s e.process past) e.access) e.marks) b) (sym (cut_on e.process past e.access e.marks fine))
        (sound_all s (length past) e.marks (accessed_by (length past) (process_view s e.process past) e.access) (is_cut e.process past) none
        (sound_accessed (length past) (process_view s e.process past) e.access (is_cut e.process past) before)))

    go : (e.process ≡ p) ⊎ (e.process ≢ p) → IsSound (process_view s p past) (is_cut p past) → IsSound (process_view s p (e ∷ past)) (is_cut p (e ∷ past))
    go (inl same) before = subst (λ q. IsSound (process_view s q (e ∷ past)) (is_cut q (e ∷ past))) same (mine (subst (λ q. IsSound (process_view s q past) (is_cut q past)) (sym same) before))
    go (inr apart) before =
        subst (λ k. IsSound k (is_cut p (e ∷ past))) (sym (process_view-other s p e past (ne_eqb e.process p apart)))
        (subst (λ b. IsSound (process_view s p past) b) (sym (ap (λ l. list_any (has is_failed) (since is_called l)) (own-other p e past apart))) before)

-- A call that is answered.

-- a call that is answered was not cut
answered_at : (s : Setup) (n : ℕ) (ms : List Mark) (k : ProcessView) (cut : Bool) (i : ℕ) (a : Answer) → refusal_on s n k ms ≡ None → IsSound k cut → list_any must_be_alone ms ≡ false →
    i < length ms → get_or ms i (mark.Answered a) ≡ mark.Answered a → cut ≡ false
answered_at s n [] k cut i a none sound plain within is = absurd (omega arith)
answered_at s n (m ∷ ms) k cut zero a none sound plain within is =
    let first : mark_refusal k (mark.Answered a) ≡ None = subst (λ x. mark_refusal k x ≡ None) is (first_unrefused s n k m ms none) in
    let both = answers_not k.stage (none_if (not (is_in_doorway k.stage || is_leaving k.stage)) refusal.NotLeaving _ first) in
    go cut refl sound both.1
  where
    go : (b : Bool) → cut ≡ b → IsSound k cut → rests k.stage ≡ false → cut ≡ false
    go false h sound running = h
    go true h sound running = absurd (clash (rests k.stage) (sound.cut h) running)
answered_at s n (m ∷ ms) k cut (suc i) a none sound plain within is =
    let here = or_left (must_be_alone m) (list_any must_be_alone ms) plain in
    let later = or_right (must_be_alone m) (list_any must_be_alone ms) plain in
    let same : cut_after cut m ≡ cut = same_cut cut (m ∷ []) (or_false (must_be_alone m) ∙ here) in
    sym same ∙ answered_at s n ms (marked s n k m) (cut_after cut m) i a (rest_unrefused s n k m ms none) (sound_marked s n k m cut (first_unrefused s n k m ms none) sound) later (omega arith) is

-- an answer need not be alone
pub answered_plain : (o : Option Access) (p : ℕ) (ms : List Mark) (i : ℕ) (a : Answer) → Orderly o p ms → i < length ms → get_or ms i (mark.Answered a) ≡ mark.Answered a → list_any must_be_alone ms ≡ false
answered_plain o p ms i a fine within is = go (list_any must_be_alone ms) refl
  where
    only : (m : Mark) (i : ℕ) → must_be_alone m ≡ true → i < length (m ∷ []) → get_or (m ∷ []) i (mark.Answered a) ≡ mark.Answered a → ⊥
    only m zero alone within is = true≢false (sym alone ∙ ap must_be_alone is)
    only m (suc i) alone within is = omega arith

    go : (b : Bool) → list_any must_be_alone ms ≡ b → list_any must_be_alone ms ≡ false
    go false h = h
    go true any =
        let one = one_alone o ms p any fine.apart in
        absurd (only one.0 i one.3 (subst (λ (l : List Mark). i < length l) one.2 within) (subst (λ (l : List Mark). get_or l i (mark.Answered a) ≡ mark.Answered a) one.2 is))

pub answers_no_cut_call : (s : Setup) (past : Past) (e : Entry) → AllKeep s past → Keeps s past e → AnswersNoCutCall past e
answers_no_cut_call s past e all kept a among =
    let fine = orderly s past e.process e.access e.marks kept.marks in
    answered_at s (length past) e.marks (accessed_by (length past) (process_view s e.process past) e.access) (is_cut e.process past) among.0 a
    (unrefused_on s past e.process e.access e.marks kept.marks)
    (sound_accessed (length past) (process_view s e.process past) e.access (is_cut e.process past) (all_sound s past all e.process))
    (answered_plain e.access e.process e.marks among.0 a fine among.1 among.2)
    among.1 among.2
