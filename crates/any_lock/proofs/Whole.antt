-- A whole entry: its marks one after the other, and the state of its process after them.
use Rattle.std.proofs.Common.{◌≡◌, ℕ, suc, ◌==◌, Bool, true, false, not, ◌&&◌, List, [], ◌∷◌, ◌++◌, Option, None, Some, length, refl, sym, ap, ◌∙◌, subst, arith, true≢false, append_assoc, eqb-true}
use Rattle.std.proofs.lemmas.List.{append-nil}
use Rattle.std.specs.List.{list_any}
use Rattle.plain_store.specs.{Setup}
use Rattle.model.specs.{Access, Mark, Past}
use Rattle.any_lock.specs.{MarkRefusal, ProcessView, accessed_by, has_nothing, has_one_mark, mark_refusal, marked, marked_all, refusal_behind, refusal_of_marks, refusal_on, process_view, must_be_alone}
use Rattle.any_lock.specs.declared.refusals.MarkRefusal.TheVariants as refusal
use Rattle.any_lock.proofs.Markings.{ArePlain, or_false, or_left, or_right, plain-more, process_view-alone, process_view-marked, with_marks}
use Rattle.any_lock.proofs.Steps.{process_view-access}

-- The refusals.

-- the refusal of a mark, or otherwise of the marks after it
abbrev pub refusal_or : Option MarkRefusal → Option MarkRefusal → Option MarkRefusal
refusal_or o more = elim o as (λ _. Option MarkRefusal) [ Some r ↦ Some r | None ↦ more ]

-- plain marks, after others
pub refused_on : (s : Setup) (p : ℕ) (o : Option Access) (all earlier later : List Mark) (past : Past) → ArePlain earlier → ArePlain later →
    refusal_behind s past (with_marks p o all) earlier later ≡ refusal_on s (length past) (process_view s p (with_marks p o earlier ∷ past)) later
refused_on s p o all earlier [] past plain rest = refl
refused_on s p o all earlier (m ∷ later) past plain rest = go (mark_refusal (process_view s p (with_marks p o earlier ∷ past)) m) refl
    (refused_on s p o all (earlier ++ m ∷ []) later past (plain-more earlier m plain (or_left (must_be_alone m) (list_any must_be_alone later) rest)) (or_right (must_be_alone m) (list_any must_be_alone later) rest))
  where
    k : ProcessView
    k = process_view s p (with_marks p o earlier ∷ past)

    is : must_be_alone m ≡ false
    is = or_left (must_be_alone m) (list_any must_be_alone later) rest

    go : (r : Option MarkRefusal) → mark_refusal k m ≡ r →
        refusal_behind s past (with_marks p o all) (earlier ++ m ∷ []) later ≡ refusal_on s (length past) (process_view s p (with_marks p o (earlier ++ m ∷ []) ∷ past)) later →
        refusal_or (mark_refusal k m) (refusal_behind s past (with_marks p o all) (earlier ++ m ∷ []) later) ≡ refusal_or (mark_refusal k m) (refusal_on s (length past) (marked s (length past) k m) later)
    go (Some r) h more = rw h refl
    go None h more = ap (refusal_or (mark_refusal k m))
        (more ∙ ap (λ x. refusal_on s (length past) x later) (process_view-marked s p o earlier m past plain is h))

-- The state of the process.

pub marked_on : (s : Setup) (p : ℕ) (o : Option Access) (earlier later : List Mark) (past : Past) → ArePlain earlier → ArePlain later →
    refusal_on s (length past) (process_view s p (with_marks p o earlier ∷ past)) later ≡ None →
    marked_all s (length past) (process_view s p (with_marks p o earlier ∷ past)) later ≡ process_view s p (with_marks p o (earlier ++ later) ∷ past)
marked_on s p o earlier [] past plain rest none = ap (λ ms. process_view s p (with_marks p o ms ∷ past)) (sym (append-nil earlier))
marked_on s p o earlier (m ∷ later) past plain rest none = go (mark_refusal k m) refl none
    (marked_on s p o (earlier ++ m ∷ []) later past (plain-more earlier m plain (or_left (must_be_alone m) (list_any must_be_alone later) rest)) (or_right (must_be_alone m) (list_any must_be_alone later) rest))
  where
    k : ProcessView
    k = process_view s p (with_marks p o earlier ∷ past)

    is : must_be_alone m ≡ false
    is = or_left (must_be_alone m) (list_any must_be_alone later) rest

    go : (r : Option MarkRefusal) → mark_refusal k m ≡ r → refusal_or (mark_refusal k m) (refusal_on s (length past) (marked s (length past) k m) later) ≡ None →
        (refusal_on s (length past) (process_view s p (with_marks p o (earlier ++ m ∷ []) ∷ past)) later ≡ None →
        marked_all s (length past) (process_view s p (with_marks p o (earlier ++ m ∷ []) ∷ past)) later ≡ process_view s p (with_marks p o ((earlier ++ m ∷ []) ++ later) ∷ past)) →
        marked_all s (length past) (marked s (length past) k m) later ≡ process_view s p (with_marks p o (earlier ++ m ∷ later) ∷ past)
    go (Some r) h none_remaining more = let both : Some r ≡ None = ap (λ x. refusal_or x (refusal_on s (length past) (marked s (length past) k m) later)) (sym h) ∙ none_remaining in cc
    go None h none_remaining more =
        let on = process_view-marked s p o earlier m past plain is h in
        let later_none : refusal_on s (length past) (marked s (length past) k m) later ≡ None = ap (λ x. refusal_or x (refusal_on s (length past) (marked s (length past) k m) later)) (sym h) ∙ none_remaining in
        ap (λ x. marked_all s (length past) x later) (sym on)
        ∙ more (ap (λ x. refusal_on s (length past) x later) on ∙ later_none)
        ∙ ap (λ ms. process_view s p (with_marks p o ms ∷ past)) (append_assoc earlier (m ∷ []) later)

-- Any marks, if each mark that must be alone is alone.

two_marks : (n : ℕ) (b : Bool) → (suc (suc n) == 1) ≡ b → (true && not (suc (suc n) == 1)) ≡ false → ⊥
two_marks n true h unlike = let one : suc (suc n) ≡ 1 = eqb-true (suc (suc n)) 1 h in omega arith
two_marks n false h unlike = true≢false (ap (λ b. true && not b) (sym h) ∙ unlike)

pub one_alone : (o : Option Access) (ms : List Mark) (p : ℕ) → list_any must_be_alone ms ≡ true → (list_any must_be_alone ms && not (has_one_mark (with_marks p o ms))) ≡ false →
    (m : Mark) × (o ≡ None) × (ms ≡ m ∷ []) × (must_be_alone m ≡ true)
one_alone o [] p any alone = absurd (true≢false (sym any))
one_alone (Some a) (m ∷ ms) p any alone = absurd (true≢false (ap (λ b. b && true) (sym any) ∙ alone))
one_alone None (m ∷ []) p any alone = (m, refl, refl, sym (or_false (must_be_alone m)) ∙ any)
one_alone None (m ∷ n ∷ ms) p any alone = absurd (two_marks (length ms) (length (m ∷ n ∷ ms) == 1) refl (ap (λ b. b && not (length (m ∷ n ∷ ms) == 1)) (sym any) ∙ alone))

abbrev pub IsRefused : Setup → ℕ → Past → Option Access → List Mark → Type 0
IsRefused s p past o ms = refusal_behind s past (with_marks p o ms) [] ms ≡ refusal_on s (length past) (accessed_by (length past) (process_view s p past) o) ms

abbrev pub MarksAreApplied : Setup → ℕ → Past → Option Access → List Mark → Type 0
MarksAreApplied s p past o ms = refusal_on s (length past) (accessed_by (length past) (process_view s p past) o) ms ≡ None →
    marked_all s (length past) (accessed_by (length past) (process_view s p past) o) ms ≡ process_view s p (with_marks p o ms ∷ past)

pub refused_whole : (s : Setup) (p : ℕ) (past : Past) (o : Option Access) (ms : List Mark) → (list_any must_be_alone ms && not (has_one_mark (with_marks p o ms))) ≡ false → IsRefused s p past o ms
refused_whole s p past o ms alone = go (list_any must_be_alone ms) refl
  where
    go : (b : Bool) → list_any must_be_alone ms ≡ b → IsRefused s p past o ms
    go false plain = refused_on s p o ms [] ms past refl plain ∙ ap (λ x. refusal_on s (length past) x ms) (process_view-access s p o past)
    go true any =
        let one = one_alone o ms p any alone in
        subst (λ x. IsRefused s p past x ms) (sym one.1) (subst (λ x. IsRefused s p past None x) (sym one.2)
        (ap (λ x. refusal_or (mark_refusal x one.0) None) (process_view-access s p None past)))

pub whole_applied : (s : Setup) (p : ℕ) (past : Past) (o : Option Access) (ms : List Mark) → (list_any must_be_alone ms && not (has_one_mark (with_marks p o ms))) ≡ false → MarksAreApplied s p past o ms
whole_applied s p past o ms alone = go (list_any must_be_alone ms) refl
  where
    go : (b : Bool) → list_any must_be_alone ms ≡ b → MarksAreApplied s p past o ms
    go false plain = λ none.
        let on = process_view-access s p o past in
        ap (λ x. marked_all s (length past) x ms) (sym on) ∙ marked_on s p o [] ms past refl plain (ap (λ x. refusal_on s (length past) x ms) on ∙ none)
    go true any =
        let one = one_alone o ms p any alone in
        subst (λ x. MarksAreApplied s p past x ms) (sym one.1) (subst (λ x. MarksAreApplied s p past None x) (sym one.2)
        (λ none. sym (process_view-alone s p one.0 past one.3)))

-- The refusal of an entry's marks, and the state of its process after them.

pub nothing_refused : (s : Setup) (p : ℕ) (past : Past) (o : Option Access) (ms : List Mark) → has_nothing (with_marks p o ms) ≡ true → refusal_of_marks s past (with_marks p o ms) ≡ Some refusal.Nothing
nothing_refused s p past o ms h = rw h refl

pub crowded_refused : (s : Setup) (p : ℕ) (past : Past) (o : Option Access) (ms : List Mark) → has_nothing (with_marks p o ms) ≡ false → (list_any must_be_alone ms && not (has_one_mark (with_marks p o ms))) ≡ true →
    refusal_of_marks s past (with_marks p o ms) ≡ Some refusal.NotAlone
crowded_refused s p past o ms h crowded = rw (h, crowded) refl

pub refused : (s : Setup) (p : ℕ) (past : Past) (o : Option Access) (ms : List Mark) → has_nothing (with_marks p o ms) ≡ false → (list_any must_be_alone ms && not (has_one_mark (with_marks p o ms))) ≡ false →
    refusal_of_marks s past (with_marks p o ms) ≡ refusal_on s (length past) (accessed_by (length past) (process_view s p past) o) ms
refused s p past o ms h alone = rw (h, alone) (refused_whole s p past o ms alone)

pub accepted : (s : Setup) (p : ℕ) (past : Past) (o : Option Access) (ms : List Mark) → has_nothing (with_marks p o ms) ≡ false → (list_any must_be_alone ms && not (has_one_mark (with_marks p o ms))) ≡ false →
    refusal_on s (length past) (accessed_by (length past) (process_view s p past) o) ms ≡ None →
    (refusal_of_marks s past (with_marks p o ms) ≡ None) × (marked_all s (length past) (accessed_by (length past) (process_view s p past) o) ms ≡ process_view s p (with_marks p o ms ∷ past))
accepted s p past o ms h alone none = (refused s p past o ms h alone ∙ none, whole_applied s p past o ms alone none)
