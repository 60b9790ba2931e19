-- The store before a window, entry by entry.
use Rattle.std.proofs.Common.{◌≡◌, ◌<◌, ◌≤◌, ◌⊎◌, inl, inr, ℕ, Bool, true, false, ◌&&◌, not, nat_le, nat_lt, List, [], ◌∷◌, length, refl, ap, sym, subst, ◌∙◌, arith, true≢false}
use Rattle.std.proofs.lemmas.Bool.{cases_lt, le-leb, lt-ltb, ltb-true}
use Rattle.std.proofs.lemmas.Bool.Decides.{nat_tests}
use Rattle.model.specs.plain_store.{Setup}
use Rattle.model.specs.{Entry, Mark, Past}
use Rattle.picture.specs.{Window}
use Rattle.draw.specs.{IsAfterMarks, IsStoreBefore, KeepsStore, StoreBefore, TakenStore, entries_before, marks_after, marks_back, store_before, store_by, store_words}

-- before the window all entries come before it
front : (from : ℕ) (e : Entry) (past : Past) → nat_lt (length past) from ≡ true → entries_before from (e ∷ past) ≡ e ∷ past
front from e past is = ap (λ b. elim b as (λ _. Past) [ true ↦ e ∷ past | false ↦ entries_before from past ]) is

-- and then no more do
behind : (from : ℕ) (e : Entry) (past : Past) → nat_lt (length past) from ≡ false → entries_before from (e ∷ past) ≡ entries_before from past
behind from e past is = ap (λ b. elim b as (λ _. Past) [ true ↦ e ∷ past | false ↦ entries_before from past ]) is

not_before : (n from : ℕ) → nat_lt n from ≡ false → from ≤ n
not_before n from is = by (cases_lt n from)
  where
    by : (n < from) ⊎ (from ≤ n) → from ≤ n
    by (inl below) = absurd (true≢false (sym (lt-ltb n from below) ∙ is))
    by (inr above) = above

-- An entry more: its marks come before the window, or the store is kept, or it has none.
pub kept_on : (w : Window) (s : Setup) (past : Past) (e : Entry) (kept : Bool) (words : List ℕ) → (w.from ≤ length past → kept ≡ true) ⊎ (e.marks ≡ []) → KeepsStore w s past kept words → KeepsStore w s (e ∷ past) kept words
kept_on w s past e kept words is keeps = by (nat_lt (length past) w.from) refl kept is keeps
  where
    none_more : (marks : List Mark) → marks ≡ [] → marks_after e.process marks (marks_back past) ≡ marks_back past
    none_more marks none = ap (λ (l : List Mark). marks_after e.process l (marks_back past)) none

    by : (b : Bool) → nat_lt (length past) w.from ≡ b → (kept : Bool) → (w.from ≤ length past → kept ≡ true) ⊎ (e.marks ≡ []) → KeepsStore w s past kept words → KeepsStore w s (e ∷ past) kept words
    by true before true is (many, same) = let below = ltb-true (length past) w.from before in absurd (omega (arith, below, many))
    by true before false is same = ap marks_back (front w.from e past before)
    by false after true is (many, same) = (omega (arith, many), same ∙ ap (λ (l : Past). store_words (store_by s (marks_back l))) (sym (behind w.from e past after)))
    by false after false (inl kept) same = absurd (true≢false (sym (kept (not_before (length past) w.from after))))
    by false after false (inr none) same = ap marks_back (behind w.from e past after) ∙ same ∙ sym (none_more e.marks none)

pub before_on : (w : Window) (s : Setup) (past : Past) (e : Entry) (b : StoreBefore) → (b.from ≤ length past → b.is_kept ≡ true) ⊎ (e.marks ≡ []) → IsStoreBefore w s past b → IsStoreBefore w s (e ∷ past) b
before_on w s past e b is before = record {
  from = before.from;
  keeps = kept_on w s past e b.is_kept b.words.items (by is) before.keeps;
}
  where
    by : (b.from ≤ length past → b.is_kept ≡ true) ⊎ (e.marks ≡ []) → (w.from ≤ length past → b.is_kept ≡ true) ⊎ (e.marks ≡ [])
    by (inl kept) = inl (λ many. kept (subst (λ n. n ≤ length past) (sym before.from) many))
    by (inr none) = inr none

-- the words of the store now, if none were kept
pub words_now : (w : Window) (s : Setup) (past : Past) (store : TakenStore) (b : StoreBefore) → b.is_kept ≡ false → IsAfterMarks s (marks_back past) store → IsStoreBefore w s past b →
    store_words store.store ≡ store_words (store_before w s past)
words_now w s past store b none after before =
    let all : marks_back (entries_before w.from past) ≡ marks_back past = subst (λ k. KeepsStore w s past k b.words.items) none before.keeps in
    ap store_words after.store ∙ ap (λ (l : List (ℕ × Mark)). store_words (store_by s l)) (sym all)

-- the words of the store are kept, once all entries before the window are drawn
pub keeps_now : (w : Window) (s : Setup) (past : Past) (store : TakenStore) (old new : StoreBefore) → old.is_kept ≡ false → old.from ≤ length past → IsAfterMarks s (marks_back past) store →
    new.from ≡ old.from → new.is_kept ≡ true → new.words.items ≡ store_words store.store → IsStoreBefore w s past old → IsStoreBefore w s past new
keeps_now w s past store old new none many after same kept words before = record {
  from = same ∙ before.from;
  keeps = subst (λ b. KeepsStore w s past b new.words.items) (sym kept)
      (subst (λ n. n ≤ length past) before.from many, words ∙ words_now w s past store old none after before);
}

-- or those that were kept
pub words_kept : (w : Window) (s : Setup) (past : Past) (b : StoreBefore) → b.is_kept ≡ true → IsStoreBefore w s past b → b.words.items ≡ store_words (store_before w s past)
words_kept w s past b kept before =
    let keeps : KeepsStore w s past true b.words.items = subst (λ k. KeepsStore w s past k b.words.items) kept before.keeps in keeps.1

-- Whether it is time to keep the words.
pub was_kept : (kept : Bool) (from n : ℕ) → (not kept && nat_le from n) ≡ false → from ≤ n → kept ≡ true
was_kept true from n is many = refl
was_kept false from n is many = absurd (true≢false (sym (le-leb from n many) ∙ is))

pub due_now : (kept : Bool) (from n : ℕ) → (not kept && nat_le from n) ≡ true → (kept ≡ false) × (from ≤ n)
due_now true from n is = absurd (true≢false (sym is))
due_now false from n is = (refl, grind (arith, nat_tests, is))

-- before the first entry
pub first_before : (w : Window) (s : Setup) (b : StoreBefore) → b.from ≡ w.from → b.is_kept ≡ false → IsStoreBefore w s [] b
first_before w s b same none = record { from = same; keeps = subst (λ k. KeepsStore w s [] k b.words.items) (sym none) refl }
