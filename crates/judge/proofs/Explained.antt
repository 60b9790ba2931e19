-- The reasons of a verdict, entry by entry, for any judge.
use Rattle.std.proofs.Common.{◌≡◌, ◌<◌, ◌^◌, ℕ, true, false, List, [], ◌∷◌, ◌++◌, length, reverse, refl, sym, ap, subst, ◌∙◌, true≢false}
use Rattle.std.proofs.lemmas.List.{length-reverse}
use Rattle.plain_store.specs.{Setup}
use Rattle.model.specs.{Entry, Past}
use Rattle.auditor.specs.safe_monitor.{Verdict, is_good}
use Rattle.auditor.specs.safe_monitor.declared.verdicts.Verdict.TheVariants.{Good, Bad}
use Rattle.auditor.proofs.safe_monitor.GoodVerdicts.{good_is}
use Rattle.judge.specs.{AreLinesAt, AreLinesOf, GivesReasons, HasExplained}
use Rattle.judge.proofs.LinesAt.{counted_on, lines_of_newest, lines_stay}
use Rattle.judge.proofs.Splits.{at_newest}

module _ {J L : Type 0} (HasJudged : J → Setup → List Entry → Type 0) (verdict : J → Verdict L) (AreReasons : L → Setup → Past → ℕ → Entry → List ℕ → Type 0) where
  -- the lines of a verdict that is good
  no_lines : (s : Setup) (entries : List Entry) (numbers : List ℕ) (v : Verdict L) (lines : List ℕ) → v ≡ Good → AreLinesOf AreReasons s entries numbers v lines → lines ≡ []
  no_lines s entries numbers v lines good are = subst (λ (v : Verdict L). AreLinesOf AreReasons s entries numbers v lines) good are

  -- before the first entry
  pub explained_first : (j : J) (s : Setup) → HasJudged j s [] → verdict j ≡ Good → HasExplained HasJudged verdict AreReasons j [] s [] []
  explained_first j s judged good = record { judged = judged; counted = refl; are = subst (λ (v : Verdict L). AreLinesOf AreReasons s [] [] v []) (sym good) refl }

  module _ (IsVerdict : Setup → List Entry → Verdict L → Type 0)
      (finds : (j : J) (s : Setup) (entries : List Entry) → HasJudged j s entries → IsVerdict s entries (verdict j))
      (one : (s : Setup) (entries : List Entry) (v w : Verdict L) → IsVerdict s entries v → IsVerdict s entries w → v ≡ w)
      (stays : (s : Setup) (entries : List Entry) (e : Entry) (k : ℕ) (l : L) → IsVerdict s entries (Bad k l) → IsVerdict s (entries ++ e ∷ []) (Bad k l))
      (newest : (s : Setup) (entries : List Entry) (e : Entry) (k : ℕ) (l : L) → IsVerdict s entries Good → IsVerdict s (entries ++ e ∷ []) (Bad k l) → k ≡ length entries)
      (j j' : J) (n : ℕ) (e : Entry) (s : Setup) (entries : List Entry) (numbers lines : List ℕ)
      (had : HasExplained HasJudged verdict AreReasons j lines s entries numbers) (judged : HasJudged j' s (entries ++ e ∷ [])) where
    -- the verdict is bad already
    pub still_bad : is_good (verdict j) ≡ false → HasExplained HasJudged verdict AreReasons j' lines s (entries ++ e ∷ []) (numbers ++ n ∷ [])
    still_bad bad = record { judged = judged; counted = counted_on entries numbers n e had.counted; are = by (verdict j) refl bad }
      where
        by : (v : Verdict L) → verdict j ≡ v → is_good v ≡ false → AreLinesOf AreReasons s (entries ++ e ∷ []) (numbers ++ n ∷ []) (verdict j') lines
        by Good is bad = absurd (true≢false bad)
        by (Bad k l) is bad =
            let was : IsVerdict s entries (Bad k l) = subst (IsVerdict s entries) is (finds j s entries had.judged) in
            let at : AreLinesAt (AreReasons l) s entries numbers k lines = subst (λ (v : Verdict L). AreLinesOf AreReasons s entries numbers v lines) is had.are in
            subst (λ (v : Verdict L). AreLinesOf AreReasons s (entries ++ e ∷ []) (numbers ++ n ∷ []) v lines)
            (one s (entries ++ e ∷ []) (Bad k l) (verdict j') (stays s entries e k l was) (finds j' s (entries ++ e ∷ []) judged))
            (lines_stay (AreReasons l) s entries numbers n e k lines at)

    -- the verdict stays good
    pub still_good : is_good (verdict j) ≡ true → is_good (verdict j') ≡ true → HasExplained HasJudged verdict AreReasons j' lines s (entries ++ e ∷ []) (numbers ++ n ∷ [])
    still_good good then = record {
      judged = judged;
      counted = counted_on entries numbers n e had.counted;
      are = subst (λ (v : Verdict L). AreLinesOf AreReasons s (entries ++ e ∷ []) (numbers ++ n ∷ []) v lines) (sym (good_is (verdict j') then)) (no_lines s entries numbers (verdict j) lines (good_is (verdict j) good) had.are);
    }

    -- the verdict becomes bad
    pub gets_bad : (lines' : List ℕ) → length entries < 2 ^ 64 → is_good (verdict j) ≡ true → is_good (verdict j') ≡ false → GivesReasons HasJudged verdict AreReasons j' n e lines' → HasExplained HasJudged verdict AreReasons j' lines' s (entries ++ e ∷ []) (numbers ++ n ∷ [])
    gets_bad lines' few good bad gives = record { judged = judged; counted = counted_on entries numbers n e had.counted; are = by (verdict j') refl bad }
      where
        by : (v : Verdict L) → verdict j' ≡ v → is_good v ≡ false → AreLinesOf AreReasons s (entries ++ e ∷ []) (numbers ++ n ∷ []) (verdict j') lines'
        by Good is bad = absurd (true≢false bad)
        by (Bad k l) is bad =
            let was : IsVerdict s entries Good = subst (IsVerdict s entries) (good_is (verdict j) good) (finds j s entries had.judged) in
            let place : k ≡ length entries = newest s entries e k l was (subst (IsVerdict s (entries ++ e ∷ [])) is (finds j' s (entries ++ e ∷ []) judged)) in
            let fewer : length (reverse entries) < 2 ^ 64 = subst (λ m. m < 2 ^ 64) (sym (length-reverse entries)) few in
            let now : verdict j' ≡ Bad (length entries) l = is ∙ ap (λ m. Bad m l) place in
            subst (λ (v : Verdict L). AreLinesOf AreReasons s (entries ++ e ∷ []) (numbers ++ n ∷ []) v lines') (sym now)
            (lines_of_newest (AreReasons l) s entries numbers n e lines' had.counted (gives s (entries ++ e ∷ []) (reverse entries) (length entries) l judged now (at_newest entries e) fewer))
