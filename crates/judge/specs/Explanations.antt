-- The reasons of a bad verdict, for any judge.
use Rattle.std.specs.Prelude.{◌≡◌, ◌<◌, ◌^◌, ℕ, List, [], length}
use Rattle.plain_store.specs.{Setup}
use Rattle.model.specs.{Entry, Past}
use Rattle.auditor.specs.{IsAt}
use Rattle.auditor.specs.safe_monitor.{Verdict}
use Rattle.auditor.specs.safe_monitor.declared.verdicts.Verdict.TheVariants.{Good, Bad}
use Rattle.judge.specs.ReasonLines.{AreLinesAt}

-- the lines of the reasons of a verdict on a record: a good one has none, a bad one has those of its entry
abbrev pub AreLinesOf : {L : Type 0} → (L → Setup → Past → ℕ → Entry → List ℕ → Type 0) → Setup → List Entry → List ℕ → Verdict L → List ℕ → Type 0
AreLinesOf AreReasons s entries numbers Good lines = lines ≡ []
AreLinesOf AreReasons s entries numbers (Bad k l) lines = AreLinesAt (AreReasons l) s entries numbers k lines

module _ {J L : Type 0} (HasJudged : J → Setup → List Entry → Type 0) (verdict : J → Verdict L) (AreReasons : L → Setup → Past → ℕ → Entry → List ℕ → Type 0) where
  -- for each record that a judge has judged bad, these are the lines of the reasons of its bad entry, which is in line n
  abbrev pub GivesReasons : J → ℕ → Entry → List ℕ → Type 0
  GivesReasons j n e lines = (s : Setup) (entries : List Entry) (past : Past) (k : ℕ) (l : L) → HasJudged j s entries → verdict j ≡ Bad k l → IsAt entries k e past → length past < 2 ^ 64 → AreReasons l s past n e lines

  -- a judge has observed these entries, which are in the lines with these numbers, and these are the lines of the reasons of its verdict
  pub record HasExplained (j : J) (lines : List ℕ) (s : Setup) (entries : List Entry) (numbers : List ℕ) : Type 0 where
    pub judged : HasJudged j s entries
    pub counted : length numbers ≡ length entries
    pub are : AreLinesOf AreReasons s entries numbers (verdict j) lines
