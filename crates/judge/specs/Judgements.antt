-- The text and the status of the engine `judge`, for any judge.
use Rattle.std.specs.Prelude.{◌≡◌, ℕ, Bool, true, false, List, ◌++◌, codes, length, Result}
use Rattle.plain_store.specs.{Setup}
use Rattle.model.specs.{Entry, Past}
use Rattle.auditor.specs.safe_monitor.{Verdict, verdict_text}
use Rattle.auditor.specs.safe_monitor.declared.verdicts.Verdict.TheVariants.{Good, Bad}
use Rattle.judge.specs.Ends.{TrialEnds}
use Rattle.files.specs.Engines.{Streams}
use Rattle.files.specs.{Fault}
use Rattle.judge.specs.Explanations.{AreLinesOf}

-- the line of a verdict on a number of entries, by the names of the laws
abbrev pub verdict_line : {L : Type 0} → (L → List ℕ) → ℕ → Verdict L → List ℕ
verdict_line name entries verdict = verdict_text name entries verdict ++ codes "\n"

-- the exit status of a verdict
abbrev pub status_of_verdict : {L : Type 0} → Verdict L → ℕ
status_of_verdict Good = 0
status_of_verdict (Bad entry law) = 3

-- the line of the verdict on a record, and its status
pub record ReportsVerdict {L : Type 0} (name : L → List ℕ) (IsVerdict : Setup → List Entry → Verdict L → Type 0) (s : Setup) (entries : List Entry) (numbers reported : List ℕ) (status : ℕ) : Type 0 where
  pub verdict : Verdict L
  pub is : IsVerdict s entries verdict
  pub answer : status ≡ status_of_verdict verdict
  pub line : reported ≡ verdict_line name (length entries) verdict

-- the line of the verdict, followed by the lines of its reasons, and its status
pub record ReportsReasons {L : Type 0} (name : L → List ℕ) (IsVerdict : Setup → List Entry → Verdict L → Type 0) (AreReasons : L → Setup → Past → ℕ → Entry → List ℕ → Type 0) (s : Setup) (entries : List Entry) (numbers reported : List ℕ) (status : ℕ) : Type 0 where
  pub verdict : Verdict L
  pub is : IsVerdict s entries verdict
  pub answer : status ≡ status_of_verdict verdict
  pub lines : List ℕ
  pub are : AreLinesOf AreReasons s entries numbers verdict lines
  pub text : reported ≡ verdict_line name (length entries) verdict ++ lines

-- How judging ends: with the verdict on the record of the whole input, and with lines of reasons if they are asked for; or with its fault. Each fault has its cause, and nothing was written unless the verdict is known.
abbrev pub JudgeEnds : {L : Type 0} → (L → List ℕ) → (Setup → List Entry → Verdict L → Type 0) → (L → Setup → Past → ℕ → Entry → List ℕ → Type 0) → Bool → Result ℕ Fault → Streams → Streams → Type 0
JudgeEnds name IsVerdict AreReasons false = TrialEnds (ReportsVerdict name IsVerdict)
JudgeEnds name IsVerdict AreReasons true = TrialEnds (ReportsReasons name IsVerdict AreReasons)
