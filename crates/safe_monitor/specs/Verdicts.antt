-- Verdicts on records, and their text.
use Rattle.std.specs.Prelude.{ℕ, Bool, true, false, List, ◌++◌, codes, Option, Some, None}
use Rattle.std.specs.Fmt.{decimal}
use Rattle.safe_monitor.specs.declared.verdicts.Law.{Law}
use Rattle.safe_monitor.specs.declared.verdicts.Law.TheVariants.{Safe, Program, Unit, Together, Overtaken, History}
use Rattle.safe_monitor.specs.declared.verdicts.Verdict.{Verdict}
use Rattle.safe_monitor.specs.declared.verdicts.Verdict.TheVariants.{Good, Bad}

-- whether a verdict is good
abbrev pub is_good : {L : Type 0} → Verdict L → Bool
is_good Good = true
is_good (Bad k l) = false

-- the verdict with entry k, if the verdict on the entries before it is good: by the first law that the entry breaks
abbrev pub verdict_with : {L : Type 0} → ℕ → Option L → Verdict L
verdict_with k None = Good
verdict_with k (Some l) = Bad k l

-- the text of a law
abbrev pub law_text : Law → List ℕ
law_text Safe = codes "safe"
law_text Program = codes "program"
law_text Unit = codes "unit"
law_text Together = codes "together"
law_text Overtaken = codes "overtaken"
law_text History = codes "history"

-- the verdict on a record with a number of entries, by the names of the laws
abbrev pub verdict_text : {L : Type 0} → (L → List ℕ) → ℕ → Verdict L → List ℕ
verdict_text name entries Good = codes "good " ++ decimal entries
verdict_text name entries (Bad entry law) = codes "bad " ++ decimal entry ++ codes " " ++ name law
