-- The printed form of the result of a sweep.
use Rattle.std.specs.Prelude.{ℕ, List, [], ◌++◌, cond, codes, Option, None, Some}
use Rattle.std.specs.Fmt.{decimal}
use Rattle.auditor.specs.safe_monitor.{law_text}
use Rattle.sweeper.specs.declared.swept.BadRun.{BadRun}
use Rattle.sweeper.specs.declared.swept.Swept.{Swept}

-- a run whose record is bad
abbrev pub bad_text : BadRun → List ℕ
bad_text bad = codes "bad cut " ++ decimal bad.cut ++ codes " value " ++ decimal (cond bad.value 1 0) ++ codes " entry " ++ decimal bad.entry ++ codes " " ++ law_text bad.law

-- the counts
abbrev pub counts_text : Swept → List ℕ
counts_text found = codes "sweep runs " ++ decimal found.runs ++ codes " good " ++ decimal found.good ++ codes " stuck " ++ decimal found.stuck

-- on a second line the first bad run, if there is one
abbrev pub second_text : Option BadRun → List ℕ
second_text None = []
second_text (Some bad) = codes "\n" ++ bad_text bad

-- the whole text
abbrev pub swept_text : Swept → List ℕ
swept_text found = counts_text found ++ second_text found.first_bad
