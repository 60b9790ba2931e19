-- How laws and verdicts are printed.
use Rattle.std.specs.Prelude.{ℕ, List, ◌++◌, codes}
use Rattle.std.specs.Fmt.{decimal}
use Rattle.trace_judge.specs.declared.verdicts.TraceLaw.{TraceLaw}
use Rattle.trace_judge.specs.declared.verdicts.TraceLaw.TheVariants as law
use Rattle.trace_judge.specs.declared.verdicts.TraceVerdict.{TraceVerdict}
use Rattle.trace_judge.specs.declared.verdicts.TraceVerdict.TheVariants.{Good, Bad}

-- a law
abbrev pub trace_law_text : TraceLaw → List ℕ
trace_law_text law.Access = codes "access"
trace_law_text law.Memory = codes "memory"
trace_law_text law.Marks = codes "marks"
trace_law_text law.Together = codes "together"
trace_law_text law.Overtaken = codes "overtaken"

-- the verdict on a trace of this number of entries
abbrev pub trace_verdict_text : ℕ → TraceVerdict → List ℕ
trace_verdict_text entries Good = codes "good " ++ decimal entries
trace_verdict_text entries (Bad entry law) = codes "bad " ++ decimal entry ++ codes " " ++ trace_law_text law
