-- The verdict on a trace.
use Rattle.std.specs.Prelude.{ℕ, List, [], ◌∷◌, length, reverse, Option, None, Some}
use Rattle.trace.specs.{TraceEntry, TracePast, TraceSetup}
use Rattle.trace_judge.specs.declared.verdicts.TraceLaw.{TraceLaw}
use Rattle.trace_judge.specs.declared.verdicts.TraceVerdict.{TraceVerdict}
use Rattle.trace_judge.specs.declared.verdicts.TraceVerdict.TheVariants.{Good, Bad}
use Rattle.trace_judge.specs.Laws.{first_broken}

-- the verdict with entry k, where that on the entries before it is good
abbrev pub verdict_with : ℕ → Option TraceLaw → TraceVerdict
verdict_with k None = Good
verdict_with k (Some l) = Bad k l

-- the verdict on a past: a bad one stays, otherwise it is that of the newest entry
abbrev pub verdict_after : TraceSetup → TracePast → TraceVerdict
verdict_after s [] = Good
verdict_after s (e ∷ past) = elim (verdict_after s past) [
  | Good ↦ verdict_with (length past) (first_broken s past e)
  | Bad k l ↦ Bad k l
]

-- the verdict on a trace: the lowest entry that breaks a law, and the first law that it breaks
abbrev pub verdict_of : TraceSetup → List TraceEntry → TraceVerdict
verdict_of s entries = verdict_after s (reverse entries)
