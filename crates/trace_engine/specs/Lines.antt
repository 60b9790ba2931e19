-- The lines that are printed of a trace.
use Rattle.std.specs.Prelude.{ℕ, ◌+◌, Bool, true, List, [], ◌∷◌, ◌++◌, codes, Option, None, Some}
use Rattle.std.specs.Fmt.{decimal}
use Rattle.lock_stages.specs.{LockStage, lock_mark_refusal_text, lock_stage_text}
use Rattle.trace.specs.{TraceEntry, TraceRegister, trace_entry_line}
use Rattle.trace_memory.specs.{cell_refusal_text}
use Rattle.trace_judge.specs.{TraceReasons, TraceRefused, TraceVerdict, entry_reading, trace_verdict_text}
use Rattle.trace_judge.specs.declared.reasons.TraceRefused.TheVariants as by
use Rattle.trace_judge.specs.declared.verdicts.TraceVerdict.TheVariants.{Good, Bad}

-- the line of the verdict on a trace of this number of entries
abbrev pub trace_verdict_line : ℕ → TraceVerdict → List ℕ
trace_verdict_line entries verdict = trace_verdict_text entries verdict ++ codes "\n"

-- the exit status of a verdict
abbrev pub trace_status_of : TraceVerdict → ℕ
trace_status_of Good = 0
trace_status_of (Bad entry law) = 3

-- the line of a word and a number
abbrev pub number_line : List ℕ → ℕ → List ℕ
number_line word n = word ++ (codes " " ++ (decimal n ++ codes "\n"))

-- the line of a word and the number of an entry, if there is one
abbrev pub number_if : List ℕ → Option ℕ → List ℕ
number_if word None = []
number_if word (Some n) = number_line word n

-- the line of a word and an entry
abbrev pub entry_line : List ℕ → List TraceRegister → TraceEntry → List ℕ
entry_line word registers e = word ++ (codes " " ++ trace_entry_line registers e)

-- the line of the entry with a value with which it keeps all laws, if there is one
abbrev pub may_if : List TraceRegister → TraceEntry → Option ℕ → List ℕ
may_if registers e None = []
may_if registers e (Some v) = entry_line (codes "may") registers (entry_reading v e)

-- the lines of all these values
abbrev pub may_lines : List TraceRegister → TraceEntry → List (Option ℕ) → List ℕ
may_lines registers e [] = []
may_lines registers e (v ∷ values) = may_if registers e v ++ may_lines registers e values

-- the text of a refusal
abbrev pub refused_text : TraceRefused → List ℕ
refused_text (by.Access r) = cell_refusal_text r
refused_text (by.Marks r) = lock_mark_refusal_text r

abbrev pub refused_line : Option TraceRefused → List ℕ
refused_line None = []
refused_line (Some r) = codes "refused " ++ (refused_text r ++ codes "\n")

-- the line of the stage of the process, if the process exists
abbrev pub stage_line : Option LockStage → List ℕ
stage_line None = []
stage_line (Some stage) = codes "stage " ++ (lock_stage_text stage ++ codes "\n")

-- the lines of a word, a process and an entry, for each process from q on that has an entry
abbrev pub pair_line : List ℕ → ℕ → ℕ → List ℕ
pair_line word q n = word ++ (codes " " ++ (decimal q ++ (codes " " ++ (decimal n ++ codes "\n"))))

abbrev pub pair_if : List ℕ → ℕ → Option ℕ → List ℕ
pair_if word q None = []
pair_if word q (Some n) = pair_line word q n

abbrev pub pair_lines : List ℕ → ℕ → List (Option ℕ) → List ℕ
pair_lines word q [] = []
pair_lines word q (n ∷ entries) = pair_if word q n ++ pair_lines word (q + 1) entries

-- the line number, the entry, and the values with which the entry would keep all laws
abbrev pub entry_lines : ℕ → List TraceRegister → TraceEntry → TraceReasons → List ℕ
entry_lines n registers e r = number_line (codes "line") n ++ (entry_line (codes "is") registers e ++ may_lines registers e r.may)

-- the lines about the process of the entry
abbrev pub process_lines : TraceReasons → List ℕ
process_lines r = refused_line r.refused ++ (stage_line r.stage ++ number_if (codes "open") r.opened)

-- the lines about the other processes
abbrev pub other_lines : TraceReasons → List ℕ
other_lines r = pair_lines (codes "inside") 0 r.inside ++ (pair_lines (codes "waits") 0 r.waits ++ number_if (codes "doorway") r.doorway)

-- the lines of the reasons of an entry, whose line has number n
abbrev pub trace_reason_lines : ℕ → List TraceRegister → TraceEntry → TraceReasons → List ℕ
trace_reason_lines n registers e r = entry_lines n registers e r ++ (process_lines r ++ other_lines r)

-- the lines of the reasons, if there are reasons and they are asked for
abbrev pub lines_if : Bool → ℕ → List TraceRegister → TraceEntry → Option TraceReasons → List ℕ
lines_if true n registers e (Some r) = trace_reason_lines n registers e r
lines_if _ n registers e _ = []
