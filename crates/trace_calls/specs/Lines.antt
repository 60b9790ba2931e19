-- The table of the calls of a trace: comma-separated values, with the columns of the table of a run. What a trace does not have
-- is empty.
use Rattle.std.specs.Prelude.{ℕ, ◌-◌, List, [], ◌∷◌, ◌++◌, codes, flat_map, length, Option, None, Some}
use Rattle.std.specs.Fmt.{decimal}
use Rattle.std.specs.List.{range_with_len}
use Rattle.calls.specs.{header, number_field, waited}
use Rattle.trace.specs.{TracePast}
use Rattle.trace_calls.specs.declared.kept.TraceCall.{TraceCall}
use Rattle.trace_calls.specs.Calls.{ended_call, open_call}

-- the fields of a call after its process
abbrev pub fields : ℕ → TraceCall → List (Option ℕ)
fields newest c =
    Some c.call
    ∷ None  -- command
    ∷ Some c.called
    ∷ c.doorway
    ∷ c.door_end
    ∷ c.entered
    ∷ None  -- taken
    ∷ None  -- place
    ∷ c.remaining
    ∷ c.answered
    ∷ None  -- failed
    ∷ None  -- withdrew
    ∷ Some c.reads
    ∷ Some c.writes
    ∷ Some c.overlapped
    ∷ waited newest c.door_end c.entered
    ∷ None  -- waited_for
    ∷ None  -- answer
    ∷ []

-- the line of a call of p, where the newest entry has this number
abbrev pub call_line : ℕ → ℕ → TraceCall → List ℕ
call_line newest p c = decimal p ++ (flat_map number_field (fields newest c) ++ codes "\n")

-- the line of a call, if there is one
abbrev pub line_of : ℕ → ℕ → Option TraceCall → List ℕ
line_of newest p None = []
line_of newest p (Some c) = call_line newest p c

-- the lines of the calls that have ended, in the order of their ends; the trace has n processes
abbrev pub ended_lines : ℕ → TracePast → List ℕ
ended_lines n [] = []
ended_lines n (e ∷ past) = ended_lines n past ++ line_of (length past) e.process (ended_call n past e)

-- the lines of those that have not, by process
abbrev pub open_lines : ℕ → TracePast → List ℕ
open_lines n past = flat_map (λ p. line_of (length past - 1) p (open_call n p past)) (range_with_len 0 n)

-- the table of the calls of a trace of n processes
abbrev pub table_of : ℕ → TracePast → List ℕ
table_of n past = header ++ (ended_lines n past ++ open_lines n past)
