use Rattle.std.proofs.Common.{◌≡◌, ◌++◌, map}
use Rattle.shown_verdict.specs.{judged_line, seen_line, report_lines}
use Rattle.shown_verdict.proofs.reading.lines_of.Given as goal

-- the lines so far, and those to come, are all
abbrev pub invariant-loop-words : goal.invariant-loop-words
invariant-loop-words l =
    map seen_line l.lines.items ++ map (judged_line l.bad) l.words-iterator
    ≡ map (judged_line l.fn.bad) (report_lines l.fn.report)
