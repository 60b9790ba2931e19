use Rattle.std.proofs.Common.{◌≡◌}
use Rattle.shown_verdict.specs.{text_behind, report_lines}
use Rattle.shown_verdict.proofs.lines.text_behind.Given as goal

-- the lines to come say what all lines do
abbrev pub invariant-loop-line : goal.invariant-loop-line
invariant-loop-line l = text_behind l.fn.word l.line-iterator ≡ text_behind l.fn.word (report_lines l.fn.report)
