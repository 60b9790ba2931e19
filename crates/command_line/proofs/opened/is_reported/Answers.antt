use Rattle.std.proofs.Common.{arith, ap, sym, ◌∙◌}
use Rattle.std.specs.Option.{is_some}
use Rattle.command_line.proofs.Opening.{reported_by_length, reported_by_line}
use Rattle.command_line.proofs.opened.is_reported.Goals as goal

pub returns-then-front-ge-INPUT_LIMIT-clause-reported : goal.returns-then-front-ge-INPUT_LIMIT-clause-reported
returns-then-front-ge-INPUT_LIMIT-clause-reported c is rest = reported_by_length c.args.front.now rest c.if-front-ge-INPUT_LIMIT.true

pub returns-clause-reported : goal.returns-clause-reported
returns-clause-reported c is rest = reported_by_line c.args.front.now c.ended_lines.result.now rest (omega (arith, c.if-front-ge-INPUT_LIMIT.false)) c.ended_lines.ensures (ap is_some (sym c.in_ok-word_opened.ensures.value) ∙ sym c.is_some.ensures ∙ is)
