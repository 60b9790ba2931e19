use Rattle.std.proofs.Common.{sym, ◌∙◌}
use Rattle.draw.specs.{says_of}
use Rattle.draw.proofs.Ending.{judged_drawn}
use Rattle.draw.proofs.Giving.{text_of_content}
use Rattle.draw.proofs.canvas.Canvas.draw_up_to_verdict.Goals as goal

pub returns-clause-drawn : goal.returns-clause-drawn
returns-clause-drawn g c =
    let line = c.args.line in
    judged_drawn c.args.self.now c.draw_reads.new.self (g.W.Sink.taken c.args.output.now) (g.W.Sink.taken c.draw_reads.new.output) line.source line.at c.args.reported.now c.as_slice.result.now (says_of line.line_content) c.in_ok-verdict.verdict
    (sym c.is_empty.ensures ∙ c.if-is_empty.false)
    (c.as_slice.ensures.value ∙ c.in_ok-last.ensures ∙ sym (text_of_content line.at line.line_content))
    c.in_ok-verdict.ensures
    c.in_ok-draw_reads.ensures.drawn
