use Rattle.std.proofs.Common.{ap, ◌∙◌}
use Rattle.markup.specs.{reading, with_mark}
use Rattle.picture.specs.{seen_line, title_of}
use Rattle.picture.proofs.Reportings.{then_ends}
use Rattle.picture.proofs.verdict_box.draw_line.Goals as goal

pub returns-clause-read : goal.returns-clause-read
returns-clause-read c =
    then_ends c.end_group.result (reading c.args.markup.now) _ _ (title_of (seen_line c.args.line.now)) c.end_group.ensures.read
    (c.in_ok-label.ensures.read ∙ c.in_ok-begin_line.ensures.read ∙ ap (λ title. with_mark title (reading c.args.markup.now)) c.as_slice.ensures.value)
