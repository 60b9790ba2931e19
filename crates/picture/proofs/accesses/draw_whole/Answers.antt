use Rattle.std.proofs.Common.{◌∙◌, ap}
use Rattle.markup.specs.{group, with_ended}
use Rattle.picture.proofs.Reportings.{group_ended, then_same}
use Rattle.picture.proofs.accesses.draw_whole.Goals as goal

pub returns-clause-read : goal.returns-clause-read
returns-clause-read c =
    then_same c.end_group.result _ _ _ c.end_group.ensures.read
    (ap (with_ended group) (c.in_ok-draw_move.ensures.read ∙ c.in_ok-block.ensures.read ∙ c.in_ok-note.ensures.read) ∙ group_ended c.args.markup.now)
