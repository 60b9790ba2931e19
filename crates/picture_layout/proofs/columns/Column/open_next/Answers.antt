use Rattle.std.proofs.Common.{◌∙◌, ap, sym}
use Rattle.picture_layout.specs.{open_with}
use Rattle.picture_layout.proofs.columns.Column.open_next.Goals as goal

pub returns-in-Some : goal.returns-in-Some
returns-in-Some c = c.open_after.ensures ∙ ap (open_with c.args.process c.args.before) (sym c.in-Some.is)
