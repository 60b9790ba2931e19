use Rattle.std.proofs.Common.{[], ◌∷◌, ap, is_some, ◌∙◌}
use Rattle.std.proofs.lemmas.List.{map-append}
use Rattle.picture_layout.specs.{rows_of_lines, seen, text_of, texts}
use Rattle.picture_layout.proofs.columns.Column.join.Goals as goal

pub returns-clause-reported : goal.returns-clause-reported
returns-clause-reported c = ap texts c.in_ok-push.ensures.items ∙ map-append text_of c.args.self.now.lines.items (c.args.line ∷ [])

pub returns-clause-whole : goal.returns-clause-whole
returns-clause-whole c = λ i. record (seen c.args.self.now) {
  lines = c.in_ok-push.ensures.items i;
  rows = (c.in_ok-self.ensures ∙ ap (rows_of_lines (is_some c.args.self.now.lane)) c.in_ok-push.ensures.items) i;
  frees = c.or-self.ensures i;
  after = c.args.after;
}
