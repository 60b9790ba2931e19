use Rattle.std.proofs.Common.{[], ◌∷◌, ap, refl, ◌∙◌}
use Rattle.std.specs.Fmt.{decimal}
use Rattle.markup.specs.{said_text}
use Rattle.markup.specs.declared.names.Key.TheVariants as key
use Rattle.picture.specs.{line_said}
use Rattle.picture.proofs.Beginnings.{mark_drawn, two_said}
use Rattle.picture.proofs.verdict_box.begin_line.Goals as goal

pub returns-clause-draws : goal.returns-clause-draws
returns-clause-draws c =
    mark_drawn c.mark.result c.args.markup.now c.mark.new.self c.args.title.now c.args.title.now (c.number-place.result ∷ c.number-source.result ∷ []) (line_said c.args.edge c.args.source) c.mark.ensures.draws
    (two_said c.number-place.result c.number-source.result (key.Place, decimal c.args.edge) (key.Source, decimal c.args.source) (c.number-place.ensures ∙ ap (λ n. said_text (key.Place, decimal n)) c.from.ensures) c.number-source.ensures) refl
