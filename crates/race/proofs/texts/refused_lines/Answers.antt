use Rattle.std.proofs.Common.{◌++◌, ap, sym, ◌∙◌}
use Rattle.std.specs.String.{string_bytes}
use Rattle.race.specs.{refused_text}
use Rattle.race.proofs.Parts.{items_all, items_more, pushed}
use Rattle.race.proofs.texts.refused_lines.Goals as goal

pub loop-line-preserved : goal.loop-line-preserved
loop-line-preserved c =
    let text = refused_text c.args.setup.now in
    let line = c.line-item.result in
    pushed c.refused_line.result (string_bytes c.loop-line.text) (string_bytes c.push_text.new.text) (text line) c.in_ok-push_text.ensures c.refused_line.ensures
    ∙ ap (λ reported. reported ++ text line) c.loop-line.invariant ∙ sym (items_more text c.args.lines.now c.loop-line.line-index line c.loop-line-test.true c.line-item.is)

pub returns : goal.returns
returns c = c.loop-line.invariant ∙ items_all (refused_text c.args.setup.now) c.args.lines.now c.loop-line.line-index c.loop-line-test.false
