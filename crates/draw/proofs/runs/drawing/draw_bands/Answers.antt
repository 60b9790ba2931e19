use Rattle.std.proofs.lemmas.Result.{IfOk-weaker}
use Rattle.draw.specs.{full_view, plan_of}
use Rattle.draw.proofs.runs.drawing.draw_bands.Goals as goal

pub returns : goal.returns
returns g c =
    let begun = c.in_ok-run.ensures in
    let plan = plan_of c.args.form c.args.options.window c.args.scenario.now.setup in
    let view = full_view c.args.options in
    let drawn = c.draw_lines.ensures in
    record {
      drawn = IfOk-weaker c.draw_lines.result _ _ (λ answer is. is plan view begun.first begun.recalls) drawn.drawn;
      summary = IfOk-weaker c.draw_lines.result _ _ (λ answer is. is plan view begun.first begun.recalls) drawn.summary;
      opening = IfOk-weaker c.draw_lines.result _ _ (λ answer is. is plan view begun.first begun.recalls) drawn.opening;
      fails = drawn.fails;
    }
