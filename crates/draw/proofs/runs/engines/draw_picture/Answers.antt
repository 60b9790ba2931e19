use Rattle.picture.specs.{picture_names}
use Rattle.picture.specs.declared.page.Form.TheVariants as form
use Rattle.scenario.specs.{script}
use Rattle.scenario_run.proofs.Written.{ok_then}
use Rattle.draw.proofs.Pictured.{draws_framed, is_picture}
use Rattle.draw.proofs.runs.engines.draw_picture.Goals as goal

pub returns : goal.returns
returns g c =
    let said = script c.args.scenario.now in
    let around = c.in_ok-head.ensures in
    let drew = c.draw_framed.ensures in
    record {
      drawn = ok_then c.draw_framed.result
          (λ framed. draws_framed c.args.options (form.Picture c.args.top) c.args.file.now said (g.W.Sink.taken c.args.output.now) (g.W.Sink.taken c.draw_framed.new.output) c.in_ok-head.head c.in_ok-head.end picture_names around.elements framed
          (is_picture c.args.top c.args.options c.args.file.now said c.in_ok-head.head c.in_ok-head.end _ _ _ _ _ _ c.in_ok-first.ensures.drawn framed.bands around.front around.back))
          drew.drawn;
      summary = drew.summary;
      fails = drew.fails;
    }
