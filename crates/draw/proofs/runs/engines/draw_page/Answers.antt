use Rattle.scenario.specs.{script}
use Rattle.scenario_run.proofs.Written.{ok_then}
use Rattle.draw.proofs.Pictured.{draws_page}
use Rattle.draw.proofs.runs.engines.draw_page.Goals as goal

pub returns : goal.returns
returns g c =
    let head = c.in_ok-head.ensures in
    let drew = c.draw_behind.ensures in
    record {
      drawn = ok_then c.draw_behind.result
          (draws_page c.args.options c.args.file.now (script c.args.scenario.now) (g.W.Sink.taken c.args.output.now) (g.W.Sink.taken c.draw_behind.new.output) c.in_ok-head.head head.draws head.lines head.elements)
          drew.drawn;
      summary = drew.summary;
      fails = drew.fails;
    }
