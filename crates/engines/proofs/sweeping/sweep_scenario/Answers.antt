use Rattle.std.proofs.Common.{ap}
use Rattle.std.specs.String.{string_bytes}
use Rattle.scenario.specs.{script}
use Rattle.engines.specs.{swept, swept_lines}
use Rattle.scenario_run.proofs.Written.{front_all, line_front, line_whole, ok_along}
use Rattle.engines.proofs.sweeping.sweep_scenario.Goals as goal

pub returns-in_err-write_line-clause-front : goal.returns-in_err-write_line-clause-front
returns-in_err-write_line-clause-front g c =
    let text = swept (script c.args.scenario.now) in
    let lines = ok_along string_bytes c.swept_lines.result (swept_lines c.in_ok-found.found) text c.swept_lines.ensures (ap swept_lines c.in_ok-found.ensures.is) in
    line_front string_bytes (g.W.Sink.taken c.args.output.now) (g.W.Sink.taken c.write_line.new.output) c.swept_lines.result text lines c.in_err-write_line.ensures.front c.in_err-write_line.ensures.none

pub returns-clause-written : goal.returns-clause-written
returns-clause-written g c =
    let text = swept (script c.args.scenario.now) in
    let lines = ok_along string_bytes c.swept_lines.result (swept_lines c.in_ok-found.found) text c.swept_lines.ensures (ap swept_lines c.in_ok-found.ensures.is) in
    line_whole string_bytes (g.W.Sink.taken c.args.output.now) (g.W.Sink.taken c.write_line.new.output) c.swept_lines.result text lines c.in_ok-write_line.ensures.made c.in_ok-write_line.ensures.written

pub returns-clause-front : goal.returns-clause-front
returns-clause-front g c = front_all (g.W.Sink.taken c.args.output.now) (g.W.Sink.taken c.write_line.new.output) (swept (script c.args.scenario.now)) (returns-clause-written g c)

pub returns-clause-swept : goal.returns-clause-swept
returns-clause-swept g c = record {
  found = c.in_ok-found.found;
  is = c.in_ok-found.ensures.swept;
  answer = c.status_of_sweep.ensures;
  lines = line_whole string_bytes (g.W.Sink.taken c.args.output.now) (g.W.Sink.taken c.write_line.new.output) c.swept_lines.result (swept_lines c.in_ok-found.found) c.swept_lines.ensures c.in_ok-write_line.ensures.made c.in_ok-write_line.ensures.written;
}
