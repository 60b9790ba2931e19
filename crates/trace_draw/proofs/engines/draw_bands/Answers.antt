use Rattle.std.proofs.Common.{IfOk, IfSome, subst, sym, [], None}
use Rattle.trace_draw.specs.{DrawnTrace, DrawsAllBands, Corresponds, TraceView}
use Rattle.trace_draw.proofs.engines.draw_bands.Goals as goal

pub returns : goal.returns
returns g c =
    let drew = c.draw_lines.ensures in
    record {
      drawn = subst (λ (v : TraceView). IfOk c.draw_lines.result (λ (d : DrawnTrace). IfSome (g.R.Source.to_come c.args.input.now) (DrawsAllBands v d (g.W.Sink.taken c.args.output.now) (g.W.Sink.taken c.draw_lines.new.output)))) c.new-sheet.ensures.view drew.drawn;
      end = drew.end;
      fault = drew.fault;
      read_failures = drew.read_failures;
      write_failures = drew.write_failures;
    }

pub draw_lines-requires-clause-corresponds : goal.draw_lines-requires-clause-corresponds
draw_lines-requires-clause-corresponds g c = λ taken.
    subst (λ (v : TraceView). Corresponds v c.new-sheet.result.reader c.new-sheet.result.picture taken taken None [] []) (sym c.new-sheet.ensures.view) (c.new-sheet.ensures.corresponds taken)
