use Rattle.std.proofs.Common.{IfOk, IfSome, subst}
use Rattle.picture.specs.{Form}
use Rattle.picture.specs.declared.reads.PictureOptions.{PictureOptions}
use Rattle.draw.specs.{DrawnEntry, DrawsAllBands}
use Rattle.draw.proofs.records.engines.draw_bands.Goals as goal

pub returns : goal.returns
returns g c =
    let drew = c.draw_lines.ensures in
    let drawn = λ (m : PictureOptions) (f : Form). IfOk c.draw_lines.result (λ (d : DrawnEntry). IfSome (g.R.Source.to_come c.args.input.now) (DrawsAllBands m f d (g.W.Sink.taken c.args.output.now) (g.W.Sink.taken c.draw_lines.new.output))) in
    record {
      drawn = subst (λ (m : PictureOptions). drawn m c.args.form) c.new-sheet.ensures.options (subst (λ (f : Form). drawn c.new-sheet.result.options f) c.new-sheet.ensures.form drew.drawn);
      good = drew.good;
      end = drew.end;
      fault = drew.fault;
      read_failures = drew.read_failures;
      write_failures = drew.write_failures;
    }
