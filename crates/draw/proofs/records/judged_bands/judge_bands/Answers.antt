use Rattle.std.proofs.Common.{ℕ, IfOk, IfSome, subst}
use Rattle.picture.specs.{Form}
use Rattle.picture.specs.declared.reads.PictureOptions.{PictureOptions}
use Rattle.judge.specs.{IsOfRecord}
use Rattle.draw.specs.{DrawnEntry, DrawsBandsOf, IsJudged}
use Rattle.draw.proofs.records.judged_bands.judge_bands.Goals as goal

pub returns : goal.returns
returns g c =
    let drew = c.judge_sheet.ensures in
    let drawn = λ (m : PictureOptions) (f : Form). IfOk c.judge_sheet.result (λ (answer : DrawnEntry × ℕ). IfSome (g.R.Source.to_come c.args.input.now) (IsOfRecord (IsJudged g.H.Judging.Keeps g.H.EntryObserver.Reports answer.1 (DrawsBandsOf m f answer.0 (g.W.Sink.taken c.args.output.now) (g.W.Sink.taken c.judge_sheet.new.output))))) in
    record {
      drawn = subst (λ (m : PictureOptions). drawn m c.args.form) c.new-sheet.ensures.options (subst (λ (f : Form). drawn c.new-sheet.result.options f) c.new-sheet.ensures.form drew.drawn);
      good = drew.good;
      end = drew.end;
      fault = drew.fault;
      read_failures = drew.read_failures;
      write_failures = drew.write_failures;
    }
