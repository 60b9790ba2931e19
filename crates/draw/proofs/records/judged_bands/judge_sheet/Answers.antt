use Rattle.std.proofs.Common.{ℕ, IfSome, arith, subst}
use Rattle.scenario.specs.files.{Fault}
use Rattle.picture.specs.{Form}
use Rattle.picture.specs.declared.reads.PictureOptions.{PictureOptions}
use Rattle.judge.specs.{IsOfRecord}
use Rattle.judge.proofs.Ends.{if_err}
use Rattle.draw.specs.{DrawnEntry, DrawsBandsOf, IsDrawFault, IsJudged}
use Rattle.draw.proofs.RecordEnds.{no_value, reading_same}
use Rattle.draw.proofs.Written.{if_err_then, if_ok_then}
use Rattle.scenario.proofs.files.Failing.{failed_same}
use Rattle.draw.proofs.records.judged_bands.judge_sheet.Goals as goal

pub returns-in_err-judge_lines : goal.returns-in_err-judge_lines
returns-in_err-judge_lines g c =
    let r = c.from_residual.result in
    let e : Fault = c.in_err-judge_lines.field-0.0 in
    let same = c.from_residual.ensures.1 in
    let cut = c.in_err-judge_lines.ensures in
    record {
      drawn = no_value r e _ same;
      good = no_value r e _ same;
      end = no_value r e _ same;
      fault = if_err r e (λ (f : Fault). IsDrawFault f (g.R.Source.to_come c.args.input.now)) same cut.fault;
      read_failures = omega (arith, cut.read_failures, reading_same r e same);
      write_failures = omega (arith, cut.write_failures, failed_same r e same);
    }

pub returns : goal.returns
returns g c =
    let all = g.R.Source.to_come c.args.input.now in
    let first = g.W.Sink.taken c.args.output.now in
    let r = c.end_judged.result in
    let read = c.in_ok-judge_lines.ensures in
    let ends = c.end_judged.ensures in
    let drawn = λ (m : PictureOptions) (f : Form) (answer : DrawnEntry × ℕ). IfSome all (IsOfRecord (IsJudged g.H.Judging.Keeps g.H.EntryObserver.Reports answer.1 (DrawsBandsOf m f answer.0 first (g.W.Sink.taken c.end_judged.new.output)))) in
    record {
      drawn = if_ok_then r (λ (answer : DrawnEntry × ℕ) is. subst (λ (m : PictureOptions). drawn m c.args.sheet.now.form answer) read.options (subst (λ (f : Form). drawn c.judge_lines.new.sheet.options f answer) read.form (is all first read.read))) ends.drawn;
      good = ends.good;
      end = if_ok_then r (λ (answer : DrawnEntry × ℕ) is. read.end) ends.good;
      fault = if_err_then r (λ (f : Fault) is. is all first read.read) ends.fault;
      read_failures = omega (arith, read.read_failures, ends.reads);
      write_failures = omega (arith, read.write_failures, ends.failures);
    }
