use Rattle.std.proofs.Common.{◌≡◌, ℕ, ◌+◌, Bool, List, Option, Ok, Err, refl, sym, subst, ◌∙◌, arith}
use Rattle.scenario.specs.files.{Fault, GoesToNext, UnlessMemory, coming, failed_reading}
use Rattle.judge.specs.record_file.{Progress, line_read}
use Rattle.judge.proofs.Ends.{if_err, next_fault, none_reported, onwards_fault, onwards_few}
use Rattle.draw.specs.{failed_write}
use Rattle.draw.specs.{IsDrawFault}
use Rattle.draw.proofs.RecordEnds.{drawing_read, next_wrote, not_ok, reading_same}
use Rattle.draw.proofs.JudgedFile.{input_fault, judged_observed, judged_read, judged_shown, judged_start, read_fault, shown_few}
use Rattle.scenario.proofs.files.Failing.{failed_same}
use Rattle.draw.proofs.records.judged_bands.judge_lines.Goals as goal

pub lines-init : goal.lines-init
lines-init g c = record {
  judged = judged_start g.H.EntryObserver.HasObserved g.H.Judging.Keeps g.H.Judging.finds_good (g.R.Source.to_come c.args.input.now) c.args.lines.now.ahead c.args.lines.now.taken c.args.trial.now.reader c.args.trial.now.observer c.args.sheet.now (g.W.Sink.taken c.args.output.now)
      c.requires.ahead c.requires.ended c.requires.taken c.requires.trial (c.requires.corresponds (g.W.Sink.taken c.args.output.now));
  holds = none_reported c.args.lines.now.ahead (g.R.Source.to_come c.args.input.now) c.requires.ended;
  form = refl;
  options = refl;
  whole = refl;
  wrote = refl;
}

pub lines-preserved-then-not-shows : goal.lines-preserved-then-not-shows
lines-preserved-then-not-shows g c =
    let mid = coming c.lines.lines.ahead (g.R.Source.to_come c.lines.input) in
    let rest = coming c.next.new.self.ahead (g.R.Source.to_come c.next.new.input) in
    let takes = subst (λ (b : Bool). GoesToNext (Ok b) c.lines.lines c.next.new.self mid rest) c.if-branch.true c.in_ok-next.ensures.next in
    record {
      judged = judged_observed g.H.EntryObserver.HasObserved g.H.Judging.Keeps g.H.Judging.finds_good (g.R.Source.to_come c.args.input.now) mid rest c.lines.lines c.next.new.self c.taken-number.result c.line-line.result.now _ _ _ _ c.lines.sheet (g.W.Sink.taken c.args.output.now) (g.W.Sink.taken c.lines.output) c.lines.shows
          c.if-not-shows.true c.lines.invariant.judged takes c.taken-number.ensures.taken c.line-line.ensures c.in_default.ensures;
      holds = c.in_ok-next.ensures.holds c.lines.invariant.holds;
      form = c.lines.invariant.form;
      options = c.lines.invariant.options;
      whole = omega (arith, c.in_ok-next.ensures.failures, c.lines.invariant.whole);
      wrote = c.lines.invariant.wrote;
    }

pub lines-preserved : goal.lines-preserved
lines-preserved g c =
    let mid = coming c.lines.lines.ahead (g.R.Source.to_come c.lines.input) in
    let rest = coming c.next.new.self.ahead (g.R.Source.to_come c.next.new.input) in
    let takes = subst (λ (b : Bool). GoesToNext (Ok b) c.lines.lines c.next.new.self mid rest) c.if-branch.true c.in_ok-next.ensures.next in
    record {
      judged = judged_shown g.H.EntryObserver.HasObserved g.H.Judging.Keeps g.H.Judging.finds_good g.met.H.Judging.begins g.met.H.Judging.good g.met.H.Judging.bad (g.R.Source.to_come c.args.input.now) mid rest c.lines.lines c.next.new.self c.taken-number.result c.line-line.result.now _ _ _ _ c.lines.sheet c.read.new.self (g.W.Sink.taken c.args.output.now) (g.W.Sink.taken c.lines.output) (g.W.Sink.taken c.read.new.output) c.lines.shows c.is_good-shows.result
          c.if-not-shows.false c.lines.invariant.judged takes c.taken-number.ensures.taken c.line-line.ensures c.in_default.ensures c.in_ok-read.ensures.drawn c.is_good-shows.ensures;
      holds = c.in_ok-next.ensures.holds c.lines.invariant.holds;
      form = c.in_ok-read.ensures.form ∙ c.lines.invariant.form;
      options = c.in_ok-read.ensures.options ∙ c.lines.invariant.options;
      whole = omega (arith, c.in_ok-next.ensures.failures, c.lines.invariant.whole);
      wrote = omega (arith, c.in_ok-read.ensures.failures, c.lines.invariant.wrote);
    }

pub returns : goal.returns
returns g c =
    let mid = coming c.lines.lines.ahead (g.R.Source.to_come c.lines.input) in
    let rest = coming c.next.new.self.ahead (g.R.Source.to_come c.next.new.input) in
    let ends = subst (λ (b : Bool). GoesToNext (Ok b) c.lines.lines c.next.new.self mid rest) c.if-branch.false c.in_ok-next.ensures.next in
    record {
      read = judged_read g.H.EntryObserver.HasObserved g.H.Judging.Keeps g.H.Judging.finds_good (g.R.Source.to_come c.args.input.now) mid c.lines.lines.taken c.next.new.self.taken _ _ c.lines.shows c.lines.sheet (g.W.Sink.taken c.args.output.now) (g.W.Sink.taken c.lines.output) c.lines.invariant.judged ends.before ends.taken;
      form = c.lines.invariant.form;
      options = c.lines.invariant.options;
      end = c.in_ok-next.ensures.holds c.lines.invariant.holds (c.in_ok-next.ensures.ended c.if-branch.false);
      fault = tt;
      read_failures = omega (arith, c.in_ok-next.ensures.failures, c.lines.invariant.whole);
      write_failures = omega (arith, c.lines.invariant.wrote);
    }

pub line-requires-clause-bounded : goal.line-requires-clause-bounded
line-requires-clause-bounded g c =
    let mid = coming c.lines.lines.ahead (g.R.Source.to_come c.lines.input) in
    let rest = coming c.next.new.self.ahead (g.R.Source.to_come c.next.new.input) in
    let takes = subst (λ (b : Bool). GoesToNext (Ok b) c.lines.lines c.next.new.self mid rest) c.if-branch.true c.in_ok-next.ensures.next in
    let few = onwards_few g.H.EntryObserver.HasObserved g.H.EntryObserver.count g.met.H.EntryObserver.counts (g.R.Source.to_come c.args.input.now) mid c.lines.lines.taken _ _ c.lines.invariant.judged.onwards in
    omega (arith, few, takes.taken, c.taken-number.ensures.taken, c.taken-number.ensures.bounded)

pub read-requires-clause-bounded : goal.read-requires-clause-bounded
read-requires-clause-bounded g c =
    let mid = coming c.lines.lines.ahead (g.R.Source.to_come c.lines.input) in
    let rest = coming c.next.new.self.ahead (g.R.Source.to_come c.next.new.input) in
    let takes = subst (λ (b : Bool). GoesToNext (Ok b) c.lines.lines c.next.new.self mid rest) c.if-branch.true c.in_ok-next.ensures.next in
    let few = shown_few g.H.EntryObserver.HasObserved g.H.Judging.Keeps g.H.Judging.finds_good (g.R.Source.to_come c.args.input.now) mid c.lines.lines.taken _ _ c.lines.sheet (g.W.Sink.taken c.args.output.now) (g.W.Sink.taken c.lines.output) c.lines.shows c.if-not-shows.false c.lines.invariant.judged in
    omega (arith, few, takes.taken, c.taken-number.ensures.taken, c.taken-number.ensures.bounded)

-- The faults.

pub returns-in_err-next : goal.returns-in_err-next
returns-in_err-next g c =
    let all = g.R.Source.to_come c.args.input.now in
    let mid = coming c.lines.lines.ahead (g.R.Source.to_come c.lines.input) in
    let rest = coming c.next.new.self.ahead (g.R.Source.to_come c.next.new.input) in
    let e : Fault = c.in_err-next.field-0.0 in
    let same = c.from_residual.ensures.1 in
    let stops = next_fault g.H.EntryObserver.HasObserved all mid rest c.lines.lines c.next.new.self _ _ e c.lines.invariant.judged.onwards c.in_err-next.ensures.next in
    record {
      read = not_ok _ e _ same;
      form = not_ok _ e _ same;
      options = not_ok _ e _ same;
      end = not_ok _ e _ same;
      fault = if_err c.from_residual.result e (λ (f : Fault). IsDrawFault f all) same (input_fault e all stops);
      read_failures = omega (arith, c.in_err-next.ensures.failures, c.lines.invariant.whole, reading_same c.from_residual.result e same);
      write_failures = omega (arith, failed_same c.from_residual.result e same, next_wrote e c.lines.lines c.next.new.self mid rest c.in_err-next.ensures.next, c.lines.invariant.wrote);
    }

pub returns-in-Err : goal.returns-in-Err
returns-in-Err g c =
    let all = g.R.Source.to_come c.args.input.now in
    let mid = coming c.lines.lines.ahead (g.R.Source.to_come c.lines.input) in
    let rest = coming c.next.new.self.ahead (g.R.Source.to_come c.next.new.input) in
    let v = c.lines.invariant.judged.onwards in
    let takes = subst (λ (b : Bool). GoesToNext (Ok b) c.lines.lines c.next.new.self mid rest) c.if-branch.true c.in_ok-next.ensures.next in
    let why = subst (λ (line : List ℕ). UnlessMemory c.in-Err.kind (line_read line v.before ≡ Err c.in-Err.kind)) c.line-line.ensures (c.in-Err.ensures v.before v.entries v.numbers v.corresponds) in
    let kind = onwards_fault g.H.EntryObserver.HasObserved all mid rest c.lines.lines c.next.new.self _ _ c.in-Err.kind v takes why in
    record {
      read = tt;
      form = tt;
      options = tt;
      end = tt;
      fault = subst (λ (f : Fault). IsDrawFault f all) (sym c.here.ensures) kind;
      read_failures = subst (λ (f : Fault). g.R.Source.failures c.next.new.input ≡ g.R.Source.failures c.args.input.now + failed_reading {A = Unit {0}} (Err f)) (sym c.here.ensures) (omega (arith, c.in_ok-next.ensures.failures, c.lines.invariant.whole));
      write_failures = subst (λ (f : Fault). g.W.Sink.failures c.lines.output ≡ g.W.Sink.failures c.args.output.now + failed_write {A = Unit {0}} (Err f)) (sym c.here.ensures) (omega (arith, c.lines.invariant.wrote));
    }

pub returns-in_err-read : goal.returns-in_err-read
returns-in_err-read g c =
    let all = g.R.Source.to_come c.args.input.now in
    let mid = coming c.lines.lines.ahead (g.R.Source.to_come c.lines.input) in
    let rest = coming c.next.new.self.ahead (g.R.Source.to_come c.next.new.input) in
    let t = c.lines.sheet in
    let e : Fault = c.in_err-read.field-0.0 in
    let same = c.from_residual-in_err-read.ensures.1 in
    let takes = subst (λ (b : Bool). GoesToNext (Ok b) c.lines.lines c.next.new.self mid rest) c.if-branch.true c.in_ok-next.ensures.next in
    let stops = c.in_err-read.ensures.fault in
    record {
      read = not_ok _ e _ same;
      form = not_ok _ e _ same;
      options = not_ok _ e _ same;
      end = not_ok _ e _ same;
      fault = if_err c.from_residual-in_err-read.result e (λ (f : Fault). IsDrawFault f all) same
          (read_fault g.H.EntryObserver.HasObserved g.H.Judging.Keeps g.H.Judging.finds_good all mid rest c.lines.lines c.next.new.self c.taken-number.result c.line-line.result.now _ _ t (g.W.Sink.taken c.args.output.now) (g.W.Sink.taken c.lines.output) c.lines.shows e c.if-not-shows.false c.lines.invariant.judged takes c.taken-number.ensures.taken c.line-line.ensures stops);
      read_failures = omega (arith, reading_same c.from_residual-in_err-read.result e same, drawing_read e c.taken-number.result (λ kind. (before : Option Progress) → t.reader ≡ before → line_read c.line-line.result.now before ≡ Err kind) stops, c.in_ok-next.ensures.failures, c.lines.invariant.whole);
      write_failures = omega (arith, c.in_err-read.ensures.failures, c.lines.invariant.wrote, failed_same c.from_residual-in_err-read.result e same);
    }
