use Rattle.std.proofs.Common.{◌≡◌, ℕ, ◌+◌, Bool, List, [], Option, Some, Ok, Err, IfSome, IsSome, refl, sym, subst, ap, ◌∙◌, arith}
use Rattle.scenario.specs.files.{Fault, GoesToNext, coming, failed_reading}
use Rattle.scenario.specs.files.declared.faults.Fault.TheVariants.{Line}
use Rattle.scenario.specs.files.declared.faults.FaultKind.TheVariants.{NotFirst}
use Rattle.model.specs.plain_store.{checked}
use Rattle.picture.specs.{Form}
use Rattle.picture.specs.declared.reads.PictureOptions.{PictureOptions}
use Rattle.model.specs.{Past}
use Rattle.judge.specs.record_file.{Progress, line_read}
use Rattle.draw.specs.{failed_write}
use Rattle.draw.specs.{DrawnEntry, DrawsAllBands, EndsAsked, IsDrawFault, Corresponds}
use Rattle.judge.proofs.Ends.{if_err, none_reported}
use Rattle.draw.proofs.RecordEnds.{drawing_read, next_wrote, no_value, onwards_drawn, onwards_fault, onwards_few, onwards_none, onwards_on, onwards_start, onwards_stop, reading_same, read_some}
use Rattle.scenario.proofs.files.Failing.{failed_same}
use Rattle.draw.proofs.records.engines.draw_lines.Goals as goal

pub lines-preserved : goal.lines-preserved
lines-preserved g c =
    let mid = coming c.lines.lines.ahead (g.R.Source.to_come c.lines.input) in
    let rest = coming c.next.new.self.ahead (g.R.Source.to_come c.next.new.input) in
    let takes = subst (λ (b : Bool). GoesToNext (Ok b) c.lines.lines c.next.new.self mid rest) c.if-branch.true c.in_ok-next.ensures.next in
    record {
      onwards = onwards_on (g.R.Source.to_come c.args.input.now) mid rest c.lines.lines c.next.new.self c.line.result.now c.lines.sheet c.read.new.self (g.W.Sink.taken c.args.output.now) _ _ c.lines.invariant.onwards takes c.line.ensures c.in_ok-read.ensures.drawn;
      holds = c.in_ok-next.ensures.holds c.lines.invariant.holds;
      form = c.in_ok-read.ensures.form ∙ c.lines.invariant.form;
      options = c.in_ok-read.ensures.options ∙ c.lines.invariant.options;
      whole = omega (arith, c.in_ok-next.ensures.failures, c.lines.invariant.whole);
      wrote = omega (arith, c.in_ok-read.ensures.failures, c.lines.invariant.wrote);
    }

pub lines-init : goal.lines-init
lines-init g c =
    record {
      onwards = onwards_start (g.R.Source.to_come c.args.input.now) c.args.lines.now.ahead c.args.lines.now.taken c.args.sheet.now (g.W.Sink.taken c.args.output.now) c.requires.ahead c.requires.ended c.requires.taken (c.requires.corresponds (g.W.Sink.taken c.args.output.now));
      holds = none_reported c.args.lines.now.ahead (g.R.Source.to_come c.args.input.now) c.requires.ended;
      form = refl;
      options = refl;
      whole = refl;
      wrote = refl;
    }

pub returns-in_err-read : goal.returns-in_err-read
returns-in_err-read g c =
    let all = g.R.Source.to_come c.args.input.now in
    let mid = coming c.lines.lines.ahead (g.R.Source.to_come c.lines.input) in
    let rest = coming c.next.new.self.ahead (g.R.Source.to_come c.next.new.input) in
    let takes = subst (λ (b : Bool). GoesToNext (Ok b) c.lines.lines c.next.new.self mid rest) c.if-branch.true c.in_ok-next.ensures.next in
    let r = c.from_residual-in_err-read.result in
    let e : Fault = c.in_err-read.field-0.0 in
    let same = c.from_residual-in_err-read.ensures.1 in
    let stops = c.in_err-read.ensures.fault in
    record {
      drawn = no_value r e _ same;
      good = no_value r e _ same;
      end = no_value r e _ same;
      fault = if_err r e (λ (f : Fault). IsDrawFault f all) same (onwards_fault all mid rest c.lines.lines c.next.new.self c.taken.result c.line.result.now c.lines.sheet _ _ e c.lines.invariant.onwards takes c.taken.ensures.taken c.line.ensures stops);
      read_failures = omega (arith, reading_same r e same, drawing_read e c.taken.result (λ kind. (before : Option Progress) → c.lines.sheet.reader ≡ before → line_read c.line.result.now before ≡ Err kind) stops, c.in_ok-next.ensures.failures, c.lines.invariant.whole);
      write_failures = omega (arith, c.in_err-read.ensures.failures, c.lines.invariant.wrote, failed_same r e same);
    }

pub returns-in_err-next : goal.returns-in_err-next
returns-in_err-next g c =
    let all = g.R.Source.to_come c.args.input.now in
    let mid = coming c.lines.lines.ahead (g.R.Source.to_come c.lines.input) in
    let rest = coming c.next.new.self.ahead (g.R.Source.to_come c.next.new.input) in
    let r = c.from_residual.result in
    let e : Fault = c.in_err-next.field-0.0 in
    let same = c.from_residual.ensures.1 in
    let next = c.in_err-next.ensures.next in
    record {
      drawn = no_value r e _ same;
      good = no_value r e _ same;
      end = no_value r e _ same;
      fault = if_err r e (λ (f : Fault). IsDrawFault f all) same (onwards_stop all mid rest c.lines.lines c.next.new.self c.lines.sheet _ _ e c.lines.invariant.onwards next);
      read_failures = omega (arith, c.in_err-next.ensures.failures, c.lines.invariant.whole, reading_same r e same);
      write_failures = omega (arith, failed_same r e same, next_wrote e c.lines.lines c.next.new.self mid rest next, c.lines.invariant.wrote);
    }

pub returns-in-None : goal.returns-in-None
returns-in-None g c =
    let all = g.R.Source.to_come c.args.input.now in
    let mid = coming c.lines.lines.ahead (g.R.Source.to_come c.lines.input) in
    let rest = coming c.next.new.self.ahead (g.R.Source.to_come c.next.new.input) in
    let ends = subst (λ (b : Bool). GoesToNext (Ok b) c.lines.lines c.next.new.self mid rest) c.if-branch.false c.in_ok-next.ensures.next in
    record {
      drawn = tt;
      good = tt;
      end = tt;
      fault = subst (λ (f : Fault). IsDrawFault f all) (sym (c.behind.ensures ∙ ap (λ (n : ℕ). Line (record { line = n + 1; kind = NotFirst })) ends.taken))
          (onwards_none all mid c.lines.lines.taken c.lines.sheet _ _ c.lines.invariant.onwards (c.in_ok-end.ensures.none c.in-None.is) ends.before);
      read_failures = subst (λ (f : Fault). g.R.Source.failures c.next.new.input ≡ g.R.Source.failures c.args.input.now + failed_reading {A = Unit {0}} (Err f)) (sym c.behind.ensures) (omega (arith, c.in_ok-next.ensures.failures, c.lines.invariant.whole));
      write_failures = subst (λ (f : Fault). g.W.Sink.failures c.end.new.output ≡ g.W.Sink.failures c.args.output.now + failed_write {A = Unit {0}} (Err f)) (sym c.behind.ensures) (omega (arith, c.in_ok-end.ensures.fails.counted, c.lines.invariant.wrote));
    }

pub returns-in-Some : goal.returns-in-Some
returns-in-Some g c =
    let all = g.R.Source.to_come c.args.input.now in
    let first = g.W.Sink.taken c.args.output.now in
    let now = g.W.Sink.taken c.lines.output in
    let then = g.W.Sink.taken c.end.new.output in
    let mid = coming c.lines.lines.ahead (g.R.Source.to_come c.lines.input) in
    let rest = coming c.next.new.self.ahead (g.R.Source.to_come c.next.new.input) in
    let ends = subst (λ (b : Bool). GoesToNext (Ok b) c.lines.lines c.next.new.self mid rest) c.if-branch.false c.in_ok-next.ensures.next in
    let t = c.lines.sheet in
    let d : DrawnEntry = c.in-Some.drawn in
    let ended = c.in_ok-end.ensures in
    let read = read_some t.reader (subst (λ (o : Option DrawnEntry). IfSome o (λ _. IsSome t.reader)) c.in-Some.is ended.present) in
    let drawn = λ (m : PictureOptions) (f : Form). IfSome all (DrawsAllBands m f d first then) in
    record {
      drawn = subst (λ (m : PictureOptions). drawn m c.args.sheet.now.form) c.lines.invariant.options (subst (λ (f : Form). drawn t.options f) c.lines.invariant.form
          (onwards_drawn all mid c.lines.lines.taken t first now then c.lines.invariant.onwards read.0 d read.1 ends.before
          (subst (λ (o : Option DrawnEntry). IfSome o (λ d. (p : Progress) (past : Past) (first : Option (List ℕ)) → t.reader ≡ Some p → Corresponds t (Some p) past first now → (d.setup ≡ p.head.setup) × EndsAsked t.options t.form p.head.setup past [] d.shows d.opening.items d.height first then)) c.in-Some.is ended.drawn)));
      good = subst (λ (o : Option DrawnEntry). IfSome o (λ d. checked d.setup ≡ Ok tt)) c.in-Some.is ended.good;
      end = c.in_ok-next.ensures.holds c.lines.invariant.holds (c.in_ok-next.ensures.ended c.if-branch.false);
      fault = tt;
      read_failures = omega (arith, c.in_ok-next.ensures.failures, c.lines.invariant.whole);
      write_failures = omega (arith, ended.fails.counted, c.lines.invariant.wrote);
    }

pub read-requires-clause-bounded : goal.read-requires-clause-bounded
read-requires-clause-bounded g c =
    let mid = coming c.lines.lines.ahead (g.R.Source.to_come c.lines.input) in
    let rest = coming c.next.new.self.ahead (g.R.Source.to_come c.next.new.input) in
    let takes = subst (λ (b : Bool). GoesToNext (Ok b) c.lines.lines c.next.new.self mid rest) c.if-branch.true c.in_ok-next.ensures.next in
    let few = onwards_few (g.R.Source.to_come c.args.input.now) mid c.lines.lines.taken c.lines.sheet (g.W.Sink.taken c.args.output.now) (g.W.Sink.taken c.lines.output) c.lines.invariant.onwards in
    omega (arith, few, takes.taken, c.taken.ensures.taken, c.taken.ensures.bounded)
