use Rattle.std.proofs.Common.{◌≡◌, ℕ, ◌+◌, Bool, Option, Ok, Err, IfSome, IsSome, refl, sym, subst, ap, ◌∙◌, arith}
use Rattle.files.specs.{Fault, GoesToNext, coming, failed_reading}
use Rattle.files.specs.declared.faults.Fault.TheVariants.{Line}
use Rattle.files.specs.declared.faults.FaultKind.TheVariants.{NotFirst}
use Rattle.trace_engine.specs.trace_file.TraceFiles.{TraceProgress, line_read}
use Rattle.draw.specs.{failed_write}
use Rattle.draw.proofs.RecordEnds.{drawing_read, next_wrote, no_value, reading_same}
use Rattle.files.proofs.Failing.{failed_same}
use Rattle.trace_engine.proofs.Ends.{if_err, next_fault, none_reported}
use Rattle.trace_draw.specs.{DrawnTrace, DrawsLine, EndsSheet, HasShown, IsDrawFault, TraceView, with_output}
use Rattle.trace_draw.proofs.Ends.{drawn_all, drawn_fault, drawn_few, drawn_none, drawn_on, drawn_start, input_fault, read_some, write_fault, write_read}
use Rattle.trace_draw.proofs.engines.draw_lines.Goals as goal

pub lines-preserved : goal.lines-preserved
lines-preserved g c =
    let mid = coming c.lines.lines.ahead (g.R.Source.to_come c.lines.input) in
    let rest = coming c.next.new.self.ahead (g.R.Source.to_come c.next.new.input) in
    let takes = subst (λ (b : Bool). GoesToNext (Ok b) c.lines.lines c.next.new.self mid rest) c.if-branch.true c.in_ok-next.ensures.next in
    let had = c.lines.invariant in
    let now = g.W.Sink.taken c.lines.output in
    let then = g.W.Sink.taken c.read.new.output in
    let on = subst (λ (v : TraceView). DrawsLine v c.lines.sheet.reader c.lines.sheet.picture now c.read.new.self.reader c.read.new.self.picture then c.taken.result c.line.result.now) had.view c.in_ok-read.ensures.drawn in
    record {
      drawn = drawn_on c.args.sheet.now.view (g.R.Source.to_come c.args.input.now) mid rest c.lines.lines c.next.new.self c.taken.result c.line.result.now c.lines.sheet.reader c.read.new.self.reader c.lines.sheet.picture c.read.new.self.picture (g.W.Sink.taken c.args.output.now) now then
          had.drawn takes c.taken.ensures.taken c.line.ensures on;
      holds = c.in_ok-next.ensures.holds had.holds;
      view = c.in_ok-read.ensures.view ∙ had.view;
      whole = omega (arith, c.in_ok-next.ensures.failures, had.whole);
      wrote = omega (arith, c.in_ok-read.ensures.failures, had.wrote);
    }

pub lines-init : goal.lines-init
lines-init g c = record {
  drawn = drawn_start c.args.sheet.now.view (g.R.Source.to_come c.args.input.now) c.args.lines.now.ahead c.args.lines.now.taken c.args.sheet.now.reader c.args.sheet.now.picture (g.W.Sink.taken c.args.output.now)
      c.requires.ahead c.requires.ended c.requires.taken (c.requires.corresponds (g.W.Sink.taken c.args.output.now));
  holds = none_reported c.args.lines.now.ahead (g.R.Source.to_come c.args.input.now) c.requires.ended;
  view = refl;
  whole = refl;
  wrote = refl;
}

pub returns-in_err-read : goal.returns-in_err-read
returns-in_err-read g c =
    let all = g.R.Source.to_come c.args.input.now in
    let mid = coming c.lines.lines.ahead (g.R.Source.to_come c.lines.input) in
    let rest = coming c.next.new.self.ahead (g.R.Source.to_come c.next.new.input) in
    let takes = subst (λ (b : Bool). GoesToNext (Ok b) c.lines.lines c.next.new.self mid rest) c.if-branch.true c.in_ok-next.ensures.next in
    let r = c.from_residual-in_err-read.result in
    let e : Fault = c.in_err-read.field-0.0 in
    let same = c.from_residual-in_err-read.ensures.1 in
    let stops = c.in_err-read.ensures.fault in
    record {
      drawn = no_value r e _ same;
      end = no_value r e _ same;
      fault = if_err r e (λ (f : Fault). IsDrawFault f all) same (drawn_fault c.args.sheet.now.view all mid rest c.lines.lines c.next.new.self c.taken.result c.line.result.now c.lines.sheet.reader c.lines.sheet.picture (g.W.Sink.taken c.args.output.now) (g.W.Sink.taken c.lines.output) e
          c.lines.invariant.drawn takes c.taken.ensures.taken c.line.ensures stops);
      read_failures = omega (arith, reading_same r e same, drawing_read e c.taken.result (λ kind. (before : Option TraceProgress) → c.lines.sheet.reader ≡ before → line_read c.line.result.now before ≡ Err kind) stops, c.in_ok-next.ensures.failures, c.lines.invariant.whole);
      write_failures = omega (arith, c.in_err-read.ensures.failures, c.lines.invariant.wrote, failed_same r e same);
    }

pub returns-in_err-next : goal.returns-in_err-next
returns-in_err-next g c =
    let all = g.R.Source.to_come c.args.input.now in
    let first = g.W.Sink.taken c.args.output.now in
    let mid = coming c.lines.lines.ahead (g.R.Source.to_come c.lines.input) in
    let rest = coming c.next.new.self.ahead (g.R.Source.to_come c.next.new.input) in
    let r = c.from_residual.result in
    let e : Fault = c.in_err-next.field-0.0 in
    let same = c.from_residual.ensures.1 in
    let next = c.in_err-next.ensures.next in
    record {
      drawn = no_value r e _ same;
      end = no_value r e _ same;
      fault = if_err r e (λ (f : Fault). IsDrawFault f all) same (input_fault e all
          (next_fault (HasShown c.args.sheet.now.view first) all mid rest c.lines.lines c.next.new.self c.lines.sheet.reader (with_output (g.W.Sink.taken c.lines.output) c.lines.sheet.picture) e c.lines.invariant.drawn.onwards next));
      read_failures = omega (arith, c.in_err-next.ensures.failures, c.lines.invariant.whole, reading_same r e same);
      write_failures = omega (arith, failed_same r e same, next_wrote e c.lines.lines c.next.new.self mid rest next, c.lines.invariant.wrote);
    }

pub returns-in_err-end : goal.returns-in_err-end
returns-in_err-end g c =
    let all = g.R.Source.to_come c.args.input.now in
    let r = c.from_residual-in_err-end.result in
    let e : Fault = c.in_err-end.field-0.0 in
    let same = c.from_residual-in_err-end.ensures.1 in
    record {
      drawn = no_value r e _ same;
      end = no_value r e _ same;
      fault = if_err r e (λ (f : Fault). IsDrawFault f all) same (write_fault e all c.in_err-end.ensures.fails.fault);
      read_failures = omega (arith, reading_same r e same, write_read e c.in_err-end.ensures.fails.fault, c.in_ok-next.ensures.failures, c.lines.invariant.whole);
      write_failures = omega (arith, c.in_err-end.ensures.fails.counted, c.lines.invariant.wrote, failed_same r e same);
    }

pub returns-in-None : goal.returns-in-None
returns-in-None g c =
    let all = g.R.Source.to_come c.args.input.now in
    let mid = coming c.lines.lines.ahead (g.R.Source.to_come c.lines.input) in
    let rest = coming c.next.new.self.ahead (g.R.Source.to_come c.next.new.input) in
    let ends = subst (λ (b : Bool). GoesToNext (Ok b) c.lines.lines c.next.new.self mid rest) c.if-branch.false c.in_ok-next.ensures.next in
    record {
      drawn = tt;
      end = tt;
      fault = subst (λ (f : Fault). IsDrawFault f all) (sym (c.behind.ensures ∙ ap (λ (n : ℕ). Line (record { line = n + 1; kind = NotFirst })) ends.taken))
          (drawn_none c.args.sheet.now.view all mid c.lines.lines.taken c.lines.sheet.reader c.lines.sheet.picture (g.W.Sink.taken c.args.output.now) (g.W.Sink.taken c.lines.output) c.lines.invariant.drawn (c.in_ok-end.ensures.none c.in-None.is) ends.before);
      read_failures = subst (λ (f : Fault). g.R.Source.failures c.next.new.input ≡ g.R.Source.failures c.args.input.now + failed_reading {A = Unit {0}} (Err f)) (sym c.behind.ensures) (omega (arith, c.in_ok-next.ensures.failures, c.lines.invariant.whole));
      write_failures = subst (λ (f : Fault). g.W.Sink.failures c.end.new.output ≡ g.W.Sink.failures c.args.output.now + failed_write {A = Unit {0}} (Err f)) (sym c.behind.ensures) (omega (arith, c.in_ok-end.ensures.fails.counted, c.lines.invariant.wrote));
    }

pub returns-in-Some : goal.returns-in-Some
returns-in-Some g c =
    let all = g.R.Source.to_come c.args.input.now in
    let first = g.W.Sink.taken c.args.output.now in
    let now = g.W.Sink.taken c.lines.output in
    let then = g.W.Sink.taken c.end.new.output in
    let mid = coming c.lines.lines.ahead (g.R.Source.to_come c.lines.input) in
    let rest = coming c.next.new.self.ahead (g.R.Source.to_come c.next.new.input) in
    let ends = subst (λ (b : Bool). GoesToNext (Ok b) c.lines.lines c.next.new.self mid rest) c.if-branch.false c.in_ok-next.ensures.next in
    let t = c.lines.sheet in
    let d : DrawnTrace = c.in-Some.drawn in
    let had = c.lines.invariant in
    let read = read_some t.reader (subst (λ (o : Option DrawnTrace). IfSome o (λ _. IsSome t.reader)) c.in-Some.is c.in_ok-end.ensures.present) in
    let ended = subst (λ (o : Option DrawnTrace). IfSome o (λ d. EndsSheet t.view d t.reader t.picture now then)) c.in-Some.is c.in_ok-end.ensures.drawn in
    let whole = subst (λ (v : TraceView). EndsSheet v d t.reader t.picture now then) had.view ended in
    record {
      drawn = drawn_all c.args.sheet.now.view all mid c.lines.lines.taken t.reader t.picture first now then had.drawn read.0 d read.1 whole ends.before;
      end = c.in_ok-next.ensures.holds had.holds (c.in_ok-next.ensures.ended c.if-branch.false);
      fault = tt;
      read_failures = omega (arith, c.in_ok-next.ensures.failures, had.whole);
      write_failures = omega (arith, c.in_ok-end.ensures.fails.counted, had.wrote);
    }

pub read-requires-clause-bounded : goal.read-requires-clause-bounded
read-requires-clause-bounded g c =
    let mid = coming c.lines.lines.ahead (g.R.Source.to_come c.lines.input) in
    let rest = coming c.next.new.self.ahead (g.R.Source.to_come c.next.new.input) in
    let takes = subst (λ (b : Bool). GoesToNext (Ok b) c.lines.lines c.next.new.self mid rest) c.if-branch.true c.in_ok-next.ensures.next in
    let few = drawn_few c.args.sheet.now.view (g.R.Source.to_come c.args.input.now) mid c.lines.lines.taken c.lines.sheet.reader c.lines.sheet.picture (g.W.Sink.taken c.args.output.now) (g.W.Sink.taken c.lines.output) c.lines.invariant.drawn in
    omega (arith, few, takes.taken, c.taken.ensures.taken, c.taken.ensures.bounded)
