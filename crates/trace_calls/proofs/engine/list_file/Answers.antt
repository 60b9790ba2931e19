use Rattle.std.proofs.Common.{◌≡◌, ℕ, Bool, List, Option, Ok, Err, sym, subst, arith}
use Rattle.files.specs.{Fault, GoesToNext, UnlessMemory, coming}
use Rattle.trace_file.specs.TraceFiles.{line_read}
use Rattle.trace_engine.specs.{GoesOn, IsObserved, IsTraceFault}
use Rattle.trace_engine.proofs.Ends.{if_err, next_fault, onwards_all, onwards_fault, onwards_on}
use Rattle.trace_calls.specs.Tables.{HasTabled, ListerState}
use Rattle.trace_calls.proofs.engine.list_file.Goals as goal

pub lines-preserved : goal.lines-preserved
lines-preserved g c =
    let u = c.lines.invariant.onwards in
    let all = g.R.Source.to_come c.args.input.now in
    let mid = coming c.lines.lines.ahead (g.R.Source.to_come c.lines.input) in
    let rest = coming c.next.new.self.ahead (g.R.Source.to_come c.next.new.input) in
    let old = c.lines.listing in
    let new = c.line-in-lines.new.self in
    let takes = subst (λ (b : Bool). GoesToNext (Ok b) c.lines.lines c.next.new.self mid rest) c.if-branch.true c.in_ok-next.ensures.next in
    let listed = c.in_default.ensures u.before u.entries u.numbers u.read_up_to in
    let numbered = subst (λ (n : ℕ). GoesOn HasTabled n c.line.result.now u.before new.reader new.lister u.entries u.numbers) c.taken.ensures.taken listed in
    let on = subst (λ (line : List ℕ). GoesOn HasTabled c.next.new.self.taken line u.before new.reader new.lister u.entries u.numbers) c.line.ensures numbered in
    record {
      onwards = onwards_on HasTabled all mid rest c.lines.lines c.next.new.self old.reader new.reader old.lister new.lister u takes on;
      holds = c.in_ok-next.ensures.holds c.lines.invariant.holds;
      whole = omega (arith, c.in_ok-next.ensures.failures, c.lines.invariant.whole);
    }

pub returns-in-Err-clause-fault : goal.returns-in-Err-clause-fault
returns-in-Err-clause-fault g c =
    let u = c.lines.invariant.onwards in
    let all = g.R.Source.to_come c.args.input.now in
    let mid = coming c.lines.lines.ahead (g.R.Source.to_come c.lines.input) in
    let rest = coming c.next.new.self.ahead (g.R.Source.to_come c.next.new.input) in
    let old = c.lines.listing in
    let takes = subst (λ (b : Bool). GoesToNext (Ok b) c.lines.lines c.next.new.self mid rest) c.if-branch.true c.in_ok-next.ensures.next in
    let fault = subst (λ (line : List ℕ). UnlessMemory c.in-Err.kind (line_read line u.before ≡ Err c.in-Err.kind)) c.line.ensures (c.in-Err.ensures u.before u.entries u.numbers u.read_up_to) in
    subst (λ (f : Fault). IsTraceFault f all) (sym c.here.ensures) (onwards_fault HasTabled all mid rest c.lines.lines c.next.new.self old.reader old.lister c.in-Err.kind u takes fault)

pub returns-clause-listed : goal.returns-clause-listed
returns-clause-listed g c =
    let u = c.lines.invariant.onwards in
    let all = g.R.Source.to_come c.args.input.now in
    let mid = coming c.lines.lines.ahead (g.R.Source.to_come c.lines.input) in
    let rest = coming c.next.new.self.ahead (g.R.Source.to_come c.next.new.input) in
    let old = c.lines.listing in
    let ends = subst (λ (b : Bool). GoesToNext (Ok b) c.lines.lines c.next.new.self mid rest) c.if-branch.false c.in_ok-next.ensures.next in
    let listed = c.in_ok-into_lister.ensures u.before u.entries u.numbers u.read_up_to in
    let is = subst (λ (h : Option ListerState). IsObserved HasTabled h u.before u.entries u.numbers) c.in-Some.is listed in
    onwards_all HasTabled (HasTabled c.in-Some.lister) all mid c.lines.lines.taken old.reader old.lister u is.0 is.1 is.2 ends.before

pub returns-in_err-next-clause-fault : goal.returns-in_err-next-clause-fault
returns-in_err-next-clause-fault g c =
    let all = g.R.Source.to_come c.args.input.now in
    let mid = coming c.lines.lines.ahead (g.R.Source.to_come c.lines.input) in
    let rest = coming c.next.new.self.ahead (g.R.Source.to_come c.next.new.input) in
    if_err c.from_residual.result c.in_err-next.field-0.0 (λ (f : Fault). IsTraceFault f all) c.from_residual.ensures.1
    (next_fault HasTabled all mid rest c.lines.lines c.next.new.self c.lines.listing.reader c.lines.listing.lister c.in_err-next.field-0.0 c.lines.invariant.onwards c.in_err-next.ensures.next)
