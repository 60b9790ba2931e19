use Rattle.std.proofs.Common.{◌≡◌, ◌+◌, ℕ, Bool, List, Option, Ok, Err, refl, sym, subst, arith}
use Rattle.files.specs.{Fault, GoesToNext, UnlessMemory, coming}
use Rattle.files.specs.declared.faults.Fault.TheVariants as fault
use Rattle.files.specs.declared.faults.FaultKind.TheVariants.{NotFirst}
use Rattle.record_file.specs.{line_read}
use Rattle.judge.specs.{HasObservedFirsts, IsInputFault}
use Rattle.judge.specs.Trials.{GoesOn, IsObserved}
use Rattle.judge.proofs.Ends.{if_err, next_fault, none_reported, onwards_all, onwards_fault, onwards_none, onwards_on, onwards_start}
use Rattle.judge.proofs.Firsts.{at_first, few_observed}
use Rattle.judge.proofs.engine.observe_file.Goals as goal

pub lines-preserved : goal.lines-preserved
lines-preserved g c =
    let observed = HasObservedFirsts c.args.limit g.H.EntryObserver.HasObserved in
    let u = c.lines.invariant.onwards in
    let all = g.R.Source.to_come c.args.input.now in
    let mid = coming c.lines.lines.ahead (g.R.Source.to_come c.lines.input) in
    let rest = coming c.next.new.self.ahead (g.R.Source.to_come c.next.new.input) in
    let old = c.lines.trial in
    let new = c.line_within.new.self in
    let takes = subst (λ (b : Bool). GoesToNext (Ok b) c.lines.lines c.next.new.self mid rest) c.if-branch.true c.in_ok-next.ensures.next in
    let numbered = subst (λ (n : ℕ). GoesOn observed n c.line.result.now u.before new.reader new.observer u.entries u.numbers) c.taken.ensures.taken (c.in_default.ensures u.before u.entries u.numbers u.corresponds) in
    let on = subst (λ (line : List ℕ). GoesOn observed c.next.new.self.taken line u.before new.reader new.observer u.entries u.numbers) c.line.ensures numbered in
    record {
      onwards = onwards_on observed all mid rest c.lines.lines c.next.new.self old.reader new.reader old.observer new.observer u takes on;
      holds = c.in_ok-next.ensures.holds c.lines.invariant.holds;
      whole = omega (arith, c.in_ok-next.ensures.failures, c.lines.invariant.whole);
    }

pub returns-in-Err-clause-fault : goal.returns-in-Err-clause-fault
returns-in-Err-clause-fault g c =
    let u = c.lines.invariant.onwards in
    let all = g.R.Source.to_come c.args.input.now in
    let mid = coming c.lines.lines.ahead (g.R.Source.to_come c.lines.input) in
    let rest = coming c.next.new.self.ahead (g.R.Source.to_come c.next.new.input) in
    let takes = subst (λ (b : Bool). GoesToNext (Ok b) c.lines.lines c.next.new.self mid rest) c.if-branch.true c.in_ok-next.ensures.next in
    let fault = subst (λ (line : List ℕ). UnlessMemory c.in-Err.kind (line_read line u.before ≡ Err c.in-Err.kind)) c.line.ensures (c.in-Err.ensures u.before u.entries u.numbers u.corresponds) in
    subst (λ (f : Fault). IsInputFault f all) (sym c.here.ensures) (onwards_fault (HasObservedFirsts c.args.limit g.H.EntryObserver.HasObserved) all mid rest c.lines.lines c.next.new.self c.lines.trial.reader c.lines.trial.observer c.in-Err.kind u takes fault)

pub returns-clause-observed : goal.returns-clause-observed
returns-clause-observed g c =
    let observed = HasObservedFirsts c.args.limit g.H.EntryObserver.HasObserved in
    let u = c.lines.invariant.onwards in
    let all = g.R.Source.to_come c.args.input.now in
    let mid = coming c.lines.lines.ahead (g.R.Source.to_come c.lines.input) in
    let rest = coming c.next.new.self.ahead (g.R.Source.to_come c.next.new.input) in
    let ends = subst (λ (b : Bool). GoesToNext (Ok b) c.lines.lines c.next.new.self mid rest) c.if-branch.false c.in_ok-next.ensures.next in
    let is = subst (λ (h : Option g.row.H.Denot). IsObserved observed h u.before u.entries u.numbers) c.in-Some.is (c.in_ok-into_observer.ensures c.args.limit u.before u.entries u.numbers u.corresponds) in
    onwards_all observed (observed c.in-Some.observer) all mid c.lines.lines.taken c.lines.trial.reader c.lines.trial.observer u is.0 is.1 is.2 ends.before

pub returns-in_err-next-clause-fault : goal.returns-in_err-next-clause-fault
returns-in_err-next-clause-fault g c =
    let all = g.R.Source.to_come c.args.input.now in
    let mid = coming c.lines.lines.ahead (g.R.Source.to_come c.lines.input) in
    let rest = coming c.next.new.self.ahead (g.R.Source.to_come c.next.new.input) in
    if_err c.from_residual.result c.in_err-next.field-0.0 (λ (f : Fault). IsInputFault f all) c.from_residual.ensures.1
    (next_fault (HasObservedFirsts c.args.limit g.H.EntryObserver.HasObserved) all mid rest c.lines.lines c.next.new.self c.lines.trial.reader c.lines.trial.observer c.in_err-next.field-0.0 c.lines.invariant.onwards c.in_err-next.ensures.next)

pub lines-init : goal.lines-init
lines-init g c =
    let all = g.R.Source.to_come c.args.input.now in
    let lines = c.new-lines.result in
    let trial = c.new-trial.result in
    record {
      onwards = onwards_start (HasObservedFirsts c.args.limit g.H.EntryObserver.HasObserved) all lines.ahead lines.taken trial.reader trial.observer c.new-lines.ensures.ahead c.new-lines.ensures.ended c.new-lines.ensures.taken
          (at_first g.H.EntryObserver.HasObserved c.args.limit trial.reader trial.observer c.new-trial.ensures);
      holds = none_reported lines.ahead all c.new-lines.ensures.ended;
      whole = refl;
    }

pub line_within-requires-clause-bounded : goal.line_within-requires-clause-bounded
line_within-requires-clause-bounded g c =
    let mid = coming c.lines.lines.ahead (g.R.Source.to_come c.lines.input) in
    let rest = coming c.next.new.self.ahead (g.R.Source.to_come c.next.new.input) in
    let takes = subst (λ (b : Bool). GoesToNext (Ok b) c.lines.lines c.next.new.self mid rest) c.if-branch.true c.in_ok-next.ensures.next in
    let few = few_observed g.H.EntryObserver.HasObserved g.H.EntryObserver.count g.met.H.EntryObserver.counts c.args.limit (g.R.Source.to_come c.args.input.now) mid c.lines.lines.taken c.lines.trial.reader c.lines.trial.observer c.lines.invariant.onwards in
    omega (arith, few, takes.taken, c.taken.ensures.taken, c.taken.ensures.bounded)

pub returns-in-None-clause-fault : goal.returns-in-None-clause-fault
returns-in-None-clause-fault g c =
    let observed = HasObservedFirsts c.args.limit g.H.EntryObserver.HasObserved in
    let u = c.lines.invariant.onwards in
    let all = g.R.Source.to_come c.args.input.now in
    let mid = coming c.lines.lines.ahead (g.R.Source.to_come c.lines.input) in
    let rest = coming c.next.new.self.ahead (g.R.Source.to_come c.next.new.input) in
    let ends = subst (λ (b : Bool). GoesToNext (Ok b) c.lines.lines c.next.new.self mid rest) c.if-branch.false c.in_ok-next.ensures.next in
    let none = subst (λ (h : Option g.row.H.Denot). IsObserved observed h u.before u.entries u.numbers) c.in-None.is (c.in_ok-into_observer.ensures c.args.limit u.before u.entries u.numbers u.corresponds) in
    subst (λ (f : Fault). IsInputFault f all) (sym c.behind.ensures)
    (subst (λ (n : ℕ). IsInputFault (fault.Line (record { line = n + 1; kind = NotFirst })) all) (sym ends.taken) (onwards_none observed all mid c.lines.lines.taken c.lines.trial.reader c.lines.trial.observer u none ends.before))
