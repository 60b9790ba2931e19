use Rattle.std.proofs.Common.{ℕ, List, Option, subst, sym, arith, ◌<◌}
use Rattle.model.specs.{Entry}
use Rattle.record_file.specs.{Progress}
use Rattle.judge.specs.Firsts.{HasObservedFirsts}
use Rattle.judge.specs.Trials.{LineEnds, Corresponds, count_in}
use Rattle.judge.proofs.Firsts.{ends_all, all_correspond}
use Rattle.judge.proofs.trial.Trial.line_within.Goals as goal

pub returns-in_default : goal.returns-in_default
returns-in_default g c =
    let old = c.args.self.now in
    let then = c.line.new.self in
    subst (λ (limit : Option ℕ). (before : Option Progress) (entries : List Entry) (numbers : List ℕ) → Corresponds (HasObservedFirsts limit g.H.EntryObserver.HasObserved) old.reader old.observer before entries numbers → LineEnds (HasObservedFirsts limit g.H.EntryObserver.HasObserved) c.line.result c.args.number c.args.line.now before then.reader then.observer entries numbers)
    (sym c.in_default.is) c.line.ensures

pub returns-then-observed-limit : goal.returns-then-observed-limit
returns-then-observed-limit g c =
    let old = c.args.self.now in
    let ended = c.line-then-observed-limit in
    let then = ended.new.self in
    let n : ℕ = c.in-Some.limit in
    let few : count_in g.H.EntryObserver.count old.observer < n = omega (arith, c.observed.ensures, c.if-observed-limit.true) in
    subst (λ (limit : Option ℕ). (before : Option Progress) (entries : List Entry) (numbers : List ℕ) → Corresponds (HasObservedFirsts limit g.H.EntryObserver.HasObserved) old.reader old.observer before entries numbers → LineEnds (HasObservedFirsts limit g.H.EntryObserver.HasObserved) ended.result c.args.number c.args.line.now before then.reader then.observer entries numbers)
    (sym c.in-Some.is) (λ before entries numbers corresponds.
    ends_all g.H.EntryObserver.HasObserved g.H.EntryObserver.count g.met.H.EntryObserver.counts n ended.result c.args.number c.args.line.now before old.reader then.reader old.observer then.observer entries numbers few corresponds
    (ended.ensures before entries numbers (all_correspond g.H.EntryObserver.HasObserved g.H.EntryObserver.count g.met.H.EntryObserver.counts n old.reader old.observer before entries numbers few corresponds)))

pub returns : goal.returns
returns g c =
    let old = c.args.self.now in
    let then = c.pass.new.self in
    subst (λ (limit : Option ℕ). (before : Option Progress) (entries : List Entry) (numbers : List ℕ) → Corresponds (HasObservedFirsts limit g.H.EntryObserver.HasObserved) old.reader old.observer before entries numbers → LineEnds (HasObservedFirsts limit g.H.EntryObserver.HasObserved) c.pass.result c.args.number c.args.line.now before then.reader then.observer entries numbers)
    (sym c.in-Some.is) c.pass.ensures
