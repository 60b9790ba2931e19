use Rattle.std.proofs.Common.{Option, subst}
use Rattle.judge.specs.Trials.{Corresponds}
use Rattle.judge.proofs.Trials.{ends_stepped}
use Rattle.judge.proofs.trial.Trial.observes_step.Goals as goal

pub returns-clause-observed : goal.returns-clause-observed
returns-clause-observed g c =
    let observed = g.H.EntryObserver.HasObserved in
    let said = c.in-Some-read_step in
    λ is before entries numbers corresponds.
    ends_stepped observed c.args.number c.args.line.now c.args.self.now.reader c.in-Some.observer c.take.new.self said.process said.access before entries numbers c.requires.short said.ensures.line said.ensures.sound c.in_ok-take.ensures
    (subst (λ (h : Option g.row.H.Denot). Corresponds observed c.args.self.now.reader h before entries numbers) c.in-Some.is corresponds)
