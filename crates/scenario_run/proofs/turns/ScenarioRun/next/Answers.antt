use Rattle.std.proofs.Common.{ap, inl, subst, sym}
use Rattle.scenario.specs.files.declared.faults.Fault.TheVariants.{Memory}
use Rattle.scenario_run.specs.{ComesAlong, ScenarioRunState, Follows, IsAlone, Run, rest_of}
use Rattle.scenario_run.proofs.Alone.{alone_whole}
use Rattle.scenario_run.proofs.Endings.{if_err}
use Rattle.scenario_run.proofs.Played.{on_fault, unobserved}
use Rattle.scenario_run.proofs.Runnings.{comes_once, line_stops}
use Rattle.scenario_run.proofs.turns.ScenarioRun.next.Goals as goal

pub returns-in_err-make-clause-cut : goal.returns-in_err-make-clause-cut
returns-in_err-make-clause-cut g c =
    let s = c.args.self.now.world.setup in
    let laws = g.met.L.RunObserver in
    let a = c.args.observer.now in
    on_fault c.from_residual.result Memory (λ fault. (run : Run) → Follows c.args.self.now run → g.L.RunObserver.Stops a s run.happened (rest_of s c.args.line.now c.args.self.now.remaining run).happened fault a) c.from_residual.ensures.1
    (λ run follows. unobserved g.L.RunObserver.Stops s c.args.line.now c.args.self.now.remaining run a Memory laws.stops_before (laws.stops_unobserved a s run.happened))

pub returns-then-not-makes_steps-clause-observed : goal.returns-then-not-makes_steps-clause-observed
returns-then-not-makes_steps-clause-observed g c = λ run follows.
    let remaining = ap (λ (old : ScenarioRunState). old.remaining) c.self.view_is in
    subst (λ n. ComesAlong g.L.RunObserver.Observes c.args.self.now.world.setup c.args.line.now c.args.self.now.remaining run c.args.observer.now c.args.observer.now c.args.floor n c.in_ok-make.field-0 c.make.new.self) (sym remaining)
    (comes_once g.L.RunObserver.Observes c.args.line.now run c.args.self.now c.make.new.self c.args.observer.now c.args.floor c.in_ok-make.field-0 (g.met.L.RunObserver.observes_nothing c.args.observer.now c.args.self.now.world.setup run.happened) c.requires.floor (c.in_ok-make.ensures.made run follows))

pub returns-in-Step-clause-observed : goal.returns-in-Step-clause-observed
returns-in-Step-clause-observed g c =
    alone_whole g.L.RunObserver.Observes c.args.self.now c.run_alone.new.self c.args.line.now c.in-Step.process c.in-Step.field-1 c.args.floor c.run_alone.new.before c.args.observer.now c.run_alone.new.observer c.run_alone.result c.in-Step.is c.run_alone.ensures.ended c.run_alone.ensures.floor c.run_alone.ensures.observed

pub returns-in-Step-clause-cut : goal.returns-in-Step-clause-cut
returns-in-Step-clause-cut g c = if_err c.run_alone.result
    (λ fault cut run follows. line_stops g.L.RunObserver.Stops c.args.self.now.world.setup c.args.line.now c.args.self.now.remaining run c.args.observer.now c.run_alone.new.observer fault c.run_alone.new.self (IsAlone c.in-Step.process c.args.floor) g.met.L.RunObserver.stops_before
    (cut c.args.line.now run follows (inl (c.in-Step.field-1, c.in-Step.is))) c.requires.bounded) c.run_alone.ensures.cut
