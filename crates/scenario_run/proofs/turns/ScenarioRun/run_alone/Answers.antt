use Rattle.std.proofs.Common.{None, Ok, Option, Result, IfOk, IfSome, ◌≡◌, subst, ◌+◌, ◌-◌, ◌<◌, ◌∙◌, ℕ, ap, arith, refl, sym}
use Rattle.scenario.specs.files.{Fault}
use Rattle.scenario_run.specs.{ComesOn, ScenarioRunState, IsAlone, LeavesRoom, RunsAlone, StopsAlone, StopsBy, TurnReport, scenario_run, remaining_after}
use Rattle.scenario_run.proofs.Alone.{alone_passed, alone_stops, alone_then, alone_to}
use Rattle.scenario_run.proofs.Played.{both_err, where_err, where_ok}
use Rattle.scenario_run.proofs.Runnings.{comes_start, room_after, room_fewer, room_now}
use Rattle.scenario_run.proofs.turns.ScenarioRun.run_alone.Goals as goal
use Rattle.scenario_run.proofs.turns.ScenarioRun.run_alone.Goals.{else-not-is_quiet-via-then-not-is_quiet+else-not-goes_on, else-not-is_quiet-via-else-not-is_quiet}

pub steps-init : goal.steps-init
steps-init g c =
    let i = c.self.inside in
    let remaining = ap (λ (old : ScenarioRunState). old.remaining) c.self.view_is in
    record {
      on = λ line run follows next. comes_start g.L.RunObserver.Observes line run c.args.self.now (scenario_run i.world i.flicks i.remaining) c.args.observer.now (IsAlone c.args.process c.args.floor) (g.met.L.RunObserver.observes_nothing c.args.observer.now c.args.self.now.world.setup run.happened) c.self.view_is follows next;
      none = refl;
      kept = record { are = c.self.invariant.are; few = c.self.invariant.few };
      remaining = omega (arith, remaining);
      floor = omega (arith, remaining, c.requires.floor);
      some = omega arith;
      known = omega arith;
      room = λ more room. g.met.L.RunObserver.room_less c.args.observer.now (more + i.remaining) (more + c.args.self.now.remaining) (omega (arith, remaining)) room;
    }

pub pass_by-requires-clause-room : goal.pass_by-requires-clause-room
pass_by-requires-clause-room g c = room_now g.L.RunObserver.HasRoom g.met.L.RunObserver.room_less c.args.observer.now c.steps.observer c.args.self.now.remaining c.steps.self-inside.remaining c.steps.invariant.room c.steps.self-inside.remaining (omega arith) c.requires.room

pub turn_step-is_quiet-requires-clause-room : goal.turn_step-is_quiet-requires-clause-room
turn_step-is_quiet-requires-clause-room g c = let apart = c.if-self-floor.false in room_now g.L.RunObserver.HasRoom g.met.L.RunObserver.room_less c.args.observer.now c.pass_by.new.observer c.args.self.now.remaining c.pass_by.new.remaining (λ more room. c.pass_by.ensures.room more (c.steps.invariant.room more room)) 1 (omega (arith, c.pass_by.ensures.floor, apart)) c.requires.room

pub steps-preserved : goal.steps-preserved
steps-preserved g c =
    let laws = g.met.L.RunObserver in
    let i = c.steps.self-inside in
    let by = c.pass_by in
    let one = c.turn_step-is_quiet in
    let remaining : ℕ = by.new.remaining in
    let apart = c.if-self-floor.false in
    let above : c.args.floor < remaining = omega (arith, by.ensures.floor, apart) in
    let setup = one.ensures.setup ∙ by.ensures.setup in
    let none : one.new.outcome ≡ Ok None = elim c.else-not-is_quiet.branch [
      | else-not-is_quiet-via-then-not-is_quiet+else-not-goes_on w ↦ w.goes_on.ensures.none w.if-not-goes_on.false
      | else-not-is_quiet-via-else-not-is_quiet w ↦ one.ensures.quiet w.if-not-is_quiet.false
    ] in
    record {
      on = λ line run follows next. alone_then g.L.RunObserver.Observes laws.observes_on c.args.self.now.world.setup line c.args.self.now.remaining c.args.process c.args.floor run c.args.observer.now c.steps.observer by.new.observer one.new.observer (scenario_run i.world i.flicks i.remaining) by.new.world one.new.world by.new.flicks one.new.flicks remaining (c.steps.invariant.on line run follows next) by.ensures.on above one.ensures.after
          (rw none at one.ensures.observed);
      none = none;
      kept = record { are = c.steps.invariant.kept.are ∙ ap (λ s. s.processes) (sym setup); few = c.steps.invariant.kept.few };
      remaining = omega (arith, by.ensures.fewer, c.steps.invariant.remaining);
      floor = omega (arith, above);
      some = one.ensures.nonzero;
      known = one.ensures.known;
      room = room_after g.L.RunObserver.HasRoom laws.room_less c.args.observer.now by.new.observer c.args.self.now.remaining remaining (λ more room. by.ensures.room more (c.steps.invariant.room more room)) one.new.observer None (omega (arith, above))
          (rw none at one.ensures.room);
    }

pub returns-then-self-floor-clause-observed : goal.returns-then-self-floor-clause-observed
returns-then-self-floor-clause-observed g c = λ line run follows next.
    let i = c.steps.self-inside in
    let by = c.pass_by in
    alone_passed g.L.RunObserver.Observes g.met.L.RunObserver.observes_on c.args.self.now.world.setup line c.args.self.now.remaining c.args.process c.args.floor run c.args.observer.now c.steps.observer by.new.observer by.new.observer (scenario_run i.world i.flicks i.remaining) by.new.world by.new.world by.new.flicks by.new.flicks by.new.remaining (c.steps.invariant.on line run follows next) by.ensures.on

pub returns-then-not-goes_on-clause-observed : goal.returns-then-not-goes_on-clause-observed
returns-then-not-goes_on-clause-observed g c =
    let laws = g.met.L.RunObserver in
    let i = c.steps.self-inside in
    let by = c.pass_by in
    let one = c.turn_step-is_quiet in
    let remaining' : ℕ = c.left_after-self-inside.result in
    let apart = c.if-self-floor.false in
    let above : c.args.floor < by.new.remaining = omega (arith, by.ensures.floor, apart) in
    where_ok one.new.outcome _ (RunsAlone g.L.RunObserver.Observes c.args.self.now c.args.process c.args.floor by.new.remaining (scenario_run one.new.world one.new.flicks remaining') c.args.observer.now one.new.observer) one.ensures.observed (λ reported is makes line run follows next.
    alone_to g.L.RunObserver.Observes laws.observes_on c.args.self.now.world.setup line c.args.self.now.remaining c.args.process c.args.floor run c.args.observer.now c.steps.observer by.new.observer one.new.observer (scenario_run i.world i.flicks i.remaining) by.new.world one.new.world by.new.flicks one.new.flicks by.new.remaining (c.steps.invariant.on line run follows next) by.ensures.on above one.ensures.after
    laws.observes_nothing reported remaining' (λ none. c.goes_on.ensures.outcome c.if-not-goes_on.true (is ∙ ap Ok none)) makes (subst (λ (outcome : Result (Option TurnReport) Fault). IfOk outcome (λ reported. IfSome reported (λ answer. remaining' ≡ remaining_after answer (by.new.remaining - 1)))) is c.left_after-self-inside.ensures.reported))

pub returns-then-not-goes_on-clause-room : goal.returns-then-not-goes_on-clause-room
returns-then-not-goes_on-clause-room g c =
    let laws = g.met.L.RunObserver in
    let by = c.pass_by in
    let one = c.turn_step-is_quiet in
    let apart = c.if-self-floor.false in
    let before : LeavesRoom g.L.RunObserver.HasRoom c.args.observer.now c.args.self.now.remaining by.new.observer by.new.remaining None = λ more room. by.ensures.room more (c.steps.invariant.room more room) in
    where_ok one.new.outcome _ _ one.ensures.room (λ reported is leaves.
    room_fewer g.L.RunObserver.HasRoom laws.room_less c.args.observer.now by.new.observer c.args.self.now.remaining by.new.remaining before one.new.observer reported c.left_after-self-inside.result (by.new.remaining - 1) c.left_after-self-inside.ensures.fewer
    (room_after g.L.RunObserver.HasRoom laws.room_less c.args.observer.now by.new.observer c.args.self.now.remaining by.new.remaining before one.new.observer reported (omega (arith, by.ensures.floor, apart)) leaves))

pub returns-then-not-goes_on-clause-cut : goal.returns-then-not-goes_on-clause-cut
returns-then-not-goes_on-clause-cut g c =
    let laws = g.met.L.RunObserver in
    let i = c.steps.self-inside in
    let by = c.pass_by in
    let one = c.turn_step-is_quiet in
    let remaining : ℕ = by.new.remaining in
    let apart = c.if-self-floor.false in
    let above : c.args.floor < remaining = omega (arith, by.ensures.floor, apart) in
    where_err one.new.outcome _ (StopsAlone g.L.RunObserver.Stops c.args.self.now c.args.process c.args.floor (scenario_run one.new.world one.new.flicks c.left_after-self-inside.result) c.args.observer.now one.new.observer) (both_err one.new.outcome _ _ one.ensures.cut c.left_after-self-inside.ensures.fault) (λ fault stops line run follows next.
    subst (λ n. ComesOn (StopsBy g.L.RunObserver.Stops fault) c.args.self.now.world.setup line c.args.self.now.remaining run c.args.observer.now one.new.observer (scenario_run one.new.world one.new.flicks n) (IsAlone c.args.process c.args.floor)) (sym stops.1)
    (alone_stops g.L.RunObserver.Observes laws.observes_on c.args.self.now.world.setup line c.args.self.now.remaining c.args.process c.args.floor run c.args.observer.now c.steps.observer by.new.observer one.new.observer (scenario_run i.world i.flicks i.remaining) by.new.world one.new.world by.new.flicks one.new.flicks remaining (c.steps.invariant.on line run follows next) by.ensures.on above one.ensures.after
    g.L.RunObserver.Stops laws.stops_on fault stops.0))
