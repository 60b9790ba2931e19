use Rattle.std.proofs.Common.{◌≡◌, ◌+◌, ◌-◌, ◌^◌, ap, arith, refl, subst}
use Rattle.std.specs.Prelude.{Option}
use Rattle.scenario_run.specs.{ComesAlong, ScenarioRunState, Follows, Run, TurnReport, events_reported, run_after, turns_in}
use Rattle.scenario_run.proofs.Played.{Played, on_fault, played_cut, played_ended, played_floor, played_on, played_start, played_torn}
use Rattle.scenario_run.proofs.turns.ScenarioRun.play_part.Goals as goal

pub turns-init : goal.turns-init
turns-init g c =
    let laws = g.met.L.RunObserver in
    let begun : ScenarioRunState = c.begin.new.self in
    let remaining = ap (λ (scenario_run : ScenarioRunState). scenario_run.remaining) c.begin.ensures.scenario_run in
    record {
      played = λ run follows. played_start g.L.RunObserver.Observes c.args.self.now.world.setup c.args.line.now c.floor_below-floor.result run c.args.self.now begun c.args.observer.now laws.observes_nothing refl c.begin.ensures.scenario_run follows;
      remaining = omega (arith, remaining);
      count = omega (arith, remaining);
      room = λ more room. laws.room_less c.args.observer.now (more + begun.remaining) (more + 2 ^ 32) (omega (arith, c.begin.ensures.bounded)) room;
    }

pub next-requires-clause-room : goal.next-requires-clause-room
next-requires-clause-room g c =
    let laws = g.met.L.RunObserver in
    laws.room_less c.turns.observer c.turns.self.remaining (0 + c.turns.self.remaining) (omega arith) (c.turns.invariant.room 0 (laws.room_less c.args.observer.now (0 + 2 ^ 32) (2 ^ 32) (omega arith) c.requires))

pub returns-in_default-clause-plays : goal.returns-in_default-clause-plays
returns-in_default-clause-plays g c = λ run follows.
    let comes = subst (λ (o : Option TurnReport). (run : Run) → Follows c.turns.self run → ComesAlong g.L.RunObserver.Observes c.turns.self.world.setup c.args.line.now c.turns.self.remaining run c.turns.observer c.next.new.observer c.floor_below-floor.result c.next.new.before o c.next.new.self) c.in_default.is c.in_ok-reported.ensures.observed in
    let remaining = ap (λ (scenario_run : ScenarioRunState). scenario_run.remaining) c.begin.ensures.scenario_run in
    let inside = ap (λ (scenario_run : ScenarioRunState). scenario_run.remaining) c.self.view_is in
    let here = ap (λ (scenario_run : ScenarioRunState). scenario_run.remaining) c.self-in-turns.view_is in
    let floor : c.floor_below-floor.result ≡ turns_in c.args.line.now - c.args.most = omega (arith, c.floor_below-floor.ensures, inside, remaining) in
    let part = played_ended g.L.RunObserver.Observes c.args.self.now.world.setup c.args.line.now c.floor_below-floor.result run c.args.observer.now c.turns.observer c.turns.self c.turns.made c.turns.invariant.remaining (c.turns.invariant.played run follows) g.met.L.RunObserver.observes_on c.next.new.observer c.next.new.self c.next.new.before c.args.most floor comes in
    part.0

pub returns-in_default-clause-events : goal.returns-in_default-clause-events
returns-in_default-clause-events g c = λ run follows.
    let comes = subst (λ (o : Option TurnReport). (run : Run) → Follows c.turns.self run → ComesAlong g.L.RunObserver.Observes c.turns.self.world.setup c.args.line.now c.turns.self.remaining run c.turns.observer c.next.new.observer c.floor_below-floor.result c.next.new.before o c.next.new.self) c.in_default.is c.in_ok-reported.ensures.observed in
    let remaining = ap (λ (scenario_run : ScenarioRunState). scenario_run.remaining) c.begin.ensures.scenario_run in
    let inside = ap (λ (scenario_run : ScenarioRunState). scenario_run.remaining) c.self.view_is in
    let here = ap (λ (scenario_run : ScenarioRunState). scenario_run.remaining) c.self-in-turns.view_is in
    let floor : c.floor_below-floor.result ≡ turns_in c.args.line.now - c.args.most = omega (arith, c.floor_below-floor.ensures, inside, remaining) in
    let part = played_ended g.L.RunObserver.Observes c.args.self.now.world.setup c.args.line.now c.floor_below-floor.result run c.args.observer.now c.turns.observer c.turns.self c.turns.made c.turns.invariant.remaining (c.turns.invariant.played run follows) g.met.L.RunObserver.observes_on c.next.new.observer c.next.new.self c.next.new.before c.args.most floor comes in
    let events = part.1 in
    omega (arith, events, here)

pub observe-requires : goal.observe-requires
observe-requires g c =
    let laws = g.met.L.RunObserver in
    let room = rw c.in-Some.is at c.in_ok-reported.ensures.room in
    laws.room_less c.next.new.observer 1 (0 + (c.next.new.self.remaining + 1)) (omega arith) (room 0 (c.turns.invariant.room 0 (laws.room_less c.args.observer.now (0 + 2 ^ 32) (2 ^ 32) (omega arith) c.requires)))

pub turns-preserved : goal.turns-preserved
turns-preserved g c =
    let laws = g.met.L.RunObserver in
    let comes = subst (λ (o : Option TurnReport). (run : Run) → Follows c.turns.self run → ComesAlong g.L.RunObserver.Observes c.turns.self.world.setup c.args.line.now c.turns.self.remaining run c.turns.observer c.next.new.observer c.floor_below-floor.result c.next.new.before o c.next.new.self) c.in-Some.is c.in_ok-reported.ensures.observed in
    let less = rw c.in-Some.is at c.in_ok-reported.ensures.remaining in
    let room = rw c.in-Some.is at c.in_ok-reported.ensures.room in
    let here = ap (λ (scenario_run : ScenarioRunState). scenario_run.remaining) c.self-in-turns.view_is in
    let made : c.turns.made + (c.turns.self.remaining - c.next.new.before) + events_reported c.in-Some.reported ≡ c.turns.made + (c.self-in-turns.inside.remaining - c.next.new.before) + c.event_count-made.result = omega (arith, here, c.event_count-made.ensures.events) in
    record {
      played = λ run follows. subst (λ n. Played g.L.RunObserver.Observes c.args.self.now.world.setup c.args.line.now c.floor_below-floor.result run c.args.observer.now c.next.new.self n c.observe.new.self) made
          (played_on g.L.RunObserver.Observes c.args.self.now.world.setup c.args.line.now c.floor_below-floor.result run c.args.observer.now c.turns.observer c.turns.self c.turns.made c.turns.invariant.remaining (c.turns.invariant.played run follows) laws.observes_on c.next.new.observer c.next.new.self c.next.new.before
          c.observe.new.self c.in-Some.reported comes c.in_ok-observe.ensures.observed);
      remaining = omega (arith, less, c.in_ok-reported.ensures.fewer, c.turns.invariant.remaining);
      count = omega (arith, less, here, c.in_ok-reported.ensures.fewer, c.event_count-made.ensures.one, c.turns.invariant.count);
      room = λ more has. c.in_ok-observe.ensures.room (more + c.next.new.self.remaining)
          (laws.room_less c.next.new.observer (more + c.next.new.self.remaining + 1) (more + (c.next.new.self.remaining + 1)) (omega arith) (room more (c.turns.invariant.room more has)));
    }

pub returns-in_err-observe-clause-cut : goal.returns-in_err-observe-clause-cut
returns-in_err-observe-clause-cut g c =
    let s = c.args.self.now.world.setup in
    let l = c.args.line.now in
    let laws = g.met.L.RunObserver in
    let comes = subst (λ (o : Option TurnReport). (run : Run) → Follows c.turns.self run → ComesAlong g.L.RunObserver.Observes c.turns.self.world.setup c.args.line.now c.turns.self.remaining run c.turns.observer c.next.new.observer c.floor_below-floor.result c.next.new.before o c.next.new.self) c.in-Some.is c.in_ok-reported.ensures.observed in
    on_fault c.from_residual-in_err-observe.result c.in_err-observe.field-0.0 (λ fault. (run : Run) → Follows c.args.self.now run → g.L.RunObserver.Stops c.args.observer.now s run.happened (run_after s l run).happened fault c.observe.new.self) c.from_residual-in_err-observe.ensures.1
    (λ run follows. played_cut g.L.RunObserver.Observes s l c.floor_below-floor.result run c.args.observer.now c.turns.observer c.turns.self c.turns.made c.turns.invariant.remaining (c.turns.invariant.played run follows) laws.observes_on c.next.new.observer c.next.new.self c.next.new.before
    g.L.RunObserver.Stops laws.stops_on c.in_err-observe.field-0.0 c.observe.new.self c.in-Some.reported laws.stops_before comes c.in_err-observe.ensures.cut)

pub returns-in_err-reported-clause-cut : goal.returns-in_err-reported-clause-cut
returns-in_err-reported-clause-cut g c =
    let s = c.args.self.now.world.setup in
    let l = c.args.line.now in
    let laws = g.met.L.RunObserver in
    on_fault c.from_residual.result c.in_err-reported.field-0.0 (λ fault. (run : Run) → Follows c.args.self.now run → g.L.RunObserver.Stops c.args.observer.now s run.happened (run_after s l run).happened fault c.next.new.observer) c.from_residual.ensures.1
    (λ run follows. played_torn g.L.RunObserver.Observes s l c.floor_below-floor.result run c.args.observer.now c.turns.observer c.turns.self c.turns.made c.turns.invariant.remaining (c.turns.invariant.played run follows) c.next.new.observer g.L.RunObserver.Stops laws.stops_on c.in_err-reported.field-0.0 c.in_err-reported.ensures.cut)

pub returns-clause-plays : goal.returns-clause-plays
returns-clause-plays g c = λ run follows.
    let remaining = ap (λ (scenario_run : ScenarioRunState). scenario_run.remaining) c.begin.ensures.scenario_run in
    let inside = ap (λ (scenario_run : ScenarioRunState). scenario_run.remaining) c.self.view_is in
    let here = ap (λ (scenario_run : ScenarioRunState). scenario_run.remaining) c.self-in-turns.view_is in
    let floor : c.floor_below-floor.result ≡ turns_in c.args.line.now - c.args.most = omega (arith, c.floor_below-floor.ensures, inside, remaining) in
    (played_floor g.L.RunObserver.Observes c.args.self.now.world.setup c.args.line.now c.floor_below-floor.result run c.args.observer.now c.turns.observer c.turns.self c.turns.made c.turns.invariant.remaining (c.turns.invariant.played run follows) c.args.most floor (omega (arith, here, c.turns-test.false))).0

pub returns-clause-events : goal.returns-clause-events
returns-clause-events g c = λ run follows.
    let remaining = ap (λ (scenario_run : ScenarioRunState). scenario_run.remaining) c.begin.ensures.scenario_run in
    let inside = ap (λ (scenario_run : ScenarioRunState). scenario_run.remaining) c.self.view_is in
    let here = ap (λ (scenario_run : ScenarioRunState). scenario_run.remaining) c.self-in-turns.view_is in
    let floor : c.floor_below-floor.result ≡ turns_in c.args.line.now - c.args.most = omega (arith, c.floor_below-floor.ensures, inside, remaining) in
    (played_floor g.L.RunObserver.Observes c.args.self.now.world.setup c.args.line.now c.floor_below-floor.result run c.args.observer.now c.turns.observer c.turns.self c.turns.made c.turns.invariant.remaining (c.turns.invariant.played run follows) c.args.most floor (omega (arith, here, c.turns-test.false))).1

pub returns-in_default-clause-turns : goal.returns-in_default-clause-turns
returns-in_default-clause-turns g c =
    let here = ap (λ (scenario_run : ScenarioRunState). scenario_run.remaining) c.self-in-turns.view_is in
    omega (arith, here, c.in_ok-reported.ensures.fewer, c.turns.invariant.count)

pub returns-clause-turns : goal.returns-clause-turns
returns-clause-turns g c = omega (arith, c.turns.invariant.count)
