use Rattle.std.proofs.Common.{◌≡◌, ◌+◌, ◌-◌, ◌*◌, ◌^◌, ◌<◌, ℕ, List, Some, arith, inl, inr, length, refl, subst}
use Rattle.std.specs.Prelude.{◌⊎◌}
use Rattle.scenario.specs.{Line}
use Rattle.scenario.proofs.Places.{drop_in}
use Rattle.scenario_run.specs.{Follows, Plays, Run, events_in, events_to, part_of_line, runs}
use Rattle.scenario_run.proofs.Fronts.{PlayedTo, lines_cut, lines_ended, lines_on, lines_start, plays_whole}
use Rattle.scenario_run.proofs.Played.{on_fault}
use Rattle.scenario_run.proofs.turns.ScenarioRun.play_lines.Goals as goal
use Rattle.scenario_run.proofs.turns.ScenarioRun.play_lines.Goals.{else-events-gt0, then-events-gt0}

pub loop-index-init : goal.loop-index-init
loop-index-init g c =
    let laws = g.met.L.RunObserver in
    record {
      played = λ run follows. lines_start g.L.RunObserver.Observes c.args.self.now.world.setup c.args.lines.now c.args.until run c.args.observer.now c.args.self.now laws.observes_nothing refl follows;
      few = omega arith;
      room = laws.room_less c.args.observer.now ((length c.args.lines.now - 0) * 2 ^ 32) (length c.args.lines.now * 2 ^ 32) (omega arith) c.requires.room;
    }

pub returns-clause-part : goal.returns-clause-part
returns-clause-part g c = λ run follows.
    let i = c.loop-index in
    lines_ended g.L.RunObserver.Observes c.args.self.now.world.setup c.args.lines.now c.args.until run c.args.observer.now i.index i.self i.observer i.made i.newest (omega (arith, c.loop-index-test.false)) (i.invariant.played run follows)

pub returns-clause-whole : goal.returns-clause-whole
returns-clause-whole g c = λ end run follows.
    let i = c.loop-index in
    plays_whole g.L.RunObserver.Observes c.args.self.now.world.setup c.args.lines.now c.args.until run i.self c.args.observer.now i.observer i.newest end (returns-clause-part g c run follows)

pub loop-index-preserved : goal.loop-index-preserved
loop-index-preserved g c =
    let laws = g.met.L.RunObserver in
    let i = c.loop-index in
    let one = c.play_part in
    let lines : List Line = c.args.lines.now in
    let k : ℕ = i.index in
    let line : Line = c.index-lines-index.result in
    let made : ℕ = i.made in
    let events : ℕ = c.in_ok-events.events in
    let within : k < length lines = omega (arith, c.loop-index-test.true) in
    let plays = subst (λ m. (run : Run) → Follows i.self run → Plays g.L.RunObserver.Observes i.self.world.setup run (part_of_line i.self.world.setup m line run) one.new.self i.observer one.new.observer) c.events_after.ensures c.in_ok-events.ensures.plays in
    let counts = subst (λ m. (run : Run) → Follows i.self run → events_in i.self.world.setup (part_of_line i.self.world.setup m line run) ≡ events_in i.self.world.setup run + events) c.events_after.ensures c.in_ok-events.ensures.events in
    let made_by : ((0 < events) × (c.if-events-gt0.newest ≡ Some (record { line = k; before = made }))) ⊎ ((events ≡ 0) × (c.if-events-gt0.newest ≡ i.newest)) = elim c.if-events-gt0.branch [
      | then-events-gt0 w ↦ inl (omega (arith, w.if-events-gt0.true), w.newest-is)
      | else-events-gt0 w ↦ inr (omega (arith, w.if-events-gt0.false), w.newest-is)
    ] in
    let same : made + events ≡ made + c.from-made.result = omega (arith, c.from-made.ensures) in
    record {
      played = λ run follows. subst (λ n. PlayedTo g.L.RunObserver.Observes c.args.self.now.world.setup lines c.args.until (k + 1) run one.new.self c.args.observer.now one.new.observer n c.if-events-gt0.newest) same
          (lines_on g.L.RunObserver.Observes c.args.self.now.world.setup lines c.args.until run c.args.observer.now k line i.self i.observer one.new.observer made i.newest within
          (drop_in lines k line within c.index-lines-index.is) (i.invariant.played run follows) one.new.self events c.if-events-gt0.newest laws.observes_on one.ensures.bounded plays counts made_by);
      few = omega (arith, i.invariant.few, c.from-made.ensures, c.in_ok-events.ensures.turns, one.ensures.bounded);
      room = c.in_ok-events.ensures.room ((length lines - (k + 1)) * 2 ^ 32)
          (laws.room_less i.observer ((length lines - (k + 1)) * 2 ^ 32 + 2 ^ 32) ((length lines - k) * 2 ^ 32) (omega (arith, within)) i.invariant.room);
    }

pub returns-in_err-events-clause-cut : goal.returns-in_err-events-clause-cut
returns-in_err-events-clause-cut g c =
    let laws = g.met.L.RunObserver in
    let i = c.loop-index in
    let lines : List Line = c.args.lines.now in
    let k : ℕ = i.index in
    let line : Line = c.index-lines-index.result in
    let within : k < length lines = omega (arith, c.loop-index-test.true) in
    let s = c.args.self.now.world.setup in
    let some : 0 < events_to c.args.until i.made = subst (λ m. 0 < m) c.events_after.ensures c.in_err-events.ensures.fault in
    on_fault c.from_residual.result c.in_err-events.field-0.0 (λ fault. (run : Run) → Follows c.args.self.now run → g.L.RunObserver.Stops c.args.observer.now s run.happened (runs s lines run).happened fault c.play_part.new.observer) c.from_residual.ensures.1
    (λ run follows. lines_cut g.L.RunObserver.Observes s lines c.args.until run c.args.observer.now k line i.self i.observer c.play_part.new.observer i.made i.newest within
    (drop_in lines k line within c.index-lines-index.is) (i.invariant.played run follows) g.L.RunObserver.Stops c.in_err-events.field-0.0 laws.stops_before laws.stops_on c.in_err-events.ensures.cut some)
