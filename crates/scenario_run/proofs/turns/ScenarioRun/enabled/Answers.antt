use Rattle.std.proofs.Common.{◌≡◌, ◌<◌, ℕ, Bool, true, false, [], ◌∷◌, length, ◌∙◌, arith, ap, sym, append-nil}
use Rattle.std.proofs.lemmas.List.{length-append}
use Rattle.model.specs.{is_at_work, stage}
use Rattle.scenario_run.specs.{ScenarioRunState, Run, past_in}
use Rattle.scenario_run.proofs.Enabled.{kept_more}
use Rattle.scenario_run.proofs.turns.ScenarioRun.enabled.Goals as goal
use Rattle.scenario_run.proofs.turns.ScenarioRun.enabled.Goals.{then-has_step, else-has_step}

pub loop-process-init : goal.loop-process-init
loop-process-init c = record {
  so_far = λ run follows. c.new-enabled.ensures.items;
  within = omega (arith, ap length c.new-enabled.ensures.items);
  room = c.new-enabled.ensures.capacity;
}

pub loop-process-preserved : goal.loop-process-preserved
loop-process-preserved c =
    let k : ℕ = c.loop-process.process in
    let invariant = c.loop-process.invariant in
    let test : Run → ℕ → Bool = λ run p. is_at_work (stage p (past_in c.args.self.now.world.setup run)) in
    let there : k < c.args.self.now.world.setup.processes = omega (arith, c.loop-process-test.true, c.self.invariant.are, ap (λ (scenario_run : ScenarioRunState). scenario_run.world.setup.processes) c.self.view_is) in
    elim c.if-has_step.branch [
      | then-has_step w ↦ rw w.enabled-is (record {
        so_far = λ run follows. w.push_reserved.ensures.items ∙ kept_more (test run) c.loop-process.enabled.items k true (invariant.so_far run follows) (sym (c.has_step.ensures run follows there) ∙ w.if-has_step.true);
        within = omega (arith, ap length w.push_reserved.ensures.items, length-append c.loop-process.enabled.items (k ∷ []), invariant.within);
        room = w.push_reserved.ensures.capacity ∙ invariant.room;
      })
      | else-has_step w ↦ rw w.enabled-is (record {
        so_far = λ run follows. sym (append-nil c.loop-process.enabled.items) ∙ kept_more (test run) c.loop-process.enabled.items k false (invariant.so_far run follows) (sym (c.has_step.ensures run follows there) ∙ w.if-has_step.false);
        within = omega (arith, invariant.within);
        room = invariant.room;
      })
    ]

pub returns-clause-enabled : goal.returns-clause-enabled
returns-clause-enabled c = λ run follows.
    let all : c.loop-process.process ≡ c.args.self.now.world.setup.processes = omega (arith, c.loop-process-test.false, c.loop-process.auto.process-end, c.self.invariant.are, ap (λ (scenario_run : ScenarioRunState). scenario_run.world.setup.processes) c.self.view_is) in
    rw all at c.loop-process.invariant.so_far run follows
