use Rattle.std.proofs.Common.{◌≡◌, ℕ, List, map, ap, ◌∙◌, arith}
use Rattle.std.specs.List.{range_with_len}
use Rattle.race.specs.{plan_in, plans_of}
use Rattle.scenario.specs.{Line}
use Rattle.race.proofs.PlanLists.{plans_more}
use Rattle.race.proofs.plans.plans_of.Goals as goal

pub loop-process-preserved : goal.loop-process-preserved
loop-process-preserved c =
    let lines : List Line = c.args.scenario.now.lines.items in
    let p : ℕ = c.loop-process.process in
    let plan : c.in_ok-plan.plan.items ≡ plan_in lines p = c.in_ok-plan.ensures ∙ ap (λ l. plan_in l p) c.as_slice.ensures.value in
    ap plans_of c.in_ok-push.ensures.items ∙ plans_more c.loop-process.plans.items c.in_ok-plan.plan lines p c.loop-process.invariant plan

pub returns : goal.returns
returns c =
    let processes = c.args.scenario.now.setup.processes in
    let end : c.loop-process.process ≡ processes = (let test = c.loop-process-test.false in let most = c.loop-process.auto.process-end in omega (arith, test, most)) in
    c.loop-process.invariant ∙ ap (λ n. map (plan_in c.args.scenario.now.lines.items) (range_with_len 0 n)) end
