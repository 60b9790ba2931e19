use Rattle.std.proofs.Common.{◌≡◌, List, length, ap, refl, sym, ◌∙◌, subst, arith}
use Rattle.std.proofs.lemmas.List.{length-map}
use Rattle.std.specs.Global.{Vec}
use Rattle.race.specs.{IsRaced, plans_in, plans_of}
use Rattle.scenario.specs.{Script, script}
use Rattle.model.specs.{Placed, lists_of}
use Rattle.race.proofs.PlanLists.{plans_each, raced_lists_short, raced_plans_short}
use Rattle.race.proofs.running.race_scenario.Goals as goal

pub race-requires-clause-all : goal.race-requires-clause-all
race-requires-clause-all g c = λ κs outlives. ap length c.as_slice.ensures.value ∙ plans_each c.in_ok-plans.plans.items (script c.args.scenario.now) c.in_ok-plans.ensures

pub race-requires-clause-few_calls : goal.race-requires-clause-few_calls
race-requires-clause-few_calls g c = λ κs outlives two. raced_plans_short c.as_slice.result.now (script c.args.scenario.now) (ap plans_of c.as_slice.ensures.value ∙ c.in_ok-plans.ensures) c.args.scenario.now.few

pub weigh-requires-clause-few_calls : goal.weigh-requires-clause-few_calls
weigh-requires-clause-few_calls g c = λ two.
    let said : Script = script c.args.scenario.now in
    let plans : plans_of c.as_slice.result.now ≡ plans_in said = ap plans_of c.as_slice.ensures.value ∙ c.in_ok-plans.ensures in
    let raced : IsRaced said.setup (plans_in said) (lists_of c.in_ok-closing.closing.answers.items) c.in_ok-closing.closing.image = rw plans at c.in_ok-closing.ensures.raced in
    raced_lists_short said (lists_of c.as_slice-lists.result.now) c.in_ok-closing.closing.image c.args.scenario.now.few
    (subst (λ (vecs : List (Vec Placed)). IsRaced said.setup (plans_in said) (lists_of vecs) c.in_ok-closing.closing.image) (sym c.as_slice-lists.ensures.value) raced)

pub returns-clause-raced : goal.returns-clause-raced
returns-clause-raced g c =
    let said : Script = script c.args.scenario.now in
    let plans : plans_of c.as_slice.result.now ≡ plans_in said = ap plans_of c.as_slice.ensures.value ∙ c.in_ok-plans.ensures in
    let raced : IsRaced said.setup (plans_in said) (lists_of c.in_ok-closing.closing.answers.items) c.in_ok-closing.closing.image = rw plans at c.in_ok-closing.ensures.raced in
    record {
      race = record {
        lists = lists_of c.as_slice-lists.result.now;
        image = c.in_ok-closing.closing.image;
        verdict = c.in_ok-verdict.verdict;
        raced = subst (λ (vecs : List (Vec Placed)). IsRaced said.setup (plans_in said) (lists_of vecs) c.in_ok-closing.closing.image) (sym c.as_slice-lists.ensures.value) raced;
        weighed = c.in_ok-verdict.ensures;
      };
      is_verdict = refl;
      is_text = c.in_ok-text.ensures;
    }

pub weigh-requires-clause-few_lists : goal.weigh-requires-clause-few_lists
weigh-requires-clause-few_lists g c = λ two.
    let all = c.in_ok-closing.ensures.raced.all in
    let same = ap length c.as_slice-lists.ensures.value in
    let many = length-map c.in_ok-closing.closing.answers.items (λ (calls : Vec Placed). calls.items) in
    omega (arith, all, same, many)
