use Rattle.std.proofs.Common.{arith, rules, ◌≡◌, ◌≤◌, ◌∙◌, ℕ, sym, Some, length, vec_len}
use Rattle.std.specs.Prelude.{slice_get}
use Rattle.board.specs.{PortState}
use Rattle.race.specs.{AllHaveMade, HasMade, plans_of}
use Rattle.race.proofs.Threads.{all_made, ends_among, if_both}
use Rattle.race.proofs.racing.run_in.Goals as goal

pub returns-then-all-clause-made : goal.returns-then-all-clause-made
returns-then-all-clause-made g c =
    let threads = c.start_all-threads.result in
    let plans = c.args.plans.now in
    let all : length threads.items ≡ length plans = (let is = c.if-all.true in let many = c.len.ensures in let ok = threads.ok.0 in search rules) in
    if_both c.join_all-made.result
    (λ v. vec_len v ≡ vec_len threads)
    (λ v. (k : ℕ) (thread : _) (port : PortState) → slice_get threads.items k ≡ Some thread → slice_get v.items k ≡ Some port → HasMade thread.promise.board.value thread.promise.number thread.promise.plan.value.items port)
    (λ v. AllHaveMade c.args.board.now (plans_of plans) v.items) c.join_all-made.ensures.all c.join_all-made.ensures.each
    (λ v many made. all_made c.args.board.now plans threads.items (λ (t : _). t.promise.board.value) (λ (t : _). t.promise.number) (λ (t : _). t.promise.plan.value.items) v.items (sym v.ok.0 ∙ many ∙ threads.ok.0) all c.start_all-threads.ensures.each made)

pub returns-then-all-clause-fault : goal.returns-then-all-clause-fault
returns-then-all-clause-fault g c =
    let threads = c.start_all-threads.result in
    let few : length threads.items ≤ length c.args.plans.now = (let most = c.start_all-threads.ensures.bounded in let ok = threads.ok.0 in omega (arith, most, ok)) in
    ends_among c.join_all-made.result c.args.board.now c.args.plans.now threads.items (λ (t : _). t.promise.board.value) (λ (t : _). t.promise.number) (λ (t : _). t.promise.plan.value.items) few c.start_all-threads.ensures.each c.join_all-made.ensures.fault
