use Rattle.std.proofs.Common.{ℕ, ◌≡◌, ◌+◌, ◌++◌, List, length, take, ap, ◌∙◌, arith, length-append}
use Rattle.std.specs.Global.{Vec}
use Rattle.std.proofs.lemmas.List.{take_all}
use Rattle.call_check.specs.{Call, all_calls, calls_from}
use Rattle.model.specs.{Placed, lists_of}
use Rattle.call_check.proofs.AllCalls.{all_more, length-calls_from}
use Rattle.call_check.proofs.chains.nothing.Goals as goal

pub loop-list-preserved : goal.loop-list-preserved
loop-list-preserved c =
    let i : ℕ = c.loop-list.list-index in
    let list : List Placed = c.list-item.result.items in
    let before : List Call = all_calls (lists_of (take i c.args.lists.now)) in
    let grown = c.in_ok-more.ensures.size in
    let was = c.loop-list.invariant.size in
    let own : length c.deref.result.now ≡ length list = ap length c.deref.ensures.value in
    let all : length (all_calls (lists_of (take (i + 1) c.args.lists.now))) ≡ length (before ++ calls_from i 0 list) = ap length (all_more c.args.lists.now i c.list-item.result c.loop-list-test.true c.list-item.is) in
    let both : length (before ++ calls_from i 0 list) ≡ length before + length (calls_from i 0 list) = length-append before (calls_from i 0 list) in
    let size : length (calls_from i 0 list) ≡ length list = length-calls_from i 0 list in
    record {
      size = omega (arith, grown, was, own, all, both, size);
      nothing = c.in_ok-more.ensures.nothing c.loop-list.invariant.nothing;
    }

pub returns-clause-size : goal.returns-clause-size
returns-clause-size c = c.loop-list.invariant.size ∙ ap (λ (vecs : List (Vec Placed)). length (all_calls (lists_of vecs))) (take_all c.loop-list.list-index c.args.lists.now c.loop-list-test.false)
