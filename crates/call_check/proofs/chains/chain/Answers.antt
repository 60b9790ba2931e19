use Rattle.std.proofs.Common.{ℕ, List, [], ◌++◌, length, take, sym, subst}
use Rattle.std.specs.Global.{Vec}
use Rattle.std.proofs.lemmas.List.{take_all}
use Rattle.call_check.specs.{AreChains, Call, PositionLink, all_calls, calls_from}
use Rattle.model.specs.{Placed, lists_of}
use Rattle.call_check.proofs.AllCalls.{all_more}
use Rattle.call_check.proofs.Linking.{chains_none}
use Rattle.call_check.proofs.chains.chain.Goals as goal

pub loop-port-init : goal.loop-port-init
loop-port-init c = subst (λ (links : List PositionLink). AreChains [] (length (all_calls (lists_of c.args.lists.now))) c.in_ok-heads.heads.items links) (sym c.new-links.ensures.items) (chains_none (length (all_calls (lists_of c.args.lists.now))) c.in_ok-heads.heads.items c.in_ok-heads.ensures.size c.in_ok-heads.ensures.nothing)

pub loop-port-preserved : goal.loop-port-preserved
loop-port-preserved c =
    let p : ℕ = c.loop-port.port in
    let n : ℕ = length (all_calls (lists_of c.args.lists.now)) in
    let list : List Placed = c.index-lists-port.result.items in
    let before : List Call = all_calls (lists_of (take p c.args.lists.now)) in
    subst (λ (l : List Call). AreChains l n c.chain_list.new.heads.items c.chain_list.new.links.items) (sym (all_more c.args.lists.now p c.index-lists-port.result c.loop-port-test.true c.index-lists-port.is))
    (subst (λ (l : List Placed). AreChains (before ++ calls_from p 0 l) n c.chain_list.new.heads.items c.chain_list.new.links.items) c.deref.ensures.value (c.in_ok-chain_list.ensures before n c.loop-port.invariant))

pub returns : goal.returns
returns c =
    let n : ℕ = length (all_calls (lists_of c.args.lists.now)) in
    subst (λ (vecs : List (Vec Placed)). AreChains (all_calls (lists_of vecs)) n c.loop-port.heads.items c.loop-port.links.items) (take_all c.loop-port.port c.args.lists.now c.loop-port-test.false) c.loop-port.invariant
