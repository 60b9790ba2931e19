use Rattle.std.proofs.Common.{ℕ, ◌≤◌, List, [], ◌∷◌, ◌++◌, length, take, refl, sym, ap, subst, ◌∙◌, arith, append-nil, append_assoc}
use Rattle.std.proofs.lemmas.List.{take_all}
use Rattle.call_check.specs.{AreChains, Call, calls_from}
use Rattle.model.specs.{Placed}
use Rattle.call_check.proofs.AllCalls.{calls_more}
use Rattle.call_check.proofs.chains.chain_list.Goals as goal

pub loop-index-init : goal.loop-index-init
loop-index-init c = λ calls n chains. subst (λ (l : List Call). AreChains l n c.args.heads.now.items c.args.links.now.items) (sym (append-nil calls)) chains

pub loop-index-preserved : goal.loop-index-preserved
loop-index-preserved c = λ calls n chains.
    let i : ℕ = c.loop-index.index in
    let call : Call = record { placed = c.index-list-index.result; port = c.args.port; index = i } in
    let before : List Call = calls_from c.args.port 0 (take i c.args.list.now) in
    subst (λ (l : List Call). AreChains l n c.put.new.heads.items c.put.new.links.items)
    (append_assoc calls before (call ∷ []) ∙ ap (λ (l : List Call). calls ++ l) (sym (calls_more c.args.port i c.args.list.now c.index-list-index.result c.loop-index-test.true c.index-list-index.is)))
    (c.in_ok-put.ensures (calls ++ before) n call refl refl refl (c.loop-index.invariant calls n chains))

pub returns : goal.returns
returns c = λ calls n chains.
    let over : length c.args.list.now ≤ c.loop-index.index = (let test = c.loop-index-test.false in let most = c.loop-index.auto.index-end in omega (arith, test, most)) in
    subst (λ (l : List Placed). AreChains (calls ++ calls_from c.args.port 0 l) n c.loop-index.heads.items c.loop-index.links.items) (take_all c.loop-index.index c.args.list.now over) (c.loop-index.invariant calls n chains)
