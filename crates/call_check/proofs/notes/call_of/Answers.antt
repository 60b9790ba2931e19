use Rattle.std.proofs.Common.{◌≡◌, ◌<◌, ℕ, List, Some, get_or, length, ap, sym, subst, ◌∙◌, arith}
use Rattle.std.specs.Global.{Vec}
use Rattle.std.proofs.lemmas.Option.{get_or_from_slice_get, slice_get_within}
use Rattle.std.specs.List.{slice_get}
use Rattle.model.specs.{Placed}
use Rattle.call_check.specs.{Call, IsOf, PositionLink}
use Rattle.call_check.proofs.notes.call_of.Goals as goal

-- the list of the link is that of the call
list_is : (vecs : List (Vec Placed)) (link : PositionLink) (call : Call) (list : Vec Placed) → list ≡ get_or vecs link.port list → (of : IsOf vecs call link) → list ≡ of.list
list_is vecs link call list is of = is ∙ get_or_from_slice_get vecs link.port of.list list (ap (slice_get vecs) of.port ∙ of.list_there)

pub bounds-lists-link : goal.bounds-lists-link
bounds-lists-link c = let of = c.requires.1 in subst (λ (port : ℕ). port < length c.args.lists.now) (sym of.port) (slice_get_within c.args.lists.now c.requires.0.port of.list of.list_there)

pub index-requires : goal.index-requires
index-requires c =
    let call = c.requires.0 in
    let of = c.requires.1 in
    let list = c.index-lists-link.result in
    let same = list_is c.args.lists.now c.args.link call list c.index-lists-link.is of in
    let within : call.index < length of.list.items = slice_get_within of.list.items call.index call.placed of.there in
    let long : length list.items ≡ length of.list.items = ap (λ (v : Vec Placed). length v.items) same in
    let index = of.index in
    let all = list.ok.0 in
    omega (arith, within, long, index, all)

pub returns : goal.returns
returns c = λ call of.
    let list = c.index-lists-link.result in
    let same = list_is c.args.lists.now c.args.link call list c.index-lists-link.is of in
    let there : slice_get list.items c.args.link.index ≡ Some call.placed = (λ i. slice_get (same i).items (of.index i)) ∙ of.there in
    let placed = c.index.ensures ∙ get_or_from_slice_get list.items c.args.link.index call.placed c.index.result.now there in
    λ i. record { placed = placed i; port = of.port i; index = of.index i }
