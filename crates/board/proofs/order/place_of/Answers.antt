use Rattle.std.proofs.Common.{◌≡◌, ◌<◌, List, length, get_or, subst, sym, arith}
use Rattle.std.proofs.lemmas.Option.{slice_get_within}
use Rattle.board.specs.{PortState}
use Rattle.board.proofs.Orders.{not_here}
use Rattle.board.proofs.order.place_of.Goals as goal

pub loop-place-preserved : goal.loop-place-preserved
loop-place-preserved c =
    let ports : List PortState = c.args.ports.now.items in
    let same : c.deref-port-items.result.now ≡ ports = c.deref-port-items.ensures.value in
    let inside : c.loop-place.place < length ports = subst (λ (xs : List PortState). c.loop-place.place < length xs) same c.loop-place-test.true in
    let is : c.port-item.result ≡ get_or ports c.loop-place.place c.port-item.result = subst (λ (xs : List PortState). c.port-item.result ≡ get_or xs c.loop-place.place c.port-item.result) same c.port-item.is in
    not_here ports c.args.process c.loop-place.place c.port-item.result c.process.result inside is c.process.ensures c.if-process.false c.loop-place.invariant

pub returns-clause-none : goal.returns-clause-none
returns-clause-none c = λ _ place found.
    let ports : List PortState = c.args.ports.now.items in
    let same : c.deref-port-items.result.now ≡ ports = c.deref-port-items.ensures.value in
    let inside : place < length c.deref-port-items.result.now = subst (λ (xs : List PortState). place < length xs) (sym same) (slice_get_within ports place found.0 found.1) in
    c.loop-place.invariant place (omega (arith, c.loop-place-test.false, inside)) found
