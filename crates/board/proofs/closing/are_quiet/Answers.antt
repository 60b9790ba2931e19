use Rattle.std.proofs.Common.{◌≡◌, ◌<◌, List, length, get_or, refl, sym, ap, subst, ◌∙◌, arith}
use Rattle.std.proofs.lemmas.Option.{slice_get_read, slice_get_within}
use Rattle.board.specs.{IsStill, PortState}
use Rattle.board.proofs.PortLists.{below_next}
use Rattle.board.proofs.closing.are_quiet.Goals as goal

pub returns-then-not-is_still : goal.returns-then-not-is_still
returns-then-not-is_still c = (
  λ no. absurd (cc no),
  λ quiet.
      let ports : List PortState = c.args.ports.now.items in
      let same = c.deref-port-items.ensures.value in
      let at = slice_get_read ports (length c.deref-port-items.result.now) c.loop-port.port-index c.port-item.result (ap length same) c.loop-port-test.true (subst (λ (xs : List PortState). c.port-item.result ≡ get_or xs c.loop-port.port-index c.port-item.result) same c.port-item.is) in
      sym c.if-not-is_still.true ∙ c.is_still.ensures.1 (quiet c.loop-port.port-index c.port-item.result at),
)

pub loop-port-preserved : goal.loop-port-preserved
loop-port-preserved c =
    let ports : List PortState = c.args.ports.now.items in
    let same = c.deref-port-items.ensures.value in
    let at = slice_get_read ports (length c.deref-port-items.result.now) c.loop-port.port-index c.port-item.result (ap length same) c.loop-port-test.true (subst (λ (xs : List PortState). c.port-item.result ≡ get_or xs c.loop-port.port-index c.port-item.result) same c.port-item.is) in
    below_next (λ (port : PortState). IsStill port.setup port.view.own) ports c.loop-port.port-index c.port-item.result at (c.is_still.ensures.0 c.if-not-is_still.false) c.loop-port.invariant

pub returns : goal.returns
returns c = (
  λ _ k port at.
      let inside : k < length c.deref-port-items.result.now = subst (λ (xs : List PortState). k < length xs) (sym c.deref-port-items.ensures.value) (slice_get_within c.args.ports.now.items k port at) in
      c.loop-port.invariant k port (omega (arith, c.loop-port-test.false, inside)) at,
  λ _. refl,
)
