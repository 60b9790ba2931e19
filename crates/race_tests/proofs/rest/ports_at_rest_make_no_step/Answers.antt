use Rattle.std.proofs.Common.{◌<◌, ℕ, refl, subst}
use Rattle.board.proofs.PortLists.{item_at}
use Rattle.race_tests.proofs.rest.ports_at_rest_make_no_step.Goals as goal

pub makes_no_step-requires : goal.makes_no_step-requires
makes_no_step-requires g c =
    let ports = c.in_ok-board.ports in
    let port = c.in-Some.port.now in
    let some_ = subst (λ (n : ℕ). 0 < n) ports.ok.0 (c.in-Some.ensures.variant.0 refl) in
    (c.in_ok-board.ensures.ports.each 0 port (item_at ports.items 0 port some_ c.in-Some.ensures.value)).0
