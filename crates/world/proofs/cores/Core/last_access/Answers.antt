use Rattle.std.proofs.Common.{sym, subst}
use Rattle.world.specs.{InEachCorePast, IsNewestAccess}
use Rattle.world.proofs.CoreLast.{last-beyond, last-there}
use Rattle.world.proofs.cores.Core.last_access.Goals as goal

pub returns : goal.returns
returns c =
    subst (λ last. InEachCorePast c.args.self.now (IsNewestAccess c.args.process last)) (sym c.last_access.ensures)
    (last-there c.args.self.now c.args.process c.in_ok-seat.field-0.now (sym c.in_ok-seat.ensures))

pub returns-in_err-seat : goal.returns-in_err-seat
returns-in_err-seat c =
    subst (λ last. InEachCorePast c.args.self.now (IsNewestAccess c.args.process last)) (sym c.from_residual.ensures)
    (last-beyond c.args.self.now c.args.process (sym c.in_err-seat.ensures))
