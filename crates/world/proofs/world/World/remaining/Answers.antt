use Rattle.std.proofs.Common.{◌≡◌, subst}
use Rattle.world.specs.{WorldState, remaining_in}
use Rattle.world.proofs.world.World.remaining.Goals as goal

pub returns : goal.returns
returns c = subst (λ (w : WorldState). c.remaining.result ≡ remaining_in w.seats c.args.process) c.self.view_is c.remaining.ensures
