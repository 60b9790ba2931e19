use Rattle.std.proofs.Common.{subst}
use Rattle.world.specs.Shows.{Shows, WorldState}
use Rattle.world.proofs.world.World.shown.Goals as goal

pub returns : goal.returns
returns c = (c.self.invariant.events, subst (λ (w : WorldState). Shows w c.self.invariant.events) c.self.view_is c.self.invariant.shows)
