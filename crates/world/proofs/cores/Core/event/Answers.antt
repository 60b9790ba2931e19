use Rattle.std.proofs.Common.{subst}
use Rattle.world.specs.{CoreRefuses}
use Rattle.world.proofs.cores.Core.event.Goals as goal

pub make_event-requires : goal.make_event-requires
make_event-requires c = subst (λ r. CoreRefuses c.args.self.now c.args.event.now r) c.in_default.is c.refusal.ensures.refused
