use Rattle.std.proofs.Common.{ap, sym, ◌∙◌}
use Rattle.world.specs.{CoreState, setups_in}
use Rattle.world.proofs.CoreCopies.{seats-alike}
use Rattle.world.proofs.cores.Core.is_alike.Goals as goal

pub are_same_seats-requires : goal.are_same_seats-requires
are_same_seats-requires c =
    ap setups_in c.deref.ensures.value
    ∙ seats-alike _ _ c.self.invariant c.other.invariant (ap (λ (core : CoreState). core.setup) c.self.view_is ∙ c.requires.setup ∙ sym (ap (λ (core : CoreState). core.setup) c.other.view_is))
    ∙ sym (ap setups_in c.deref-2.ensures.value)
