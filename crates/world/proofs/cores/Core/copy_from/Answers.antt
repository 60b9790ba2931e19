use Rattle.std.proofs.Common.{ap, sym, subst, ◌∙◌}
use Rattle.process.specs.registers.{AreOf}
use Rattle.world.specs.{CoreState, setups_in}
use Rattle.world.proofs.CoreCopies.{registers-are, seats-alike}
use Rattle.world.proofs.cores.Core.copy_from.Goals as goal

pub copy_from-requires : goal.copy_from-requires
copy_from-requires c =
    let same = ap (λ (core : CoreState). core.setup) c.self.view_is ∙ c.requires.setup ∙ sym (ap (λ (core : CoreState). core.setup) c.other.view_is) in
    (c.other.inside.setup, subst (λ s. AreOf s c.self.inside.registers) same (registers-are _ c.self.invariant), registers-are _ c.other.invariant)

pub copy_seats-requires : goal.copy_seats-requires
copy_seats-requires c =
    ap setups_in c.deref_mut.ensures.value
    ∙ seats-alike _ _ c.self.invariant c.other.invariant (ap (λ (core : CoreState). core.setup) c.self.view_is ∙ c.requires.setup ∙ sym (ap (λ (core : CoreState). core.setup) c.other.view_is))
    ∙ sym (ap setups_in c.deref.ensures.value)
