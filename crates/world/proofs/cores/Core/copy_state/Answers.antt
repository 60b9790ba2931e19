use Rattle.std.proofs.Common.{◌≡◌, sym, ap, subst, ◌∙◌}
use Rattle.laws.specs.{IsThere}
use Rattle.model.specs.{Access, copy}
use Rattle.process.specs.registers.reader_copies.{copy_state}
use Rattle.world.specs.{CoreState, InEachCorePast, copy_held}
use Rattle.world.proofs.CoreCopies.{registers-are}
use Rattle.world.proofs.CoreLooks.{cell-shown}
use Rattle.world.proofs.cores.Core.copy_state.Goals as goal

pub copy_state-requires-clause-good : goal.copy_state-requires-clause-good
copy_state-requires-clause-good c = c.self.invariant.shows.good

pub copy_state-requires-clause-memory : goal.copy_state-requires-clause-memory
copy_state-requires-clause-memory c = registers-are _ c.self.invariant

pub returns : goal.returns
returns c =
    let i = c.self.inside in
    let of = c.args.copy in
    let a : Access = copy of.register.owner of.register.field of.reader of.bit in
    let core : CoreState = record { setup = i.setup; registers = i.registers; seats = i.seats.items } in
    let there : IsThere core.setup a = subst (λ (d : CoreState). IsThere d.setup a) (sym c.self.view_is) (record { owner = c.requires.owner; reader = c.requires.reader; bit = c.requires.bit }) in
    subst (λ (d : CoreState). InEachCorePast d (λ s past. c.copy_state.result ≡ copy_state (copy_held s past of))) c.self.view_is
    (λ taken events shows. c.copy_state.ensures ∙ ap copy_state (cell-shown core a there taken events shows))
