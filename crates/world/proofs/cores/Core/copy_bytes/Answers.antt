use Rattle.std.proofs.Common.{◌≡◌, ap, subst, arith, ◌<◌, ◌∙◌}
use Rattle.process.specs.registers.{copy_bytes}
use Rattle.world.specs.{CoreState, InEachCorePast, bytes_held}
use Rattle.world.proofs.CoreCopies.{registers-are}
use Rattle.world.proofs.CoreLooks.{cells-shown}
use Rattle.world.proofs.cores.Core.copy_bytes.Goals as goal

pub copy_bytes-requires-clause-good : goal.copy_bytes-requires-clause-good
copy_bytes-requires-clause-good c = c.self.invariant.shows.good

pub copy_bytes-requires-clause-memory : goal.copy_bytes-requires-clause-memory
copy_bytes-requires-clause-memory c = registers-are _ c.self.invariant

pub returns : goal.returns
returns c =
    let i = c.self.inside in
    let core : CoreState = record { setup = i.setup; registers = i.registers; seats = i.seats.items } in
    let owner : c.args.register.owner < core.setup.processes = omega (arith, c.requires.owner, ap (λ (d : CoreState). d.setup.processes) c.self.view_is) in
    let reader : c.args.reader < core.setup.processes = omega (arith, c.requires.reader, ap (λ (d : CoreState). d.setup.processes) c.self.view_is) in
    subst (λ (d : CoreState). InEachCorePast d (λ s past. c.copy_bytes.result ≡ bytes_held s past c.args.register c.args.reader)) c.self.view_is
    (λ taken events shows. c.copy_bytes.ensures ∙ ap copy_bytes (cells-shown core c.args.register c.args.reader owner reader taken events shows))
