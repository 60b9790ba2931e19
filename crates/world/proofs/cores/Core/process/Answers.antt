use Rattle.std.proofs.Common.{◌≡◌, ◌<◌, length, subst, ap, arith}
use Rattle.process.specs.{process_after}
use Rattle.world.specs.{CoreState, InEachCorePast, with_history}
use Rattle.world.proofs.CoreLooks.{process-shown}
use Rattle.world.proofs.WorldOpen.{many-seats, seat-indexed}
use Rattle.world.proofs.cores.Core.process.Goals as goal

pub index-requires : goal.index-requires
index-requires c =
    let i = c.self.inside in
    let core : CoreState = record { setup = i.setup; registers = i.registers; seats = i.seats.items } in
    let k = c.self.invariant in
    omega (arith, c.from.ensures, many-seats (with_history core k.taken) k.events k.shows, ap (λ (d : CoreState). d.setup.processes) c.self.view_is, c.requires)

pub returns : goal.returns
returns c =
    let i = c.self.inside in
    let core : CoreState = record { setup = i.setup; registers = i.registers; seats = i.seats.items } in
    let k = c.self.invariant in
    let inside : c.from.result < length i.seats.items = omega (arith, c.from.ensures, many-seats (with_history core k.taken) k.events k.shows, ap (λ (d : CoreState). d.setup.processes) c.self.view_is, c.requires) in
    let there = seat-indexed i.seats.items c.from.result c.args.process c.index.result.now c.from.ensures inside c.index.ensures in
    subst (λ (d : CoreState). InEachCorePast d (λ s past. c.index.result.now.process ≡ process_after s past c.args.process)) c.self.view_is
    (process-shown core c.args.process c.index.result.now there)
