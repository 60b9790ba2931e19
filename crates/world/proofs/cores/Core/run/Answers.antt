use Rattle.std.proofs.Common.{slice_set, arith}
use Rattle.world.specs.{CoreState, seat_with}
use Rattle.world.proofs.CoreCode.{IsLeft, is-remaining, remaining-there, run-code, seated}
use Rattle.world.proofs.CoreWalks.{HasRun}
use Rattle.world.proofs.cores.Core.run.Goals as goal
use Rattle.world.proofs.cores.Core.run.Goals.{After-index_mut, After-run}

pub index_mut-requires : goal.index_mut-requires
index_mut-requires c =
    let i = c.self.inside in
    let core : CoreState = record { setup = i.setup; registers = i.registers; seats = i.seats.items } in
    let inside = remaining-there core c.args.self.now c.args.process c.args.steps c.self.view_is c.requires.nonzero c.requires.within in
    omega (arith, inside, c.from.ensures, i.seats.ok.0)

abbrev core : After-index_mut → CoreState
core c = let i = c.self.inside in record { setup = i.setup; registers = i.registers; seats = i.seats.items }

-- its seat exists, and accesses are left
remaining : (c : After-index_mut) → IsLeft (core c) c.args.process c.args.steps c.index_mut.result.now
remaining c = is-remaining (core c) c.args.self.now c.args.process c.from.result c.args.steps c.index_mut.result.now c.self.view_is c.requires.nonzero c.requires.within c.from.ensures c.index_mut.ensures.value

pub run-requires : goal.run-requires
run-requires c =
    let a = (goal.at.run-requires c).After-index_mut in
    record { nonzero = c.requires.nonzero; remaining = (remaining a).within; memory = (seated (core a) a.args.process a.index_mut.result.now a.self.invariant (remaining a).there).registers }

-- the core after the steps
ran : (c : After-run) → (let i = c.self.inside in let core : CoreState = record { setup = i.setup; registers = i.registers; seats = i.seats.items } in IsLeft core c.args.process c.args.steps c.index_mut.result.now) →
    HasRun c.args.self.now c.args.flicks.now c.args.process c.args.steps c.run.result.newest c.run.result.overlapped
    (let i = c.self.inside in let then : CoreState = record { setup = i.setup; registers = c.run.new.memory; seats = slice_set i.seats.items c.from.result (seat_with c.run.new.self c.index_mut.result.now) } in then) c.run.new.flicks
ran c remaining =
    let i = c.self.inside in
    let core : CoreState = record { setup = i.setup; registers = i.registers; seats = i.seats.items } in
    run-code core c.args.self.now c.args.process c.from.result c.index_mut.result.now c.run.new.self c.run.new.memory c.args.flicks.now c.run.new.flicks c.args.steps c.run.result.newest c.run.result.overlapped
    c.self.invariant c.self.view_is remaining c.requires.nonzero c.from.ensures c.run.ensures.steps c.run.ensures.newest c.run.ensures.overlapped

pub invariant_of-self : goal.invariant_of-self
invariant_of-self c = let a = goal.at.invariant_of-self c in (ran a.After-run (remaining a.After-index_mut)).keeps

pub returns : goal.returns
returns c =
    let a = goal.at.returns c in
    let r = ran a.After-run (remaining a.After-index_mut) in
    record { runs = r.runs; fewer = r.fewer; others = r.others }
