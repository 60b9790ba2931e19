use Rattle.std.proofs.Common.{◌++◌, ◌∙◌, ap, Some, length, take, drop, refl, slice_set, subst, sym, arith}
use Rattle.model.specs.{Access, value_of}
use Rattle.model.specs.declared.events.Event.TheVariants.{Step}
use Rattle.process.specs.registers.{applied}
use Rattle.process.specs.declared.outcomes.EventOutcome.TheVariants.{Steps}
use Rattle.process.specs.{marks_on, stepped}
use Rattle.world.specs.{CoreReportsChanges, CoreState, seat_stepped}
use Rattle.world.proofs.CoreChanges.{step-changes}
use Rattle.world.proofs.CoreCode.{HasMade, made-code, not-refused, seated}
use Rattle.world.proofs.CoreKeeps.{IsNext, core_in, next-at}
use Rattle.world.proofs.CoreOverlaps.{reports-overlapped}
use Rattle.world.proofs.WorldOpen.{IsSeated}
use Rattle.world.proofs.WorldStages.{step-allowed}
use Rattle.world.proofs.cores.Core.make_step.Goals as goal
use Rattle.world.proofs.cores.Core.make_step.Goals.{After-index_mut-seat, After-note_waiting}

pub index_mut-seat-requires : goal.index_mut-seat-requires
index_mut-seat-requires c =
    let i = c.self.inside in
    let core : CoreState = record { setup = i.setup; registers = i.registers; seats = i.seats.items } in
    let inside = core_in core c.args.self.now (Step c.args.process c.args.flick) c.self.invariant c.self.view_is c.requires in
    omega (arith, inside, c.from.ensures, i.seats.ok.0)

abbrev core : After-index_mut-seat → CoreState
core c = let i = c.self.inside in record { setup = i.setup; registers = i.registers; seats = i.seats.items }

next : (c : After-index_mut-seat) → IsNext (core c) (Step c.args.process c.args.flick) c.index_mut-seat.result.now
next c = next-at (core c) c.args.self.now (Step c.args.process c.args.flick) c.from.result c.index_mut-seat.result.now c.self.invariant c.self.view_is c.requires refl c.from.ensures c.index_mut-seat.ensures.value

own : (c : After-index_mut-seat) → IsSeated (core c) c.args.process c.index_mut-seat.result.now
own c = seated (core c) c.args.process c.index_mut-seat.result.now c.self.invariant (next c).there

pub step-made-requires : goal.step-made-requires
step-made-requires c =
    let a = (goal.at.step-made-requires c).After-index_mut-seat in
    record { enabled = step-allowed a.args.process a.args.flick a.index_mut-seat.result.now.process (not-refused (core a) (Step a.args.process a.args.flick) a.index_mut-seat.result.now a.self.invariant (next a)); registers = (own a).registers }

pub note_waiting-requires : goal.note_waiting-requires
note_waiting-requires c = (own (goal.at.note_waiting-requires c).After-index_mut-seat).few

-- the core after the step
made : (c : After-note_waiting) → (let i = c.self.inside in let core : CoreState = record { setup = i.setup; registers = i.registers; seats = i.seats.items } in IsNext core (Step c.args.process c.args.flick) c.index_mut-seat.result.now) → (let i = c.self.inside in let then = slice_set i.seats.items c.from.result c.step-made.new.self in
    let new : CoreState = record { setup = i.setup; registers = c.step-made.new.registers; seats = take i.seats.len (c.note_waiting.new.seats ++ drop (length c.note_waiting.new.seats) then) } in
    HasMade c.args.self.now (Step c.args.process c.args.flick) (Steps c.step-made.new.reported) (Some c.step-made.result.access) new)
made c next =
    let i = c.self.inside in
    let core : CoreState = record { setup = i.setup; registers = i.registers; seats = i.seats.items } in
    let seat = c.index_mut-seat.result.now in
    let a = c.step-made.ensures.access in
    made-code core c.args.self.now (Step c.args.process c.args.flick) (Steps c.step-made.new.reported) (Some c.step-made.result.access) seat c.step-made.new.self c.step-made.new.registers c.deref_mut.result.now c.note_waiting.new.seats
    (drop (length c.note_waiting.new.seats) (slice_set i.seats.items c.from.result c.step-made.new.self)) c.is_waiting-waited.result c.is_waiting-waits.result c.from.result c.args.process i.seats.len
    c.self.invariant c.self.view_is next c.from.ensures refl (sym i.seats.ok.0)
    (c.step-made.ensures.seat ∙ ap (λ (a : Access). seat_stepped (stepped seat.process c.args.flick (value_of a.how)) seat) a)
    (c.step-made.ensures.registers ∙ ap (applied seat.process.setup.processes i.registers) a)
    (ap Some a) (c.step-made.ensures.marks ∙ ap (λ (a : Access). marks_on seat.process c.args.flick (value_of a.how)) a)
    c.is_waiting-waited.ensures c.is_waiting-waits.ensures c.deref_mut.ensures.value c.note_waiting.ensures

pub invariant_of-self : goal.invariant_of-self
invariant_of-self c = let a = goal.at.invariant_of-self c in (made a.After-note_waiting (next a.After-index_mut-seat)).keeps

pub returns-clause-step : goal.returns-clause-step
returns-clause-step c = let a = goal.at.returns-clause-step c in (made a.After-note_waiting (next a.After-index_mut-seat)).goes

pub returns-clause-overlapped : goal.returns-clause-overlapped
returns-clause-overlapped c =
    let b = (goal.at.returns-clause-overlapped c).After-index_mut-seat in
    let made = c.step-made.result in
    reports-overlapped (core b) c.args.self.now c.args.process c.args.flick made.access (Steps c.step-made.new.reported) made.overlapped c.index_mut-seat.result.now.process.setup c.self.view_is (own b).setup c.step-made.ensures.overlapped
    (returns-clause-step c).adds

pub returns-clause-changes : goal.returns-clause-changes
returns-clause-changes c =
    let a = (goal.at.returns-clause-changes c).After-index_mut-seat in
    let reported = c.step-made.new.reported in
    subst (λ (x : CoreState). CoreReportsChanges x reported) c.self.view_is
    (step-changes (core a) c.args.process c.args.flick (value_of c.step-made.result.access.how) c.index_mut-seat.result.now reported (next a).there c.step-made.ensures.marks c.step-made.ensures.changes)

pub returns-clause-others : goal.returns-clause-others
returns-clause-others c = let a = goal.at.returns-clause-others c in (made a.After-note_waiting (next a.After-index_mut-seat)).others
