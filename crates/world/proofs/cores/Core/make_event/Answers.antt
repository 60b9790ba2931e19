use Rattle.std.proofs.Common.{◌++◌, ◌∙◌, length, take, drop, slice_set, sym, ap, arith}
use Rattle.model.specs.{process_of}
use Rattle.world.specs.{CoreState, waiting_in}
use Rattle.world.proofs.CoreChanges.{event-changes}
use Rattle.world.proofs.CoreCode.{HasMade, made-code, not-refused, seat-made, seated}
use Rattle.world.proofs.CoreKeeps.{IsNext, core_in, next-at}
use Rattle.world.proofs.WorldOpen.{IsSeated}
use Rattle.world.proofs.cores.Core.make_event.Goals as goal
use Rattle.world.proofs.cores.Core.make_event.Goals.{After-index_mut-seat, After-note_waiting}

pub index_mut-seat-requires : goal.index_mut-seat-requires
index_mut-seat-requires c =
    let i = c.self.inside in
    let core : CoreState = record { setup = i.setup; registers = i.registers; seats = i.seats.items } in
    let inside = core_in core c.args.self.now c.args.event.now c.self.invariant c.self.view_is c.requires in
    omega (arith, inside, c.from.ensures, c.process-process.ensures, i.seats.ok.0)

abbrev core : After-index_mut-seat → CoreState
core c = let i = c.self.inside in record { setup = i.setup; registers = i.registers; seats = i.seats.items }

next : (c : After-index_mut-seat) → IsNext (core c) c.args.event.now c.index_mut-seat.result.now
next c = next-at (core c) c.args.self.now c.args.event.now c.from.result c.index_mut-seat.result.now c.self.invariant c.self.view_is c.requires c.command_is_sound.ensures (c.from.ensures ∙ c.process-process.ensures) c.index_mut-seat.ensures.value

own : (c : After-index_mut-seat) → IsSeated (core c) (process_of c.args.event.now) c.index_mut-seat.result.now
own c = seated (core c) (process_of c.args.event.now) c.index_mut-seat.result.now c.self.invariant (next c).there

pub make-access-requires : goal.make-access-requires
make-access-requires c =
    let a = (goal.at.make-access-requires c).After-index_mut-seat in
    record { allowed = not-refused (core a) a.args.event.now a.index_mut-seat.result.now a.self.invariant (next a); registers = (own a).registers }

pub note_waiting-requires : goal.note_waiting-requires
note_waiting-requires c = let few = (own (goal.at.note_waiting-requires c).After-index_mut-seat).few in omega (arith, few, c.process-process.ensures)

-- the core after the event
made : (c : After-note_waiting) → (let i = c.self.inside in let core : CoreState = record { setup = i.setup; registers = i.registers; seats = i.seats.items } in IsNext core c.args.event.now c.index_mut-seat.result.now) → (let i = c.self.inside in let then = slice_set i.seats.items c.from.result c.make-access.new.self in
    let new : CoreState = record { setup = i.setup; registers = c.make-access.new.registers; seats = take i.seats.len (c.note_waiting.new.seats ++ drop (length c.note_waiting.new.seats) then) } in
    HasMade c.args.self.now c.args.event.now c.make-access.new.effect c.make-access.result new)
made c next =
    let i = c.self.inside in
    let core : CoreState = record { setup = i.setup; registers = i.registers; seats = i.seats.items } in
    let seat = c.index_mut-seat.result.now in
    made-code core c.args.self.now c.args.event.now c.make-access.new.effect c.make-access.result seat c.make-access.new.self c.make-access.new.registers c.deref_mut.result.now c.note_waiting.new.seats
    (drop (length c.note_waiting.new.seats) (slice_set i.seats.items c.from.result c.make-access.new.self)) c.is_waiting-waited.result c.is_waiting-waits.result c.from.result c.process-process.result i.seats.len
    c.self.invariant c.self.view_is next c.from.ensures c.process-process.ensures (sym i.seats.ok.0)
    (c.make-access.ensures.seat ∙ seat-made core seat c.args.event.now c.waiting-before.result (λ call. c.waiting-before.ensures call ∙ ap waiting_in c.deref.ensures.value))
    c.make-access.ensures.registers c.make-access.ensures.access c.make-access.ensures.marks
    c.is_waiting-waited.ensures c.is_waiting-waits.ensures c.deref_mut.ensures.value c.note_waiting.ensures

pub invariant_of-self : goal.invariant_of-self
invariant_of-self c = let a = goal.at.invariant_of-self c in (made a.After-note_waiting (next a.After-index_mut-seat)).keeps

pub returns-clause-event : goal.returns-clause-event
returns-clause-event c = let a = goal.at.returns-clause-event c in (made a.After-note_waiting (next a.After-index_mut-seat)).goes

pub returns-clause-changes : goal.returns-clause-changes
returns-clause-changes c =
    let a = (goal.at.returns-clause-changes c).After-index_mut-seat in
    event-changes (core a) c.args.self.now c.args.event.now c.index_mut-seat.result.now c.make-access.new.effect c.self.view_is (next a).there c.make-access.ensures.marks c.make-access.ensures.changes
