use Rattle.std.proofs.Common.{◌≡◌, Some, None, sym, ap, subst, ◌∙◌}
use Rattle.std.specs.List.{list_any}
use Rattle.model.specs.store_image.{image_of}
use Rattle.model.specs.{newest}
use Rattle.laws.specs.{is_inside}
use Rattle.world.specs.{CoreState, InEachCorePast, Seat}
use Rattle.world.proofs.CoreCopies.{registers-are}
use Rattle.world.proofs.WorldNewest.{newest-none, newest-reported}
use Rattle.world.proofs.cores.Core.newest.Goals as goal

pub newest-requires-clause-memory : goal.newest-requires-clause-memory
newest-requires-clause-memory c = registers-are _ c.self.invariant

pub returns-then-is_occupied : goal.returns-then-is_occupied
returns-then-is_occupied c =
    let i = c.self.inside in
    let core : CoreState = record { setup = i.setup; registers = i.registers; seats = i.seats.items } in
    let is = sym (c.is_occupied.ensures ∙ ap (list_any (λ (seat : Seat). is_inside seat.process.doing)) c.deref.ensures.value) ∙ c.if-is_occupied.true in
    subst (λ (d : CoreState). InEachCorePast d (λ s past. None ≡ newest s past)) c.self.view_is (newest-none core is)

pub returns : goal.returns
returns c =
    let i = c.self.inside in
    let core : CoreState = record { setup = i.setup; registers = i.registers; seats = i.seats.items } in
    let is = sym (c.is_occupied.ensures ∙ ap (list_any (λ (seat : Seat). is_inside seat.process.doing)) c.deref.ensures.value) ∙ c.if-is_occupied.false in
    subst (λ (d : CoreState). InEachCorePast d (λ s past. Some (image_of c.newest.result) ≡ newest s past)) c.self.view_is (newest-reported core c.newest.result is c.newest.ensures)
