use Rattle.std.proofs.Common.{◌≡◌, ◌+◌, ℕ, suc, List, ◌∷◌, Some, sym, ap, ◌∙◌, subst, arith}
use Rattle.std.specs.Prelude.{slice_get}
use Rattle.board.specs.{AreQuiet, IsOf, IsStill, Leaves, PortState, AreInRecord, done_calls}
use Rattle.plain_store.specs.{Setup}
use Rattle.board.specs.Calls.{Calls}
use Rattle.board.proofs.PortLists.{first_and_rest, item_at, rest_of}
use Rattle.board.proofs.board.Board.close_in_order.Goals as goal

pub into_parts-first-requires : goal.into_parts-first-requires
into_parts-first-requires c = record { still = c.requires.quiet 0 c.remove.result (item_at c.args.ports.items 0 c.remove.result c.requires.nonempty c.remove.ensures.value) }

pub shut-requires-clause-board : goal.shut-requires-clause-board
shut-requires-clause-board c =
    let some = c.requires.nonempty in
    let at = item_at c.args.ports.items 0 c.remove.result some c.remove.ensures.value in
    c.into_parts-first.ensures.table ∙ (c.requires.ports.each 0 c.remove.result at).0.0

pub shut-requires-clause-live : goal.shut-requires-clause-live
shut-requires-clause-live c = c.into_parts-first.ensures.seat.live

pub shut-requires-clause-first : goal.shut-requires-clause-first
shut-requires-clause-first c =
    let at = item_at c.args.ports.items 0 c.remove.result c.requires.nonempty c.remove.ensures.value in
    c.into_parts-first.ensures.seat.process ∙ (c.requires.ports.each 0 c.remove.result at).1

pub shut-requires-clause-still : goal.shut-requires-clause-still
shut-requires-clause-still c =
    let some = c.requires.nonempty in
    let at = item_at c.args.ports.items 0 c.remove.result some c.remove.ensures.value in
    subst (λ s. IsStill s c.into_parts-first.result.0.me.0.own) (c.requires.ports.each 0 c.remove.result at).0.1 c.into_parts-first.ensures.seat.still

pub shut-requires-clause-others : goal.shut-requires-clause-others
shut-requires-clause-others c =
    let b = c.args.self in
    λ k port e. let r = subst (λ (xs : List PortState). (k : ℕ) (port : PortState) → slice_get xs k ≡ Some port → IsOf b port × (port.view.own.process ≡ suc k)) (sym c.remove.ensures.items)
    (rest_of (λ k port. IsOf b port × (port.view.own.process ≡ k)) c.args.ports.items c.requires.ports.each) k port e in let z : suc k ≡ 1 + k = omega arith in (r.0.0, r.0.1, r.1 ∙ z)

pub shut-requires-clause-quiet : goal.shut-requires-clause-quiet
shut-requires-clause-quiet c = subst AreQuiet (sym c.remove.ensures.items) (rest_of (λ _ (port : PortState). IsStill port.setup port.view.own) c.args.ports.items c.requires.quiet)

pub shut-requires-clause-calls : goal.shut-requires-clause-calls
shut-requires-clause-calls c =
    let some = c.requires.nonempty in
    let each = c.requires.ports.each 0 c.remove.result (item_at c.args.ports.items 0 c.remove.result some c.remove.ensures.value) in
    let calls = c.into_parts-first.result.1.items in
    subst (λ (p : ℕ). AreInRecord c.args.self.setup p calls) each.1 (subst (λ (s : Setup). AreInRecord s c.remove.result.view.own.process calls) each.0.1 c.into_parts-first.ensures.fits)

pub returns-clause-leaves : goal.returns-clause-leaves
returns-clause-leaves c =
    let s = c.args.self.setup in
    let image = c.shut.result.image in
    let first = c.remove.result in
    let seat = c.into_parts-first.ensures.seat in
    let at = item_at c.args.ports.items 0 first c.requires.nonempty c.remove.ensures.value in
    let left : Leaves s first.view.own.calls first.view.seen image =
    subst (λ (calls : Calls). Leaves s calls first.view.seen image) seat.calls (subst (λ seen. Leaves s c.into_parts-first.result.0.me.0.own.calls seen image) seat.seen c.shut.ensures.leaves) in
    λ port here. let both : Some first ≡ Some port = sym at ∙ here in let same : first ≡ port = cc both in subst (λ (p : PortState). Leaves s p.view.own.calls p.view.seen image) same left

pub returns-clause-answers : goal.returns-clause-answers
returns-clause-answers c =
    c.shut.ensures.answers ∙ (λ i. c.into_parts-first.ensures.calls i ∷ done_calls (c.remove.ensures.items i))
    ∙ sym (ap done_calls (first_and_rest c.args.ports.items c.remove.result c.requires.nonempty c.remove.ensures.value))
