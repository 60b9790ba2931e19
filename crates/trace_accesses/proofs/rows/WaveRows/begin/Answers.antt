use Rattle.std.proofs.Common.{◌≡◌, ◌<◌, None, ap, arith, get_or, length, subst, sym, ◌∙◌}
use Rattle.trace_memory.specs.{place_of}
use Rattle.trace_accesses.specs.{RowsState, row_at}
use Rattle.trace_accesses.proofs.RowFacts.{are-more, count-few}
use Rattle.trace_accesses.proofs.rows.WaveRows.begin.Goals as goal

pub overflow_add-self : goal.overflow_add-self
overflow_add-self c =
    let r : RowsState = record { places = c.self.inside.places.items; count = c.self.inside.count } in
    let few = count-few r c.self.invariant in
    omega (arith, few)

pub invariant_of-self : goal.invariant_of-self
invariant_of-self c =
    let r : RowsState = record { places = c.self.inside.places.items; count = c.self.inside.count } in
    let place = c.place_of-place.result in
    let within : place < length r.places = subst (λ n. n < length r.places) (sym c.place_of-place.ensures) (subst (λ (r : RowsState). place_of c.args.cell < length r.places) (sym c.self.view_is) c.requires) in
    let none : row_at r place ≡ None = ap (get_or r.places place) (sym c.in-None.is) ∙ sym c.index.ensures ∙ c.in-None.is in
    are-more r place c.self.invariant within none
