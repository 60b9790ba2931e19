use Rattle.std.proofs.Common.{◌≡◌, ◌<◌, ℕ, List, length, sym, ◌∙◌, subst, arith}
use Rattle.std.specs.List.{SwappedAt}
use Rattle.std.proofs.lemmas.List.Sorted.{IsPermutation-swap, IsPermutation-trans, length_permutation}
use Rattle.std.proofs.lemmas.Option.{slice_get_within}
use Rattle.board.specs.{PortState}
use Rattle.board.proofs.Orders.{all_placed, found_is, place_then, placed_more, some_place}
use Rattle.board.proofs.order.put_in_order.Goals as goal

pub unwrap-place-requires : goal.unwrap-place-requires
unwrap-place-requires c =
    let p = c.loop-process.process in
    some_place c.loop-process.ports.items p c.place_of.result c.place_of.ensures.none (place_then c.args.ports.now.items c.loop-process.ports.items p c.loop-process.invariant.moved (c.requires.each p c.loop-process-test.true))

pub swap-requires-clause-j_in_bounds : goal.swap-requires-clause-j_in_bounds
swap-requires-clause-j_in_bounds c =
    let ports : List PortState = c.loop-process.ports.items in
    let found = found_is ports c.loop-process.process c.place_of.result c.unwrap-place.result c.place_of.ensures.found c.unwrap-place.ensures in
    let inside : c.unwrap-place.result < length ports = slice_get_within ports c.unwrap-place.result found.0 found.1 in
    omega (arith, inside)

pub loop-process-preserved : goal.loop-process-preserved
loop-process-preserved c =
    let ports : List PortState = c.loop-process.ports.items in
    let later : List PortState = c.swap.new.self.items in
    let p : ℕ = c.loop-process.process in
    let place : ℕ = c.unwrap-place.result in
    let found = found_is ports p c.place_of.result place c.place_of.ensures.found c.unwrap-place.ensures in
    let swapped : SwappedAt ports later p place = subst (λ (i : ℕ). SwappedAt ports later i place) c.from.ensures c.swap.ensures.by_index in
    let moved = c.loop-process.invariant.moved in
    let long = length_permutation c.args.ports.now.items ports moved in
    let all = c.requires.all in
    let low = c.loop-process-test.true in
    let first : c.from.result < length ports = omega (arith, long, all, low, c.from.ensures) in
    let swaps = IsPermutation-swap ports later c.from.result place first (slice_get_within ports place found.0 found.1) c.swap.ensures.items in
    record {
      moved = IsPermutation-trans c.args.ports.now.items ports later moved swaps;
      placed = placed_more ports later p place swapped (length_permutation ports later swaps) found c.loop-process.invariant.placed;
    }

pub returns-clause-order : goal.returns-clause-order
returns-clause-order c =
    let all : c.loop-process.process ≡ c.args.processes = omega (arith, c.loop-process-test.false, c.loop-process.auto.process-end) in
    all_placed c.loop-process.process c.loop-process.ports.items c.loop-process.invariant.placed (length_permutation c.args.ports.now.items c.loop-process.ports.items c.loop-process.invariant.moved ∙ c.requires.all ∙ sym all)
