use Rattle.std.proofs.Common.{◌≡◌, ◌<◌, ℕ, length, ap, ◌∙◌, arith}
use Rattle.std.proofs.lemmas.List.{length-set}
use Rattle.model.specs.{width}
use Rattle.registers.specs.{lane_number, lane_of}
use Rattle.reader_copies.specs.{cell_in}
use Rattle.registers.proofs.Held.{lane-found, values-kept, words-more}
use Rattle.registers.proofs.Openings.{register-lane}
use Rattle.registers.proofs.memory.BitMemory.words_held.Goals as goal

pub index-lane-requires : goal.index-lane-requires
index-lane-requires c =
    let there = register-lane c.args.setup.now c.args.self.now c.args.register c.requires.memory c.requires.owner in
    omega (arith, c.lane_number.ensures, there.0, ap length c.self.view_is)

pub word-requires : goal.word-requires
word-requires c =
    let memory = c.args.self.now in
    let there = register-lane c.args.setup.now memory c.args.register c.requires.memory c.requires.owner in
    let lane_is : c.index-lane.result.now ≡ lane_of memory (lane_number c.args.setup.now.processes c.args.register 0) =
    lane-found c.self.inside.lanes.items memory c.lane_number.result (lane_number c.args.setup.now.processes c.args.register 0) c.index-lane.result.now c.self.view_is c.lane_number.ensures c.index-lane.ensures there.0 in
    omega (arith, ap length lane_is, there.1, c.width_of.ensures.width, c.from-width.ensures, c.div_ceil-place-end.ensures, c.loop-place-test.true)

pub loop-place-preserved : goal.loop-place-preserved
loop-place-preserved c =
    let place : ℕ = c.loop-place.place in
    let inside : place < 27 = omega (arith, c.width_of.ensures.most, c.from-width.ensures, c.div_ceil-place-end.ensures, c.loop-place-test.true) in (
      length-set c.loop-place.words place c.word.result ∙ c.loop-place.invariant.0,
      words-more c.loop-place.words c.index-lane.result.now place c.word.result c.loop-place.invariant.0 inside c.loop-place.invariant.1 c.word.ensures,
    )

pub returns-clause-bits : goal.returns-clause-bits
returns-clause-bits c =
    let memory = c.args.self.now in
    let w : ℕ = width c.args.setup.now c.args.register.field in
    let there = register-lane c.args.setup.now memory c.args.register c.requires.memory c.requires.owner in
    let lane_is : c.index-lane.result.now ≡ lane_of memory (lane_number c.args.setup.now.processes c.args.register 0) =
    lane-found c.self.inside.lanes.items memory c.lane_number.result (lane_number c.args.setup.now.processes c.args.register 0) c.index-lane.result.now c.self.view_is c.lane_number.ensures c.index-lane.ensures there.0 in
    let whole : length c.index-lane.result.now ≡ w = ap length lane_is ∙ there.1 in
    values-kept c.loop-place.words (lane_of memory (lane_number c.args.setup.now.processes c.args.register 0)) w there.1
    (λ k below. c.loop-place.invariant.1 k (omega (arith, c.width_of.ensures.width, c.from-width.ensures, c.div_ceil-place-end.ensures, c.loop-place-test.false, below)) (omega (arith, whole, below)) ∙ ap (λ lane. (cell_in lane k).value) lane_is)
