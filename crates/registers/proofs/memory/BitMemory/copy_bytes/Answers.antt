use Rattle.std.proofs.Common.{◌≡◌, None, Some, cond, length, ap, sym, ◌∙◌}
use Rattle.registers.specs.{copy_bytes, lane_number, lane_of, register_bytes, values_in}
use Rattle.registers.proofs.Held.{lane-found}
use Rattle.registers.proofs.Openings.{reader-lane}
use Rattle.registers.proofs.memory.BitMemory.copy_bytes.Goals as goal
use Rattle.registers.proofs.memory.BitMemory.copy_bytes.Goals.{After-index-lane}

-- the lane that is read
lane_is : (c : After-index-lane) → c.index-lane.result.now ≡ lane_of c.args.self.now (lane_number c.args.setup.now.processes c.args.register c.args.reader)
lane_is c =
    let there = reader-lane c.args.setup.now c.args.self.now c.args.register c.args.reader c.requires.memory c.requires.owner c.requires.reader in
    lane-found c.self.inside.lanes.items c.args.self.now c.lane_number.result (lane_number c.args.setup.now.processes c.args.register c.args.reader) c.index-lane.result.now c.self.view_is c.lane_number.ensures c.index-lane.ensures there.0

pub closed_words-requires-clause-wide : goal.closed_words-requires-clause-wide
closed_words-requires-clause-wide c =
    let there = reader-lane c.args.setup.now c.args.self.now c.args.register c.args.reader c.requires.memory c.requires.owner c.requires.reader in
    ap length (lane_is (goal.at.closed_words-requires-clause-wide c).After-index-lane) ∙ there.1 ∙ sym (c.from-width.ensures ∙ c.width_of.ensures.width)

pub returns-in_err-words : goal.returns-in_err-words
returns-in_err-words c =
    c.from_residual.ensures
    ∙ ap (λ b. cond b None (Some (register_bytes (values_in c.index-lane.result.now)))) (sym c.in_err-words.ensures.written)
    ∙ ap copy_bytes (lane_is (goal.at.returns-in_err-words c).After-index-lane)

pub returns : goal.returns
returns c =
    ap Some (c.register_bytes.ensures ∙ ap register_bytes c.in_ok-words.ensures.bits)
    ∙ ap (λ b. cond b None (Some (register_bytes (values_in c.index-lane.result.now)))) (sym c.in_ok-words.ensures.closed)
    ∙ ap copy_bytes (lane_is (goal.at.returns c).After-index-lane)
