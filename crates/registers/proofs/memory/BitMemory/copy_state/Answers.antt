use Rattle.std.proofs.Common.{◌≡◌, length, ap, ◌∙◌, arith}
use Rattle.model.specs.{Access, copy}
use Rattle.registers.specs.{BitCopy, lane_of, lane_of_access}
use Rattle.reader_copies.specs.{copy_state, cell_in}
use Rattle.registers.proofs.Held.{lane-found}
use Rattle.registers.proofs.Openings.{access-lane}
use Rattle.registers.proofs.memory.BitMemory.copy_state.Goals as goal

-- an access to the copy
abbrev at : BitCopy → Access
at c = copy c.register.owner c.register.field c.reader c.bit

pub index-requires : goal.index-requires
index-requires c =
    let there = access-lane c.args.setup.now c.args.self.now (at c.args.copy) c.requires.memory c.requires.owner c.requires.reader c.requires.bit in
    omega (arith, c.lane_number-lane.ensures, there.0, ap length c.self.view_is)

pub seen-requires : goal.seen-requires
seen-requires c =
    let memory = c.args.self.now in
    let lane = lane_of_access c.args.setup.now.processes (at c.args.copy) in
    let there = access-lane c.args.setup.now memory (at c.args.copy) c.requires.memory c.requires.owner c.requires.reader c.requires.bit in
    let is : c.index.result.now ≡ lane_of memory lane = lane-found c.self.inside.lanes.items memory c.lane_number-lane.result lane c.index.result.now c.self.view_is c.lane_number-lane.ensures c.index.ensures there.0 in
    omega (arith, ap length is, there.1, c.from.ensures)

pub returns : goal.returns
returns c =
    let memory = c.args.self.now in
    let lane = lane_of_access c.args.setup.now.processes (at c.args.copy) in
    let there = access-lane c.args.setup.now memory (at c.args.copy) c.requires.memory c.requires.owner c.requires.reader c.requires.bit in
    let is : c.index.result.now ≡ lane_of memory lane = lane-found c.self.inside.lanes.items memory c.lane_number-lane.result lane c.index.result.now c.self.view_is c.lane_number-lane.ensures c.index.ensures there.0 in
    c.seen.ensures ∙ (λ i. copy_state (cell_in (is i) (c.from.ensures i)))
