use Rattle.std.proofs.Common.{◌≡◌, length, map, take}
use Rattle.picture_layout.proofs.state.State.in_doorways.Given as goal
use Rattle.model.specs.{is_in_doorway}

-- for each process before the present one, whether it is in its doorway
abbrev pub invariant-loop-place : goal.invariant-loop-place
invariant-loop-place l = (take l.place l.are ≡ map is_in_doorway (take l.place l.self.stages)) × (length l.are ≡ 16)
