use Rattle.std.proofs.Common.{◌≡◌, ◌++◌, drop, take}
use Rattle.picture_layout.specs.{lined_up}
use Rattle.picture_layout.proofs.state.State.place_in.Given as goal

-- the processes before the present one are before the process
abbrev pub invariant-loop-place : goal.invariant-loop-place
invariant-loop-place l = lined_up l.self l.process l.queue ≡ take l.place l.queue ++ lined_up l.self l.process (drop l.place l.queue)
