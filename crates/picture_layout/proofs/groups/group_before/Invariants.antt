use Rattle.std.proofs.Common.{◌≡◌, ◌++◌, drop, take}
use Rattle.picture_layout.specs.{before_in, group_of}
use Rattle.picture_layout.proofs.groups.group_before.Given as goal

-- the processes before the present one are before the process
abbrev pub invariant-loop-other : goal.invariant-loop-other
invariant-loop-other l = (before_in l.process l.queue ≡ take l.other-index l.queue ++ before_in l.process (drop l.other-index l.queue)) × (l.group ≡ group_of (take l.other-index l.queue))
