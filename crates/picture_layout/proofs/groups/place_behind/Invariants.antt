use Rattle.std.proofs.Common.{◌≡◌, drop}
use Rattle.picture_layout.specs.{behind_in}
use Rattle.picture_layout.proofs.groups.place_behind.Given as goal

-- the process is at the present index or after it
abbrev pub invariant-loop-place : goal.invariant-loop-place
invariant-loop-place l = behind_in l.process l.queue ≡ behind_in l.process (drop l.place l.queue)
