use Rattle.std.proofs.Common.{◌≡◌, map, take}
use Rattle.reader_copies.specs.{without_unused_flags}
use Rattle.reader_copies.proofs.copies.Copies.is_alike.Given as goal

-- the words before the present one are equal, except for flags that no read uses
abbrev pub invariant-loop-place : goal.invariant-loop-place
invariant-loop-place l = map without_unused_flags (take l.place l.self-inside.flags.items) ≡ map without_unused_flags (take l.place l.other-inside.flags.items)
