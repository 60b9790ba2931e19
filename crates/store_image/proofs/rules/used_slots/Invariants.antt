use Rattle.std.proofs.Common.{◌≡◌, ◌+◌}
use Rattle.store_image.proofs.SlotSearch.{used_from}
use Rattle.store_image.specs.{used_in}
use Rattle.store_image.proofs.rules.used_slots.Given as goal

-- the used slots before this one, and those in the rest
abbrev pub invariant-loop-place : goal.invariant-loop-place
invariant-loop-place l = l.place + used_from l.slots l.bytes l.place ≡ used_in l.slots l.bytes
