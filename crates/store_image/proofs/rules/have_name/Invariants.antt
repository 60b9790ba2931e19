use Rattle.std.proofs.Common.{◌≡◌}
use Rattle.store_image.proofs.SlotSearch.{rest_in}
use Rattle.store_image.specs.{have_name, rows}
use Rattle.store_image.proofs.rules.have_name.Given as goal

-- one of the remaining slots has the name exactly if one of all slots has it
abbrev pub invariant-loop-place : goal.invariant-loop-place
invariant-loop-place l = have_name (rest_in l.slots l.bytes l.place) l.name ≡ have_name (rows 23 l.slots l.bytes) l.name
