use Rattle.std.proofs.Common.{◌≡◌, map}
use Rattle.std.specs.List.{range_with_len}
use Rattle.model.specs.{width}
use Rattle.model.specs.declared.access.Field.TheVariants.{Image0}
use Rattle.registers.specs.{opening_lane}
use Rattle.reader_copies.specs.{bits_of_words}
use Rattle.registers.proofs.memory.BitMemory.new.Given as goal

abbrev pub invariant-loop-lane : goal.invariant-loop-lane
invariant-loop-lane l = l.lanes.items ≡ map (opening_lane l.setup (bits_of_words l.image (width l.setup Image0))) (range_with_len 0 l.lane)
