use Rattle.std.proofs.Common.{◌≡◌, length, take}
use Rattle.model.specs.{bytes_of_bits}
use Rattle.board.specs.{bits_shown}
use Rattle.board.proofs.shown_image.bytes_of.Given as goal

abbrev pub invariant-loop-k : goal.invariant-loop-k
invariant-loop-k l = (take l.k l.bytes ≡ bytes_of_bits l.k (bits_shown l.setup l.words.words.items l.register.owner l.register.field)) × (length l.bytes ≡ 216)
