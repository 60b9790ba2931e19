use Rattle.std.proofs.Common.{◌≡◌, ◌+◌, ◌-◌, take, drop}
use Rattle.model.specs.safe_number.{number_of_bits}
use Rattle.board.specs.{bits_shown}
use Rattle.board.proofs.shown_image.number_shown.Given as goal

abbrev pub invariant-loop-done : goal.invariant-loop-done
invariant-loop-done l = l.number ≡ number_of_bits (take l.done (drop (l.from + (l.count - l.done)) (bits_shown l.setup l.words.words.items l.register.owner l.register.field)))
