use Rattle.std.proofs.Common.{◌≡◌, get_or, map}
use Rattle.std.specs.List.{range_with_len}
use Rattle.reader_copies.specs.{open_flags}
use Rattle.reader_copies.proofs.copies.Copies.from_words.Given as goal

abbrev pub invariant-loop-place : goal.invariant-loop-place
invariant-loop-place l = l.flags.items ≡ map (λ p. open_flags (get_or l.words p 0)) (range_with_len 0 l.place)
