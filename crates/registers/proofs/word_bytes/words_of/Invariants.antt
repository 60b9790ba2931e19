use Rattle.std.proofs.Common.{◌≡◌, ℕ, ◌*◌, ◌<◌, length}
use Rattle.safe_number.specs.{bit_in}
use Rattle.reader_copies.specs.{bit_of_words}
use Rattle.registers.proofs.word_bytes.words_of.Given as goal

abbrev pub invariant-loop-place : goal.invariant-loop-place
invariant-loop-place l = (length l.words ≡ 27) × ((k : ℕ) → k < 64 * l.place → bit_of_words l.words k ≡ bit_in l.bytes k)
