use Rattle.std.proofs.Common.{◌≡◌, ℕ, ◌*◌, ◌<◌, ◌≤◌, false, get_or, length}
use Rattle.reader_copies.specs.{bit_of_words, bits_of_words}
use Rattle.registers.proofs.word_bytes.register_bytes.Given as goal

abbrev pub invariant-loop-place : goal.invariant-loop-place
invariant-loop-place l = (length l.kept ≡ 27) × ((k : ℕ) → k < 64 * l.place → bit_of_words l.kept k ≡ get_or (bits_of_words l.words l.bits) k false) × ((k : ℕ) → 64 * l.place ≤ k → bit_of_words l.kept k ≡ false)
