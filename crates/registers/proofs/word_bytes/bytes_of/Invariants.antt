use Rattle.std.proofs.Common.{◌≡◌, ℕ, ◌/◌, ◌%◌, ◌<◌, get_or, length}
use Rattle.registers.specs.{byte_of_word}
use Rattle.registers.proofs.word_bytes.bytes_of.Given as goal

abbrev pub invariant-loop-place : goal.invariant-loop-place
invariant-loop-place l = (length l.bytes ≡ 216) × ((k : ℕ) → k < l.place → get_or l.bytes k 0 ≡ byte_of_word (get_or l.words (k / 8) 0) (k % 8))
