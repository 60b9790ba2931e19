use Rattle.std.proofs.Common.{◌≡◌, ℕ, ◌*◌, ◌<◌, false, length}
use Rattle.reader_copies.specs.{bit_of_words, cell_in}
use Rattle.registers.proofs.memory.seeing.closed_words.Given as goal

abbrev pub invariant-loop-place : goal.invariant-loop-place
invariant-loop-place l = (length l.words ≡ 27)
    × ((k : ℕ) → k < 64 * l.place → k < length l.lane → (cell_in l.lane k).writing ≡ false)
    × ((k : ℕ) → k < 64 * l.place → k < length l.lane → bit_of_words l.words k ≡ (cell_in l.lane k).value)
