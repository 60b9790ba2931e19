use Rattle.std.proofs.Common.{◌≡◌, ◌*◌, ◌<◌, ℕ, vec_len, vec_capacity}
use Rattle.std.specs.Prelude.{slice_index}
use Rattle.board.specs.{opening_word, row_bits}
use Rattle.board.proofs.opening.opening_words.Given as goal

abbrev pub invariant-loop-word : goal.invariant-loop-word
invariant-loop-word l = record {
  len : vec_len l.words ≡ l.word;
  own : l.own ≡ l.setup.processes * row_bits l.setup;
  room : vec_capacity l.words ≡ l.count;
  each : (k : ℕ) → k < l.word → slice_index l.words.items k ≡ opening_word l.setup k;
}
