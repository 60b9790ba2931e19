-- How many lines a printed scenario has before its first one.
use Rattle.std.proofs.Common.{◌≡◌, ℕ, ◌+◌, ◌++◌, length, map, arith}
use Rattle.std.proofs.lemmas.List.{length-append, length-map}
use Rattle.model.specs.plain_store.{Setup}
use Rattle.scenario.specs.{open_words, setup_words}
use Rattle.draw.specs.{first_line}

pub number_of_first : (s : Setup) (n : ℕ) → n ≡ length s.opening + 5 → n + 1 ≡ first_line s
number_of_first s n is =
    let all : length (setup_words s ++ map open_words s.opening) ≡ 5 + length (map open_words s.opening) = length-append (setup_words s) (map open_words s.opening) in
    omega (arith, is, all, length-map s.opening open_words)
