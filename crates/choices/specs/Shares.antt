-- Parts of a word.
use Rattle.std.specs.Prelude.{ℕ, ◌+◌, ◌-◌, ◌/◌, ◌%◌, ◌^◌}

-- the share of one of k parts of 2^64, rounded up, in 64 bits
abbrev pub share_of : ℕ → ℕ
share_of k = ((2 ^ 64 - 1) / k + 1) % 2 ^ 64
