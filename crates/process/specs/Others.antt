-- The other processes, in their order.
use Rattle.std.specs.Prelude.{ℕ, ◌+◌, ◌-◌, ◌==◌, nat_lt, not, cond, List, filter, Option, None, Some}
use Rattle.std.specs.List.{range_with_len}

-- the processes from k on, of n processes, without p
abbrev pub others_from : ℕ → ℕ → ℕ → List ℕ
others_from n p k = filter (λ j. not (j == p)) (range_with_len k (n - k))

-- the first of these
abbrev pub first_other : ℕ → ℕ → ℕ → Option ℕ
first_other n p k =
    let other = cond (k == p) (k + 1) k in
    cond (nat_lt other n) (Some other) None

-- the number of the others below j
abbrev pub others_below : ℕ → ℕ → ℕ
others_below p j = cond (nat_lt p j) (j - 1) j

-- one of the others by its number, counted from 0
abbrev pub other_numbered : ℕ → ℕ → ℕ
other_numbered p k = cond (nat_lt k p) k (k + 1)
