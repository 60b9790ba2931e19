-- The changes of waves, in numbers.
use Rattle.std.specs.Prelude.{ℕ, nat_lt, Bool, cond, Option, None, Some, option_and_then}
use Rattle.model.specs.safe_bit.{Move, is_of_write}
use Rattle.picture_layout.specs.declared.limits.WaveCount.{WaveCount}
use Rattle.picture_layout.specs.declared.limits.WaveCount.TheVariants.{Sixteen, All}
use Rattle.record_accesses.specs.declared.monitored.BitChange.{BitChange}

-- A row is shown.
abbrev pub is_within : WaveCount → ℕ → Bool
is_within Sixteen row = nat_lt row 16
is_within All row = nat_lt row 65536

-- The change of the wave in a row from one value to another, where a write of the bit was open before it or not, and is open after it or
-- not.
abbrev pub change_in_row : WaveCount → Bool → Bool → Bool → Bool → ℕ → Option BitChange
change_in_row count old value was_open is_open row = cond (is_within count row)
    (Some (record { row = row; old = old; value = value; was_open = was_open; is_open = is_open })) None

-- The change of a wave by a move, whose bit may have a row.
abbrev pub change_of : WaveCount → Option ℕ → Move → Bool → Bool → Bool → Bool → Option BitChange
change_of count row how old value was_open is_open =
    cond (is_of_write how) (option_and_then (change_in_row count old value was_open is_open) row) None
