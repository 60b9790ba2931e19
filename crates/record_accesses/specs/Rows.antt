-- The bits that were written, and the rows of waves: the bits that entries from one number on give a wave.
use Rattle.std.specs.Prelude.{ℕ, nat_le, Bool, ◌&&◌, List, [], ◌∷◌, ◌++◌, cond, length, Option, None, Some, is_some}
use Rattle.std.specs.List.{position}
use Rattle.model.specs.safe_bit.{gives_value, is_of_write}
use Rattle.model.specs.{Access, Past, same_bit}

-- The row of the bit of an access, where each row is an access to its own bit.
abbrev pub row_in : List Access → Access → Option ℕ
row_in rows a = position (λ b. same_bit b a) rows

-- Rows, and after them that of an access, if its bit has none.
abbrev pub with_last : Option ℕ → Access → List Access → List Access
with_last (Some row) a rows = rows
with_last None a rows = rows ++ a ∷ []

-- Rows after an access: its bit has one if the access writes.
abbrev pub rows_with : Access → List Access → List Access
rows_with a rows = cond (gives_value a.how) (with_last (row_in rows a) a rows) rows

-- Rows after an entry, which may have no access.
abbrev pub rows_after : Option Access → List Access → List Access
rows_after None rows = rows
rows_after (Some a) rows = rows_with a rows

-- The bits that were written in a past, in the order of their first writes.
abbrev pub written_bits : Past → List Access
written_bits [] = []
written_bits (e ∷ past) = rows_after e.access (written_bits past)

-- Rows of waves, and after them that of an access, if the access counts and its bit has none.
abbrev pub waves_with : Bool → Access → List Access → List Access
waves_with counts a waves = cond counts (with_last (row_in waves a) a waves) waves

-- The access of an entry with this number counts from this number on: it begins, ends or settles a write, and its bit was written.
abbrev pub counts_from : ℕ → ℕ → Access → List Access → Bool
counts_from from number a written = is_of_write a.how && (nat_le from number && is_some (row_in written a))

-- Rows of waves after an entry with this number, which may have no access, where these bits were written.
abbrev pub waves_after : ℕ → ℕ → List Access → Option Access → List Access → List Access
waves_after from number written None waves = waves
waves_after from number written (Some a) waves = waves_with (counts_from from number a written) a waves

-- The rows of waves from an entry on: the bits of which an entry from this number on begins, ends or settles a write, in the order of
-- those entries. A bit that was never given a value has none.
abbrev pub waves_since : ℕ → Past → List Access
waves_since from [] = []
waves_since from (e ∷ past) = waves_after from (length past) (written_bits (e ∷ past)) e.access (waves_since from past)
