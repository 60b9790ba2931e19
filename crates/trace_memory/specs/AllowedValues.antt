-- The values that a read may give, as they are kept.
use Rattle.std.specs.Prelude.{ℕ, ◌==◌, ◌^◌, Bool, true, List, [], ◌∷◌, ◌++◌, filter, length, nat_le, cond, option_to_list, Option}
use Rattle.std.specs.List.{range_with_len}
use Rattle.trace.specs.{TraceMemory, TraceRegister}
use Rattle.trace.specs.declared.setups.TraceMemory.TheVariants.{Safe, Regular, Atomic}
use Rattle.trace_memory.specs.declared.allowed.Allowed.{Allowed}
use Rattle.trace_memory.specs.declared.allowed.Allowed.TheVariants.{Any, Only, Among}
use Rattle.trace_memory.specs.Cells.{stored}
use Rattle.trace_memory.specs.Reads.{CellRead, overlapping}
use Rattle.trace_memory.specs.Sets.{has_value, set_of, with_value}

-- what a read may give, if this value was stored when it began, and writes with these values overlap it
abbrev pub allowed_of : TraceMemory → ℕ → List ℕ → Allowed
allowed_of Safe before [] = Only before
allowed_of Safe before (v ∷ values) = Any
allowed_of Regular before values = Among (set_of (values ++ before ∷ []))
allowed_of Atomic before values = Only before

-- what a read may give
abbrev pub allowed_by : TraceMemory → TraceRegister → CellRead → Allowed
allowed_by memory reg r = allowed_of memory (stored reg r.before) (overlapping r)

-- one value more, if it is a set
abbrev pub also : ℕ → Allowed → Allowed
also v (Among set) = Among (with_value v set)
also v k = k

-- what it may give, if one write more overlaps it
abbrev pub overlapped : TraceMemory → ℕ → Allowed → Allowed
overlapped Safe v k = Any
overlapped Regular v k = also v k
overlapped Atomic v k = k

-- a value is allowed
abbrev pub allows : Allowed → ℕ → Bool
allows Any v = true
allows (Only x) v = x == v
allows (Among set) v = has_value set v

-- the values of a width that are allowed, ascending, if not any value is
abbrev pub values_in : ℕ → Allowed → List ℕ
values_in width Any = []
values_in width (Only x) = x ∷ []
values_in width (Among set) = filter (has_value set) (range_with_len 0 (2 ^ width))

-- at most two values
abbrev pub if_few : List ℕ → List ℕ
if_few values = cond (nat_le (length values) 2) values []

-- the values that are there
abbrev pub present : List (Option ℕ) → List ℕ
present [] = []
present (o ∷ options) = option_to_list o ++ present options
