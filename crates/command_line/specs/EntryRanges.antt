-- The entries that the values of `--from` and `--to` mean.
use Rattle.std.specs.Prelude.{ℕ, ◌-◌, ◌^◌, nat_le, if◌then◌else◌}
use Rattle.std.specs.Prelude.{Option, None, Some, Result, Ok, Err}
use Rattle.std.specs.Option.{unwrap_or}
use Rattle.clap.specs.Words.{Text}
use Rattle.files.specs.{FaultKind, ◌>>=◌}
use Rattle.scenario.specs.{number_at}
use Rattle.command_line.specs.declared.entry_ranges.EntryRange.{EntryRange}
use Rattle.command_line.specs.declared.entry_ranges.RangeFault.{RangeFault}
use Rattle.command_line.specs.declared.entry_ranges.RangeFault.TheVariants.{NotNumber, Reversed}

-- the number that a value means, if it is a number
abbrev pub or_not_number : Result ℕ FaultKind → Result (Option ℕ) RangeFault
or_not_number (Ok n) = Ok (Some n)
or_not_number (Err kind) = Err NotNumber

-- the number that an option has: a number below 2^64, or none without the option
abbrev pub bound_of : Option Text → Result (Option ℕ) RangeFault
bound_of None = Ok None
bound_of (Some word) = or_not_number (number_at (2 ^ 64 - 1) word)

-- the entries from a first one on, to a last one if there is one, which is not before the first
abbrev pub range_of : ℕ → Option ℕ → Result EntryRange RangeFault
range_of first None = Ok (record { first = first; last = None })
range_of first (Some last) =
    if nat_le first last then Ok (record { first = first; last = Some last }) else Err Reversed

-- The entries that the values of `--from` and `--to` mean. Without `--from` they begin with
-- entry 0, and without `--to` they have no end.
unfoldable pub range_asked : Option Text → Option Text → Result EntryRange RangeFault
range_asked from to = do
  first ← bound_of from
  last ← bound_of to
  range_of (unwrap_or first 0) last
