-- Packed looks: each in four bits, two in a byte.
use Rattle.std.specs.Prelude.{ℕ, ◌/◌, ◌%◌, ◌==◌, List, map, slice_index_or, cond}
use Rattle.std.specs.List.{range_with_len}
use Rattle.safe_monitor.specs.declared.monitored_bit.ReadEnd.{ReadEnd}
use Rattle.safe_monitor.specs.declared.monitored_bit.ReadEnd.TheVariants.{Free, Writing, Bound}
use Rattle.safe_monitor.specs.declared.monitored_bit.MonitoredBit.{MonitoredBit}

-- the end of a read, by the two high bits of four
abbrev pub ending_from : ℕ → ReadEnd
ending_from code = cond (code == 0) Free (cond (code == 1) Writing (Bound (code == 3)))

-- the look of four bits
abbrev pub monitored_from : ℕ → MonitoredBit
monitored_from code = record { begun = code % 2 == 1; written = code / 2 % 2 == 1; ending = ending_from (code / 4) }

-- the low four bits of a byte are at its even position, the high four at its odd position
abbrev pub four_bits : ℕ → ℕ → ℕ
four_bits byte k = cond (k % 2 == 0) (byte % 16) (byte / 16)

-- look k of bytes
abbrev pub monitored_in : List ℕ → ℕ → MonitoredBit
monitored_in bytes k = monitored_from (four_bits (slice_index_or bytes (k / 2) 0) k)

-- the first n looks
abbrev pub monitored_bits_of : List ℕ → ℕ → List MonitoredBit
monitored_bits_of bytes n = map (monitored_in bytes) (range_with_len 0 n)
