-- Copies that behave alike: they differ only in flags that no read uses.
use Rattle.std.specs.Prelude.{◌≡◌, ◌&&◌, List, map}
use Rattle.std.specs.Int.RustNames.{bit_and}
use Rattle.safe_bit.specs.Cell.{Cell}
use Rattle.reader_copies.specs.declared.copies.Flags.{Flags}

-- The cell with its flag `touched` cleared unless a read is open. Only the end of an open read uses this flag, and the begin of a read sets it anew.
abbrev pub without_unused_flag : Cell → Cell
without_unused_flag c = record { value = c.value; writing = c.writing; reading = c.reading; touched = c.reading && c.touched }

-- The copies are equal, except for flags `touched` of copies without an open read. So they behave alike.
abbrev pub AreAlike : List Cell → List Cell → Type 0
AreAlike copies others = map without_unused_flag copies ≡ map without_unused_flag others

-- sixty-four copies with these flags cleared
abbrev pub without_unused_flags : Flags → Flags
without_unused_flags flags = record { value = flags.value; writing = flags.writing; reading = flags.reading; touched = bit_and flags.reading flags.touched }
