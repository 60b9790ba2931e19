-- Reads that a write overlapped: their text, and the position of an event between columns.
use Rattle.std.specs.Prelude.{ℕ, ◌+◌, ◌-◌, ◌*◌, ◌/◌, min, Bool, ◌==◌, cond, nat_le, List, [], ◌++◌, codes}
use Rattle.std.specs.Fmt.{decimal}
use Rattle.std.specs.Int.{from_bool}
use Rattle.model.specs.{field_word}
use Rattle.picture_layout.specs.declared.reads.OverlappedRead.{OverlappedRead}

-- a bit as a digit
abbrev pub digit_of : Bool → List ℕ
digit_of value = decimal (from_bool value)

-- the value of a read, in words
abbrev pub saw_text : OverlappedRead → List ℕ
saw_text read = codes "saw " ++ digit_of read.value

-- the bit of a read, and the number of reads that are not shown
abbrev pub bit_text : OverlappedRead → List ℕ
bit_text read =
    field_word read.field ++ codes "[" ++ decimal read.owner ++ codes "]" ++ cond read.is_wide (codes "." ++ decimal read.bit) [] ++ cond (read.more == 0) [] (codes " +" ++ decimal read.more)

-- the reader and the bit of a read, in words
abbrev pub read_text : OverlappedRead → List ℕ
read_text read = codes "process " ++ decimal read.reader ++ codes " read bit " ++ decimal read.bit ++ codes " of " ++ field_word read.field ++ codes "[" ++ decimal read.owner ++ codes "]"

-- the title of a read
abbrev pub title_text : OverlappedRead → List ℕ
title_text read = read_text read ++ codes " from event " ++ decimal read.begin ++ codes " to " ++ decimal read.end ++ codes " while it was written: " ++ digit_of read.value

-- the position of an event between two positions, each with the number of its event
abbrev pub between : ℕ → ℕ × ℕ → ℕ × ℕ → ℕ
between event left right = cond (nat_le event left.1) left.0 (min (left.0 + (right.0 - left.0) * (event - left.1) / (right.1 - left.1)) 65535)
