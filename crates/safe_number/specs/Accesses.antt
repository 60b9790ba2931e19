-- The accesses of a whole number, in their order, with the bits ascending. A write of a bit takes the copies ascending, with begin and end of each. A read of a bit has begin and end of the reader's own copy.
use Rattle.std.specs.Prelude.{ℕ, zero, suc, ◌+◌, ◌-◌, Bool, List, [], ◌∷◌, ◌++◌, map, length, if◌then◌else◌}
use Rattle.std.specs.List.{range_with_len}
use Rattle.reader_copies.specs.safe_bit.declared.Move.TheVariants.{BeginRead, EndRead}
use Rattle.reader_copies.specs.{Made, bit_writes, rest_of_write}
use Rattle.safe_number.specs.Bytes.{bit_in}
use Rattle.safe_number.specs.Runs.{NumberWrite, NumberRead, bit_write, next_of_write, number_write_after, next_of_read, number_read_after}

-- an access to bit k
abbrev pub at_bit : ℕ → Made → ℕ × Made
at_bit k made = (k, made)

-- the accesses of a write of these bits, from bit k on, to n copies of each
abbrev pub writes_from : ℕ → ℕ → List Bool → List (ℕ × Made)
writes_from n k [] = []
writes_from n k (b ∷ bits) = map (at_bit k) (bit_writes n b) ++ writes_from n (k + 1) bits

-- the accesses of a write of a number with these bits, to n copies of each
abbrev pub number_writes : ℕ → List Bool → List (ℕ × Made)
number_writes n bits = writes_from n 0 bits

-- the accesses of a reader's read that gives these bits, from bit k on
abbrev pub reads_from : ℕ → ℕ → List Bool → List (ℕ × Made)
reads_from reader k [] = []
reads_from reader k (b ∷ bits) =
    at_bit k (record { reader = reader; how = BeginRead }) ∷ at_bit k (record { reader = reader; how = EndRead b }) ∷ reads_from reader (k + 1) bits

-- the accesses of a reader's read of a number that gives these bits
abbrev pub number_reads : ℕ → List Bool → List (ℕ × Made)
number_reads reader bits = reads_from reader 0 bits

-- the accesses that are left of a write, of which this number of bits is still to be written
abbrev pub rest_of_bits : ℕ → List ℕ → NumberWrite → ℕ → List (ℕ × Made)
rest_of_bits n value w zero = []
rest_of_bits n value w (suc m) = map (at_bit w.bit) (rest_of_write n (bit_write value w)) ++ writes_from n (w.bit + 1) (map (bit_in value) (range_with_len (w.bit + 1) m))

-- the accesses that are left of a write
abbrev pub rest_of_number_write : ℕ → List ℕ → NumberWrite → List (ℕ × Made)
rest_of_number_write n value w = rest_of_bits n value w (w.width - w.bit)

-- the next k accesses of a write
abbrev pub reported_by_write : ℕ → ℕ → List ℕ → NumberWrite → List (ℕ × Made)
reported_by_write zero n value w = []
reported_by_write (suc k) n value w = next_of_write value w ∷ reported_by_write k n value (number_write_after n value w)

-- the write after them
abbrev pub write_after_steps : ℕ → ℕ → List ℕ → NumberWrite → NumberWrite
write_after_steps zero n value w = w
write_after_steps (suc k) n value w = write_after_steps k n value (number_write_after n value w)

-- the accesses that a read has made
abbrev pub made_by_read : ℕ → NumberRead → List (ℕ × Made)
made_by_read reader r = number_reads reader r.bits ++ (if r.begun then at_bit (length r.bits) (record { reader = reader; how = BeginRead }) ∷ [] else [])

-- the next accesses of a read, one for each value that is handed in
abbrev pub reported_by_read : ℕ → NumberRead → List Bool → List (ℕ × Made)
reported_by_read reader r [] = []
reported_by_read reader r (v ∷ values) = next_of_read reader r v ∷ reported_by_read reader (number_read_after r v) values

-- the read after them
abbrev pub read_after_steps : NumberRead → List Bool → NumberRead
read_after_steps r [] = r
read_after_steps r (v ∷ values) = read_after_steps (number_read_after r v) values
