-- The laws of registers.
use Rattle.std.specs.Prelude.{◌≡◌, ◌≢◌, ℕ, ◌*◌, ◌^◌, ◌<◌, ◌==◌, List, ◌∷◌, ◌++◌, [], Bool, false, Some, None, length}
use Rattle.std.specs.Int.{bit_at}
use Rattle.reader_copies.specs.safe_bit.Cell.{Cell}
use Rattle.reader_copies.specs.{CanMake, HasCell, IsRow, IsWritten, Settling, cell_at, cut_values, next_read, next_settle, next_write, row_after, settle_after, settled_at, with_cell, with_value}
use Rattle.safe_number.specs.Accesses.{number_writes, number_reads, rest_of_number_write, reported_by_write, write_after_steps, made_by_read, reported_by_read, read_after_steps}
use Rattle.safe_number.specs.Bytes.{bit_in, bits_in, little_endian, AreBytes, IsBytesOf, number_of_bits, bits_of_number}
use Rattle.safe_number.specs.Intervals.{Moment, WriteState, write_interval, IsWriteInterval, SettleState, settle_interval, IsSettleInterval, first_given, ReadState, read_interval, IsUndisturbedInterval}
use Rattle.safe_number.specs.Runs.{NumberWrite, NumberRead, bit_write, bit_read, next_of_write, number_write_after, next_of_read, number_read_after, new_write, new_read, torn_bit, preset_number}
use Rattle.safe_number.specs.Written.{IsWriting, IsSettling, IsReading, IsUndisturbed, first_bits, loaded}

-- a write of a register begins over written bits
abbrev pub WriteBegins : Type 0
WriteBegins = (row : List (List Cell)) (old : ℕ → Bool) (value : List ℕ) (width : ℕ) → IsRow row width → IsWritten row old → IsWriting row old value (new_write width)

-- the next access of a write may be made
abbrev pub WriteMayGoOn : Type 0
WriteMayGoOn = (row : List (List Cell)) (old : ℕ → Bool) (value : List ℕ) (w : NumberWrite) → IsWriting row old value w → w.bit < w.width → CanMake row w.bit (next_write (bit_write value w))

-- the next access of a write brings it one further
abbrev pub WriteGoesOn : Type 0
WriteGoesOn = (row : List (List Cell)) (old : ℕ → Bool) (value : List ℕ) (w : NumberWrite) → IsWriting row old value w → w.bit < w.width → IsWriting (row_after row w.bit (next_write (bit_write value w))) old value (number_write_after (length row) value w)

-- once a write is done, all copies of all bits have the value's bits
abbrev pub WriteEnds : Type 0
WriteEnds = (row : List (List Cell)) (old : ℕ → Bool) (value : List ℕ) (w : NumberWrite) → IsWriting row old value w → w.bit ≡ w.width → IsWritten row (bit_in value)

-- if a write is cut and no bit is torn, the bits below have the value's bits and the others are the old ones
abbrev pub WriteIsCut : Type 0
WriteIsCut = (row : List (List Cell)) (old : ℕ → Bool) (value : List ℕ) (w : NumberWrite) → IsWriting row old value w → torn_bit w ≡ None → IsWritten row (cut_values old (bit_in value) w.bit)

-- over any interval in which others only read, a write comes as far as its cursor states
abbrev pub WriteOverInterval : Type 0
WriteOverInterval = (old : ℕ → Bool) (value : List ℕ) (s : WriteState) (moments : List Moment) → IsWriting s.row old value s.run → IsWriteInterval value s moments → IsWriting (write_interval value s moments).row old value (write_interval value s moments).run

-- if a write is cut and a bit is torn, the settling of this bit begins
abbrev pub SettlingBegins : Type 0
SettlingBegins = (row : List (List Cell)) (old : ℕ → Bool) (value : List ℕ) (w : NumberWrite) (b : ℕ) (torn : Settling) → IsWriting row old value w → torn_bit w ≡ Some (b, torn) → IsSettling row (cut_values old (bit_in value) b) b torn

-- a settling begins with the present bit, at its first copy and with no value handed in
abbrev pub SettlingIsNew : Type 0
SettlingIsNew = (value : List ℕ) (w : NumberWrite) (b : ℕ) (torn : Settling) → torn_bit w ≡ Some (b, torn) → (w.bit ≡ b) × (torn.value ≡ None) × (torn.reader ≡ 0)

-- the torn bit is a bit of the register
abbrev pub TornBitIsInside : Type 0
TornBitIsInside = (row : List (List Cell)) (old : ℕ → Bool) (value : List ℕ) (w : NumberWrite) (b : ℕ) (torn : Settling) → IsWriting row old value w → torn_bit w ≡ Some (b, torn) → b < w.width

-- the next access of a settling may be made
abbrev pub SettlingMayGoOn : Type 0
SettlingMayGoOn = (row : List (List Cell)) (others : ℕ → Bool) (b : ℕ) (torn : Settling) (v : Bool) → HasCell row b torn.reader → IsSettling row others b torn → CanMake row b (next_settle torn (settled_at torn v))

-- the next access of a settling brings it one further
abbrev pub SettlingGoesOn : Type 0
SettlingGoesOn = (row : List (List Cell)) (others : ℕ → Bool) (b : ℕ) (torn : Settling) (v : Bool) → HasCell row b torn.reader → IsSettling row others b torn → IsSettling (row_after row b (next_settle torn (settled_at torn v))) others b (settle_after torn (settled_at torn v))

-- the value that was handed in first stays
abbrev pub SettledValueStays : Type 0
SettledValueStays = (torn : Settling) (v : Bool) → settled_at torn v ≡ v → settled_at (settle_after torn (settled_at torn v)) v ≡ v

-- past the last copy the torn bit has the settled value, and the other bits have their own
abbrev pub SettlingEnds : Type 0
SettlingEnds = (row : List (List Cell)) (others : ℕ → Bool) (b : ℕ) (torn : Settling) (v : Bool) → IsSettling row others b torn → settled_at torn v ≡ v → torn.reader ≡ length row → IsWritten row (with_value others b v)

-- a write that was cut is settled over any interval in which others only read. Then the bits below the torn bit are the value's, the torn bit is the bit that was handed in first, and the bits above are the old ones
abbrev pub CutWriteIsSettled : Type 0
CutWriteIsSettled = (row : List (List Cell)) (old : ℕ → Bool) (value : List ℕ) (w : NumberWrite) (b : ℕ) (torn : Settling) (moments : List Moment) (v : Bool) → IsWriting row old value w → torn_bit w ≡ Some (b, torn)
    → let s : SettleState = settle_interval b (record { row = row; torn = torn }) moments in
    IsSettleInterval b (record { row = row; torn = torn }) moments → first_given moments ≡ Some v → s.torn.reader ≡ length s.row → IsWritten s.row (with_value (cut_values old (bit_in value) b) b v)

-- a whole write makes exactly its 2 * n * width accesses, and is then done
abbrev pub WholeWrite : Type 0
WholeWrite = (n : ℕ) (value : List ℕ) (width : ℕ) → 0 < n → (reported_by_write (2 * n * width) n value (new_write width) ≡ number_writes n (bits_in value width)) × ((write_after_steps (2 * n * width) n value (new_write width)).bit ≡ (write_after_steps (2 * n * width) n value (new_write width)).width)

-- a whole write with n copies has 2 * n accesses for each bit
abbrev pub WriteCount : Type 0
WriteCount = (n : ℕ) (bits : List Bool) → length (number_writes n bits) ≡ 2 * n * length bits

-- the next access of a write is the first of those that are left
abbrev pub NextOfWrite : Type 0
NextOfWrite = (n : ℕ) (value : List ℕ) (w : NumberWrite) → w.bit < w.width → (bit_write value w).made < 2 * n → rest_of_number_write n value w ≡ next_of_write value w ∷ rest_of_number_write n value (number_write_after n value w)

-- at first all accesses of a write are left
abbrev pub RestOfNewWrite : Type 0
RestOfNewWrite = (n : ℕ) (value : List ℕ) (width : ℕ) → rest_of_number_write n value (new_write width) ≡ number_writes n (bits_in value width)

-- at the end no access of a write is left
abbrev pub RestOfDoneWrite : Type 0
RestOfDoneWrite = (n : ℕ) (value : List ℕ) (w : NumberWrite) → w.bit ≡ w.width → rest_of_number_write n value w ≡ []

-- a whole read makes exactly its 2 * width accesses, gives as many bits as the register has, and is then done
abbrev pub WholeRead : Type 0
WholeRead = (reader width room : ℕ) (values : List Bool) → length values ≡ 2 * width → let r : NumberRead = read_after_steps (new_read width room) values in (reported_by_read reader (new_read width room) values ≡ number_reads reader r.bits) × (length r.bits ≡ width) × (r.begun ≡ false)

-- the next access of a read comes after those that it has made
abbrev pub NextOfRead : Type 0
NextOfRead = (reader : ℕ) (r : NumberRead) (v : Bool) → made_by_read reader (number_read_after r v) ≡ made_by_read reader r ++ next_of_read reader r v ∷ []

-- a read begins where the reader has no read open
abbrev pub ReadBegins : Type 0
ReadBegins = (row : List (List Cell)) (reader width room : ℕ) → ((bit : ℕ) → HasCell row bit reader → (cell_at row bit reader).reading ≡ false) → IsReading row reader (new_read width room)

-- the next access of a read comes in its turn, and brings the read one further
abbrev pub ReadGoesOn : Type 0
ReadGoesOn = (row : List (List Cell)) (reader : ℕ) (r : NumberRead) (flick : Bool) → HasCell row (length r.bits) reader → IsReading row reader r → IsReading (row_after row (length r.bits) (next_read reader (bit_read r) (loaded row reader r flick))) reader (number_read_after r (loaded row reader r flick))

-- a change of another reader's copy leaves the read as it is
abbrev pub ReadIsApart : Type 0
ReadIsApart = (row : List (List Cell)) (reader : ℕ) (r : NumberRead) (bit other : ℕ) (c : Cell) → other ≢ reader → IsReading row reader r → IsReading (with_cell row bit other c) reader r

-- a read begins undisturbed
abbrev pub UndisturbedBegins : Type 0
UndisturbedBegins = (row : List (List Cell)) (v : ℕ → Bool) (reader width room : ℕ) → IsUndisturbed row v reader (new_read width room)

-- a read stays undisturbed while the bits are written
abbrev pub UndisturbedGoesOn : Type 0
UndisturbedGoesOn = (row : List (List Cell)) (v : ℕ → Bool) (reader : ℕ) (r : NumberRead) (flick : Bool) → HasCell row (length r.bits) reader → IsWritten row v → IsUndisturbed row v reader r → IsUndisturbed (row_after row (length r.bits) (next_read reader (bit_read r) (loaded row reader r flick))) v reader (number_read_after r (loaded row reader r flick))

-- a read stays undisturbed by a change of another reader's copy
abbrev pub UndisturbedIsApart : Type 0
UndisturbedIsApart = (row : List (List Cell)) (v : ℕ → Bool) (reader : ℕ) (r : NumberRead) (bit other : ℕ) (c : Cell) → other ≢ reader → IsUndisturbed row v reader r → IsUndisturbed (with_cell row bit other c) v reader r

-- a read over an interval that no write meets has read the register's bits, whatever the flicks
abbrev pub UndisturbedOverInterval : Type 0
UndisturbedOverInterval = (row : List (List Cell)) (v : ℕ → Bool) (reader width room : ℕ) (moments : List Moment) → IsRow row width → IsWritten row v → reader < length row
    → let start : ReadState = record { row = row; run = new_read width room } in
    IsUndisturbedInterval reader start moments → (read_interval reader start moments).run.bits ≡ first_bits v (length (read_interval reader start moments).run.bits)

-- after such an interval the register still has these bits
abbrev pub WrittenOverInterval : Type 0
WrittenOverInterval = (row : List (List Cell)) (v : ℕ → Bool) (reader width room : ℕ) (moments : List Moment) → IsRow row width → IsWritten row v → reader < length row
    → let start : ReadState = record { row = row; run = new_read width room } in
    IsUndisturbedInterval reader start moments → IsWritten (read_interval reader start moments).row v

-- a preset register has the value's bits
abbrev pub PresetIsWritten : Type 0
PresetIsWritten = (row : List (List Cell)) (value : List ℕ) → IsWritten (preset_number row value) (bit_in value)

-- the number of the w lowest bits of a number of w bits is that number
abbrev pub NumberOfItsBits : Type 0
NumberOfItsBits = (w n : ℕ) → n < 2 ^ w → number_of_bits (bits_of_number w n) ≡ n

-- bits are the lowest bits of their number
abbrev pub BitsOfTheirNumber : Type 0
BitsOfTheirNumber = (bits : List Bool) → bits_of_number (length bits) (number_of_bits bits) ≡ bits

-- the number of w bits is below 2 ^ w
abbrev pub NumberFits : Type 0
NumberFits = (bits : List Bool) → number_of_bits bits < 2 ^ length bits

-- bit k of bytes is bit k of their number
abbrev pub BitOfBytes : Type 0
BitOfBytes = (bytes : List ℕ) (k : ℕ) → AreBytes bytes → bit_in bytes k ≡ (bit_at (little_endian bytes) k == 1)

-- the first bits of bytes are the lowest bits of their number
abbrev pub BitsOfBytes : Type 0
BitsOfBytes = (bytes : List ℕ) (w : ℕ) → AreBytes bytes → bits_in bytes w ≡ bits_of_number w (little_endian bytes)

-- the number of bytes is that of their bits
abbrev pub NumberOfBytes : Type 0
NumberOfBytes = (bits : List Bool) (bytes : List ℕ) → AreBytes bytes → IsBytesOf bits bytes → little_endian bytes ≡ number_of_bits bits

-- equal bits give equal bytes
abbrev pub BytesOfBits : Type 0
BytesOfBits = (bits : List Bool) (a b : List ℕ) → AreBytes a → AreBytes b → length a ≡ length b → IsBytesOf bits a → IsBytesOf bits b → a ≡ b
