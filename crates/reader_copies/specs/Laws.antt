-- The laws of rows.
use Rattle.std.specs.Prelude.{◌≡◌, ℕ, ◌+◌, ◌*◌, ◌/◌, ◌<◌, List, ◌∷◌, Bool, false, length, Option}
use Rattle.safe_bit.specs.Cell.{Cell, new_cell, without_read, cell_of_calls}
use Rattle.reader_copies.specs.declared.runs.Made.{Made}
use Rattle.reader_copies.specs.Row.{cell_at, with_cell, row_after, without_reads, HasCell, CanMake}
use Rattle.reader_copies.specs.Runs.{Writing, Settling, next_write, write_after, next_settle, settle_after, bit_writes, rest_of_write, rest_of_settling}
use Rattle.reader_copies.specs.Written.{IsRead, IsWrite, IsWritten, IsPartlyWritten, IsPartlySettled, KeepsWrites, cut_values, with_value}
use Rattle.reader_copies.specs.Histories.{RowCall, row_of, row_after_call, IsReadCall, calls_at}

-- a write begins over written values
abbrev pub WriteBegins : Type 0
WriteBegins = (row : List (List Cell)) (old new : ℕ → Bool) → IsWritten row old → IsPartlyWritten row old new 0 0

-- the next access of a write may be made
abbrev pub WriteMayGoOn : Type 0
WriteMayGoOn = (row : List (List Cell)) (old new : ℕ → Bool) (b : ℕ) (run : Writing) → HasCell row b (run.made / 2) → IsPartlyWritten row old new b run.made → CanMake row b (next_write run)

-- the next access of a write brings it one further
abbrev pub WriteGoesOn : Type 0
WriteGoesOn = (row : List (List Cell)) (old new : ℕ → Bool) (b : ℕ) (run : Writing) → run.value ≡ new b → HasCell row b (run.made / 2) → IsPartlyWritten row old new b run.made → IsPartlyWritten (row_after row b (next_write run)) old new b (run.made + 1)

-- past the last copy a write continues with the next bit
abbrev pub WriteCarries : Type 0
WriteCarries = (row : List (List Cell)) (old new : ℕ → Bool) (b m : ℕ) → m ≡ 2 * length row → IsPartlyWritten row old new b m → IsPartlyWritten row old new (b + 1) 0

-- past the last bit all copies of all bits have the new values
abbrev pub WriteEnds : Type 0
WriteEnds = (row : List (List Cell)) (old new : ℕ → Bool) (b m : ℕ) → ((bit reader : ℕ) → HasCell row bit reader → bit < b) → IsPartlyWritten row old new b m → IsWritten row new

-- a write that was cut between two bits leaves the new values below and the old ones from there on
abbrev pub WriteCutBetweenBits : Type 0
WriteCutBetweenBits = (row : List (List Cell)) (old new : ℕ → Bool) (b : ℕ) → IsPartlyWritten row old new b 0 → IsWritten row (cut_values old new b)

-- a write that was cut is settled from its first copy on
abbrev pub SettlingBegins : Type 0
SettlingBegins = (row : List (List Cell)) (old new : ℕ → Bool) (b m : ℕ) (v : Bool) → IsPartlyWritten row old new b m → IsPartlySettled row (cut_values old new b) b m v 0 false

-- the next access of a settling may be made, and brings it one further
abbrev pub SettlingGoesOn : Type 0
SettlingGoesOn = (row : List (List Cell)) (others : ℕ → Bool) (b : ℕ) (v : Bool) (m reader : ℕ) (begun : Bool) (given : Option Bool) → HasCell row b reader → IsPartlySettled row others b m v reader begun → let t : Settling = record { made = m; reader = reader; begun = begun; value = given } in CanMake row b (next_settle t v) × IsPartlySettled (row_after row b (next_settle t v)) others b m v (settle_after t v).reader (settle_after t v).begun

-- past the last copy the torn bit has the settled value on all copies, and the others have theirs
abbrev pub SettlingEnds : Type 0
SettlingEnds = (row : List (List Cell)) (others : ℕ → Bool) (b m : ℕ) (v : Bool) (reader : ℕ) → reader ≡ length row → IsPartlySettled row others b m v reader false → IsWritten row (with_value others b v)

-- an access of a read changes no value and no write
abbrev pub ReadKeepsWrites : Type 0
ReadKeepsWrites = (row : List (List Cell)) (bit : ℕ) (made : Made) → HasCell row bit made.reader → IsRead made.how → KeepsWrites row (row_after row bit made)

-- a read that is dropped changes no value and no write
abbrev pub DropKeepsWrites : Type 0
DropKeepsWrites = (row : List (List Cell)) (bit reader : ℕ) → HasCell row bit reader → KeepsWrites row (with_cell row bit reader (without_read (cell_at row bit reader)))

-- all reads of a reader, dropped together, change no value and no write
abbrev pub DropsKeepWrites : Type 0
DropsKeepWrites = (row : List (List Cell)) (reader : ℕ) → KeepsWrites row (without_reads row reader)

-- a call that only reads changes no value and no write
abbrev pub ReadCallKeepsWrites : Type 0
ReadCallKeepsWrites = (row : List (List Cell)) (call : RowCall) → IsReadCall row call → KeepsWrites row (row_after_call row call)

-- written values stay if no value and no write changes
abbrev pub KeepsWritten : Type 0
KeepsWritten = (row row' : List (List Cell)) (v : ℕ → Bool) → KeepsWrites row row' → IsWritten row v → IsWritten row' v

-- a write stays where it is if no value and no write changes
abbrev pub KeepsPartlyWritten : Type 0
KeepsPartlyWritten = (row row' : List (List Cell)) (old new : ℕ → Bool) (b m : ℕ) → KeepsWrites row row' → IsPartlyWritten row old new b m → IsPartlyWritten row' old new b m

-- a settling stays where it is if no value and no write changes
abbrev pub KeepsPartlySettled : Type 0
KeepsPartlySettled = (row row' : List (List Cell)) (others : ℕ → Bool) (b m : ℕ) (v : Bool) (reader : ℕ) (begun : Bool) → KeepsWrites row row' → IsPartlySettled row others b m v reader begun → IsPartlySettled row' others b m v reader begun

-- an access of a write or a settling begins and ends no read
abbrev pub WriteKeepsReads : Type 0
WriteKeepsReads = (row : List (List Cell)) (bit : ℕ) (made : Made) (at reader : ℕ) → HasCell row bit made.reader → IsWrite made.how → (cell_at (row_after row bit made) at reader).reading ≡ (cell_at row at reader).reading

-- the next access of a write is the first of those that are left
abbrev pub NextOfWrite : Type 0
NextOfWrite = (readers : ℕ) (run : Writing) → run.made < 2 * readers → rest_of_write readers run ≡ next_write run ∷ rest_of_write readers (write_after readers run)

-- the next access of a settling is the first of those that are left
abbrev pub NextOfSettling : Type 0
NextOfSettling = (readers : ℕ) (run : Settling) (value : Bool) → run.reader < readers → rest_of_settling readers run value ≡ next_settle run value ∷ rest_of_settling readers (settle_after run value) value

-- a write makes two accesses for each reader
abbrev pub WriteCount : Type 0
WriteCount = (readers : ℕ) (value : Bool) → length (bit_writes readers value) ≡ 2 * readers

-- after any calls on a row, a copy that was new is what its own calls alone make of it
abbrev pub HasItsOwnCalls : Type 0
HasItsOwnCalls = (row : List (List Cell)) (bit reader : ℕ) (opening : Bool) (calls : List RowCall) → HasCell row bit reader → cell_at row bit reader ≡ new_cell opening → cell_at (row_of row calls) bit reader ≡ cell_of_calls opening (calls_at bit reader calls)
