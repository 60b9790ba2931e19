-- A step of a cursor on the memory is a step of `Register` on the row of the cursor's register.
use Rattle.std.specs.Prelude.{◌≡◌, ◌≢◌, ℕ, zero, suc, ◌<◌, ◌==◌, List, [], ◌∷◌, Bool, false, Some, length}
use Rattle.model.specs.plain_store.{Setup}
use Rattle.model.specs.safe_bit.Cell.{Cell}
use Rattle.reader_copies.specs.{HasItsValue, Made, Settling, next_settle, next_write, row_after, settle_after, settled_at}
use Rattle.reader_copies.specs.Row as rows
use Rattle.world.specs.choices.{FlickState, flick_of, flicks_after}
use Rattle.safe_number.specs.{Moment, NumberRead, NumberWrite, bit_write, bits_in, loaded, new_read, new_write, number_read_after, number_write_after, Own, ReadState, WriteState, read_interval, write_interval}
use Rattle.safe_number.specs.Runs.{register_written}
use Rattle.safe_number.specs.Runs as number
use Rattle.safe_number.specs.Written.{read_made, register_read}
use Rattle.model.specs.{Access, width}
use Rattle.registers.specs.{CursorState, Fits, HasLanes, RegisterName, applied, cursor_after, is_over, lane_number, next_answered, reading, run_of, settling, without_reads, write_kept, writing}
use Rattle.registers.specs.Rows.{row_of}
use Rattle.registers.specs.declared.cursor.RegisterAccessKind.TheVariants.{Reads, Writes, Settles}

-- THE ROW OF A CURSOR'S REGISTER

-- The copies of a cursor's register, reader by reader.
abbrev pub row_at : CursorState → List (List Cell) → List (List Cell)
row_at c memory = row_of c.copies memory c.register

-- An access of the memory as an access of a row: its reader and its move.
abbrev pub made_of : Access → Made
made_of a = record { reader = a.reader; how = a.how }

-- The memory after a cursor's access.
abbrev pub memory_after : CursorState → List (List Cell) → Access → List (List Cell)
memory_after c memory a = applied c.copies memory a

-- A cursor has a next access: its register is in the memory, and a bit of it is left.
pub record HasNext (memory : List (List Cell)) (c : CursorState) : Type 0 where
  pub fits : Fits memory c
  pub going : c.bit < c.width

-- THE SAME PROGRESS

-- A cursor and a write of the value have made the same accesses.
pub record IsAtWrite (value : List ℕ) (w : NumberWrite) (c : CursorState) : Type 0 where
  pub run : c.run ≡ Writes
  pub bits : bits_in value c.width ≡ c.bits
  pub progress : w ≡ write_kept c

-- A cursor and a read have made the same accesses, and have read the same bits.
pub record IsAtRead (r : NumberRead) (c : CursorState) : Type 0 where
  pub run : c.run ≡ Reads
  pub width : r.width ≡ c.width
  pub bits : r.bits ≡ c.bits
  pub begun : r.begun ≡ c.begun
  pub bit : length c.bits ≡ c.bit

-- A cursor and a settling of a bit have made the same accesses, and settle at the same value.
pub record IsAtSettling (torn_bit : ℕ) (t : Settling) (c : CursorState) : Type 0 where
  pub run : c.run ≡ Settles t.made t.value
  pub bit : c.bit ≡ torn_bit
  pub copy : t.reader ≡ c.copy
  pub begun : t.begun ≡ c.begun
  pub value : HasItsValue t.begun t.value

-- A STEP OF EACH

-- The access of a cursor is the next access of the write. Both leave the same row and the same progress.
pub record StepsAsWrite (memory : List (List Cell)) (c : CursorState) (value : List ℕ) (w : NumberWrite) (a : Access) : Type 0 where
  pub bit : a.bit ≡ w.bit
  pub made : made_of a ≡ next_write (bit_write value w)
  pub row : row_at c (memory_after c memory a) ≡ register_written (row_at c memory) value w
  pub progress : IsAtWrite value (number_write_after (length (row_at c memory)) value w) (cursor_after c a.how)

-- The access of a cursor is the next access of the read, with the same value. Both leave the same row and the same progress.
pub record StepsAsRead (memory : List (List Cell)) (c : CursorState) (r : NumberRead) (flick : Bool) (a : Access) : Type 0 where
  pub bit : a.bit ≡ length r.bits
  pub made : made_of a ≡ read_made (row_at c memory) c.reader r flick
  pub row : row_at c (memory_after c memory a) ≡ register_read (row_at c memory) c.reader r flick
  pub progress : IsAtRead (number_read_after r (loaded (row_at c memory) c.reader r flick)) (cursor_after c a.how)

-- The access of a cursor is the next access of the settling at v. Both leave the same row. They end together, or have the same progress.
pub record StepsAsSettling (memory : List (List Cell)) (c : CursorState) (torn_bit : ℕ) (t : Settling) (v : Bool) (a : Access) : Type 0 where
  pub bit : a.bit ≡ torn_bit
  pub made : made_of a ≡ next_settle t v
  pub row : row_at c (memory_after c memory a) ≡ row_after (row_at c memory) torn_bit (next_settle t v)
  pub over : is_over (cursor_after c a.how) ≡ ((settle_after t v).reader == length (row_at c memory))
  pub progress : is_over (cursor_after c a.how) ≡ false → IsAtSettling torn_bit (settle_after t v) (cursor_after c a.how)

-- THE LAWS OF ONE STEP

-- A step of a cursor changes the row of its register by its access.
abbrev pub StepIsOnItsRow : Type 0
StepIsOnItsRow = (memory : List (List Cell)) (c : CursorState) (flick : Bool) → HasNext memory c
    → let a : Access = next_answered c memory flick in
    row_at c (memory_after c memory a) ≡ row_after (row_at c memory) a.bit (made_of a)

-- A step of a cursor changes no row of another register.
abbrev pub StepKeepsOtherRows : Type 0
StepKeepsOtherRows = (memory : List (List Cell)) (c : CursorState) (flick : Bool) (other : RegisterName) → HasNext memory c → other ≢ c.register
    → row_of c.copies (memory_after c memory (next_answered c memory flick)) other ≡ row_of c.copies memory other

-- If a reader drops its read of a register, the row drops the read.
abbrev pub DropIsOnItsRow : Type 0
DropIsOnItsRow = (memory : List (List Cell)) (copies wide : ℕ) (register : RegisterName) (reader : ℕ) → HasLanes memory (lane_number copies register 0) copies wide → reader < copies
    → row_of copies (without_reads memory (lane_number copies register reader)) register ≡ rows.without_reads (row_of copies memory register) reader

-- A dropped read changes no row of another register.
abbrev pub DropKeepsOtherRows : Type 0
DropKeepsOtherRows = (memory : List (List Cell)) (copies : ℕ) (register other : RegisterName) (reader : ℕ) → reader < copies → other ≢ register
    → row_of copies (without_reads memory (lane_number copies register reader)) other ≡ row_of copies memory other

-- A step of a cursor that writes is a step of `WriteRun` on the row.
abbrev pub WriteStepsAgree : Type 0
WriteStepsAgree = (memory : List (List Cell)) (c : CursorState) (value : List ℕ) (w : NumberWrite) (flick : Bool) → HasNext memory c → IsAtWrite value w c
    → StepsAsWrite memory c value w (next_answered c memory flick)

-- A step of a cursor that reads is a step of `ReadRun` on the row.
abbrev pub ReadStepsAgree : Type 0
ReadStepsAgree = (memory : List (List Cell)) (c : CursorState) (r : NumberRead) (flick : Bool) → HasNext memory c → IsAtRead r c
    → StepsAsRead memory c r flick (next_answered c memory flick)

-- A step of a cursor that settles is a settling step of the register on the row.
abbrev pub SettlingStepsAgree : Type 0
SettlingStepsAgree = (memory : List (List Cell)) (c : CursorState) (bit : ℕ) (t : Settling) (flick : Bool) → HasNext memory c → IsAtSettling bit t c
    → StepsAsSettling memory c bit t (settled_at t flick) (next_answered c memory flick)

-- A new cursor that writes is at the begin of a write.
abbrev pub WritesBeginAlike : Type 0
WritesBeginAlike = (s : Setup) (register : RegisterName) (value : List ℕ)
    → let wide : ℕ = width s register.field in
    IsAtWrite value (new_write wide) (writing s register (bits_in value wide))

-- A new cursor that reads is at the begin of a read.
abbrev pub ReadsBeginAlike : Type 0
ReadsBeginAlike = (s : Setup) (register : RegisterName) (reader room : ℕ) → IsAtRead (new_read (width s register.field) room) (reading s register reader)

-- A cursor that begins to settle is at the begin of the settling that the interrupted write needs.
abbrev pub SettlingsBeginAlike : Type 0
SettlingsBeginAlike = (value : List ℕ) (w : NumberWrite) (c : CursorState) (bit : ℕ) (t : Settling) → IsAtWrite value w c → number.torn_bit w ≡ Some (bit, t)
    → IsAtSettling bit t (settling c)

-- SEVERAL STEPS

-- The moments of the next k accesses, the newest first: each access takes its flick.
abbrev pub own_moments : ℕ → FlickState → List Moment
own_moments zero flicks = []
own_moments (suc k) flicks = Own (flick_of (flicks_after k flicks)) ∷ own_moments k flicks

-- A cursor has a bit left before each of its next k accesses.
abbrev pub HasBitsLeft : ℕ → CursorState → List (List Cell) → FlickState → Type 0
HasBitsLeft k c memory flicks = (j : ℕ) → j < k → let now : CursorState = (run_of j (c, memory, flicks)).0 in now.bit < now.width

-- Several accesses of a cursor that writes are as many steps of `WriteRun` on the row.
abbrev pub WriteRunsAgree : Type 0
WriteRunsAgree = (k : ℕ) (memory : List (List Cell)) (c : CursorState) (value : List ℕ) (w : NumberWrite) (flicks : FlickState) → Fits memory c → IsAtWrite value w c → HasBitsLeft k c memory flicks
    → let now : CursorState × List (List Cell) × FlickState = run_of k (c, memory, flicks) in
    let then : WriteState = write_interval value (record { row = row_at c memory; run = w }) (own_moments k flicks) in
    (row_at c now.1 ≡ then.row) × IsAtWrite value then.run now.0

-- Several accesses of a cursor that reads are as many steps of `ReadRun` on the row, and read the same bits.
abbrev pub ReadRunsAgree : Type 0
ReadRunsAgree = (k : ℕ) (memory : List (List Cell)) (c : CursorState) (r : NumberRead) (flicks : FlickState) → Fits memory c → IsAtRead r c → HasBitsLeft k c memory flicks
    → let now : CursorState × List (List Cell) × FlickState = run_of k (c, memory, flicks) in
    let then : ReadState = read_interval c.reader (record { row = row_at c memory; run = r }) (own_moments k flicks) in
    (row_at c now.1 ≡ then.row) × IsAtRead then.run now.0
