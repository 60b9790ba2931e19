-- The laws of registers (Lamport 1986a) in every state of a world.
use Rattle.std.specs.Prelude.{◌≡◌, ◌+◌, ◌*◌, ◌^◌, ◌<◌, ◌==◌, ◌&&◌, ℕ, zero, suc, Bool, true, false, not, if◌then◌else◌, List, [], ◌∷◌, ◌++◌, Option, None, Some, cond, is_some, length}
use Rattle.std.specs.List.{Contains, list_any}
use Rattle.model.specs.plain_store.{Setup}
use Rattle.reader_copies.specs.{IsWritten, Settling, cut_values, settle_after, settled_at, with_value}
use Rattle.safe_number.specs.{NumberWrite, first_bits, number_of_bits}
use Rattle.model.specs.{Access, Call, EachEntry, EachPast, Entry, Part, Past, Reading, Run, Writing, has, is_failed, is_unwritten, read_at, value_of, width, write_moved}
use Rattle.model.specs.Unit.{value_written}
use Rattle.model.specs.declared.marks.Mark.TheVariants.{Settled}
use Rattle.laws.specs.{Doing, Runs, call, doing}
use Rattle.registers.specs.{RegisterName}
use Rattle.register_laws.specs.NumbersHeld.{InSettling, InWrite, Progress, Quiet, bit_of, number_after, progress_at}
use Rattle.register_laws.specs.WorldRows.{register_row, writes_on}

-- A READ OF A REGISTER

-- A read of a register: the bits that were read, and whether the read of the next bit has begun.
pub record RegisterRead : Type 0 where
  pub register : RegisterName
  pub bits : List Bool
  pub begun : Bool

-- A process at a part of its call makes this read. It makes none if it writes.
abbrev pub read_in : Call → Part → Run → Option RegisterRead
read_in c part (Reading bits begun) = Some (record { register = record { owner = (read_at c part).0; field = (read_at c part).1 }; bits = bits; begun = begun })
read_in c part (Writing w) = None

-- The read that a process makes, if it makes one.
abbrev pub current_read : Setup → ℕ → Doing → Option RegisterRead
current_read s p (Runs command number at) = read_in (call s p command number) at.part at.run
current_read s p _ = None

-- The number of accesses that a read has made.
abbrev pub accesses_of_read : RegisterRead → ℕ
accesses_of_read read = 2 * length read.bits + (if read.begun then 1 else 0)

-- The next access of a read is its last one.
abbrev pub ends_read : Setup → RegisterRead → Bool
ends_read s read = read.begun && (length read.bits + 1 == width s read.register.field)

-- The bits that a read returns, if its last access is this one.
abbrev pub bits_returned : RegisterRead → Access → List Bool
bits_returned read a = read.bits ++ value_of a.how ∷ []

-- NO WRITE OVERLAPS IT

-- The last entries of a past, from the k-th last entry of this process on.
abbrev pub since_own : ℕ → ℕ → Past → Past
since_own p zero past = []
since_own p (suc k) [] = []
since_own p (suc k) (e ∷ past) = e ∷ since_own p (cond (e.process == p) k (suc k)) past

-- The past before these entries.
abbrev pub before_own : ℕ → ℕ → Past → Past
before_own p zero past = past
before_own p (suc k) [] = []
before_own p (suc k) (e ∷ past) = before_own p (cond (e.process == p) k (suc k)) past

-- The past in which a read of p began.
abbrev pub before_read : ℕ → RegisterRead → Past → Past
before_read p read past = before_own p (accesses_of_read read) past

-- A write or a settling has made an access, and has not ended.
abbrev pub has_begun : Progress → Bool
has_begun Quiet = false
has_begun (InWrite bits w) = not (is_unwritten w)
has_begun (InSettling bit t) = true

-- No write of the register overlaps a read of p: none was in progress when the read began, and no entry since then writes the register.
pub record IsUnoverlapped (s : Setup) (past : Past) (p : ℕ) (read : RegisterRead) : Type 0 where
  pub before : has_begun (progress_at s (before_read p read past) read.register) ≡ false
  pub during : list_any (writes_on read.register) (since_own p (accesses_of_read read) past) ≡ false

-- An entry is the last access of this read of its process.
pub record EndsRead (s : Setup) (past : Past) (e : Entry) (read : RegisterRead) (a : Access) : Type 0 where
  pub reads : current_read s e.process (doing s e.process past) ≡ Some read
  pub last : ends_read s read ≡ true
  pub access : e.access ≡ Some a

-- (a) A read of a register that no write overlaps returns the register's number.
abbrev pub UnoverlappedReadsReturnTheNumber : Type 0
UnoverlappedReadsReturnTheNumber = EachEntry λ s past e. (read : RegisterRead) (a : Access) → EndsRead s past e read a → IsUnoverlapped s past e.process read
    → bits_returned read a ≡ first_bits (number_after s read.register (before_read e.process read past)) (width s read.register.field)

-- So far it has read the lowest bits of that number.
abbrev pub UnoverlappedReadsReadTheNumber : Type 0
UnoverlappedReadsReadTheNumber = EachPast λ s past. (p : ℕ) (read : RegisterRead) → current_read s p (doing s p past) ≡ Some read → IsUnoverlapped s past p read
    → read.bits ≡ first_bits (number_after s read.register (before_read p read past)) (length read.bits)

-- (b) Every read of a register returns some number of its width, also if a write overlaps it.
abbrev pub ReadsReturnANumber : Type 0
ReadsReturnANumber = EachEntry λ s past e. (read : RegisterRead) (a : Access) → EndsRead s past e read a
    → (length (bits_returned read a) ≡ width s read.register.field) × (number_of_bits (bits_returned read a) < 2 ^ width s read.register.field)

-- A WRITE OF A REGISTER

-- An entry is the last access of a write of these bits.
pub record EndsWrite (s : Setup) (past : Past) (e : Entry) (r : RegisterName) (new : List Bool) : Type 0 where
  pub write : NumberWrite
  pub owner : e.process ≡ r.owner
  pub progress : progress_at s past r ≡ InWrite new write
  pub access : is_some e.access ≡ true
  pub last : (write_moved s.processes new write).bit ≡ write.width

-- After a write has ended, each copy of each bit has its new bit.
abbrev pub WritesGiveTheirBits : Type 0
WritesGiveTheirBits = EachEntry λ s past e. (r : RegisterName) (new : List Bool) → EndsWrite s past e r new → IsWritten (register_row s (e ∷ past) r) (bit_of new)

-- Between two bits of a write, and so if a failure interrupts it there, the lower bits are new and the upper bits are old.
abbrev pub WritesGoBitByBit : Type 0
WritesGoBitByBit = EachPast λ s past. (r : RegisterName) (new : List Bool) (w : NumberWrite) → r.owner < s.processes → progress_at s past r ≡ InWrite new w → w.run ≡ None
    → IsWritten (register_row s past r) (cut_values (number_after s r past) (bit_of new) w.bit)

-- AN INTERRUPTED WRITE

-- The past before the last failure of a process.
abbrev pub before_failure : ℕ → Past → Past
before_failure p [] = []
before_failure p (e ∷ past) = cond ((e.process == p) && has is_failed e) past (before_failure p past)

-- A failure interrupted a write of the register at this bit. The write's bits are new.
pub record WasInterrupted (s : Setup) (failed : Past) (r : RegisterName) (bit : ℕ) (new : List Bool) : Type 0 where
  pub write : NumberWrite
  pub progress : progress_at s failed r ≡ InWrite new write
  pub torn : write.bit ≡ bit

-- An entry is the last access of the settling of this bit at v.
pub record EndsSettling (s : Setup) (past : Past) (e : Entry) (r : RegisterName) (bit : ℕ) (v : Bool) : Type 0 where
  pub settling : Settling
  pub owner : e.process ≡ r.owner
  pub progress : progress_at s past r ≡ InSettling bit settling
  pub value : v ≡ settled_at settling (value_written e)
  pub last : (settle_after settling v).reader ≡ s.processes

-- (c) After an interrupted write was settled at v, the lower bits of the register are new, the torn bit is v, and the upper bits are old.
abbrev pub InterruptedWritesAreSettled : Type 0
InterruptedWritesAreSettled = EachEntry λ s past e. (r : RegisterName) (bit : ℕ) (v : Bool) → EndsSettling s past e r bit v
    → let failed : Past = before_failure r.owner past in
    (new : List Bool) × WasInterrupted s failed r bit new × IsWritten (register_row s (e ∷ past) r) (with_value (cut_values (number_after s r failed) (bit_of new) bit) bit v)

-- The mark `Settled v` is on the last access of the settling of a bit at v.
abbrev pub SettledMarksEndSettlings : Type 0
SettledMarksEndSettlings = EachEntry λ s past e. (v : Bool) → Contains e.marks (Settled v) → (r : RegisterName) × (bit : ℕ) × EndsSettling s past e r bit v
