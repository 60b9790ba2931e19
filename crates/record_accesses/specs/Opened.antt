-- The access that each process has open, by looking back over a past.
use Rattle.std.specs.Prelude.{ℕ, ◌==◌, Bool, true, false, ◌&&◌, List, [], ◌∷◌, length, cond, Option, None, Some}
use Rattle.std.specs.List.{list_any}
use Rattle.model.specs.safe_bit.{is_begin, is_begin_of_read}
use Rattle.model.specs.declared.marks.Mark.TheVariants.{Failed, Withdrew}
use Rattle.model.specs.{Access, Mark, Past, same_bit}
use Rattle.record_accesses.specs.declared.opened.OpenBitAccess.{OpenBitAccess}

-- A process with this mark drops the read that it has open.
abbrev pub drops_read : Mark → Bool
drops_read Failed = true
drops_read Withdrew = true
drops_read _ = false

-- One of these marks does so.
abbrev pub drops : List Mark → Bool
drops = list_any drops_read

-- An open access, if it is a read.
abbrev pub read_of : Option OpenBitAccess → Option OpenBitAccess
read_of None = None
read_of (Some o) = cond (is_begin_of_read o.access.how) (Some o) None

-- An open access, if it is a write.
abbrev pub write_of : Option OpenBitAccess → Option OpenBitAccess
write_of None = None
write_of (Some o) = cond (is_begin_of_read o.access.how) None (Some o)

-- What a process has open after the access of its entry with this number: that access, if it begins.
abbrev pub begun_by : ℕ → Option Access → Option OpenBitAccess → Option OpenBitAccess
begun_by number None before = before
begun_by number (Some a) before = cond (is_begin a.how) (Some (record { entry = number; access = a })) None

-- What it has open after an entry whose marks drop its read or not.
abbrev pub left_open : Bool → Option OpenBitAccess → Option OpenBitAccess
left_open dropped current = cond dropped (write_of current) current

-- The access that process p has open: that of its newest entry with an access, if it begins. A process that fails or withdraws
-- has no read open. A write that a failure interrupts stays open.
abbrev pub opened : ℕ → Past → Option OpenBitAccess
opened p [] = None
opened p (e ∷ past) = cond (e.process == p) (left_open (drops e.marks) (begun_by (length past) e.access (opened p past))) (opened p past)

-- The read that an entry drops, if its marks drop one.
abbrev pub dropped : Bool → Option OpenBitAccess → Option OpenBitAccess
dropped drops_it current = cond drops_it (read_of current) None

-- An open access is a read of the bit of an access.
abbrev pub reads_bit : Option OpenBitAccess → Access → Bool
reads_bit None a = false
reads_bit (Some o) a = is_begin_of_read o.access.how && same_bit o.access a

-- An open access is a write of the bit of an access.
abbrev pub writes_bit : Option OpenBitAccess → Access → Bool
writes_bit None a = false
writes_bit (Some o) a = cond (is_begin_of_read o.access.how) false (same_bit o.access a)
