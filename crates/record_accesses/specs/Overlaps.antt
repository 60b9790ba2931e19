-- The processes whose open accesses an access overlaps as it begins.
use Rattle.std.specs.Prelude.{ℕ, zero, suc, ◌==◌, Bool, false, ◌||◌, List, [], ◌∷◌, ◌++◌, Option, None, Some}
use Rattle.model.specs.safe_bit.{Move}
use Rattle.model.specs.safe_bit.declared.Move.TheVariants.{BeginWrite, EndWrite, BeginRead, EndRead, Settle}
use Rattle.model.specs.{Access, Past}
use Rattle.record_accesses.specs.declared.opened.OpenBitAccess.{OpenBitAccess}
use Rattle.record_accesses.specs.Bits.{writer_of}
use Rattle.record_accesses.specs.Opened.{opened, reads_bit}

-- A process whose write of a bit is open, if one is, is q.
abbrev pub is_writer : Option ℕ → ℕ → Bool
is_writer None q = false
is_writer (Some p) q = p == q

-- An access with this move overlaps one of process q, where `writer` has a write of its bit open, and q has `current` open. A read
-- that begins overlaps a write of its bit. A write that begins overlaps a write or a read of its bit. Other moves begin nothing.
abbrev pub overlaps_by : Move → Access → Option ℕ → ℕ → Option OpenBitAccess → Bool
overlaps_by (BeginWrite v) a writer q current = is_writer writer q || reads_bit current a
overlaps_by BeginRead a writer q current = is_writer writer q
overlaps_by EndWrite a writer q current = false
overlaps_by (EndRead v) a writer q current = false
overlaps_by (Settle v) a writer q current = false

-- An access overlaps one that process q has open.
abbrev pub overlaps_with : Past → Access → ℕ → Bool
overlaps_with past a q = overlaps_by a.how a (writer_of a past) q (opened q past)

-- Which of the first processes have an access open that it overlaps, for this number of processes.
abbrev pub first_overlaps : Past → Access → ℕ → List Bool
first_overlaps past a zero = []
first_overlaps past a (suc q) = first_overlaps past a q ++ overlaps_with past a q ∷ []
