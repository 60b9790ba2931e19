-- The begin of a read: the access after it, and the state that it leaves.
use Rattle.std.proofs.Common.{◌≡◌, ℕ, Bool, true, false, map, Some, None, arith}
use Rattle.model.specs.safe_bit.declared.Move.TheVariants.{BeginRead, EndRead}
use Rattle.model.specs.{Access, placed, reply_taken}
use Rattle.plain_store.specs.{Setup}
use Rattle.laws.specs.{Doing, does_then, is_inside, marks_with, next_of}
use Rattle.board.specs.{IsUnended}

-- the access that ends the read
abbrev pub ending : Access → Access
ending a = record a { how = EndRead false }

-- the next access ends the read
pub reads_on : (s : Setup) (p : ℕ) (d : Doing) (flick v : Bool) (n : Access) → IsUnended d → next_of s p d flick ≡ Some n → n.how ≡ BeginRead → next_of s p (does_then s p d flick v) flick ≡ Some (ending n)
reads_on s p d flick v n h k g = grind arith

-- The begin of a read takes no command.

pub begin_untaken : (s : Setup) (p : ℕ) (d : Doing) (flick v : Bool) (n : Access) (k : ℕ) → next_of s p d flick ≡ Some n → n.how ≡ BeginRead → reply_taken (map (placed k) (marks_with s p d flick v)) ≡ None
begin_untaken s p d flick v n k h g = grind arith

-- No process enters by the begin of a read.

pub begin_inside : (s : Setup) (p : ℕ) (d : Doing) (flick v : Bool) (n : Access) → IsUnended d → next_of s p d flick ≡ Some n → n.how ≡ BeginRead → is_inside (does_then s p d flick v) ≡ true → is_inside d ≡ true
begin_inside s p d flick v n h k g e = grind arith
