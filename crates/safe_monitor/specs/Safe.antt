-- The law `Safe` of an entry, by looking back over the entries before it.
use Rattle.std.specs.Prelude.{◌≡◌, Bool, true, false, List, Some}
use Rattle.model.specs.safe_bit.{MayEndWith, Move}
use Rattle.model.specs.safe_bit.declared.Move.TheVariants.{EndRead}
use Rattle.model.specs.{Access, Entry, Past, begins_read, moves_of, opening_bit}
use Rattle.plain_store.specs.{Setup}

-- a value is one with which the read that began last may end, if one began
abbrev pub MayGive : Bool → List Move → Bool → Type 0
MayGive opening moves value = begins_read moves ≡ true → MayEndWith opening moves value

-- A read that no write of its bit overlapped ends with the value last written or settled before it began, or otherwise with the opening value. The read is the one of its bit that began last, whichever process began it.
abbrev pub KeepsSafe : Setup → Past → Entry → Type 0
KeepsSafe s past e = (a : Access) (v : Bool) → e.access ≡ Some a → a.how ≡ EndRead v → MayGive (opening_bit s a) (moves_of a past) v

-- a fact for each result of a test
abbrev pub MatchBool : Bool → Type 0 → Type 0 → Type 0
MatchBool true P Q = P
MatchBool false P Q = Q

-- the result is whether this holds
abbrev pub Reports : Bool → Type 0 → Type 0
Reports reported P = MatchBool reported P (P → ⊥)

-- the result is whether an entry keeps the law
abbrev pub ReportsSafe : Bool → Setup → Past → Entry → Type 0
ReportsSafe reported s past e = Reports reported (KeepsSafe s past e)
