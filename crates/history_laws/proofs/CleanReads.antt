-- The read of a register that is whole: no write touches it, and its bits are read.
use Rattle.std.proofs.Common.{◌≡◌, ℕ, ◌+◌, ◌<◌, Bool, true, false, List, [], ◌∷◌, ◌++◌, length, refl, ◌∙◌, subst, arith}
use Rattle.std.proofs.lemmas.Bool.{false≢true}
use Rattle.std.proofs.lemmas.List.{ext_get_or, length_push}
use Rattle.model.specs.{Field, Past, Reading}
use Rattle.model.specs.declared.access.Field.TheVariants.{Commit}
use Rattle.plain_store.specs.{Contents, Setup}
use Rattle.laws.proofs.Bits.{AreBitsOf, one_more_bit}
use Rattle.laws.proofs.Invariant.{Closed, Touches, Wires, bit, touches, wires}
use Rattle.laws.proofs.Reading.{ReadAccess}
use Rattle.history_laws.proofs.Kept.{IsWhole, Kept, ReadsClean}
use Rattle.history_laws.proofs.Versions.{Versions}

-- nothing of it was read yet
pub clean_new : (bits : List Bool) (touched : ℕ → Bool) → ReadsClean (Reading [] false) bits touched
clean_new bits touched = ((λ k below. absurd (omega (arith, below))), λ begun. absurd (false≢true begun))

-- the read of a bit begins: no copy of it is being written
pub clean_begins : (s : Setup) (past : Past) (p o : ℕ) (f : Field) (bits read : List Bool) (value : Bool) (touched : ℕ → ℕ → Touches) →
    p < s.processes → IsWhole s.processes (wires s past o f) bits → length read < length bits → ReadAccess s past p o f (length read) false value touched →
    ReadsClean (Reading read false) bits (touches s past o p f) → ReadsClean (Reading read true) bits (touched o p f)
clean_begins s past p o f bits read value touched pb whole below access clean = (
  clean.0,
  λ begun. access.mark refl ∙ (whole (length read) p below pb).writing,
)

-- the read of a bit ends: it has the copy's value
pub clean_ends : (s : Setup) (past : Past) (p o : ℕ) (f : Field) (bits read : List Bool) (value : Bool) (touched : ℕ → ℕ → Touches) →
    p < s.processes → IsWhole s.processes (wires s past o f) bits → length read < length bits → ReadAccess s past p o f (length read) true value touched →
    ReadsClean (Reading read true) bits (touches s past o p f) → AreBitsOf bits (read ++ value ∷ [])
clean_ends s past p o f bits read value touched pb whole below access clean =
    one_more_bit bits read value clean.0 (access.value refl (clean.1 refl) ∙ (whole (length read) p below pb).value)

-- the read of the next bit has not begun
pub clean_on : (read bits : List Bool) (touched : ℕ → Bool) → AreBitsOf bits read → ReadsClean (Reading read false) bits touched
clean_on read bits touched are = (are, λ begun. absurd (false≢true begun))

-- all its bits were read
pub all_read : (bits read : List Bool) (value : Bool) → length read + 1 ≡ length bits → AreBitsOf bits (read ++ value ∷ []) → read ++ value ∷ [] ≡ bits
all_read bits read value last are = ext_get_or false (read ++ value ∷ []) bits (length_push read value ∙ last) are

-- a commit bit that no process writes is a whole register of one bit
pub commit_whole : (s : Setup) (v : Versions) (store : Contents) (busy : ℕ → Bool) (m : ℕ → Wires) → Kept s v store busy m → (q : ℕ) → q < s.processes → busy q ≡ false →
    IsWhole s.processes (m q Commit) (v.commit q ∷ [])
commit_whole s v store busy m kept q below quiet k r one rb =
    let first : 0 ≡ k = omega (arith, one) in
    subst (λ k. Closed (m q Commit k r) (bit (v.commit q ∷ []) k)) first (kept.commits q below quiet r rb)
