-- The verdict on a record of any lock, with one more entry.
use Rattle.std.specs.Prelude.{◌≡◌, ℕ, List, [], ◌∷◌, ◌++◌, length, Option, None, Some}
use Rattle.std.proofs.Common.{refl, sym, ◌∙◌}
use Rattle.plain_store.specs.{Setup}
use Rattle.model.specs.{Entry}
use Rattle.any_lock.specs.{AnyLockLaw, IsVerdict, Verdict, first_broken, verdict_with}
use Rattle.any_lock.specs.safe_monitor.declared.verdicts.Verdict.TheVariants.{Good, Bad}
use Rattle.any_lock.proofs.Reported.{verdict_bad, verdict_good}
use Rattle.std.specs.Prelude.{reverse}

-- a record has one verdict
pub one_verdict : (s : Setup) (entries : List Entry) (v w : Verdict AnyLockLaw) → IsVerdict s entries v → IsVerdict s entries w → v ≡ w
one_verdict s entries v w first second = first ∙ sym second

-- the verdict on an empty record is good
pub none_is_bad : (s : Setup) → IsVerdict s [] Good
none_is_bad s = refl

-- a bad verdict stays with one more entry
pub stays_bad : (s : Setup) (entries : List Entry) (e : Entry) (k : ℕ) (l : AnyLockLaw) → IsVerdict s entries (Bad k l) → IsVerdict s (entries ++ e ∷ []) (Bad k l)
stays_bad s entries e k l is = sym (verdict_bad s entries e k l (sym is))

-- after a good record the bad entry is the newest one
pub newest_is_bad : (s : Setup) (entries : List Entry) (e : Entry) (k : ℕ) (l : AnyLockLaw) → IsVerdict s entries Good → IsVerdict s (entries ++ e ∷ []) (Bad k l) → k ≡ length entries
newest_is_bad s entries e k l good is = by (first_broken s (reverse entries) e) (is ∙ verdict_good s entries e (sym good))
  where
    by : (broken : Option AnyLockLaw) → Bad k l ≡ verdict_with (length entries) broken → k ≡ length entries
    by None bad = absurd (cc)
    by (Some first) bad = cc
