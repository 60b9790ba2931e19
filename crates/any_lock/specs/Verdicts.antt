-- The verdict on a record.
use Rattle.std.specs.Prelude.{◌≡◌, List, [], ◌∷◌, length, reverse}
use Rattle.plain_store.specs.{Setup}
use Rattle.model.specs.{Entry, Past}
use Rattle.any_lock.specs.declared.any_lock_law.AnyLockLaw.{AnyLockLaw}
use Rattle.safe_monitor.specs.declared.verdicts.Verdict.{Verdict}
use Rattle.safe_monitor.specs.declared.verdicts.Verdict.TheVariants.{Good, Bad}
use Rattle.safe_monitor.specs.Verdicts.{verdict_with}
use Rattle.any_lock.specs.Laws.{first_broken}

-- the verdict on a past: a bad one is unchanged; otherwise it is that of the newest entry
abbrev pub verdict_after : Setup → Past → Verdict AnyLockLaw
verdict_after s [] = Good
verdict_after s (e ∷ past) = elim (verdict_after s past) [
  | Good ↦ verdict_with (length past) (first_broken s past e)
  | Bad k l ↦ Bad k l
]

-- the verdict on a record: the lowest entry that breaks a law, and the first law that it breaks
abbrev pub verdict_of : Setup → List Entry → Verdict AnyLockLaw
verdict_of s entries = verdict_after s (reverse entries)

-- this is the verdict on a record
abbrev pub IsVerdict : Setup → List Entry → Verdict AnyLockLaw → Type 0
IsVerdict s entries verdict = verdict ≡ verdict_of s entries
