-- A record that is good for this project's lock is good for any lock.
use Rattle.std.specs.Prelude.{◌≡◌, ℕ, List, ◌∷◌, false, true, Ok}
use Rattle.plain_store.specs.{Setup, checked}
use Rattle.model.specs.{Entry, Past, doorway_begin, is_running, number_in_call, stage}
use Rattle.auditor.specs.{AllKeep, IsVerdict}
use Rattle.auditor.specs.safe_monitor.declared.verdicts.Verdict.TheVariants.{Good}
use Rattle.any_lock.specs.{breaks_history, breaks_safe, breaks_together, has_access, verdict_of}

-- the laws `Safe`, `Together` and `History` of any lock are kept
pub record KeepsOfAny (s : Setup) (past : Past) (e : Entry) : Type 0 where
  pub safe : breaks_safe s past e ≡ false
  pub together : breaks_together s past e ≡ false
  pub history : breaks_history s past e ≡ false

-- If all entries keep all laws of this project's lock, the newest one keeps these laws of any lock.
abbrev pub GoodKeepsOfAny : Type 0
GoodKeepsOfAny = (s : Setup) (past : Past) (e : Entry) → AllKeep s (e ∷ past) → KeepsOfAny s past e

-- Good is good: if a record with a checked setup is good by the laws of this project's lock, it is good by the laws of any lock.
abbrev pub GoodIsGood : Type 0
GoodIsGood = (s : Setup) → checked s ≡ Ok tt → (entries : List Entry) → IsVerdict s entries Good → verdict_of s entries ≡ Good

-- The doorway of a process that runs its call begins with the same entry by the definition of any lock and by that of this project's lock.
abbrev pub DoorwaysAreOne : Type 0
DoorwaysAreOne = (s : Setup) → checked s ≡ Ok tt → (past : Past) → AllKeep s past → (p : ℕ) → is_running (stage p past) ≡ true → number_in_call p has_access past ≡ doorway_begin p past
