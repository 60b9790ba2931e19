-- Mutual exclusion, and first come, first served, of a trace.
use Rattle.std.specs.Prelude.{◌≡◌, ℕ, IsFalse, IsTrue}
use Rattle.lock_stages.specs.Entries.{LockEntry, LockPast, has_mark, is_enter}
use Rattle.lock_stages.specs.Passages.{is_ahead}
use Rattle.lock_stages.specs.Refusals.{is_inside}
use Rattle.lock_stages.specs.States.{lock_passage, lock_stage}

-- No two processes are inside together.
abbrev pub IsAloneInside : LockPast → Type 0
IsAloneInside past = (p q : ℕ) → IsTrue (is_inside (lock_stage p past)) → IsTrue (is_inside (lock_stage q past)) → p ≡ q

-- If an entry enters, no other process is inside.
abbrev pub EntersAlone : LockPast → LockEntry → Type 0
EntersAlone past e = IsTrue (has_mark is_enter e) → (q : ℕ) → IsTrue (is_inside (lock_stage q past)) → q ≡ e.process

-- If it enters, no process is ahead of its own.
abbrev pub EntersInTurn : LockPast → LockEntry → Type 0
EntersInTurn past e = IsTrue (has_mark is_enter e) → (q : ℕ) → IsFalse (is_ahead (lock_passage past) e.process q)
