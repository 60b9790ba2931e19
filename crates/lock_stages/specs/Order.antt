-- Mutual exclusion, and first come, first served, of an entry of a trace.
use Rattle.std.specs.Prelude.{ℕ, Bool}
use Rattle.lock_stages.specs.Entries.{LockEntry, LockPast, has_mark, is_enter}
use Rattle.lock_stages.specs.Passages.{overtakes_another, joins_another}
use Rattle.lock_stages.specs.States.{lock_passage}

-- of n processes, one enters while another is inside
abbrev pub breaks_together : ℕ → LockPast → LockEntry → Bool
breaks_together n past e = joins_another (lock_passage past) n e.process (has_mark is_enter e)

-- one enters while another is ahead of it
abbrev pub breaks_overtaken : ℕ → LockPast → LockEntry → Bool
breaks_overtaken n past e = overtakes_another (lock_passage past) n e.process (has_mark is_enter e)
