-- The passage of a process through the lock, and the two laws of it: mutual exclusion, and first come, first served (Lamport 1974).
-- Traces and the records of any lock cite them. In each definition `passage` is the passage of each process.
use Rattle.std.specs.Prelude.{◌≡◌, ℕ, zero, suc, ◌==◌, ◌<◌, nat_lt, Bool, true, false, not, ◌&&◌, List, length, slice_get, slice_index_or, cond, option_map, Option, None, Some, is_some}
use Rattle.model.specs.{first_of, is_before}
use Rattle.lock_stages.specs.declared.passages.Passage.{Passage}

-- What becomes of a passage.

-- before the first entry
abbrev pub no_passage : Passage
no_passage = record { inside = false; waiting = false; doorway = None; waits = None; enters = None }

-- after an access of entry n: the first one of a call begins its doorway
abbrev pub with_access : ℕ → Passage → Passage
with_access n t = record t { doorway = first_of t.doorway (Some n) }

-- after a call, whose doorway has not begun
abbrev pub with_call : Passage → Passage
with_call t = record t { waiting = false; doorway = None; waits = None; enters = None }

-- after the doorway ended with entry n
abbrev pub with_wait : ℕ → Passage → Passage
with_wait n t = record t { waiting = true; waits = first_of t.waits (Some n) }

-- after the process entered with entry n
abbrev pub with_enter : ℕ → Passage → Passage
with_enter n t = record t { inside = true; waiting = false; enters = first_of t.enters (Some n) }

-- after it left
abbrev pub with_leave : Passage → Passage
with_leave t = record t { inside = false; waiting = false }

-- after it stopped waiting, and did not enter
abbrev pub without_wait : Passage → Passage
without_wait t = record t { waiting = false }

-- The laws.

-- the lowest number below n for which a test holds
abbrev pub lowest_below : ℕ → (ℕ → Bool) → Option ℕ
lowest_below zero test = None
lowest_below (suc n) test = first_of (lowest_below n test) (cond (test n) (Some n) None)

-- q is another process than p, and is inside
abbrev pub is_other_inside : (ℕ → Passage) → ℕ → ℕ → Bool
is_other_inside passage p q = not (q == p) && (passage q).inside

-- a process waits, and its `wait` precedes the beginning of another's doorway, or that has not begun
abbrev pub waits_before : Passage → Passage → Bool
waits_before t other = t.waiting && is_before t.waits other.doorway

-- q is ahead of p: it is another process, and waits since before p's doorway began
abbrev pub is_ahead : (ℕ → Passage) → ℕ → ℕ → Bool
is_ahead passage p q = not (q == p) && waits_before (passage q) (passage p)

-- the lowest of n processes that is inside, other than p
abbrev pub other_inside : (ℕ → Passage) → ℕ → ℕ → Option ℕ
other_inside passage n p = lowest_below n (is_other_inside passage p)

-- the lowest of n processes that is ahead of p
abbrev pub other_ahead : (ℕ → Passage) → ℕ → ℕ → Option ℕ
other_ahead passage n p = lowest_below n (is_ahead passage p)

-- Together: p enters while another is inside.
abbrev pub joins_another : (ℕ → Passage) → ℕ → ℕ → Bool → Bool
joins_another passage n p enters = enters && is_some (other_inside passage n p)

-- Overtaken: p enters while another is ahead of it.
abbrev pub overtakes_another : (ℕ → Passage) → ℕ → ℕ → Bool → Bool
overtakes_another passage n p enters = enters && is_some (other_ahead passage n p)

-- the entry since which q is inside, if it is one of n processes, and another than p
abbrev pub inside_since : (ℕ → Passage) → ℕ → ℕ → ℕ → Option ℕ
inside_since passage n p q = cond (nat_lt q n && is_other_inside passage p q) (passage q).enters None

-- the entry since which q waits, if it is one of n processes, and ahead of p
abbrev pub ahead_since : (ℕ → Passage) → ℕ → ℕ → ℕ → Option ℕ
ahead_since passage n p q = cond (nat_lt q n && is_ahead passage p q) (passage q).waits None

-- of each of sixteen processes this is the entry, if there is one
abbrev pub AreSince : List (Option ℕ) → (ℕ → Option ℕ) → Type 0
AreSince entries since = (q : ℕ) → q < 16 → slice_index_or entries q None ≡ since q

-- Lists of states that have passages.

-- process q has this passage in these states
abbrev pub HasPassage : {S : Type 0} → (S → Passage) → List S → (ℕ → Passage) → ℕ → Type 0
HasPassage of states passage q = option_map of (slice_get states q) ≡ Some (passage q)

-- and so has each process
abbrev pub HavePassages : {S : Type 0} → (S → Passage) → List S → (ℕ → Passage) → Type 0
HavePassages of states passage = (q : ℕ) → q < length states → HasPassage of states passage q

-- this holds of the passages that these states have
abbrev pub OfPassages : {S : Type 0} → (S → Passage) → List S → ((ℕ → Passage) → Type 0) → Type 0
OfPassages of states P = (passage : ℕ → Passage) → HavePassages of states passage → P passage
