-- The reasons of an entry that breaks a law, computed from the entries before it.
use Rattle.std.specs.Prelude.{◌≡◌, ℕ, nat_lt, Bool, true, false, not, length, cond, Option, None, Some, is_none}
use Rattle.model.specs.safe_bit.declared.Move.TheVariants.{BeginWrite, EndWrite, BeginRead, EndRead, Settle}
use Rattle.plain_store.specs.{Setup}
use Rattle.model.specs.{Access, Entry, Past, Stage, first_of, history}
use Rattle.lock_stages.specs.{AreSince, ahead_since, other_inside}
use Rattle.any_lock.specs.declared.reasons.Remedy.{Remedy}
use Rattle.any_lock.specs.declared.reasons.Remedy.TheVariants.{Value, Taking}
use Rattle.any_lock.specs.declared.reasons.Reasons.{Reasons}
use Rattle.any_lock.specs.declared.reasons.Refused.{Refused}
use Rattle.any_lock.specs.declared.reasons.Refused.TheVariants as by
use Rattle.any_lock.specs.declared.process_views.BegunAccess.{BegunAccess}
use Rattle.any_lock.specs.declared.process_views.ProcessView.{ProcessView}
use Rattle.any_lock.specs.declared.any_lock_law.AnyLockLaw.{AnyLockLaw}
use Rattle.any_lock.specs.declared.any_lock_law.AnyLockLaw.TheVariants as law
use Rattle.any_lock.specs.Laws.{broken_later, right_reply}
use Rattle.any_lock.specs.Refusals.{refusal_of_access, refusal_of_marks}
use Rattle.any_lock.specs.ProcessViews.{has_access, passage_in, process_view}

-- the refusal of an entry by the table of accesses, or otherwise by that of marks, for any law
abbrev pub refused : Setup → Past → Entry → Option Refused
refused s past e = elim (refusal_of_access s past e) [
  | Some r ↦ Some (by.Access r)
  | None ↦ elim (refusal_of_marks s past e) [ Some r ↦ Some (by.Marks r) | None ↦ None ]
]

-- the state of a process, if the process exists
abbrev pub view_of : Setup → Past → ℕ → Option ProcessView
view_of s past p = cond (nat_lt p s.processes) (Some (process_view s p past)) None

-- a part of the state of a process, if the process exists
abbrev pub part_of_view : {A : Type 0} → (ProcessView → Option A) → Option ProcessView → Option A
part_of_view f None = None
part_of_view f (Some k) = f k

-- the entry with which an access began
abbrev pub entry_of : Option BegunAccess → Option ℕ
entry_of None = None
entry_of (Some b) = Some b.entry

-- the stage of a process
abbrev pub stage_of : Setup → Past → ℕ → Option Stage
stage_of s past p = part_of_view (λ (k : ProcessView). Some k.stage) (view_of s past p)

-- the entry that began the access which a process has open
abbrev pub opened_by : Setup → Past → ℕ → Option ℕ
opened_by s past p = part_of_view (λ (k : ProcessView). entry_of k.opened) (view_of s past p)

-- the entry that began the write of the torn bit of a process
abbrev pub torn_by : Setup → Past → ℕ → Option ℕ
torn_by s past p = part_of_view (λ (k : ProcessView). entry_of k.torn) (view_of s past p)

-- a process and an entry, if there is one
abbrev pub since : ℕ → Option ℕ → Option (ℕ × ℕ)
since q None = None
since q (Some entry) = Some (q, entry)

-- q, and the entry of its call with which it entered
abbrev pub entered : ℕ → ProcessView → Option (ℕ × ℕ)
entered q k = since q k.passage.enters

-- the lowest process other than p that is inside, and the entry with which it entered
abbrev pub inside_since : Setup → Past → ℕ → Option (ℕ × ℕ)
inside_since s past p = elim (other_inside (passage_in past) s.processes p) [ None ↦ None | Some q ↦ entered q (process_view s q past) ]

-- the entry of q's `wait`, if q is ahead of p
abbrev pub wait_ahead : Setup → Past → ℕ → ℕ → Option ℕ
wait_ahead s past p q = cond (nat_lt p s.processes) (ahead_since (passage_in past) s.processes p q) None

-- the entry with which the doorway of a process in this state began, in the past or with the access of entry e
abbrev pub doorway_with : Past → Entry → ProcessView → Option ℕ
doorway_with past e k = first_of k.passage.doorway (cond (has_access e) (Some (length past)) None)

-- that entry for the process of e, if the process exists
abbrev pub doorway_of : Setup → Past → Entry → Option ℕ
doorway_of s past e = part_of_view (doorway_with past e) (view_of s past e.process)

-- the value with which an access ends a read
abbrev pub value_in : Option Access → Option Bool
value_in None = None
value_in (Some a) = elim a.how [ EndRead v ↦ Some v | BeginWrite v ↦ None | EndWrite ↦ None | BeginRead ↦ None | Settle v ↦ None ]

-- the access, changed to end a read with this value
abbrev pub ends_with : Bool → Option Access → Option Access
ends_with v None = None
ends_with v (Some a) = Some (record a { how = EndRead v })

-- the entry, changed to end a read with this value
abbrev pub with_value : Bool → Entry → Entry
with_value v e = record { process = e.process; access = ends_with v e.access; marks = e.marks }

-- the other value, if the entry keeps all later laws with it; `Safe` allows one of two values if it forbids the other
abbrev pub other_value : Setup → Past → Entry → Option Remedy
other_value s past e = elim (value_in e.access) [
  | None ↦ None
  | Some v ↦ cond (is_none (broken_later s past (with_value (not v) e))) (Some (Value (not v))) None
]

-- the change with which the entry would keep all laws
abbrev pub change_of : AnyLockLaw → Setup → Past → Entry → Option Remedy
change_of law.Safe s past e = other_value s past e
change_of law.History s past e = cond (nat_lt e.process s.processes) (Some (Taking (length (history s past)) (right_reply s past e.process))) None
change_of _ s past e = None

-- the law is this one
abbrev pub is_together : AnyLockLaw → Bool
is_together law.Together = true
is_together _ = false

abbrev pub is_overtaken : AnyLockLaw → Bool
is_overtaken law.Overtaken = true
is_overtaken _ = false

-- the parts of the reasons that depend on the law
abbrev pub inside_by : AnyLockLaw → Setup → Past → ℕ → Option (ℕ × ℕ)
inside_by l s past p = cond (is_together l) (inside_since s past p) None

abbrev pub wait_by : AnyLockLaw → Setup → Past → ℕ → ℕ → Option ℕ
wait_by l s past p q = cond (is_overtaken l) (wait_ahead s past p q) None

abbrev pub doorway_by : AnyLockLaw → Setup → Past → Entry → Option ℕ
doorway_by l s past e = cond (is_overtaken l) (doorway_of s past e) None

-- these are the reasons of an entry that breaks this law first
pub record AreReasons (s : Setup) (past : Past) (e : Entry) (l : AnyLockLaw) (r : Reasons) : Type 0 where
  pub may : r.may ≡ change_of l s past e
  pub refused : r.refused ≡ refused s past e
  pub stage : r.stage ≡ stage_of s past e.process
  pub opened : r.opened ≡ opened_by s past e.process
  pub torn : r.torn ≡ torn_by s past e.process
  pub inside : r.inside ≡ inside_by l s past e.process
  pub waits : AreSince r.waits (wait_by l s past e.process)
  pub doorway : r.doorway ≡ doorway_by l s past e
