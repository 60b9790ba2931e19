-- The entries that a monitor has observed, after one more entry.
use Rattle.std.proofs.Common.{◌≡◌, ℕ, ◌+◌, ◌*◌, ◌<◌, Bool, true, false, cond, List, [], ◌∷◌, ◌++◌, Option, None, Some, length, slice_index_or, slice_set, get_or, length-set, refl, sym, ap, ◌∙◌, subst, inl, inr}
use Rattle.std.proofs.lemmas.Bool.{cases_eq}
use Rattle.std.proofs.lemmas.List.{get_or-set_same, get_or-set_other, get_or_default}
use Rattle.model.specs.safe_bit.{Move}
use Rattle.model.specs.{Access, Entry, Past, begins_read, field_number, moves_of, opening_bit, same_bit}
use Rattle.plain_store.specs.{Setup}
use Rattle.safe_monitor.specs.{AllAreOfThere, HasObserved, IsMonitor, KeepsSafe, MonitoredBit, IsMonitoredAfter, MonitorState, copy_of, monitored_at, monitored_after, register_of}
use Rattle.laws.specs.{IsThere}
use Rattle.safe_monitor.proofs.OwnPlaces.{copy_below, one_copy, one_place, one_register, register_below, there_from, there_too}

-- The moves on a bit, with an entry's.

abbrev pub move_in : Access → Option Access → List Move
move_in b o = elim o as (λ _. List Move) [ None ↦ [] | Some x ↦ cond (same_bit b x) (x.how ∷ []) [] ]

pub moves_same : (past : Past) (e : Entry) (a b : Access) → e.access ≡ Some a → same_bit b a ≡ true → moves_of b (e ∷ past) ≡ a.how ∷ moves_of b past
moves_same past e a b access same = ap (λ o. move_in b o ++ moves_of b past) access ∙ ap (λ t. cond t (a.how ∷ []) [] ++ moves_of b past) same

pub moves_other : (past : Past) (e : Entry) (a b : Access) → e.access ≡ Some a → same_bit b a ≡ false → moves_of b (e ∷ past) ≡ moves_of b past
moves_other past e a b access same = ap (λ o. move_in b o ++ moves_of b past) access ∙ ap (λ t. cond t (a.how ∷ []) [] ++ moves_of b past) same

pub moves_none : (past : Past) (e : Entry) (b : Access) → e.access ≡ None → moves_of b (e ∷ past) ≡ moves_of b past
moves_none past e b access = ap (λ o. move_in b o ++ moves_of b past) access

-- An entry that changes nothing.

pub observed_none : (w : MonitorState) (past : Past) (e : Entry) → e.access ≡ None → HasObserved w past → HasObserved w (e ∷ past)
observed_none w past e access observed = λ b there. observed b there ∙ ap (monitored_after (opening_bit w.setup b)) (sym (moves_none past e b access))

pub observed_stray : (w : MonitorState) (past : Past) (e : Entry) (a : Access) → e.access ≡ Some a → (IsThere w.setup a → ⊥) → HasObserved w past → HasObserved w (e ∷ past)
observed_stray w past e a access out observed = λ b there. observed b there ∙ ap (monitored_after (opening_bit w.setup b)) (sym (by b there (same_bit b a) refl))
  where
    by : (b : Access) → IsThere w.setup b → (t : Bool) → same_bit b a ≡ t → moves_of b (e ∷ past) ≡ moves_of b past
    by b there true is = absurd (out (there_too w.setup b a is there))
    by b there false is = moves_other past e a b access is

-- An entry of a bit in range.

-- the look of its bit is the look that was set
set_same : (registers : List (List MonitoredBit)) (r k : ℕ) (l : MonitoredBit) → r < length registers → k < length (slice_index_or registers r []) →
    monitored_at (slice_set registers r (slice_set (slice_index_or registers r []) k l)) r k ≡ l
set_same registers r k l there inside =
    ap (λ (monitored_bits : List MonitoredBit). slice_index_or monitored_bits k (monitored_after false [])) (get_or-set_same registers r (slice_set (slice_index_or registers r []) k l) [] there)
    ∙ get_or-set_same (slice_index_or registers r []) k l (monitored_after false []) inside

-- every other look stays
set_other : (registers : List (List MonitoredBit)) (r k q j : ℕ) (l : MonitoredBit) → r < length registers → (q ≡ r → j ≡ k → ⊥) →
    monitored_at (slice_set registers r (slice_set (slice_index_or registers r []) k l)) q j ≡ monitored_at registers q j
set_other registers r k q j l there apart = elim (cases_eq q r) [
  | inr e ↦ ap (λ (monitored_bits : List MonitoredBit). slice_index_or monitored_bits j (monitored_after false [])) (get_or-set_other registers r q (slice_set (slice_index_or registers r []) k l) [] e)
  | inl e ↦ ap (λ n. monitored_at (slice_set registers r (slice_set (slice_index_or registers r []) k l)) n j) e
      ∙ ap (λ (monitored_bits : List MonitoredBit). slice_index_or monitored_bits j (monitored_after false [])) (get_or-set_same registers r (slice_set (slice_index_or registers r []) k l) [] there)
      ∙ get_or-set_other (slice_index_or registers r []) k j l (monitored_after false []) (apart e)
      ∙ ap (λ n. monitored_at registers n j) (sym e)
]

pub observed_access : (w : MonitorState) (past : Past) (e : Entry) (a : Access) (then : MonitoredBit) → e.access ≡ Some a → IsThere w.setup a →
    register_of a < length w.registers → copy_of w.setup a < length (slice_index_or w.registers (register_of a) []) →
    IsMonitoredAfter (monitored_at w.registers (register_of a) (copy_of w.setup a)) a.how then → HasObserved w past →
    HasObserved (record { setup = w.setup; registers = slice_set w.registers (register_of a) (slice_set (slice_index_or w.registers (register_of a) []) (copy_of w.setup a) then) }) (e ∷ past)
observed_access w past e a then access there outer inner on observed = λ b b_there. by b b_there (same_bit b a) refl
  where
    new : List (List MonitoredBit)
    new = slice_set w.registers (register_of a) (slice_set (slice_index_or w.registers (register_of a) []) (copy_of w.setup a) then)

    by : (b : Access) → IsThere w.setup b → (t : Bool) → same_bit b a ≡ t → monitored_at new (register_of b) (copy_of w.setup b) ≡ monitored_after (opening_bit w.setup b) (moves_of b (e ∷ past))
    by b b_there true is =
        let r = one_register b a is in
        let k = one_copy w.setup b a is in
        (λ i. monitored_at new (r i) (k i)) ∙ set_same w.registers (register_of a) (copy_of w.setup a) then outer inner
        ∙ on (opening_bit w.setup b) (moves_of b past) ((λ i. monitored_at w.registers (sym r i) (sym k i)) ∙ observed b b_there)
        ∙ ap (monitored_after (opening_bit w.setup b)) (sym (moves_same past e a b access is))
    by b b_there false is =
        set_other w.registers (register_of a) (copy_of w.setup a) (register_of b) (copy_of w.setup b) then outer
        (λ r k. let same = one_place w.setup b a b_there there r k in cc)
        ∙ observed b b_there
        ∙ ap (monitored_after (opening_bit w.setup b)) (sym (moves_other past e a b access is))

-- A monitor whose look is set.

pub register_in : (w : MonitorState) (a : Access) → IsMonitor w → IsThere w.setup a → register_of a < length w.registers
register_in w a good there = subst (λ n. register_of a < n) (sym good.registers) (register_below w.setup a there)

pub copy_in : (w : MonitorState) (a : Access) → IsMonitor w → IsThere w.setup a → copy_of w.setup a < length (slice_index_or w.registers (register_of a) [])
copy_in w a good there = subst (λ n. copy_of w.setup a < n) (sym (good.bits a.owner a.field there.owner)) (copy_below w.setup a there)

-- each register keeps its length
lengths_stay : (registers : List (List MonitoredBit)) (r k q : ℕ) (l : MonitoredBit) → r < length registers →
    length (slice_index_or (slice_set registers r (slice_set (slice_index_or registers r []) k l)) q []) ≡ length (slice_index_or registers q [])
lengths_stay registers r k q l there = elim (cases_eq q r) [
  | inr e ↦ ap (λ (monitored_bits : List MonitoredBit). length monitored_bits) (get_or-set_other registers r q (slice_set (slice_index_or registers r []) k l) [] e)
  | inl e ↦ ap (λ n. length (slice_index_or (slice_set registers r (slice_set (slice_index_or registers r []) k l)) n [])) e
      ∙ ap (λ (monitored_bits : List MonitoredBit). length monitored_bits) (get_or-set_same registers r (slice_set (slice_index_or registers r []) k l) [] there)
      ∙ length-set (slice_index_or registers r []) k l
      ∙ ap (λ n. length (slice_index_or registers n [])) (sym e)
]

pub monitor_set : (w : MonitorState) (r k : ℕ) (l : MonitoredBit) → IsMonitor w → r < length w.registers →
    IsMonitor (record { setup = w.setup; registers = slice_set w.registers r (slice_set (slice_index_or w.registers r []) k l) })
monitor_set w r k l good there = record {
  good = good.good;
  registers = length-set w.registers r (slice_set (slice_index_or w.registers r []) k l) ∙ good.registers;
  bits = λ owner field below. lengths_stay w.registers r k (owner * 7 + field_number field) l there ∙ good.bits owner field below;
}

-- The registers of a monitor at an access of a bit in range.
pub record AtAccess (w : MonitorState) (a : Access) (register place : ℕ) : Type 0 where
  pub good : IsMonitor w
  pub there : IsThere w.setup a
  pub register_is : register ≡ register_of a
  pub place_is : place ≡ copy_of w.setup a

-- the register that was taken
taken_is : (w : MonitorState) (a : Access) (register place : ℕ) (taken : List MonitoredBit) → AtAccess w a register place → taken ≡ get_or w.registers register taken → taken ≡ slice_index_or w.registers (register_of a) []
taken_is w a register place taken at is = is ∙ ap (λ n. get_or w.registers n taken) at.register_is ∙ get_or_default w.registers (register_of a) taken [] (register_in w a at.good at.there)

pub place_within : (w : MonitorState) (a : Access) (register place : ℕ) (taken : List MonitoredBit) → AtAccess w a register place → taken ≡ get_or w.registers register taken → place < length taken
place_within w a register place taken at is =
    subst (λ (monitored_bits : List MonitoredBit). place < length monitored_bits) (sym (taken_is w a register place taken at is))
    (subst (λ n. n < length (slice_index_or w.registers (register_of a) [])) (sym at.place_is) (copy_in w a at.good at.there))

-- the look that was read
pub monitored_is : (w : MonitorState) (a : Access) (register place : ℕ) (taken : List MonitoredBit) (monitored_bit : MonitoredBit) → AtAccess w a register place → taken ≡ get_or w.registers register taken →
    monitored_bit ≡ slice_index_or taken place (monitored_after false []) → monitored_bit ≡ monitored_at w.registers (register_of a) (copy_of w.setup a)
monitored_is w a register place taken monitored_bit at is reads = let t = taken_is w a register place taken at is in let p = at.place_is in reads ∙ (λ i. slice_index_or (t i) (p i) (monitored_after false []))

-- the registers that were written
pub written_is : (w : MonitorState) (a : Access) (register place : ℕ) (taken made : List MonitoredBit) (then : MonitoredBit) → AtAccess w a register place → taken ≡ get_or w.registers register taken →
    made ≡ slice_set taken place then → slice_set w.registers register made ≡ slice_set w.registers (register_of a) (slice_set (slice_index_or w.registers (register_of a) []) (copy_of w.setup a) then)
written_is w a register place taken made then at is makes =
    let t = taken_is w a register place taken at is in
    let p = at.place_is in
    let r = at.register_is in
    ap (λ (monitored_bits : List MonitoredBit). slice_set w.registers register monitored_bits) makes ∙ (λ i. slice_set w.registers (r i) (slice_set (t i) (p i) then))

pub monitor_written : (w : MonitorState) (a : Access) (register place : ℕ) (taken made : List MonitoredBit) (then : MonitoredBit) → AtAccess w a register place → taken ≡ get_or w.registers register taken →
    made ≡ slice_set taken place then → IsMonitor (record { setup = w.setup; registers = slice_set w.registers register made })
monitor_written w a register place taken made then at is makes =
    subst (λ (x : List (List MonitoredBit)). IsMonitor (record { setup = w.setup; registers = x })) (sym (written_is w a register place taken made then at is makes))
    (monitor_set w (register_of a) (copy_of w.setup a) then at.good (register_in w a at.good at.there))

pub observed_written : (w : MonitorState) (past : Past) (e : Entry) (a : Access) (register place : ℕ) (taken made : List MonitoredBit) (then : MonitoredBit) → AtAccess w a register place → taken ≡ get_or w.registers register taken →
    made ≡ slice_set taken place then → e.access ≡ Some a → IsMonitoredAfter (monitored_at w.registers (register_of a) (copy_of w.setup a)) a.how then → HasObserved w past →
    HasObserved (record { setup = w.setup; registers = slice_set w.registers register made }) (e ∷ past)
observed_written w past e a register place taken made then at is makes access on observed =
    subst (λ (x : List (List MonitoredBit)). HasObserved (record { setup = w.setup; registers = x }) (e ∷ past)) (sym (written_is w a register place taken made then at is makes))
    (observed_access w past e a then access at.there (register_in w a at.good at.there) (copy_in w a at.good at.there) on observed)

-- The result of observing an entry.

-- no move was made on a bit out of range
stray_moves : (s : Setup) (a : Access) (past : Past) → AllAreOfThere s past → (IsThere s a → ⊥) → moves_of a past ≡ []
stray_moves s a [] all out = refl
stray_moves s a (e ∷ past) all out = by (stray_moves s a past all.1 out) e.access refl
  where
    in_some : moves_of a past ≡ [] → (x : Access) → e.access ≡ Some x → (t : Bool) → same_bit a x ≡ t → cond t (x.how ∷ []) [] ++ moves_of a past ≡ []
    in_some none x is true same = absurd (out (there_from s a x same (all.0 x is)))
    in_some none x is false same = none

    by : moves_of a past ≡ [] → (o : Option Access) → e.access ≡ o → move_in a o ++ moves_of a past ≡ []
    by none None is = none
    by none (Some x) is = in_some none x is (same_bit a x) refl

-- the first entry of such a bit keeps the law
pub stray_keeps : (s : Setup) (past : Past) (e : Entry) (a : Access) → e.access ≡ Some a → (IsThere s a → ⊥) → AllAreOfThere s past → KeepsSafe s past e
stray_keeps s past e a access out all b v is how begins =
    let same : a ≡ b = cc in
    let none : moves_of b past ≡ [] = subst (λ (x : Access). moves_of x past ≡ []) same (stray_moves s a past all out) in
    let starts : false ≡ true = sym (ap begins_read none) ∙ begins in cc
