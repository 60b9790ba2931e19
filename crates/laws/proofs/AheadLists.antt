-- The lists of processes that are ahead of another.
use Rattle.std.proofs.Common.{◌≡◌, ◌↔◌, ℕ, zero, suc, ◌<◌, ◌&&◌, Bool, true, false, cond, List, [], ◌∷◌, Some, None, filter, refl, sym, ap, subst, ◌∙◌, true≢false, arith, IsTrue, Contains, AllPairs}
use Rattle.std.specs.List.{range_with_len}
use Rattle.std.proofs.lemmas.List.Elements.{All-contains, All-filter, All-contains_itself, filter_passes}
use Rattle.std.proofs.lemmas.List.FromFn.{length-range_with_len, get_or-range_with_len}
use Rattle.std.proofs.lemmas.List.Kept.{AllPairs-filter}
use Rattle.plain_store.specs.{Setup}
use Rattle.model.specs.{Entry, Event, Past, Stage, ahead, doorway_begin, doorway_end, entry_of, has, is_ahead, is_before, is_entered, is_at_door, is_waiting_stage, past_of, processes, stage}
use Rattle.model.specs.declared.stages.Stage.TheVariants as stages
use Rattle.model.proofs.Width.{IsGood}
use Rattle.laws.specs.{WaitsBefore}
use Rattle.laws.proofs.Doings.{stage_of}
use Rattle.laws.proofs.DoorwayParts.{both}
use Rattle.laws.proofs.FrameInside.{stage-is}
use Rattle.laws.proofs.Theorems.{IsKept, is_process, waiter, waiter-numbers, not_ahead_of_itself, no_overtaking}

-- The elements that a filter keeps.

kept : {X : Type 0} (test : X → Bool) (xs : List X) (x : X) → Contains (filter test xs) x → Contains xs x × (test x ≡ true)
kept test xs x h = (
  All-contains (Contains xs) (filter test xs) x (All-filter test (Contains xs) xs (All-contains_itself xs)) h,
  All-contains (λ y. test y ≡ true) (filter test xs) x (filter_passes test xs) h,
)

first : {X : Type 0} (x : X) (xs : List X) → Contains (x ∷ xs) x
first x xs = (0, omega arith, refl)

later : {X : Type 0} (x y : X) (xs : List X) → Contains xs x → Contains (y ∷ xs) x
later x y xs (k, l, e) = (suc k, omega (arith, l), e)

keeps : {X : Type 0} (test : X → Bool) (xs : List X) (x : X) → Contains xs x → test x ≡ true → Contains (filter test xs) x
keeps test [] x (k, l, e) t = absurd (omega (arith, l))
keeps test (y ∷ xs) x (zero, l, e) t = subst (λ b. Contains (cond b (y ∷ filter test xs) (filter test xs)) x) (sym (ap test e ∙ t)) (subst (λ z. Contains (z ∷ filter test xs) x) (sym e) (first x (filter test xs)))
keeps test (y ∷ xs) x (suc k, l, e) t = go (test y) (keeps test xs x (k, omega (arith, l), e) t)
  where
    go : (b : Bool) → Contains (filter test xs) x → Contains (cond b (y ∷ filter test xs) (filter test xs)) x
    go true there = later x y (filter test xs) there
    go false there = there

-- The processes.

below : (s : Setup) (j : ℕ) → Contains (processes s) j → j < s.processes
below s j (k, l, e) =
    let n = length-range_with_len 0 s.processes in
    let m : k < s.processes = omega (arith, l, n) in
    let v = get_or-range_with_len 0 s.processes k j m in
    omega (arith, e, v, m)

process : (s : Setup) (j : ℕ) → j < s.processes → Contains (processes s) j
process s j l =
    let n = length-range_with_len 0 s.processes in
    let v = get_or-range_with_len 0 s.processes j j l in
    (j, omega (arith, l, n), v ∙ (omega arith))

ascending : (n : ℕ) → AllPairs (λ i j. i < j) (range_with_len 0 n)
ascending n i j d less long =
    let m = length-range_with_len 0 n in
    let k : j < n = omega (arith, long, m) in
    let h : i < n = omega (arith, k, less) in
    let x = get_or-range_with_len 0 n i d h in
    let y = get_or-range_with_len 0 n j d k in
    omega (arith, x, y, less)

-- The processes ahead.

waits-is : (st : Stage) → is_waiting_stage st ≡ true → st ≡ stages.Waiting
waits-is stages.Waiting h = refl
waits-is _ h = cc

list-is : (s : Setup) (p : ℕ) (past : Past) → is_at_door (stage p past) ≡ true → ahead s p past ≡ filter (λ j. is_ahead past j p) (processes s)
list-is s p past q = ap (λ b. elim b as (λ _. List ℕ) [ true ↦ filter (λ j. is_ahead past j p) (processes s) | false ↦ [] ]) q

pub queued-only : (s : Setup) (p : ℕ) (past : Past) → is_at_door (stage p past) ≡ false → ahead s p past ≡ []
queued-only s p past q = ap (λ b. elim b as (λ _. List ℕ) [ true ↦ filter (λ j. is_ahead past j p) (processes s) | false ↦ [] ]) q

-- a process in the list is ahead by the look-back
ahead-is : (s : Setup) (p : ℕ) (past : Past) (j : ℕ) → Contains (ahead s p past) j → Contains (processes s) j × (is_ahead past j p ≡ true)
ahead-is s p past j h = go (is_at_door (stage p past)) refl
  where
    go : (b : Bool) → is_at_door (stage p past) ≡ b → Contains (processes s) j × (is_ahead past j p ≡ true)
    go true q = kept (λ j. is_ahead past j p) (processes s) j (subst (λ l. Contains l j) (list-is s p past q) h)
    go false q = let (k, l, e) = subst (λ l. Contains l j) (queued-only s p past q) h in absurd (omega (arith, l))

pub ahead_are : (s : Setup) (past : Past) (p : ℕ) → is_at_door (stage p past) ≡ true → (j : ℕ) → Contains (ahead s p past) j ↔ WaitsBefore s past p j
ahead_are s past p q j = (to, from)
  where
    to : Contains (ahead s p past) j → WaitsBefore s past p j
    to h =
        let (k, t) = ahead-is s p past j h in
        let (w, b) = both (is_waiting_stage (stage j past)) (is_before (doorway_end j past) (doorway_begin p past)) t in
        (below s j k, waits-is (stage j past) w, b)

    from : WaitsBefore s past p j → Contains (ahead s p past) j
    from (l, w, b) = subst (λ l. Contains l j) (sym (list-is s p past q)) (keeps (λ j. is_ahead past j p) (processes s) j (process s j l) (λ i. is_waiting_stage (w i) && b i))

pub ascends : (s : Setup) (past : Past) (p : ℕ) → AllPairs (λ i j. i < j) (ahead s p past)
ascends s past p = go (is_at_door (stage p past)) refl
  where
    go : (b : Bool) → is_at_door (stage p past) ≡ b → AllPairs (λ i j. i < j) (ahead s p past)
    go true q = subst (AllPairs (λ i j. i < j)) (sym (list-is s p past q)) (AllPairs-filter (λ i j. i < j) (λ j. is_ahead past j p) (processes s) (ascending s.processes))
    go false q = subst (AllPairs (λ i j. i < j)) (sym (queued-only s p past q)) (λ i j d less long. absurd (omega (arith, long)))

pub not_itself : (s : Setup) → IsGood s → (events : List Event) (p : ℕ) → Contains (ahead s p (past_of s events)) p → ⊥
not_itself s g events p h = true≢false (sym (ahead-is s p (past_of s events) p h).1 ∙ not_ahead_of_itself s g events p)

-- before its doorway begins, all that wait are ahead
pub all_waiters : (s : Setup) → IsGood s → (events : List Event) (p : ℕ) → stage p (past_of s events) ≡ stages.Doorway → doorway_begin p (past_of s events) ≡ None → (j : ℕ) →
    Contains (ahead s p (past_of s events)) j ↔ (stage j (past_of s events) ≡ stages.Waiting)
all_waiters s g events p st none j = (λ h. (there.0 h).1, back)
  where
    past : Past
    past = past_of s events

    there : Contains (ahead s p past) j ↔ WaitsBefore s past p j
    there = ahead_are s past p (ap is_at_door st) j

    back : stage j past ≡ stages.Waiting → Contains (ahead s p past) j
    back w =
        let x = waiter s g events j (ap is_waiting_stage w) in
        let end = (waiter-numbers s g events j x).finished_is refl in
        let l : j < s.processes = is_process s g events j (λ r. true≢false (sym (ap is_waiting_stage (sym (stage-is s g events j) ∙ w)) ∙ ap (λ d. is_waiting_stage (stage_of d)) r)) in
        there.1 (l, w, λ i. is_before (end.1 i) (none i))

pub nobody_ahead : (s : Setup) → IsGood s → IsKept s → (events : List Event) (event : Event) (e : Entry) → entry_of s (past_of s events) event ≡ Some e → IsTrue (has is_entered e) → ahead s e.process (past_of s events) ≡ []
nobody_ahead s g kept_all events event e is h = empty (ahead s e.process (past_of s events))
    (λ j at. true≢false (sym (ahead-is s e.process (past_of s events) j at).1 ∙ no_overtaking s g kept_all events event e is h j))
  where
    empty : (xs : List ℕ) → ((j : ℕ) → Contains xs j → ⊥) → xs ≡ []
    empty [] h = refl
    empty (x ∷ xs) h = absurd (h x (first x xs))
