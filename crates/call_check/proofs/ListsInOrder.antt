-- The lists are in order, if they are in order as defined over the lists.
use Rattle.std.proofs.Common.{◌≡◌, ℕ, zero, suc, ◌<◌, ◌≤◌, Bool, true, false, List, [], ◌∷◌, Option, Some, None, refl, ap, subst, arith}
use Rattle.std.specs.List.{All, AllPairs, filter, flat_map}
use Rattle.std.proofs.lemmas.List.Elements.{All-head, All-tail, filter-append}
use Rattle.plain_store.specs.{Setup, changes}
use Rattle.call_check.specs.{Call, ComesBefore, all_calls_from, call_lists_from, calls_from, is_change_from, store_below}
use Rattle.model.specs.{Placed}
use Rattle.call_check.proofs.InPlaces.{AreAbove, AreBelow, AreInOrder, AreSorted, least_after}
use Rattle.call_check.proofs.Positions.{All-front, All-rest}

-- the place of a call
abbrev pub place_of : Call → Option ℕ
place_of call = call.placed.place

-- a test of all calls, list by list or at once
pub filter_lists : (test : Call → Bool) (p : ℕ) (lists : List (List Placed)) → flat_map (λ xs. filter test xs) (call_lists_from p lists) ≡ filter test (all_calls_from p lists)
filter_lists test p [] = refl
filter_lists test p (list ∷ lists) = rw (filter_lists test (suc p) lists, filter-append test (calls_from p 0 list) (all_calls_from (suc p) lists)) refl

least_below : (change : Bool) (j k : ℕ) → (j ≤ k) × (change ≡ true → j < k) → least_after change j ≤ k
least_below true j k order = let lt : j < k = order.1 refl in omega arith
least_below false j k order = order.0

module _ (s : Setup) (calls : List Call) where
  -- the call would change store k
  abbrev pub changes_in : ℕ → Call → Bool
  changes_in k call = changes (store_below s calls k) call.placed.command

  change_at : (j : ℕ) (x : Placed) (place : Option ℕ) → place ≡ Some j → is_change_from s calls x place ≡ changes (store_below s calls j) x.command
  change_at j x None at = absurd (cc)
  change_at j x (Some m) at = let same : m ≡ j = cc in ap (λ (k : ℕ). changes (store_below s calls k) x.command) same

  above_from : (p n j : ℕ) (x : Placed) (ys : List Placed) → x.place ≡ Some j → All (ComesBefore s calls x) ys → AreAbove place_of changes_in (least_after (changes (store_below s calls j) x.command) j) (calls_from p n ys)
  above_from p n j x [] at after = tt
  above_from p n j x (y ∷ ys) at after = (
    (λ k there. least_below (changes (store_below s calls j) x.command) j k (subst (λ (b : Bool). (j ≤ k) × (b ≡ true → j < k)) (change_at j x x.place at) (All-head (ComesBefore s calls x) y ys after j k at there))),
    above_from p (suc n) j x ys at (All-tail (ComesBefore s calls x) y ys after),
  )

  sorted_from : (p n : ℕ) (xs : List Placed) → AllPairs (ComesBefore s calls) xs → AreSorted place_of changes_in (calls_from p n xs)
  sorted_from p n [] pairs = tt
  sorted_from p n (x ∷ xs) pairs = (
    (λ j at. above_from p (suc n) j x xs at (λ k d lt. pairs zero (suc k) d (omega arith) (omega arith))),
    sorted_from p (suc n) xs (λ i j d lt inside. pairs (suc i) (suc j) d (omega arith) (omega arith)),
  )

  below_from : (n : ℕ) (xs : List Call) → All (λ (call : Call). (k : ℕ) → call.placed.place ≡ Some k → k < n) xs → AreBelow place_of changes_in n xs
  below_from n [] below = tt
  below_from n (x ∷ xs) below = (All-head (λ (call : Call). (k : ℕ) → call.placed.place ≡ Some k → k < n) x xs below, below_from n xs (All-tail (λ (call : Call). (k : ℕ) → call.placed.place ≡ Some k → k < n) x xs below))

  pub in_order_from : (n p : ℕ) (lists : List (List Placed)) → All (λ (list : List Placed). AllPairs (ComesBefore s calls) list) lists → All (λ (call : Call). (k : ℕ) → call.placed.place ≡ Some k → k < n) (all_calls_from p lists) → AreInOrder place_of changes_in n (call_lists_from p lists)
  in_order_from n p [] pairs below = tt
  in_order_from n p (list ∷ lists) pairs below = (
    (
      sorted_from p 0 list (All-head (λ (list : List Placed). AllPairs (ComesBefore s calls) list) list lists pairs),
      below_from n (calls_from p 0 list) (All-front (λ (call : Call). (k : ℕ) → call.placed.place ≡ Some k → k < n) (calls_from p 0 list) (all_calls_from (suc p) lists) below),
    ),
    in_order_from n (suc p) lists (All-tail (λ (list : List Placed). AllPairs (ComesBefore s calls) list) list lists pairs) (All-rest (λ (call : Call). (k : ℕ) → call.placed.place ≡ Some k → k < n) (calls_from p 0 list) (all_calls_from (suc p) lists) below),
  )
