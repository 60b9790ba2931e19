-- A property of call i of list p, for all p and i, is a property of all calls, and conversely.
use Rattle.std.proofs.Common.{◌≡◌, ℕ, zero, suc, ◌+◌, List, [], ◌∷◌, ◌++◌, Some, refl, subst, arith}
use Rattle.std.specs.List.{All, slice_get}
use Rattle.std.proofs.lemmas.List.Elements.{All-append, All-cons, All-head, All-nil, All-tail}
use Rattle.call_check.specs.{Call, all_calls, all_calls_from, calls_from}
use Rattle.model.specs.{Placed}

-- a prefix of a list
pub All-front : {A : Type 0} (P : A → Type 0) (xs ys : List A) → All P (xs ++ ys) → All P xs
All-front P [] ys all = All-nil P
All-front P (x ∷ xs) ys all = All-cons P x xs (All-head P x (xs ++ ys) all) (All-front P xs ys (All-tail P x (xs ++ ys) all))

-- the rest of a list
pub All-rest : {A : Type 0} (P : A → Type 0) (xs ys : List A) → All P (xs ++ ys) → All P ys
All-rest P [] ys all = all
All-rest P (x ∷ xs) ys all = All-rest P xs ys (All-tail P x (xs ++ ys) all)

-- call i of list p
abbrev pub call_of : ℕ → ℕ → Placed → Call
call_of p i placed = record { placed = placed; port = p; index = i }

module _ (Q : Call → Type 0) where
  -- the calls of a list whose first call is call n of list p
  each_of_list : (p n : ℕ) (list : List Placed) → ((m i : ℕ) (placed : Placed) → m ≡ n + i → slice_get list i ≡ Some placed → Q (call_of p m placed)) → All Q (calls_from p n list)
  each_of_list p n [] each = All-nil Q
  each_of_list p n (x ∷ xs) each = All-cons Q (call_of p n x) (calls_from p (suc n) xs) (each n zero x (omega arith) refl) (each_of_list p (suc n) xs (λ m i placed at there. each m (suc i) placed (omega arith) there))

  of_position : (p n m i : ℕ) (placed : Placed) (list : List Placed) → All Q (calls_from p n list) → m ≡ n + i → slice_get list i ≡ Some placed → Q (call_of p m placed)
  of_position p n m i placed [] all at there = absurd (cc)
  of_position p n m zero placed (x ∷ xs) all at there =
      let same : x ≡ placed = cc in
      let here : n ≡ m = omega arith in
      subst (λ (k : ℕ). Q (call_of p k placed)) here (subst (λ (y : Placed). Q (call_of p n y)) same (All-head Q (call_of p n x) (calls_from p (suc n) xs) all))
  of_position p n m (suc i) placed (x ∷ xs) all at there = of_position p (suc n) m i placed xs (All-tail Q (call_of p n x) (calls_from p (suc n) xs) all) (omega arith) there

  -- the calls of lists, the first of which is list n
  each_of_lists : (n : ℕ) (lists : List (List Placed)) → ((p q : ℕ) (list : List Placed) → p ≡ n + q → slice_get lists q ≡ Some list → All Q (calls_from p 0 list)) → All Q (all_calls_from n lists)
  each_of_lists n [] each = All-nil Q
  each_of_lists n (list ∷ lists) each =
      All-append Q (calls_from n 0 list) (all_calls_from (suc n) lists) (each n zero list (omega arith) refl) (each_of_lists (suc n) lists (λ p q list at there. each p (suc q) list (omega arith) there))

  of_list : (n p q : ℕ) (list : List Placed) (lists : List (List Placed)) → All Q (all_calls_from n lists) → p ≡ n + q → slice_get lists q ≡ Some list → All Q (calls_from p 0 list)
  of_list n p q list [] all at there = absurd (cc)
  of_list n p zero list (xs ∷ lists) all at there =
      let same : xs ≡ list = cc in
      let here : n ≡ p = omega arith in
      subst (λ (k : ℕ). All Q (calls_from k 0 list)) here (subst (λ (ys : List Placed). All Q (calls_from n 0 ys)) same (All-front Q (calls_from n 0 xs) (all_calls_from (suc n) lists) all))
  of_list n p (suc q) list (xs ∷ lists) all at there = of_list (suc n) p q list lists (All-rest Q (calls_from n 0 xs) (all_calls_from (suc n) lists) all) (omega arith) there

  -- a property of each position is a property of all calls
  pub each_call : (lists : List (List Placed)) → ((p i : ℕ) (list : List Placed) (placed : Placed) → slice_get lists p ≡ Some list → slice_get list i ≡ Some placed → Q (call_of p i placed)) → All Q (all_calls lists)
  each_call lists each = each_of_lists 0 lists by
    where
      inner : (p : ℕ) (list : List Placed) → slice_get lists p ≡ Some list → (m i : ℕ) (placed : Placed) → m ≡ 0 + i → slice_get list i ≡ Some placed → Q (call_of p m placed)
      inner p list there m i placed at here = let same : i ≡ m = omega arith in each p m list placed there (subst (λ (k : ℕ). slice_get list k ≡ Some placed) same here)

      by : (p q : ℕ) (list : List Placed) → p ≡ 0 + q → slice_get lists q ≡ Some list → All Q (calls_from p 0 list)
      by p q list at there = let same : q ≡ p = omega arith in each_of_list p 0 list (inner p list (subst (λ (k : ℕ). slice_get lists k ≡ Some list) same there))

  -- a property of all calls is a property of a position
  pub call_at : (lists : List (List Placed)) → All Q (all_calls lists) → (p i : ℕ) (list : List Placed) (placed : Placed) → slice_get lists p ≡ Some list → slice_get list i ≡ Some placed → Q (call_of p i placed)
  call_at lists all p i list placed there here = of_position p 0 i i placed list (of_list 0 p p list lists all (omega arith) there) (omega arith) here
