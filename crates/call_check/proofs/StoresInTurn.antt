-- The stores of weighing are those after the changes at lower places.
use Rattle.std.proofs.Common.{◌≡◌, ◌≢◌, ◌⊎◌, inl, inr, ℕ, zero, suc, ◌<◌, ◌≤◌, ◌==◌, ◌&&◌, nat_le, Bool, true, false, List, [], ◌∷◌, length, Option, Some, None, refl, sym, ap, subst, ◌∙◌, arith, eqb-true}
use Rattle.std.specs.List.{All}
use Rattle.std.proofs.lemmas.Bool.{eqb-false, le-leb}
use Rattle.std.proofs.lemmas.List.Elements.{All-filter, All-head, filter_passes}
use Rattle.plain_store.specs.{Contents, Setup, changes}
use Rattle.call_check.specs.{Call, after_one, calls_at, changes_at, is_one_of_several, is_place, store_after, store_at, store_below, store_through}

module _ (s : Setup) (calls : List Call) where
  -- a store comes from the one before by exactly one change
  record ComesFrom (k : ℕ) (before : Option Contents) (store : Contents) : Type 0 where
    pub old : Contents
    pub there : before ≡ Some old
    pub one : length (changes_at calls k old) ≡ 1
    pub next : store_through s old (changes_at calls k old) ≡ store

  one_after : (old store : Contents) (xs : List Call) → after_one s old xs ≡ Some store → (length xs ≡ 1) × (store_through s old xs ≡ store)
  one_after old store [] is = absurd (cc)
  one_after old store (x ∷ []) is = (refl, (cc))
  one_after old store (x ∷ y ∷ ys) is = absurd (cc)

  comes_from : (k : ℕ) (before : Option Contents) (store : Contents) → store_after s calls k before ≡ Some store → ComesFrom k before store
  comes_from k None store is = absurd (cc)
  comes_from k (Some old) store is = let both = one_after old store (changes_at calls k old) is in record { old = old; there = refl; one = both.0; next = both.1 }

  pub store_is : (n : ℕ) (store : Contents) → store_at s calls n ≡ Some store → store ≡ store_below s calls n
  store_is zero store is = cc
  store_is (suc n) store is =
      let from : ComesFrom n (store_at s calls n) store = comes_from n (store_at s calls n) store is in
      sym (subst (λ (x : Contents). store_through s x (changes_at calls n x) ≡ store) (store_is n from.old from.there) from.next)

  pub stores_before : (n k : ℕ) (store : Contents) → store_at s calls n ≡ Some store → k ≤ n → store_at s calls k ≡ Some (store_below s calls k)
  stores_before zero k store is le = let first : 0 ≡ k = omega arith in subst (λ (m : ℕ). store_at s calls m ≡ Some (store_below s calls m)) first refl
  stores_before (suc n) k store is le = by (k == suc n) refl (stores_before n k from.old from.there)
    where
      from : ComesFrom n (store_at s calls n) store
      from = comes_from n (store_at s calls n) store is

      by : (b : Bool) → (k == suc n) ≡ b → (k ≤ n → store_at s calls k ≡ Some (store_below s calls k)) → store_at s calls k ≡ Some (store_below s calls k)
      by true same more = let last : suc n ≡ k = sym (eqb-true k (suc n) same) in subst (λ (m : ℕ). store_at s calls m ≡ Some (store_below s calls m)) last (is ∙ ap Some (store_is (suc n) store is))
      by false same more = let other : k ≢ suc n = eqb-false k (suc n) same in more (omega arith)

  pub one_before : (k : ℕ) (store : Contents) → store_at s calls (suc k) ≡ Some store → length (changes_at calls k (store_below s calls k)) ≡ 1
  one_before k store is =
      let from : ComesFrom k (store_at s calls k) store = comes_from k (store_at s calls k) store is in
      subst (λ (x : Contents). length (changes_at calls k x) ≡ 1) (store_is k from.old from.there) from.one

  -- not exactly one change
  not_one : (store : Contents) (xs : List Call) → after_one s store xs ≡ None → (xs ≡ []) ⊎ (2 ≤ length xs)
  not_one store [] none = inl refl
  not_one store (x ∷ []) none = absurd (cc)
  not_one store (x ∷ y ∷ ys) none = inr (omega arith)

  all_true : (a b c : Bool) → a ≡ true → b ≡ true → c ≡ true → (a && b && c) ≡ true
  all_true true true true x y z = refl
  all_true false b c x y z = absurd (cc)
  all_true true false c x y z = absurd (cc)
  all_true true true false x y z = absurd (cc)

  -- not several calls would change the store
  not_several : (c n : ℕ) (store : Contents) (xs : List Call) → All (λ (call : Call). (is_place c call.placed.place && changes store call.placed.command && nat_le 2 n) ≡ true → ⊥) xs → All (λ (call : Call). is_place c call.placed.place ≡ true) xs → All (λ (call : Call). changes store call.placed.command ≡ true) xs → n ≡ length xs → 2 ≤ length xs → ⊥
  not_several c n store [] none at change same two = omega arith
  not_several c n store (x ∷ xs) none at change same two =
      All-head (λ (call : Call). (is_place c call.placed.place && changes store call.placed.command && nat_le 2 n) ≡ true → ⊥) x xs none
      (all_true (is_place c x.placed.place) (changes store x.placed.command) (nat_le 2 n) (All-head (λ (call : Call). is_place c call.placed.place ≡ true) x xs at) (All-head (λ (call : Call). changes store call.placed.command ≡ true) x xs change) (le-leb 2 n (omega arith)))

  -- if the stores end and no call is one of several changes, there is no change
  pub none_at_end : (c : ℕ) (store : Contents) → store_at s calls c ≡ Some store → store_at s calls (suc c) ≡ None → All (λ (call : Call). is_one_of_several calls c store call.placed ≡ true → ⊥) calls → changes_at calls c store ≡ []
  none_at_end c store is ends none = by (not_one store (changes_at calls c store) (subst (λ (o : Option Contents). store_after s calls c o ≡ None) is ends))
    where
      by : (changes_at calls c store ≡ []) ⊎ (2 ≤ length (changes_at calls c store)) → changes_at calls c store ≡ []
      by (inl empty) = empty
      by (inr two) =
          absurd (not_several c (length (changes_at calls c store)) store (changes_at calls c store)
          (All-filter (λ (call : Call). changes store call.placed.command) (λ (call : Call). is_one_of_several calls c store call.placed ≡ true → ⊥) (calls_at calls c) (All-filter (λ (call : Call). is_place c call.placed.place) (λ (call : Call). is_one_of_several calls c store call.placed ≡ true → ⊥) calls none))
          (All-filter (λ (call : Call). changes store call.placed.command) (λ (call : Call). is_place c call.placed.place ≡ true) (calls_at calls c) (filter_passes (λ (call : Call). is_place c call.placed.place) calls))
          (filter_passes (λ (call : Call). changes store call.placed.command) (calls_at calls c)) refl two)

  -- exactly one change leads to the next store
  one_leads : (store : Contents) (xs : List Call) → length xs ≡ 1 → after_one s store xs ≡ Some (store_through s store xs)
  one_leads store [] one = absurd (omega arith)
  one_leads store (x ∷ []) one = refl
  one_leads store (x ∷ y ∷ ys) one = absurd (omega arith)

  pub stores_there : (c k : ℕ) → ((j : ℕ) → j < c → length (changes_at calls j (store_below s calls j)) ≡ 1) → k ≤ c → store_at s calls k ≡ Some (store_below s calls k)
  stores_there c zero one le = refl
  stores_there c (suc k) one le =
      subst (λ (o : Option Contents). store_after s calls k o ≡ Some (store_below s calls (suc k))) (sym (stores_there c k one (omega arith))) (one_leads (store_below s calls k) (changes_at calls k (store_below s calls k)) (one k (omega arith)))

  pub ends_there : (c : ℕ) → store_at s calls c ≡ Some (store_below s calls c) → changes_at calls c (store_below s calls c) ≡ [] → store_at s calls (suc c) ≡ None
  ends_there c is empty = subst (λ (o : Option Contents). store_after s calls c o ≡ None) (sym is) (ap (λ xs. after_one s (store_below s calls c) xs) empty)
