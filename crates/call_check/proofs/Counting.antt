-- The changes are counted place by place.
use Rattle.std.proofs.Common.{◌≡◌, ◌≢◌, ℕ, zero, suc, ◌+◌, ◌<◌, ◌≤◌, ◌==◌, ◌&&◌, Bool, true, false, cond, List, [], ◌∷◌, length, Option, Some, None, refl, sym, ap, subst, ◌∙◌, arith, eqb-true}
use Rattle.std.specs.List.{All, filter}
use Rattle.std.proofs.lemmas.Bool.{eqb-false}
use Rattle.std.proofs.lemmas.Bool.Decides.{nat_tests}
use Rattle.std.proofs.lemmas.List.Elements.{All-head, All-tail}
use Rattle.plain_store.specs.{Setup, changes}
use Rattle.call_check.specs.{Call, changes_at, is_change, is_change_from, is_place, number_of_changes, store_below}
use Rattle.call_check.proofs.InPlaces.{place_is, place_is_none}

-- one filter after another
pub filter_twice : {A : Type 0} (p q : A → Bool) (xs : List A) → filter q (filter p xs) ≡ filter (λ x. p x && q x) xs
filter_twice p q [] = refl
filter_twice p q (x ∷ xs) = by (p x) (filter_twice p q xs)
  where
    by : (b : Bool) → filter q (filter p xs) ≡ filter (λ x. p x && q x) xs → filter q (cond b (x ∷ filter p xs) (filter p xs)) ≡ cond (b && q x) (x ∷ filter (λ x. p x && q x) xs) (filter (λ x. p x && q x) xs)
    by true rest = rw rest refl
    by false rest = rest

module _ (s : Setup) (calls : List Call) where
  -- the changes at place k, of some calls
  abbrev pub changing_of : ℕ → List Call → List Call
  changing_of k xs = filter (λ (call : Call). is_place k call.placed.place && changes (store_below s calls k) call.placed.command) xs

  -- the number of changes at the places below n, among some calls
  abbrev pub counted : ℕ → List Call → ℕ
  counted zero xs = 0
  counted (suc n) xs = counted n xs + length (changing_of n xs)

  -- a call that is not a change at places below n
  counted_same : (n : ℕ) (x : Call) (xs : List Call) → ((k : ℕ) → k < n → (is_place k x.placed.place && changes (store_below s calls k) x.placed.command) ≡ false) → counted n (x ∷ xs) ≡ counted n xs
  counted_same zero x xs none = refl
  counted_same (suc n) x xs none = rw (counted_same n x xs (λ k lt. none k (omega arith)), none n (omega arith)) refl

  -- a call that is one
  counted_once : (n j : ℕ) (x : Call) (xs : List Call) → x.placed.place ≡ Some j → changes (store_below s calls j) x.placed.command ≡ true → j < n → counted n (x ∷ xs) ≡ counted n xs + 1
  counted_once zero j x xs at change lt = absurd (omega arith)
  counted_once (suc n) j x xs at change lt = by (j == n) refl (counted_once n j x xs at change)
    where
      not_here : (k : ℕ) → j ≢ k → (is_place k x.placed.place && changes (store_below s calls k) x.placed.command) ≡ false
      not_here k other = let e : (j == k) ≡ false = grind (arith, nat_tests) in rw (place_is k j x.placed.place at, e) refl

      by : (b : Bool) → (j == n) ≡ b → (j < n → counted n (x ∷ xs) ≡ counted n xs + 1) → counted n (x ∷ xs) + length (changing_of n (x ∷ xs)) ≡ (counted n xs + length (changing_of n xs)) + 1
      by true is more =
          let same : j ≡ n = eqb-true j n is in
          let before : counted n (x ∷ xs) ≡ counted n xs = counted_same n x xs (λ k less. not_here k (λ e. omega arith)) in
          let here : (is_place n x.placed.place && changes (store_below s calls n) x.placed.command) ≡ true = rw (place_is n j x.placed.place at, is) (subst (λ (m : ℕ). changes (store_below s calls m) x.placed.command ≡ true) same change) in
          let added : length (changing_of n (x ∷ xs)) ≡ suc (length (changing_of n xs)) = rw here refl in
          omega (arith, before, added)
      by false is more =
          let other : j ≢ n = eqb-false j n is in
          let before : counted n (x ∷ xs) ≡ counted n xs + 1 = more (omega arith) in
          let added : length (changing_of n (x ∷ xs)) ≡ length (changing_of n xs) = rw (not_here n other) refl in
          omega (arith, before, added)

  -- all changes are counted, if all places are below n
  counted_all : (n : ℕ) (xs : List Call) → All (λ (call : Call). (k : ℕ) → call.placed.place ≡ Some k → k < n) xs → length (filter (λ (call : Call). is_change s calls call.placed) xs) ≡ counted n xs
  counted_all n [] below = nothing n
    where
      nothing : (n : ℕ) → 0 ≡ counted n []
      nothing zero = refl
      nothing (suc n) = let before : 0 ≡ counted n [] = nothing n in omega (arith, before)
  counted_all n (x ∷ xs) below =
      by x.placed.place refl (All-head (λ (call : Call). (k : ℕ) → call.placed.place ≡ Some k → k < n) x xs below) (counted_all n xs (All-tail (λ (call : Call). (k : ℕ) → call.placed.place ≡ Some k → k < n) x xs below))
    where
      changed : List Call
      changed = filter (λ (call : Call). is_change s calls call.placed) xs

      at : (j : ℕ) → x.placed.place ≡ Some j → j < n → (b : Bool) → changes (store_below s calls j) x.placed.command ≡ b → length changed ≡ counted n xs → length (cond b (x ∷ changed) changed) ≡ counted n (x ∷ xs)
      at j is lt true change rest = let more : counted n (x ∷ xs) ≡ counted n xs + 1 = counted_once n j x xs is change lt in omega (arith, more, rest)
      at j is lt false change rest = rest ∙ sym (counted_same n x xs (λ k less. not_there k (j == k) refl))
        where
          not_there : (k : ℕ) (b : Bool) → (j == k) ≡ b → (is_place k x.placed.place && changes (store_below s calls k) x.placed.command) ≡ false
          not_there k true here = let same : j ≡ k = eqb-true j k here in rw (place_is k j x.placed.place is, here) (subst (λ (m : ℕ). changes (store_below s calls m) x.placed.command ≡ false) same change)
          not_there k false here = rw (place_is k j x.placed.place is, here) refl

      by : (o : Option ℕ) → x.placed.place ≡ o → ((k : ℕ) → o ≡ Some k → k < n) → length changed ≡ counted n xs → length (cond (is_change_from s calls x.placed o) (x ∷ changed) changed) ≡ counted n (x ∷ xs)
      by None is within rest = rest ∙ sym (counted_same n x xs (λ k less. rw (place_is_none k x.placed.place is) refl))
      by (Some j) is within rest = at j is (within j refl) (changes (store_below s calls j) x.placed.command) refl rest

  -- one at each place
  counted_ones : (n : ℕ) (xs : List Call) → ((k : ℕ) → k < n → length (changing_of k xs) ≡ 1) → counted n xs ≡ n
  counted_ones zero xs one = refl
  counted_ones (suc n) xs one = let before : counted n xs ≡ n = counted_ones n xs (λ k lt. one k (omega arith)) in omega (arith, before, one n (omega arith))

  -- the changes at a place, by one filter or two
  pub changing_is : (k : ℕ) → changes_at calls k (store_below s calls k) ≡ changing_of k calls
  changing_is k = filter_twice (λ (call : Call). is_place k call.placed.place) (λ (call : Call). changes (store_below s calls k) call.placed.command) calls

  -- if each place below c has one change, and no other place has one, there are c changes
  pub number_is : (c : ℕ) → All (λ (call : Call). (k : ℕ) → call.placed.place ≡ Some k → k < suc c) calls → ((k : ℕ) → k < c → length (changes_at calls k (store_below s calls k)) ≡ 1) → changes_at calls c (store_below s calls c) ≡ [] → number_of_changes s calls ≡ c
  number_is c below one none =
      let all : number_of_changes s calls ≡ counted c calls + length (changing_of c calls) = counted_all (suc c) calls below in
      let ones : counted c calls ≡ c = counted_ones c calls (λ k lt. sym (ap length (changing_is k)) ∙ one k lt) in
      let last : length (changing_of c calls) ≡ 0 = sym (ap length (changing_is c)) ∙ ap length none in
      omega (arith, all, ones, last)

  -- no change has a place above all
  none_of : (n k : ℕ) (xs : List Call) → All (λ (call : Call). (j : ℕ) → call.placed.place ≡ Some j → j < n) xs → n ≤ k → changing_of k xs ≡ []
  none_of n k [] below le = refl
  none_of n k (x ∷ xs) below le =
      by x.placed.place (All-head (λ (call : Call). (j : ℕ) → call.placed.place ≡ Some j → j < n) x xs below) (none_of n k xs (All-tail (λ (call : Call). (j : ℕ) → call.placed.place ≡ Some j → j < n) x xs below) le)
    where
      by : (o : Option ℕ) → ((j : ℕ) → o ≡ Some j → j < n) → changing_of k xs ≡ [] → cond (is_place k o && changes (store_below s calls k) x.placed.command) (x ∷ changing_of k xs) (changing_of k xs) ≡ []
      by None within rest = rest
      by (Some j) within rest = let lt : j < n = within j refl in let e : (j == k) ≡ false = grind (arith, nat_tests) in rw e rest

  pub none_above : (n k : ℕ) → All (λ (call : Call). (j : ℕ) → call.placed.place ≡ Some j → j < n) calls → n ≤ k → changes_at calls k (store_below s calls k) ≡ []
  none_above n k below le = changing_is k ∙ none_of n k calls below le
