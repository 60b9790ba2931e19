-- A list whose members have places, sorted by place; at each place members that change nothing precede those that change. The sorted list is the list itself, if places never fall and a change has a lower place than all later members.
use Rattle.std.proofs.Common.{◌≡◌, ◌≢◌, ℕ, zero, suc, ◌<◌, ◌≤◌, ◌==◌, ◌&&◌, Bool, true, false, not, cond, List, [], ◌∷◌, ◌++◌, map, Option, Some, None, is_some, refl, sym, ap, subst, ◌∙◌, arith, eqb-true}
use Rattle.std.specs.List.{filter, flat_map}
use Rattle.std.proofs.lemmas.Bool.{eqb-false}
use Rattle.std.proofs.lemmas.Bool.Decides.{nat_tests}
use Rattle.call_check.specs.{IsMerge, is_place, of_more, of_none, over}
use Rattle.call_check.proofs.Merging.{in_turn, merge_append}

-- the least place of the members after one with place j
abbrev pub least_after : Bool → ℕ → ℕ
least_after changes j = cond changes (suc j) j

-- a member that is put to neither list
put_nowhere : {A : Type 0} (x : A) (quiet changing : List A) (here changes : Bool) → here ≡ false → cond (here && not changes) (x ∷ quiet) quiet ++ cond (here && changes) (x ∷ changing) changing ≡ quiet ++ changing
put_nowhere x quiet changing true changes not_here = absurd (cc)
put_nowhere x quiet changing false changes not_here = refl

-- a member that comes first
put_first : {A : Type 0} (x : A) (quiet changing : List A) (here changes : Bool) → here ≡ true → (changes ≡ true → quiet ≡ []) → cond (here && not changes) (x ∷ quiet) quiet ++ cond (here && changes) (x ∷ changing) changing ≡ x ∷ (quiet ++ changing)
put_first x quiet changing true true is none = rw (none refl) refl
put_first x quiet changing true false is none = refl
put_first x quiet changing false changes is none = absurd (cc)

-- the place of a member whose place is j
pub place_is : (k j : ℕ) (o : Option ℕ) → o ≡ Some j → is_place k o ≡ (j == k)
place_is k j None is = absurd (cc)
place_is k j (Some m) is = let same : m ≡ j = cc in ap (λ m. m == k) same

pub place_is_none : (k : ℕ) (o : Option ℕ) → o ≡ None → is_place k o ≡ false
place_is_none k None is = refl
place_is_none k (Some m) is = absurd (cc)

module _ {A : Type 0} (place : A → Option ℕ) (changes : ℕ → A → Bool) where
  -- the members at place k that change nothing
  abbrev pub quiet_at : ℕ → List A → List A
  quiet_at k xs = filter (λ x. is_place k (place x) && not (changes k x)) xs

  -- the members at place k that change
  abbrev pub changing_at : ℕ → List A → List A
  changing_at k xs = filter (λ x. is_place k (place x) && changes k x) xs

  -- the members at place k
  abbrev pub members_at : ℕ → List A → List A
  members_at k xs = quiet_at k xs ++ changing_at k xs

  -- the members at places below n
  abbrev pub members_below : ℕ → List A → List A
  members_below zero xs = []
  members_below (suc n) xs = members_below n xs ++ members_at n xs

  -- the members that have a place
  abbrev pub placed_of : List A → List A
  placed_of xs = filter (λ x. is_some (place x)) xs

  -- no place is below j
  abbrev pub AreAbove : ℕ → List A → Type 0
  AreAbove j [] = Unit {0}
  AreAbove j (x ∷ xs) = ((k : ℕ) → place x ≡ Some k → j ≤ k) × AreAbove j xs

  -- each place is below n
  abbrev pub AreBelow : ℕ → List A → Type 0
  AreBelow n [] = Unit {0}
  AreBelow n (x ∷ xs) = ((k : ℕ) → place x ≡ Some k → k < n) × AreBelow n xs

  -- no place falls, and after a change later places are above it
  abbrev pub AreSorted : List A → Type 0
  AreSorted [] = Unit {0}
  AreSorted (x ∷ xs) = ((j : ℕ) → place x ≡ Some j → AreAbove (least_after (changes j x) j) xs) × AreSorted xs

  above_lower : (i j : ℕ) (xs : List A) → i ≤ j → AreAbove j xs → AreAbove i xs
  above_lower i j [] le above = tt
  above_lower i j (x ∷ xs) le above = ((λ k is. let h : j ≤ k = above.0 k is in omega arith), above_lower i j xs le above.1)

  -- no member has a place below all
  none_at : (test : A → Bool) (k j : ℕ) (xs : List A) → k < j → AreAbove j xs → filter (λ x. is_place k (place x) && test x) xs ≡ []
  none_at test k j [] lt above = refl
  none_at test k j (x ∷ xs) lt above = by (place x) above.0 (none_at test k j xs lt above.1)
    where
      by : (o : Option ℕ) → ((m : ℕ) → o ≡ Some m → j ≤ m) → filter (λ x. is_place k (place x) && test x) xs ≡ [] → cond (is_place k o && test x) (x ∷ filter (λ x. is_place k (place x) && test x) xs) (filter (λ x. is_place k (place x) && test x) xs) ≡ []
      by None from rest = rest
      by (Some m) from rest = let h : j ≤ m = from m refl in let e : (m == k) ≡ false = grind (arith, nat_tests) in rw e rest

  none_below : (n j : ℕ) (xs : List A) → n ≤ j → AreAbove j xs → members_below n xs ≡ []
  none_below zero j xs le above = refl
  none_below (suc n) j xs le above =
      rw (none_below n j xs (omega arith) above, none_at (λ x. not (changes n x)) n j xs (omega arith) above, none_at (changes n) n j xs (omega arith) above) refl

  -- a member without a place
  skipped : (n : ℕ) (x : A) (xs : List A) → place x ≡ None → members_below n (x ∷ xs) ≡ members_below n xs
  skipped zero x xs none = refl
  skipped (suc n) x xs none =
      let e : members_at n (x ∷ xs) ≡ members_at n xs = put_nowhere x (quiet_at n xs) (changing_at n xs) (is_place n (place x)) (changes n x) (place_is_none n (place x) none) in
      rw (skipped n x xs none, e) refl

  -- at its own place the first member stays first
  first_at : (n j : ℕ) (x : A) (xs : List A) → place x ≡ Some j → AreAbove (least_after (changes j x) j) xs → j ≡ n → members_at n (x ∷ xs) ≡ x ∷ members_at n xs
  first_at n j x xs is above same =
      put_first x (quiet_at n xs) (changing_at n xs) (is_place n (place x)) (changes n x) (place_is n j (place x) is ∙ (grind (arith, nat_tests)))
      (λ changing. none_at (λ x. not (changes n x)) n (suc n) xs (omega arith) (subst (λ (b : Bool). AreAbove (least_after b n) xs) changing (subst (λ (m : ℕ). AreAbove (least_after (changes m x) m) xs) same above)))

  least_up : (b : Bool) (j : ℕ) (xs : List A) → AreAbove (least_after b j) xs → AreAbove j xs
  least_up true j xs above = above_lower j (suc j) xs (omega arith) above
  least_up false j xs above = above

  -- the first member stays first
  stays_first : (n j : ℕ) (x : A) (xs : List A) → place x ≡ Some j → AreAbove (least_after (changes j x) j) xs → j < n → members_below n (x ∷ xs) ≡ x ∷ members_below n xs
  stays_first zero j x xs is above lt = absurd (omega arith)
  stays_first (suc n) j x xs is above lt = by (j == n) refl (λ less. stays_first n j x xs is above less)
    where
      all_above : AreAbove j xs
      all_above = least_up (changes j x) j xs above

      by : (b : Bool) → (j == n) ≡ b → (j < n → members_below n (x ∷ xs) ≡ x ∷ members_below n xs) → members_below n (x ∷ xs) ++ members_at n (x ∷ xs) ≡ x ∷ (members_below n xs ++ members_at n xs)
      by true e more =
          let same : j ≡ n = eqb-true j n e in
          rw (first_at n j x xs is above same, none_below n j (x ∷ xs) (omega arith) ((λ k there. let h : Some j ≡ Some k = sym is ∙ there in let q : j ≡ k = cc in omega arith), all_above), none_below n j xs (omega arith) all_above) refl
      by false e more =
          let other : j ≢ n = eqb-false j n e in
          let here : members_at n (x ∷ xs) ≡ members_at n xs = put_nowhere x (quiet_at n xs) (changing_at n xs) (is_place n (place x)) (changes n x) (place_is n j (place x) is ∙ e) in
          rw (more (omega arith), here) refl

  -- the members that have a place, in the order of their places, are in their own order
  pub sorted_by_place : (n : ℕ) (xs : List A) → AreSorted xs → AreBelow n xs → members_below n xs ≡ placed_of xs
  sorted_by_place n [] sorted below = nothing n
    where
      nothing : (n : ℕ) → members_below n [] ≡ []
      nothing zero = refl
      nothing (suc n) = rw (nothing n) refl
  sorted_by_place n (x ∷ xs) sorted below = by (place x) refl (sorted_by_place n xs sorted.1 below.1)
    where
      by : (o : Option ℕ) → place x ≡ o → members_below n xs ≡ placed_of xs → members_below n (x ∷ xs) ≡ cond (is_some o) (x ∷ placed_of xs) (placed_of xs)
      by None is rest = skipped n x xs is ∙ rest
      by (Some j) is rest = stays_first n j x xs is (sorted.0 j is) (below.0 j is) ∙ ap (λ l. x ∷ l) rest

  -- the members of all lists at place k, first those that change nothing
  abbrev pub all_at : ℕ → List (List A) → List A
  all_at k lists = flat_map (quiet_at k) lists ++ flat_map (changing_at k) lists

  -- the members of all lists at places below n
  abbrev pub all_below : ℕ → List (List A) → List A
  all_below zero lists = []
  all_below (suc n) lists = all_below n lists ++ all_at n lists

  -- all lists sorted by place are a merge of the sorted lists
  merge_below : (n : ℕ) (lists : List (List A)) → IsMerge (map (members_below n) lists) (all_below n lists)
  merge_below zero [] = of_none
  merge_below zero (xs ∷ lists) = of_more (merge_below zero lists) over
  merge_below (suc n) lists = merge_append (members_below n) (members_at n) lists (merge_below n lists) (merge_append (quiet_at n) (changing_at n) lists (in_turn (quiet_at n) lists) (in_turn (changing_at n) lists))

  -- each list is sorted, with all places below n
  abbrev pub AreInOrder : ℕ → List (List A) → Type 0
  AreInOrder n [] = Unit {0}
  AreInOrder n (xs ∷ lists) = (AreSorted xs × AreBelow n xs) × AreInOrder n lists

  own_order : (n : ℕ) (lists : List (List A)) → AreInOrder n lists → map (members_below n) lists ≡ map placed_of lists
  own_order n [] ordered = refl
  own_order n (xs ∷ lists) ordered = rw (sorted_by_place n xs ordered.0.0 ordered.0.1, own_order n lists ordered.1) refl

  -- all lists sorted by place are a merge of their members that have a place
  pub sorted_is_merge : (n : ℕ) (lists : List (List A)) → AreInOrder n lists → IsMerge (map placed_of lists) (all_below n lists)
  sorted_is_merge n lists ordered = subst (λ (each : List (List A)). IsMerge each (all_below n lists)) (own_order n lists ordered) (merge_below n lists)
