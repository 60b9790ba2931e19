-- Opening pairs: names that differ, written one after the other.
use Rattle.std.proofs.Common.{◌≡◌, ℕ, zero, suc, ◌+◌, ◌<◌, ◌≤◌, Bool, true, false, ◌&&◌, cond, nat_lt, is_none, is_some, List, [], ◌∷◌, ◌++◌, length, drop, take, set, get_or, slice_get, slice_set, replicate, Option, Some, None, IsSome, refl, ap, sym, ◌∙◌, arith, add-one, if◌then◌else◌}
use Rattle.std.proofs.lemmas.Bool.Decides.{nat_tests}
use Rattle.std.proofs.lemmas.Slice.Eq.{bytes_eq-Decides}
use Rattle.std.proofs.lemmas.Bool.{and_from}
use Rattle.std.proofs.lemmas.List.{drop_more, length-take}
use Rattle.std.proofs.lemmas.List.Folds.{list_all_more}
use Rattle.std.proofs.lemmas.Option.{slice_get_within, get_or_from_slice_get}
use Rattle.std.specs.List.{list_all}
use Rattle.std.specs.Str.{bytes_eq}
use Rattle.plain_store.specs.{Contents, Pair, Value, after, is_new, names_differ, number_of, outcome, put, value_at, with_written}
use Rattle.plain_store.specs.declared.commands.Command.TheVariants.{Write}

-- each index below the length has an item
pub some_within : {X : Type 0} (xs : List X) (k : ℕ) → k < length xs → IsSome (slice_get xs k)
some_within [] k within = absurd (omega arith)
some_within (y ∷ ys) zero within = refl
some_within (y ∷ ys) (suc k) within = some_within ys k (omega arith)

-- the item at an index comes next
pub take-next : {X : Type 0} (xs : List X) (k : ℕ) (x : X) → slice_get xs k ≡ Some x → take (k + 1) xs ≡ take k xs ++ x ∷ []
take-next [] k x at = cc
take-next (y ∷ ys) zero x at = let same : y ≡ x = cc in ap (λ z. z ∷ []) same
take-next (y ∷ ys) (suc k) x at = rw add-one (ap (λ more. y ∷ more) (rw add-one at (take-next ys k x at)))

-- the item at an index is the first of the rest from there on
pub drop-next : {X : Type 0} (xs : List X) (k : ℕ) (x : X) → slice_get xs k ≡ Some x → drop k xs ≡ x ∷ drop (k + 1) xs
drop-next xs k x at = drop_more xs k x (slice_get_within xs k x at) ∙ ap (λ y. y ∷ drop (k + 1) xs) (get_or_from_slice_get xs k x x at)

-- a test of all items before an index, and of the next one
pub next_at : {X : Type 0} (p : X → Bool) (xs : List X) (k : ℕ) (x : X) → slice_get xs k ≡ Some x → list_all p (take k xs) ≡ true → p x ≡ true → list_all p (take (k + 1) xs) ≡ true
next_at p xs k x at all this =
    list_all_more p xs k x (slice_get_within xs k x at) ∙ and_from (list_all p (take k xs)) (p (get_or xs k x)) all (ap p (get_or_from_slice_get xs k x x at) ∙ this)

-- names that differ one way differ the other way
other_way : (a b : List ℕ) → bytes_eq a b ≡ false → bytes_eq b a ≡ false
other_way a b differ = by (bytes_eq b a) refl
  where
    by : (c : Bool) → bytes_eq b a ≡ c → bytes_eq b a ≡ false
    by true same = let turned : bytes_eq a b ≡ true = (bytes_eq-Decides a b).1 (sym ((bytes_eq-Decides b a).0 same)) in absurd (cc)
    by false same = same

-- a name that has no value differs from the name of each pair
other-name : (pairs : List Pair) (name : List ℕ) (k : ℕ) (p : Pair) → is_none (value_at pairs name) ≡ true → slice_get pairs k ≡ Some p → bytes_eq name p.0 ≡ false
other-name [] name k p absent at = cc
other-name (q ∷ qs) name k p absent at = by (other-name qs name) (bytes_eq name q.0) refl absent k at
  where
    by : ((j : ℕ) (r : Pair) → is_none (value_at qs name) ≡ true → slice_get qs j ≡ Some r → bytes_eq name r.0 ≡ false) → (c : Bool) → bytes_eq name q.0 ≡ c → is_none (cond c (Some q.1) (value_at qs name)) ≡ true → (j : ℕ) → slice_get (q ∷ qs) j ≡ Some p → bytes_eq name p.0 ≡ false
    by more true is none j at = cc
    by more false is none zero at = let same : q ≡ p = cc in ap (λ (r : Pair). bytes_eq name r.0) (sym same) ∙ is
    by more false is none (suc j) at = more j p none at

-- a name that has no value has none after a pair of another name is added at the end
absent-more : (pairs : List Pair) (name : List ℕ) (p : Pair) → is_none (value_at pairs name) ≡ true → bytes_eq name p.0 ≡ false → is_none (value_at (pairs ++ p ∷ []) name) ≡ true
absent-more [] name p absent other = ap (λ b. is_none (cond b (Some p.1) None)) other
absent-more (q ∷ qs) name p absent other = by (λ none. absent-more qs name p none other) (bytes_eq name q.0) absent
  where
    by : (is_none (value_at qs name) ≡ true → is_none (value_at (qs ++ p ∷ []) name) ≡ true) → (b : Bool) → is_none (cond b (Some q.1) (value_at qs name)) ≡ true → is_none (cond b (Some q.1) (value_at (qs ++ p ∷ []) name)) ≡ true
    by more true none = cc
    by more false none = more none

-- names differ after a pair of a new name is added at the end
pub differ-more : (pairs : List Pair) (p : Pair) → names_differ pairs ≡ true → is_some (value_at pairs p.0) ≡ false → names_differ (pairs ++ p ∷ []) ≡ true
differ-more [] p differ new = refl
differ-more (q ∷ qs) p differ new =
    let alone : is_none (value_at qs q.0) ≡ true = grind (arith, nat_tests) in
    let rest : names_differ qs ≡ true = grind (arith, nat_tests) in
    by alone (differ-more qs p rest) (bytes_eq p.0 q.0) refl new
  where
    by : is_none (value_at qs q.0) ≡ true → (is_some (value_at qs p.0) ≡ false → names_differ (qs ++ p ∷ []) ≡ true) → (b : Bool) → bytes_eq p.0 q.0 ≡ b → is_some (cond b (Some q.1) (value_at qs p.0)) ≡ false → is_none (value_at (qs ++ p ∷ []) q.0) && names_differ (qs ++ p ∷ []) ≡ true
    by alone more true is found = cc
    by alone more false is found =
        ap (λ b. b && names_differ (qs ++ p ∷ [])) (absent-more qs q.0 p alone (other_way p.0 q.0 is)) ∙ more found

-- the name of a pair has no value among the pairs before it
absent-before : (pairs : List Pair) (k : ℕ) (p : Pair) → names_differ pairs ≡ true → slice_get pairs k ≡ Some p → value_at (take k pairs) p.0 ≡ None
absent-before [] k p differ at = cc
absent-before (q ∷ qs) zero p differ at = refl
absent-before (q ∷ qs) (suc k) p differ at =
    let alone : is_none (value_at qs q.0) ≡ true = grind (arith, nat_tests) in
    let rest : names_differ qs ≡ true = grind (arith, nat_tests) in
    ap (λ b. cond b (Some q.1) (value_at (take k qs) p.0)) (other_way q.0 p.0 (other-name qs q.0 k p alone at)) ∙ absent-before qs k p rest at

-- a new name comes last
pub put-absent : (pairs : List Pair) (name : List ℕ) (x : Value) → value_at pairs name ≡ None → put pairs name x ≡ pairs ++ (name, x) ∷ []
put-absent [] name x absent = refl
put-absent (q ∷ qs) name x absent = by (put-absent qs name x) (bytes_eq name q.0) absent
  where
    by : (value_at qs name ≡ None → put qs name x ≡ qs ++ (name, x) ∷ []) → (b : Bool) → cond b (Some q.1) (value_at qs name) ≡ None → (if b then (q.0, x) ∷ qs else q ∷ put qs name x) ≡ q ∷ (qs ++ (name, x) ∷ [])
    by more true none = cc
    by more false none = ap (λ rest. q ∷ rest) (more none)

-- setting a number of 0 to 0 changes nothing
set-zero : (n k : ℕ) → set {A = ℕ} (replicate n 0) k 0 ≡ replicate n 0
set-zero zero k = refl
set-zero (suc n) zero = refl
set-zero (suc n) (suc k) = ap (λ more. 0 ∷ more) (set-zero n k)

-- the store after a write, by the value that its name had and by whether there is room
written : Contents → List ℕ → Value → Option Value → Bool → Contents
written s name x before room =
    let done = outcome before room (number_of s.numbers 0) (Write name x) in
    record { pairs = with_written s.pairs (Some name) done.written; slots = s.slots; numbers = if is_new before done.written then slice_set s.numbers 0 0 else s.numbers }

-- a write of a new name if there is room
write-absent : (s : Contents) (name : List ℕ) (x : Value) (n : ℕ) → s.numbers ≡ replicate n 0 → value_at s.pairs name ≡ None → nat_lt (length s.pairs) s.slots ≡ true → after s (Write name x) (record { process = 0; number = 0 }) ≡ record { pairs = s.pairs ++ (name, x) ∷ []; slots = s.slots; numbers = replicate n 0 }
unfolding written
write-absent s name x n zeros absent room =
    let numbers : slice_set s.numbers 0 0 ≡ replicate n 0 = ap (λ ns. slice_set ns 0 0) zeros ∙ set-zero n 0 in
    let pairs : put s.pairs name x ≡ s.pairs ++ (name, x) ∷ [] = put-absent s.pairs name x absent in
    let fits : written s name x (value_at s.pairs name) (nat_lt (length s.pairs) s.slots) ≡ written s name x None true = λ i. written s name x (absent i) (room i) in
    let made : written s name x None true ≡ record { pairs = s.pairs ++ (name, x) ∷ []; slots = s.slots; numbers = replicate n 0 } = λ i. record { pairs = pairs i; slots = s.slots; numbers = numbers i } in
    fits ∙ made

-- the opening pairs before an index, and the one that is written next
pub opened_more : (slots n : ℕ) (pairs : List Pair) (k : ℕ) (p : Pair) → names_differ pairs ≡ true → length pairs ≤ slots → slice_get pairs k ≡ Some p →
    after (record { pairs = take k pairs; slots = slots; numbers = replicate n 0 }) (Write p.0 p.1) (record { process = 0; number = 0 }) ≡ record { pairs = take (k + 1) pairs; slots = slots; numbers = replicate n 0 }
opened_more slots n pairs k p differ few at =
    let within : k < length pairs = slice_get_within pairs k p at in
    let room : length (take k pairs) < slots = omega (arith, length-take k pairs) in
    let has_room : nat_lt (length (take k pairs)) slots ≡ true = grind (arith, nat_tests) in
    write-absent (record { pairs = take k pairs; slots = slots; numbers = replicate n 0 }) p.0 p.1 n refl (absent-before pairs k p differ at) has_room
    ∙ ap (λ ps. record { pairs = ps; slots = slots; numbers = replicate n 0 }) (sym (take-next pairs k p at))
