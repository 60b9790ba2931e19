-- The effect of writing a pair at its place.
use Rattle.std.proofs.Common.{◌≡◌, ℕ, zero, suc, ◌+◌, ◌-◌, ◌*◌, ◌^◌, ◌<◌, ◌≤◌, Bool, true, false, cond, if◌then◌else◌, List, [], ◌∷◌, ◌++◌, length, take, drop, set, map, max, replicate, Option, Some, None, is_none, refl, ap, sym, ◌∙◌, arith, slice_get, option_map, nat_lt, IsSome}
use Rattle.std.specs.Str.{bytes_eq}
use Rattle.std.specs.List.{list_all}
use Rattle.std.proofs.lemmas.Bool.{and_from, and_parts}
use Rattle.std.proofs.lemmas.Bool.Decides.{nat_tests}
use Rattle.std.proofs.lemmas.List.{drop_more, drop_all, length-set}
use Rattle.std.proofs.lemmas.Option.{get_or_from_slice_get, slice_get_within}
use Rattle.std.proofs.lemmas.Slice.Eq.{bytes_eq-Decides}
use Rattle.store_image.proofs.ImageBytes.{first_good, first_new, others_good, good_pairs, IsImage, slot_over, number_over}
use Rattle.store_image.specs.{IsStore, is_number, number_bytes, place_for, place_of, places, slot_of}
use Rattle.plain_store.specs.{Command, Contents, Pair, Value, are_pairs, at_absent, is_pair, name_of, outcome, put, value_at, value_for}
use Rattle.plain_store.specs.declared.commands.Command.TheVariants.{Read, Write, Add, Cas, Ask}

-- a place is one of the pairs, or the next
pub place_of-le : (pairs : List Pair) (name : List ℕ) → place_of pairs name ≤ length pairs
place_of-le [] name = omega arith
place_of-le (e ∷ es) name = by (place_of-le es name) (bytes_eq name e.0)
  where
    by : place_of es name ≤ length es → (b : Bool) → (if b then 0 else suc (place_of es name)) ≤ suc (length es)
    by more true = omega arith
    by more false = omega arith

-- the value of the name is that at its place
pub value_at-place_of : (pairs : List Pair) (name : List ℕ) → option_map (λ (p : Pair). p.1) (slice_get pairs (place_of pairs name)) ≡ value_at pairs name
value_at-place_of [] name = refl
value_at-place_of (e ∷ es) name = by (value_at-place_of es name) (bytes_eq name e.0)
  where
    by : option_map (λ (p : Pair). p.1) (slice_get es (place_of es name)) ≡ value_at es name → (b : Bool) → option_map (λ (p : Pair). p.1) (slice_get (e ∷ es) (if b then 0 else suc (place_of es name))) ≡ cond b (Some e.1) (value_at es name)
    by more true = refl
    by more false = more

-- the number of pairs after the write
pub length-put : (pairs : List Pair) (name : List ℕ) (x : Value) → length (put pairs name x) ≡ max (length pairs) (suc (place_of pairs name))
length-put [] name x = refl
length-put (e ∷ es) name x = by (length-put es name x) (bytes_eq name e.0)
  where
    by : length (put es name x) ≡ max (length es) (suc (place_of es name)) → (b : Bool) → length (if b then (e.0, x) ∷ es else e ∷ put es name x) ≡ max (suc (length es)) (suc (if b then 0 else suc (place_of es name)))
    by more true = omega arith
    by more false = omega (arith, more)

-- the pair is in the place of its name
pub set_place : (pairs : List Pair) (name : List ℕ) (x : Value) (free remaining : ℕ) → place_of pairs name < length pairs + free → length (put pairs name x) + remaining ≡ length pairs + free → set (map Some pairs ++ replicate free None) (place_of pairs name) (Some (name, x)) ≡ map Some (put pairs name x) ++ replicate remaining None
set_place [] name x zero remaining room same = absurd (omega arith)
set_place [] name x (suc free) remaining room same =
    let this : free ≡ remaining = omega arith in
    ap (λ k. Some (name, x) ∷ replicate k None) this
set_place (e ∷ es) name x free remaining room same = by (λ near long. set_place es name x free remaining near long) (bytes_eq name e.0) ((bytes_eq-Decides name e.0).0) room same
  where
    by : (place_of es name < length es + free → length (put es name x) + remaining ≡ length es + free → set (map Some es ++ replicate free None) (place_of es name) (Some (name, x)) ≡ map Some (put es name x) ++ replicate remaining None) → (b : Bool) → (b ≡ true → name ≡ e.0) → (if b then 0 else suc (place_of es name)) < suc (length es) + free → length (if b then (e.0, x) ∷ es else e ∷ put es name x) + remaining ≡ suc (length es) + free → set (Some e ∷ (map Some es ++ replicate free None)) (if b then 0 else suc (place_of es name)) (Some (name, x)) ≡ map Some (if b then (e.0, x) ∷ es else e ∷ put es name x) ++ replicate remaining None
    by more true equal near long =
        let this : free ≡ remaining = omega arith in
        λ j. Some (equal refl j, x) ∷ (map Some es ++ replicate (this j) None)
    by more false equal near long = ap (λ rest. Some e ∷ rest) (more (omega (arith, near)) (omega (arith, long)))

-- a name other than the written one has a value exactly if it had one before
is_none-put : (pairs : List Pair) (name other : List ℕ) (x : Value) → bytes_eq other name ≡ false → is_none (value_at (put pairs name x) other) ≡ is_none (value_at pairs other)
is_none-put [] name other x differs = ap (λ b. is_none (cond b (Some x) None)) differs
is_none-put (e ∷ es) name other x differs = by (is_none-put es name other x differs) (bytes_eq name e.0)
  where
    by : is_none (value_at (put es name x) other) ≡ is_none (value_at es other) → (b : Bool) → is_none (value_at (if b then (e.0, x) ∷ es else e ∷ put es name x) other) ≡ is_none (cond (bytes_eq other e.0) (Some e.1) (value_at es other))
    by more true = here (bytes_eq other e.0)
      where
        here : (d : Bool) → is_none (cond d (Some x) (value_at es other)) ≡ is_none (cond d (Some e.1) (value_at es other))
        here true = refl
        here false = refl
    by more false = here (bytes_eq other e.0)
      where
        here : (d : Bool) → is_none (cond d (Some e.1) (value_at (put es name x) other)) ≡ is_none (cond d (Some e.1) (value_at es other))
        here true = refl
        here false = more

-- names differ both ways
pub other_way : (a b : List ℕ) → bytes_eq a b ≡ false → bytes_eq b a ≡ false
other_way a b differs = by (bytes_eq b a) refl
  where
    by : (c : Bool) → bytes_eq b a ≡ c → c ≡ false
    by false same = refl
    by true same = let bad : bytes_eq a b ≡ true = (bytes_eq-Decides a b).1 (sym ((bytes_eq-Decides b a).0 same)) in cc

-- good pairs stay good
pub are_pairs-put : (pairs : List Pair) (name : List ℕ) (x : Value) → are_pairs pairs ≡ true → is_pair (name, x) ≡ true → are_pairs (put pairs name x) ≡ true
are_pairs-put [] name x good this = good_pairs (name, x) [] this refl refl
are_pairs-put (e ∷ es) name x good this = by (are_pairs-put es name x (others_good e es good) this) (bytes_eq name e.0) refl
  where
    by : are_pairs (put es name x) ≡ true → (b : Bool) → bytes_eq name e.0 ≡ b → are_pairs (if b then (e.0, x) ∷ es else e ∷ put es name x) ≡ true
    by more true same =
        let equal : name ≡ e.0 = (bytes_eq-Decides name e.0).0 same in
        good_pairs (e.0, x) es (ap (λ n. is_pair (n, x)) (sym equal) ∙ this) (first_new e es good) (others_good e es good)
    by more false same =
        good_pairs e (put es name x) (first_good e es good) (is_none-put es name e.0 x (other_way name e.0 same) ∙ first_new e es good) more

-- a search for a name: the places before k, and the place in the rest
place_step : (pairs : List Pair) (name : List ℕ) (k : ℕ) (p : Pair) → slice_get pairs k ≡ Some p → place_of (drop k pairs) name ≡ (if bytes_eq name p.0 then 0 else suc (place_of (drop (k + 1) pairs) name))
place_step pairs name k p here =
    let within : k < length pairs = slice_get_within pairs k p here in
    ap (λ ps. place_of ps name) (drop_more pairs k p within)
    ∙ ap (λ (q : Pair). if bytes_eq name q.0 then 0 else suc (place_of (drop (k + 1) pairs) name)) (get_or_from_slice_get pairs k p p here)

pub place_found : (pairs : List Pair) (name : List ℕ) (k : ℕ) (p : Pair) → slice_get pairs k ≡ Some p → bytes_eq name p.0 ≡ true → k + place_of (drop k pairs) name ≡ place_of pairs name → k ≡ place_of pairs name
place_found pairs name k p here same passed =
    let none : place_of (drop k pairs) name ≡ 0 = place_step pairs name k p here ∙ ap (λ b. if b then 0 else suc (place_of (drop (k + 1) pairs) name)) same in
    omega arith

pub place_passed : (pairs : List Pair) (name : List ℕ) (k : ℕ) (p : Pair) → slice_get pairs k ≡ Some p → bytes_eq name p.0 ≡ false → k + place_of (drop k pairs) name ≡ place_of pairs name → (k + 1) + place_of (drop (k + 1) pairs) name ≡ place_of pairs name
place_passed pairs name k p here other passed =
    let one : place_of (drop k pairs) name ≡ suc (place_of (drop (k + 1) pairs) name) = place_step pairs name k p here ∙ ap (λ b. if b then 0 else suc (place_of (drop (k + 1) pairs) name)) other in
    omega arith

pub place_ended : (pairs : List Pair) (name : List ℕ) (k : ℕ) → length pairs ≤ k → k + place_of (drop k pairs) name ≡ place_of pairs name → k ≡ place_of pairs name
place_ended pairs name k end passed =
    let none : place_of (drop k pairs) name ≡ 0 = ap (λ ps. place_of ps name) (drop_all k pairs end) in
    omega arith

-- the store after a pair was written
abbrev pub with_pair : Contents → List ℕ → Value → Contents
with_pair s name x = record { pairs = put s.pairs name x; slots = s.slots; numbers = s.numbers }

pub IsStore-with_pair : (s : Contents) (name : List ℕ) (x : Value) → IsStore s → is_pair (name, x) ≡ true → place_of s.pairs name < s.slots → IsStore (with_pair s name x)
IsStore-with_pair s name x store good room = record {
  good_pairs = are_pairs-put s.pairs name x store.good_pairs good;
  room = omega (arith, store.room, length-put s.pairs name x);
  some_slots = store.some_slots;
  few_slots = store.few_slots;
  few_callers = store.few_callers;
  good_numbers = store.good_numbers;
}

pub IsImage-with_pair : (s : Contents) (name : List ℕ) (x : Value) (used slots callers used_then place at n : ℕ) (bytes slot : List ℕ) → IsStore s → is_pair (name, x) ≡ true → place ≡ place_of s.pairs name → place < s.slots → IsImage s used slots callers bytes → used_then ≡ max used (place + 1) → slot ≡ slot_of (name, x) → at ≡ 23 * place → n ≡ 23 → IsImage (with_pair s name x) used_then slots callers (take at bytes ++ (slot ++ drop n (drop at bytes)))
IsImage-with_pair s name x used slots callers used_then place at n bytes slot store good here room image more written start long =
    let near : place_of s.pairs name < s.slots = omega arith in
    let then_store : IsStore (with_pair s name x) = IsStore-with_pair s name x store good near in
    let in_place : set (places s.slots s.pairs) (place_of s.pairs name) (Some (name, x)) ≡ places s.slots (put s.pairs name x) =
    set_place s.pairs name x (s.slots - length s.pairs) (s.slots - length (put s.pairs name x)) (omega (arith, store.room)) (omega (arith, store.room, then_store.room)) in
    record {
      used_slots = omega (arith, more, here, image.used_slots, length-put s.pairs name x);
      all_slots = image.all_slots;
      all_callers = image.all_callers;
      whole =
          (λ j. take at (image.whole j) ++ (written j ++ drop (long j) (drop at (image.whole j))))
          ∙ slot_over s (with_pair s name x) (name, x) place at store then_store refl refl (ap (λ k. set (places s.slots s.pairs) k (Some (name, x))) here ∙ in_place) room start;
    }

-- the store after a number was written
abbrev pub with_number : Contents → ℕ → ℕ → Contents
with_number s k n = record { pairs = s.pairs; slots = s.slots; numbers = set s.numbers k n }

numbers_good : (ns : List ℕ) (k n : ℕ) → list_all is_number ns ≡ true → is_number n ≡ true → list_all is_number (set ns k n) ≡ true
numbers_good [] k n good this = refl
numbers_good (m ∷ ns) zero n good this = and_from (is_number n) (list_all is_number ns) this (and_parts (is_number m) (list_all is_number ns) good).1
numbers_good (m ∷ ns) (suc k) n good this = and_from (is_number m) (list_all is_number (set ns k n)) (and_parts (is_number m) (list_all is_number ns) good).0 (numbers_good ns k n (and_parts (is_number m) (list_all is_number ns) good).1 this)

pub IsStore-with_number : (s : Contents) (k n : ℕ) → IsStore s → n < 2 ^ 16 → IsStore (with_number s k n)
IsStore-with_number s k n store small = record {
  good_pairs = store.good_pairs;
  room = store.room;
  some_slots = store.some_slots;
  few_slots = store.few_slots;
  few_callers = omega (arith, store.few_callers, length-set s.numbers k n);
  good_numbers = numbers_good s.numbers k n store.good_numbers (grind (arith, nat_tests));
}

pub IsImage-with_number : (s : Contents) (k n used slots callers at two : ℕ) (bytes number : List ℕ) → IsStore s → n < 2 ^ 16 → k < length s.numbers → IsImage s used slots callers bytes → number ≡ number_bytes n → at ≡ 23 * s.slots + 2 * k → two ≡ 2 → IsImage (with_number s k n) used slots callers (take at bytes ++ (number ++ drop two (drop at bytes)))
IsImage-with_number s k n used slots callers at two bytes number store small within image written start long = record {
  used_slots = image.used_slots;
  all_slots = image.all_slots;
  all_callers = image.all_callers ∙ sym (length-set s.numbers k n);
  whole =
      (λ j. take at (image.whole j) ++ (written j ++ drop (long j) (drop at (image.whole j))))
      ∙ number_over s (with_number s k n) n k at store (IsStore-with_number s k n store small) refl refl refl within start;
}

-- the value in the place of a name
pub value_at_place : (pairs : List Pair) (name : List ℕ) (place : ℕ) → place ≡ place_of pairs name → option_map (λ (p : Pair). p.1) (slice_get pairs place) ≡ value_at pairs name
value_at_place pairs name place here = ap (λ k. option_map (λ (p : Pair). p.1) (slice_get pairs k)) here ∙ value_at-place_of pairs name

-- a name with a value is among the pairs
some_place : (pairs : List Pair) (name : List ℕ) (v : Value) → value_at pairs name ≡ Some v → place_of pairs name < length pairs
some_place [] name v there = cc
some_place (e ∷ es) name v there = by (λ here. some_place es name v here) (bytes_eq name e.0) there
  where
    by : (value_at es name ≡ Some v → place_of es name < length es) → (b : Bool) → cond b (Some e.1) (value_at es name) ≡ Some v → (if b then 0 else suc (place_of es name)) < suc (length es)
    by more true here = omega arith
    by more false here = omega (arith, more here)

not_some : (written : Option Value) → written ≡ None → IsSome written → ⊥
not_some None none some = cc
not_some (Some x) none some = cc

-- if no slot is free, only a name with a value is written
none_written : (last : ℕ) (command : Command) → (at_absent false last command).written ≡ None
none_written last (Read n) = refl
none_written last (Write n x) = refl
none_written last (Add n d) = refl
none_written last (Cas n x y) = refl
none_written last Ask = refl

-- a name that is written has a slot
pub written_room : (s : Contents) (command : Command) (last : ℕ) → length s.pairs ≤ s.slots → IsSome (outcome (value_for s.pairs (name_of command)) (nat_lt (length s.pairs) s.slots) last command).written → place_for s.pairs (name_of command) < s.slots
written_room s command last fits = by (name_of command) (nat_lt (length s.pairs) s.slots) refl
  where
    absent : (place : ℕ) (room : Bool) → place ≤ length s.pairs → nat_lt (length s.pairs) s.slots ≡ room → IsSome (at_absent room last command).written → place < s.slots
    absent place true near free some = let small : length s.pairs < s.slots = grind (arith, nat_tests) in omega arith
    absent place false near free some = absurd (not_some (at_absent false last command).written (none_written last command) some)

    by : (name : Option (List ℕ)) (room : Bool) → nat_lt (length s.pairs) s.slots ≡ room → IsSome (outcome (value_for s.pairs name) room last command).written → place_for s.pairs name < s.slots
    by None room free some = absent (length s.pairs) room (omega arith) free some
    by (Some name) room free some = at_name (value_at s.pairs name) refl some
      where
        at_name : (v : Option Value) → value_at s.pairs name ≡ v → IsSome (outcome v room last command).written → place_of s.pairs name < s.slots
        at_name None there some_then = absent (place_of s.pairs name) room (place_of-le s.pairs name) free some_then
        at_name (Some v) there some_then = omega (arith, some_place s.pairs name v there)
