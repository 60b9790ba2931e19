-- The bytes of an image: reading returns the store, and a write over a slot or a number is that of the store.
use Rattle.std.proofs.Common.{◌≡◌, ℕ, zero, suc, ◌+◌, ◌-◌, ◌*◌, ◌<◌, ◌≤◌, true, ◌&&◌, List, [], ◌∷◌, ◌++◌, length, take, drop, set, map, replicate, get_or, slice_get, Option, Some, None, is_none, refl, ap, sym, subst, ◌∙◌, append_assoc, arith, length-append}
use Rattle.std.specs.List.{flat_map, list_all}
use Rattle.std.proofs.Math.Seq.{take-append-add, drop-append-add}
use Rattle.std.proofs.Math.ListN.{get_or-map}
use Rattle.std.proofs.lemmas.Bool.{and_parts, and_from}
use Rattle.std.proofs.lemmas.List.{append-nil, take_at, drop_at, length-map, length-replicate, replicate-append-replicate, length-set}
use Rattle.store_image.proofs.Rows.{AllWide, length-rows_flat, rows-flat, row_at, row_over}
use Rattle.store_image.proofs.SlotBytes.{length-slot_of, length-unused_slot, length-number_bytes, number_in-number_bytes, pair_in-slot_of, is_used-slot_of}
use Rattle.store_image.specs.{IsKept, IsStore, callers_read, image_of, is_number, is_used, number_bytes, number_in, pair_in, places, rows, slot_bytes, slot_of, slots_read, store_read, unused_slot, used_read}
use Rattle.plain_store.specs.{Contents, Pair, are_pairs, empty_store, is_pair, names_differ, padded, value_at}
use Rattle.plain_store.specs.declared.commands.Value.TheVariants.{Text}

-- the parts of good pairs
good_parts : (p : Pair) (ps : List Pair) → are_pairs (p ∷ ps) ≡ true → ((is_pair p ≡ true) × (list_all is_pair ps ≡ true)) × ((is_none (value_at ps p.0) ≡ true) × (names_differ ps ≡ true))
good_parts p ps good =
    let both : ((is_pair p && list_all is_pair ps) ≡ true) × ((is_none (value_at ps p.0) && names_differ ps) ≡ true) = and_parts (is_pair p && list_all is_pair ps) (is_none (value_at ps p.0) && names_differ ps) good in
    (and_parts (is_pair p) (list_all is_pair ps) both.0, and_parts (is_none (value_at ps p.0)) (names_differ ps) both.1)

pub first_good : (p : Pair) (ps : List Pair) → are_pairs (p ∷ ps) ≡ true → is_pair p ≡ true
first_good p ps good = (good_parts p ps good).0.0

pub first_new : (p : Pair) (ps : List Pair) → are_pairs (p ∷ ps) ≡ true → is_none (value_at ps p.0) ≡ true
first_new p ps good = (good_parts p ps good).1.0

pub others_good : (p : Pair) (ps : List Pair) → are_pairs (p ∷ ps) ≡ true → are_pairs ps ≡ true
others_good p ps good = and_from (list_all is_pair ps) (names_differ ps) (good_parts p ps good).0.1 (good_parts p ps good).1.1

-- good pairs from their parts
pub good_pairs : (p : Pair) (ps : List Pair) → is_pair p ≡ true → is_none (value_at ps p.0) ≡ true → are_pairs ps ≡ true → are_pairs (p ∷ ps) ≡ true
good_pairs p ps one new rest =
    let parts : (list_all is_pair ps ≡ true) × (names_differ ps ≡ true) = and_parts (list_all is_pair ps) (names_differ ps) rest in
    and_from (is_pair p && list_all is_pair ps) (is_none (value_at ps p.0) && names_differ ps)
    (and_from (is_pair p) (list_all is_pair ps) one parts.0)
    (and_from (is_none (value_at ps p.0)) (names_differ ps) new parts.1)

-- all slots have 23 bytes
wide_unused : (n : ℕ) → AllWide 23 slot_bytes (replicate n None)
wide_unused zero = tt
wide_unused (suc n) = (length-unused_slot, wide_unused n)

pub wide_places : (pairs : List Pair) (n : ℕ) → are_pairs pairs ≡ true → AllWide 23 slot_bytes (map Some pairs ++ replicate n None)
wide_places [] n good = wide_unused n
wide_places (p ∷ ps) n good = (length-slot_of p (first_good p ps good), wide_places ps n (others_good p ps good))

pub wide_pairs : (pairs : List Pair) → are_pairs pairs ≡ true → AllWide 23 slot_bytes (map Some pairs)
wide_pairs [] good = tt
wide_pairs (p ∷ ps) good = (length-slot_of p (first_good p ps good), wide_pairs ps (others_good p ps good))

-- all numbers have 2 bytes
pub wide_numbers : (ns : List ℕ) → AllWide 2 number_bytes ns
wide_numbers [] = tt
wide_numbers (n ∷ ns) = (length-number_bytes n, wide_numbers ns)

pub length-places : (slots : ℕ) (pairs : List Pair) → length pairs ≤ slots → length (places slots pairs) ≡ slots
length-places slots pairs room = omega (arith, length-append (map Some pairs) (replicate (slots - length pairs) None), length-map {B = Option Pair} pairs Some, length-replicate {A = Option Pair} (slots - length pairs) None)

pub length-slots : (s : Contents) → IsStore s → length (flat_map slot_bytes (places s.slots s.pairs)) ≡ 23 * s.slots
length-slots s store = omega (arith, length-rows_flat 23 slot_bytes (places s.slots s.pairs) (wide_places s.pairs (s.slots - length s.pairs) store.good_pairs), length-places s.slots s.pairs store.room)

pub length-image_of : (s : Contents) → IsStore s → length (image_of s) ≡ 23 * s.slots + 2 * length s.numbers
unfolding image_of
length-image_of s store = omega (arith, length-append (flat_map slot_bytes (places s.slots s.pairs)) (flat_map number_bytes s.numbers), length-slots s store, length-rows_flat 2 number_bytes s.numbers (wide_numbers s.numbers))

-- reading the slots of pairs returns the pairs
pairs_back : (pairs : List Pair) → are_pairs pairs ≡ true → map pair_in (map slot_bytes (map Some pairs)) ≡ pairs
pairs_back [] good = refl
pairs_back (p ∷ ps) good = λ j. pair_in-slot_of p (first_good p ps good) j ∷ pairs_back ps (others_good p ps good) j

-- reading the bytes of numbers returns the numbers
numbers_back : (ns : List ℕ) → list_all is_number ns ≡ true → map number_in (map number_bytes ns) ≡ ns
numbers_back [] good = refl
numbers_back (n ∷ ns) good =
    let parts : (is_number n ≡ true) × (list_all is_number ns ≡ true) = and_parts (is_number n) (list_all is_number ns) good in
    λ j. number_in-number_bytes n parts.0 j ∷ numbers_back ns parts.1 j

-- used slots, and the bytes after them
used_first : (pairs : List Pair) (free : List (Option Pair)) (more : List ℕ) → flat_map slot_bytes (map Some pairs ++ free) ++ more ≡ flat_map slot_bytes (map Some pairs) ++ (flat_map slot_bytes free ++ more)
used_first [] free more = refl
used_first (p ∷ ps) free more =
    append_assoc (slot_of p) (flat_map slot_bytes (map Some ps ++ free)) more
    ∙ ap (λ rest. slot_of p ++ rest) (used_first ps free more)
    ∙ sym (append_assoc (slot_of p) (flat_map slot_bytes (map Some ps)) (flat_map slot_bytes free ++ more))

-- the image of a store represents the store
pub store_read-image_of : (s : Contents) (more : List ℕ) → IsStore s → store_read (length s.pairs) s.slots (length s.numbers) (image_of s ++ more) ≡ s
unfolding image_of store_read
store_read-image_of s more store =
    let slots : List ℕ = flat_map slot_bytes (places s.slots s.pairs) in
    let numbers : List ℕ = flat_map number_bytes s.numbers in
    let joined : (slots ++ numbers) ++ more ≡ slots ++ (numbers ++ more) = append_assoc slots numbers more in
    let free : List (Option Pair) = replicate (s.slots - length s.pairs) None in
    let pairs_there : map pair_in (rows 23 (length s.pairs) ((slots ++ numbers) ++ more)) ≡ s.pairs =
    ap (λ bytes. map pair_in (rows 23 (length s.pairs) bytes)) (joined ∙ used_first s.pairs free (numbers ++ more))
    ∙ ap (λ n. map pair_in (rows 23 n (flat_map slot_bytes (map Some s.pairs) ++ (flat_map slot_bytes free ++ (numbers ++ more))))) (sym (length-map {B = Option Pair} s.pairs Some))
    ∙ ap (map pair_in) (rows-flat 23 slot_bytes (map Some s.pairs) (flat_map slot_bytes free ++ (numbers ++ more)) (wide_pairs s.pairs store.good_pairs))
    ∙ pairs_back s.pairs store.good_pairs in
    let numbers_there : map number_in (rows 2 (length s.numbers) (drop (23 * s.slots) ((slots ++ numbers) ++ more))) ≡ s.numbers =
    ap (λ bytes. map number_in (rows 2 (length s.numbers) (drop (23 * s.slots) bytes))) joined
    ∙ ap (λ bytes. map number_in (rows 2 (length s.numbers) bytes)) (drop_at slots (numbers ++ more) (23 * s.slots) (length-slots s store))
    ∙ ap (map number_in) (rows-flat 2 number_bytes s.numbers more (wide_numbers s.numbers))
    ∙ numbers_back s.numbers store.good_numbers in
    λ j. record { pairs = pairs_there j; slots = s.slots; numbers = numbers_there j }

-- the fields of an image of a store
pub record IsImage (s : Contents) (used slots callers : ℕ) (bytes : List ℕ) : Type 0 where
  pub used_slots : used ≡ length s.pairs
  pub all_slots : slots ≡ s.slots
  pub all_callers : callers ≡ length s.numbers
  pub whole : bytes ≡ padded 216 (image_of s)

-- the fields represent the store
pub store_read-image : (s : Contents) (used slots callers : ℕ) (bytes : List ℕ) → IsStore s → IsImage s used slots callers bytes → store_read used slots callers bytes ≡ s
store_read-image s used slots callers bytes store image =
    (λ j. store_read (image.used_slots j) (image.all_slots j) (image.all_callers j) (image.whole j))
    ∙ store_read-image_of s (replicate (216 - length (image_of s)) 0) store

-- the fields keep the invariant
pub kept_image : (s : Contents) (used slots callers : ℕ) (bytes : List ℕ) → IsStore s → IsImage s used slots callers bytes → IsKept used slots callers bytes
kept_image s used slots callers bytes store image =
    let same : store_read used slots callers bytes ≡ s = store_read-image s used slots callers bytes store image in
    record {
      used_slots = omega (arith, image.used_slots, image.all_slots, store.room);
      few_slots = omega (arith, image.all_slots, store.few_slots);
      few_callers = omega (arith, image.all_callers, store.few_callers);
      store = subst IsStore (sym same) store;
      whole = image.whole ∙ ap (λ t. padded 216 (image_of t)) (sym same);
    }

-- the first bytes of fields with the invariant are the image of the store that they represent
pub take-kept : (used slots callers : ℕ) (bytes : List ℕ) (n : ℕ) → IsKept used slots callers bytes → n ≡ slots * 23 + callers * 2 → take n bytes ≡ image_of (store_read used slots callers bytes)
take-kept used slots callers bytes n kept long =
    let s : Contents = store_read used slots callers bytes in
    let here : length (image_of s) ≡ n = omega (arith, length-image_of s kept.store, slots_read used slots callers bytes, callers_read used slots callers bytes) in
    ap (take n) kept.whole ∙ take_at (image_of s) (replicate (216 - length (image_of s)) 0) n here

-- zeros are the image of an empty store
flat_unused : (n : ℕ) → flat_map slot_bytes (replicate n None) ≡ replicate (23 * n) 0
unfolding unused_slot
flat_unused zero = refl
flat_unused (suc n) =
    let more : 23 + 23 * n ≡ 23 * suc n = omega arith in
    ap (λ rest. replicate 23 0 ++ rest) (flat_unused n)
    ∙ replicate-append-replicate 23 (23 * n) 0
    ∙ ap (λ k. replicate k 0) more

flat_zeros : (n : ℕ) → flat_map number_bytes (replicate n 0) ≡ replicate (2 * n) 0
unfolding number_bytes
flat_zeros zero = refl
flat_zeros (suc n) =
    let more : 2 + 2 * n ≡ 2 * suc n = omega arith in
    ap (λ rest. replicate 2 0 ++ rest) (flat_zeros n)
    ∙ replicate-append-replicate 2 (2 * n) 0
    ∙ ap (λ k. replicate k 0) more

pub image_of-empty_store : (slots callers : ℕ) → image_of (empty_store slots callers) ≡ replicate (23 * slots + 2 * callers) 0
unfolding image_of
image_of-empty_store slots callers =
    let all : slots - 0 ≡ slots = omega arith in
    ap (λ k. flat_map slot_bytes (replicate k None) ++ flat_map number_bytes (replicate callers 0)) all
    ∙ (λ j. flat_unused slots j ++ flat_zeros callers j)
    ∙ replicate-append-replicate (23 * slots) (2 * callers) 0

zeros_good : (n : ℕ) → list_all is_number (replicate n 0) ≡ true
zeros_good zero = refl
zeros_good (suc n) = zeros_good n

pub IsStore-empty_store : (slots callers : ℕ) → 1 ≤ slots → slots ≤ 8 → callers ≤ 16 → IsStore (empty_store slots callers)
IsStore-empty_store slots callers some few few_callers = record {
  good_pairs = refl;
  room = omega arith;
  some_slots = some;
  few_slots = few;
  few_callers = omega (arith, length-replicate {A = ℕ} callers 0);
  good_numbers = zeros_good callers;
}

pub IsImage-empty_store : (slots callers : ℕ) (bytes : List ℕ) → 1 ≤ slots → slots ≤ 8 → callers ≤ 16 → bytes ≡ replicate 216 0 → IsImage (empty_store slots callers) 0 slots callers bytes
IsImage-empty_store slots callers bytes some few few_callers zeros =
    let n : ℕ = 23 * slots + 2 * callers in
    let remaining : n + (216 - length (replicate n 0)) ≡ 216 = omega (arith, length-replicate {A = ℕ} n 0) in
    record {
      used_slots = refl;
      all_slots = refl;
      all_callers = sym (length-replicate callers 0);
      whole =
          zeros
          ∙ ap (λ k. replicate k 0) (sym remaining)
          ∙ sym (replicate-append-replicate n (216 - length (replicate n 0)) 0)
          ∙ ap (padded 216) (sym (image_of-empty_store slots callers));
    }

-- the slot of a pair, by its index
pub slot_at : (s : Contents) (more : List ℕ) (k at : ℕ) (d : Pair) → IsStore s → k < length s.pairs → at ≡ 23 * k → take 23 (drop at (image_of s ++ more)) ≡ slot_of (get_or s.pairs k d)
unfolding image_of
slot_at s more k at d store small here =
    let slots : List ℕ = flat_map slot_bytes (places s.slots s.pairs) in
    let numbers : List ℕ = flat_map number_bytes s.numbers in
    let free : List (Option Pair) = replicate (s.slots - length s.pairs) None in
    let within : k < length (map Some s.pairs) = omega (arith, length-map {B = Option Pair} s.pairs Some) in
    ap (λ bytes. take 23 (drop at bytes)) (append_assoc slots numbers more ∙ used_first s.pairs free (numbers ++ more))
    ∙ row_at 23 slot_bytes (map Some s.pairs) (flat_map slot_bytes free ++ (numbers ++ more)) k at (Some d) (wide_pairs s.pairs store.good_pairs) within here
    ∙ ap slot_bytes (get_or-map Some s.pairs k d)

-- zeros after images of one length
padded_alike : (xs ys : List ℕ) → length xs ≡ length ys → xs ++ replicate (216 - length ys) 0 ≡ padded 216 xs
padded_alike xs ys same = ap (λ n. xs ++ replicate (216 - n) 0) (sym same)

-- a pair is written over its slot
pub slot_over : (s t : Contents) (p : Pair) (k at : ℕ) → IsStore s → IsStore t → t.slots ≡ s.slots → t.numbers ≡ s.numbers → set (places s.slots s.pairs) k (Some p) ≡ places t.slots t.pairs → k < s.slots → at ≡ 23 * k → take at (padded 216 (image_of s)) ++ (slot_of p ++ drop 23 (drop at (padded 216 (image_of s)))) ≡ padded 216 (image_of t)
unfolding image_of
slot_over s t p k at old new slots numbers written room here =
    let front : List ℕ = flat_map slot_bytes (places s.slots s.pairs) in
    let back : List ℕ = flat_map number_bytes s.numbers in
    let zeros : List ℕ = replicate (216 - length (image_of s)) 0 in
    let within : k < length (places s.slots s.pairs) = omega (arith, length-places s.slots s.pairs old.room) in
    let long : length (image_of t) ≡ length (image_of s) = omega (arith, length-image_of s old, length-image_of t new, slots, ap length numbers) in
    ap (λ bytes. take at bytes ++ (slot_of p ++ drop 23 (drop at bytes))) (append_assoc front back zeros)
    ∙ row_over 23 slot_bytes (places s.slots s.pairs) (back ++ zeros) k at (Some p) (wide_places s.pairs (s.slots - length s.pairs) old.good_pairs) within here
    ∙ sym (append_assoc (flat_map slot_bytes (set (places s.slots s.pairs) k (Some p))) back zeros)
    ∙ ap (λ places_after. (flat_map slot_bytes places_after ++ back) ++ zeros) written
    ∙ ap (λ ns. (flat_map slot_bytes (places t.slots t.pairs) ++ flat_map number_bytes ns) ++ zeros) (sym numbers)
    ∙ padded_alike (image_of t) (image_of s) long

-- a number is written over the one of a process
pub number_over : (s t : Contents) (n k at : ℕ) → IsStore s → IsStore t → t.slots ≡ s.slots → t.pairs ≡ s.pairs → set s.numbers k n ≡ t.numbers → k < length s.numbers → at ≡ 23 * s.slots + 2 * k → take at (padded 216 (image_of s)) ++ (number_bytes n ++ drop 2 (drop at (padded 216 (image_of s)))) ≡ padded 216 (image_of t)
unfolding image_of
number_over s t n k at old new slots pairs written small here =
    let front : List ℕ = flat_map slot_bytes (places s.slots s.pairs) in
    let back : List ℕ = flat_map number_bytes s.numbers in
    let zeros : List ℕ = replicate (216 - length (image_of s)) 0 in
    let on : at ≡ length front + 2 * k = omega (arith, length-slots s old, here) in
    let long : length (image_of t) ≡ length (image_of s) = omega (arith, length-image_of s old, length-image_of t new, slots, ap length written, length-set s.numbers k n) in
    ap (λ bytes. take at bytes ++ (number_bytes n ++ drop 2 (drop at bytes))) (append_assoc front back zeros)
    ∙ ap (λ m. take m (front ++ (back ++ zeros)) ++ (number_bytes n ++ drop 2 (drop m (front ++ (back ++ zeros))))) on
    ∙ ap (λ bytes. bytes ++ (number_bytes n ++ drop 2 (drop (length front + 2 * k) (front ++ (back ++ zeros))))) (take-append-add front (back ++ zeros) (2 * k))
    ∙ ap (λ bytes. (front ++ take (2 * k) (back ++ zeros)) ++ (number_bytes n ++ drop 2 bytes)) (drop-append-add front (back ++ zeros) (2 * k))
    ∙ append_assoc front (take (2 * k) (back ++ zeros)) (number_bytes n ++ drop 2 (drop (2 * k) (back ++ zeros)))
    ∙ ap (λ bytes. front ++ bytes) (row_over 2 number_bytes s.numbers zeros k (2 * k) n (wide_numbers s.numbers) small refl)
    ∙ sym (append_assoc front (flat_map number_bytes (set s.numbers k n)) zeros)
    ∙ ap (λ ns. (front ++ flat_map number_bytes ns) ++ zeros) written
    ∙ (λ j. (flat_map slot_bytes (places (sym slots j) (sym pairs j)) ++ flat_map number_bytes t.numbers) ++ zeros)
    ∙ padded_alike (image_of t) (image_of s) long

-- the number of a process, by its index
pub number_at : (s : Contents) (more : List ℕ) (k at : ℕ) → IsStore s → k < length s.numbers → at ≡ 23 * s.slots + 2 * k → take 2 (drop at (image_of s ++ more)) ≡ number_bytes (get_or s.numbers k 0)
unfolding image_of
number_at s more k at store small here =
    let front : List ℕ = flat_map slot_bytes (places s.slots s.pairs) in
    let back : List ℕ = flat_map number_bytes s.numbers in
    let on : at ≡ length front + 2 * k = omega (arith, length-slots s store, here) in
    ap (λ bytes. take 2 (drop at bytes)) (append_assoc front back more)
    ∙ ap (λ m. take 2 (drop m (front ++ (back ++ more)))) on
    ∙ ap (take 2) (drop-append-add front (back ++ more) (2 * k))
    ∙ row_at 2 number_bytes s.numbers more k (2 * k) 0 (wide_numbers s.numbers) small refl

-- fields with the invariant are those of the image of the store that they represent
pub image_kept : (s : Contents) (used slots callers : ℕ) (bytes : List ℕ) → IsKept used slots callers bytes → store_read used slots callers bytes ≡ s → IsImage s used slots callers bytes
image_kept s used slots callers bytes kept same = record {
  used_slots = sym (used_read used slots callers bytes) ∙ ap (λ t. length t.pairs) same;
  all_slots = sym (slots_read used slots callers bytes) ∙ ap (λ t. t.slots) same;
  all_callers = sym (callers_read used slots callers bytes) ∙ ap (λ t. length t.numbers) same;
  whole = kept.whole ∙ ap (λ t. padded 216 (image_of t)) same;
}

pub store_kept : (s : Contents) (used slots callers : ℕ) (bytes : List ℕ) → IsKept used slots callers bytes → store_read used slots callers bytes ≡ s → IsStore s
store_kept s used slots callers bytes kept same = subst IsStore same kept.store

-- each pair of good pairs is one
pub pair_good : (pairs : List Pair) (k : ℕ) (d : Pair) → are_pairs pairs ≡ true → k < length pairs → is_pair (get_or pairs k d) ≡ true
pair_good [] k d good small = absurd (omega arith)
pair_good (p ∷ ps) zero d good small = first_good p ps good
pair_good (p ∷ ps) (suc k) d good small = pair_good ps k d (others_good p ps good) (omega arith)

found_pair : (pairs : List Pair) (k : ℕ) (d : Pair) → k < length pairs → slice_get pairs k ≡ Some (get_or pairs k d)
found_pair [] k d small = absurd (omega arith)
found_pair (p ∷ ps) zero d small = refl
found_pair (p ∷ ps) (suc k) d small = found_pair ps k d (omega arith)

-- the bytes of a slot are those of the pair with its index
pub record IsSlotAt (s : Contents) (k : ℕ) (slot : List ℕ) : Type 0 where
  pub pair : slice_get s.pairs k ≡ Some (pair_in slot)
  pub used : is_used slot ≡ true

pub slot_there : (s : Contents) (k at : ℕ) (bytes : List ℕ) → IsStore s → bytes ≡ padded 216 (image_of s) → k < length s.pairs → at ≡ 23 * k → IsSlotAt s k (take 23 (drop at bytes))
slot_there s k at bytes store whole small here =
    let d : Pair = ([], Text []) in
    let slot : take 23 (drop at bytes) ≡ slot_of (get_or s.pairs k d) =
    ap (λ b. take 23 (drop at b)) whole ∙ slot_at s (replicate (216 - length (image_of s)) 0) k at d store small here in
    let good : is_pair (get_or s.pairs k d) ≡ true = pair_good s.pairs k d store.good_pairs small in
    record {
      pair = found_pair s.pairs k d small ∙ ap Some (sym (pair_in-slot_of (get_or s.pairs k d) good)) ∙ ap (λ b. Some (pair_in b)) (sym slot);
      used = ap is_used slot ∙ is_used-slot_of (get_or s.pairs k d) good;
    }

number_good : (ns : List ℕ) (k : ℕ) → list_all is_number ns ≡ true → k < length ns → is_number (get_or ns k 0) ≡ true
number_good [] k good small = absurd (omega arith)
number_good (n ∷ ns) zero good small = (and_parts (is_number n) (list_all is_number ns) good).0
number_good (n ∷ ns) (suc k) good small = number_good ns k (and_parts (is_number n) (list_all is_number ns) good).1 (omega arith)

-- the bytes of a number are those of the number of its process
pub number_there : (s : Contents) (k at : ℕ) (bytes : List ℕ) → IsStore s → bytes ≡ padded 216 (image_of s) → k < length s.numbers → at ≡ 23 * s.slots + 2 * k → number_in (padded 2 (take 2 (drop at bytes))) ≡ get_or s.numbers k 0
number_there s k at bytes store whole small here =
    let n : ℕ = get_or s.numbers k 0 in
    let there : take 2 (drop at bytes) ≡ number_bytes n =
    ap (λ b. take 2 (drop at b)) whole ∙ number_at s (replicate (216 - length (image_of s)) 0) k at store small here in
    let none : 2 - length (number_bytes n) ≡ 0 = omega (arith, length-number_bytes n) in
    ap (λ b. number_in (padded 2 b)) there
    ∙ ap (λ m. number_in (number_bytes n ++ replicate m 0)) none
    ∙ ap number_in (append-nil (number_bytes n))
    ∙ number_in-number_bytes n (number_good s.numbers k store.good_numbers small)
