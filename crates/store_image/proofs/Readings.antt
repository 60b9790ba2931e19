-- Reading bytes gives a store exactly if all slots follow the rules.
use Rattle.std.proofs.Common.{◌≡◌, ℕ, zero, suc, ◌+◌, ◌-◌, ◌*◌, ◌<◌, ◌≤◌, ◌⊎◌, inl, inr, Bool, true, false, not, ◌&&◌, ◌||◌, cond, if◌then◌else◌, List, [], ◌∷◌, ◌++◌, length, take, drop, map, replicate, get_or, Option, Some, None, is_none, refl, ap, sym, ◌∙◌, subst, append_assoc, arith}
use Rattle.std.specs.List.{flat_map, list_all, list_any}
use Rattle.std.specs.Str.{bytes_eq}
use Rattle.std.proofs.lemmas.Bool.{and_from, and_parts, cases_lt}
use Rattle.std.proofs.lemmas.Bool.Decides.{nat_tests}
use Rattle.std.proofs.lemmas.List.{append-nil, length-drop, length-map, get_or-drop, take_at, drop_at}
use Rattle.std.proofs.lemmas.Slice.Eq.{bytes_eq-Decides}
use Rattle.store_image.proofs.ImageBytes.{first_good, first_new, others_good, pair_good, wide_places, length-places, length-image_of, store_read-image_of, IsImage}
use Rattle.store_image.proofs.Puts.{other_way}
use Rattle.store_image.proofs.ReadBytes.{IsReadTo, read_all, numbers_back, none_unused, front_small}
use Rattle.store_image.proofs.Rows.{rows_joined, flat_rows, rows_front, row_at}
use Rattle.store_image.proofs.SlotBytes.{is_used-slot_of, is_unused-slot_of, is_unused-unused_slot, name_in-slot_of, length-unused_slot, length-slot_of}
use Rattle.store_image.specs.{IsImageOf, IsStore, callers_read, follows_rules, has_image, have_name, image_of, is_good_slot, is_length, is_number, is_unused, is_used, length-rows, name_in, number_bytes, number_in, places, rows, slot_bytes, slot_count, slot_in, slot_of, slots_read, store_in, store_read, unused_slot, used_in, used_read}
use Rattle.plain_store.specs.{Contents, Pair, are_pairs, empty_store, is_pair, padded, value_at}
use Rattle.plain_store.specs.declared.commands.Value.TheVariants.{Text}

-- two bytes give a number of 16 bits
number_small : (bytes : List ℕ) → ((i : ℕ) → get_or bytes i 0 < 256) → is_number (number_in bytes) ≡ true
unfolding number_in
number_small bytes small =
    let high : get_or bytes 0 0 < 256 = small 0 in
    let low : get_or bytes 1 0 < 256 = small 1 in
    grind (arith, nat_tests)

drop_small : (bytes : List ℕ) (n i : ℕ) → ((j : ℕ) → get_or bytes j 0 < 256) → get_or (drop n bytes) i 0 < 256
drop_small bytes n i small = subst (λ (m : ℕ). m < 256) (sym (get_or-drop n bytes i 0)) (small (n + i))

numbers_small : (k : ℕ) (bytes : List ℕ) → ((i : ℕ) → get_or bytes i 0 < 256) → list_all is_number (map number_in (rows 2 k bytes)) ≡ true
numbers_small zero bytes small = refl
numbers_small (suc k) bytes small =
    and_from (is_number (number_in (take 2 bytes))) (list_all is_number (map number_in (rows 2 k (drop 2 bytes))))
    (number_small (take 2 bytes) (λ i. front_small bytes i (small i)))
    (numbers_small k (drop 2 bytes) (λ i. drop_small bytes 2 i small))

-- bytes whose slots all follow the rules are the image of a store
pub image_read : (callers slots : ℕ) (bytes : List ℕ) → callers ≤ 16 → 1 ≤ slots → slots ≤ 8 → length bytes ≡ 23 * slots + 2 * callers → ((i : ℕ) → get_or bytes i 0 < 256) → ((j : ℕ) → j < slots → follows_rules bytes j ≡ true) → (s : Contents) × IsImageOf callers bytes s
unfolding image_of
image_read callers slots bytes few_callers some few long small follow =
    let read : (pairs : List Pair) × IsReadTo bytes slots pairs = read_all bytes slots follow in
    let tail : List ℕ = drop (23 * slots) bytes in
    let numbers : List ℕ = map number_in (rows 2 callers tail) in
    let count : length numbers ≡ callers = length-map {B = ℕ} (rows 2 callers tail) number_in ∙ length-rows 2 callers tail in
    let tail_small : (i : ℕ) → get_or tail i 0 < 256 = λ (i : ℕ). drop_small bytes (23 * slots) i small in
    let tail_long : length tail ≡ 2 * callers = omega (arith, length-drop (23 * slots) bytes, long) in (
      record { pairs = read.0; slots = slots; numbers = numbers },
      record {
        store = record {
          good_pairs = read.1.good;
          room = read.1.fits;
          some_slots = some;
          few_slots = few;
          few_callers = omega (arith, count);
          good_numbers = numbers_small callers tail tail_small;
        };
        numbers = count;
        image =
            sym (rows_joined 23 slots bytes)
            ∙ ap (λ slots_read. flat_map (λ row. row) slots_read ++ tail) read.1.slots
            ∙ ap (λ front. front ++ tail) (flat_rows slot_bytes (places slots read.0))
            ∙ ap (λ back. flat_map slot_bytes (places slots read.0) ++ back) (sym (numbers_back callers tail tail_long tail_small));
      },
    )

-- the length of an image
pub image_length : (callers : ℕ) (bytes : List ℕ) (s : Contents) → IsImageOf callers bytes s → length bytes ≡ 23 * s.slots + 2 * callers
image_length callers bytes s image = omega (arith, ap length image.image, length-image_of s image.store, image.numbers)

pub image_slots : (callers : ℕ) (bytes : List ℕ) (s : Contents) → IsImageOf callers bytes s → slot_count callers (length bytes) ≡ s.slots
image_slots callers bytes s image = omega (arith, image_length callers bytes s image)

pub image_is_length : (callers : ℕ) (bytes : List ℕ) (s : Contents) → IsImageOf callers bytes s → is_length callers (length bytes) ≡ true
image_is_length callers bytes s image =
    let slots : slot_count callers (length bytes) ≡ s.slots = image_slots callers bytes s image in
    let long : length bytes ≡ 23 * s.slots + 2 * callers = image_length callers bytes s image in
    let some : 1 ≤ s.slots = image.store.some_slots in
    let few : s.slots ≤ 8 = image.store.few_slots in
    grind (arith, nat_tests)

-- no earlier slot has the name of a pair
none_at : (pairs : List Pair) (name : List ℕ) (i : ℕ) (d : Pair) → is_none (value_at pairs name) ≡ true → i < length pairs → bytes_eq name (get_or pairs i d).0 ≡ false
none_at [] name i d none small = absurd (omega arith)
none_at (e ∷ es) name i d none small = by (λ j rest near. none_at es name j d rest near) (bytes_eq name e.0) refl i none small
  where
    by : ((j : ℕ) → is_none (value_at es name) ≡ true → j < length es → bytes_eq name (get_or es j d).0 ≡ false) → (b : Bool) → bytes_eq name e.0 ≡ b → (i : ℕ) → is_none (cond b (Some e.1) (value_at es name)) ≡ true → i < suc (length es) → bytes_eq name (get_or (e ∷ es) i d).0 ≡ false
    by more true same i none small = cc
    by more false same zero none small = same
    by more false same (suc i) none small = more i none (omega arith)

no_name : (pairs : List Pair) (j : ℕ) (d : Pair) → are_pairs pairs ≡ true → j < length pairs → have_name (map slot_bytes (map Some (take j pairs))) (get_or pairs j d).0 ≡ false
no_name [] j d good small = absurd (omega arith)
no_name (p ∷ ps) zero d good small = refl
no_name (p ∷ ps) (suc i) d good small =
    let name : List ℕ = (get_or ps i d).0 in
    let other : bytes_eq name p.0 ≡ false = other_way p.0 name (none_at ps p.0 i d (first_new p ps good) (omega arith)) in
    ap (λ n. bytes_eq name n || have_name (map slot_bytes (map Some (take i ps))) name) (name_in-slot_of p (first_good p ps good))
    ∙ ap (λ b. b || have_name (map slot_bytes (map Some (take i ps))) name) other
    ∙ no_name ps i d (others_good p ps good) (omega arith)

-- the pairs in the first places
places_take : (pairs : List Pair) (n j : ℕ) → j ≤ length pairs → take j (map Some pairs ++ replicate n None) ≡ map Some (take j pairs)
places_take pairs n zero small = refl
places_take [] n (suc j) small = absurd (omega arith)
places_take (p ∷ ps) n (suc j) small = ap (λ rest. Some p ∷ rest) (places_take ps n j (omega arith))

place_some : (pairs : List Pair) (n j : ℕ) (d : Pair) → j < length pairs → get_or (map Some pairs ++ replicate n None) j None ≡ Some (get_or pairs j d)
place_some [] n j d small = absurd (omega arith)
place_some (p ∷ ps) n zero d small = refl
place_some (p ∷ ps) n (suc j) d small = place_some ps n j d (omega arith)

place_none : (pairs : List Pair) (n j : ℕ) → length pairs ≤ j → get_or (map Some pairs ++ replicate n None) j None ≡ None
place_none [] zero j past = refl
place_none [] (suc n) zero past = refl
place_none [] (suc n) (suc j) past = place_none [] n j (omega arith)
place_none (p ∷ ps) n zero past = absurd (omega arith)
place_none (p ∷ ps) n (suc j) past = place_none ps n j (omega arith)

-- each slot of an image follows the rules
good_place : (pairs : List Pair) (n j : ℕ) → are_pairs pairs ≡ true → is_good_slot (map slot_bytes (take j (map Some pairs ++ replicate n None))) (slot_bytes (get_or (map Some pairs ++ replicate n None) j None)) ≡ true
good_place pairs n j good = by (cases_lt j (length pairs))
  where
    d : Pair
    d = ([], Text [])

    earlier : List (List ℕ)
    earlier = map slot_bytes (take j (map Some pairs ++ replicate n None))

    by : (j < length pairs) ⊎ (length pairs ≤ j) → is_good_slot earlier (slot_bytes (get_or (map Some pairs ++ replicate n None) j None)) ≡ true
    by (inr past) =
        ap (λ (p : Option Pair). is_good_slot earlier (slot_bytes p)) (place_none pairs n j past)
        ∙ ap (λ b. b || (is_used unused_slot && not (list_any is_unused earlier) && not (have_name earlier (name_in unused_slot)))) is_unused-unused_slot
    by (inl small) =
        let p : Pair = get_or pairs j d in
        let one : is_pair p ≡ true = pair_good pairs j d good small in
        let before : take j (map Some pairs ++ replicate n None) ≡ map Some (take j pairs) = places_take pairs n j (omega (arith, small)) in
        let used : is_used (slot_of p) ≡ true = is_used-slot_of p one in
        let none : list_any is_unused earlier ≡ false = ap (λ ps. list_any is_unused (map slot_bytes ps)) before ∙ none_unused (take j pairs) in
        let new : have_name earlier (name_in (slot_of p)) ≡ false =
        ap (λ ps. have_name (map slot_bytes ps) (name_in (slot_of p))) before
        ∙ ap (λ name. have_name (map slot_bytes (map Some (take j pairs))) name) (name_in-slot_of p one)
        ∙ no_name pairs j d good small in
        ap (λ (q : Option Pair). is_good_slot earlier (slot_bytes q)) (place_some pairs n j d small)
        ∙ (λ i. is_unused-slot_of p i || (used i && not (none i) && not (new i)))

pub image_follows : (callers : ℕ) (bytes : List ℕ) (s : Contents) → IsImageOf callers bytes s → (j : ℕ) → j < s.slots → follows_rules bytes j ≡ true
unfolding follows_rules image_of
image_follows callers bytes s image j small =
    let n : ℕ = s.slots - length s.pairs in
    let more : List ℕ = flat_map number_bytes s.numbers in
    let wide = wide_places s.pairs n image.store.good_pairs in
    let within : j < length (places s.slots s.pairs) = omega (arith, length-places s.slots s.pairs image.store.room) in
    ap (λ b. is_good_slot (rows 23 j b) (slot_in b j)) image.image
    ∙ (λ i. is_good_slot (rows_front 23 slot_bytes (places s.slots s.pairs) more j wide (omega (arith, within)) i) (row_at 23 slot_bytes (places s.slots s.pairs) more j (23 * j) None wide within refl i))
    ∙ good_place s.pairs n j image.store.good_pairs

-- the number of used slots in an image
used_flat : (pairs : List Pair) (k n : ℕ) (more : List ℕ) → are_pairs pairs ≡ true → length pairs + n ≡ k → used_in k (flat_map slot_bytes (map Some pairs ++ replicate n None) ++ more) ≡ length pairs
used_flat [] zero n more good all = refl
used_flat [] (suc k) zero more good all = absurd (omega arith)
used_flat [] (suc k) (suc n) more good all =
    let rest : List ℕ = flat_map slot_bytes (replicate n None) in
    let first : take 23 ((unused_slot ++ rest) ++ more) ≡ unused_slot = ap (take 23) (append_assoc unused_slot rest more) ∙ take_at unused_slot (rest ++ more) 23 length-unused_slot in
    ap (λ b. if b then 0 else suc (used_in k (drop 23 ((unused_slot ++ rest) ++ more)))) (ap is_unused first ∙ is_unused-unused_slot)
used_flat (p ∷ ps) zero n more good all = absurd (omega arith)
used_flat (p ∷ ps) (suc k) n more good all =
    let rest : List ℕ = flat_map slot_bytes (map Some ps ++ replicate n None) in
    let joined : (slot_of p ++ rest) ++ more ≡ slot_of p ++ (rest ++ more) = append_assoc (slot_of p) rest more in
    let long : length (slot_of p) ≡ 23 = length-slot_of p (first_good p ps good) in
    ap (λ b. if is_unused (take 23 b) then 0 else suc (used_in k (drop 23 b))) joined
    ∙ ap (λ slot. if is_unused slot then 0 else suc (used_in k (drop 23 (slot_of p ++ (rest ++ more))))) (take_at (slot_of p) (rest ++ more) 23 long)
    ∙ ap (λ b. if b then 0 else suc (used_in k (drop 23 (slot_of p ++ (rest ++ more))))) (is_unused-slot_of p)
    ∙ ap (λ b. suc (used_in k b)) (drop_at (slot_of p) (rest ++ more) 23 long)
    ∙ ap suc (used_flat ps k n more (others_good p ps good) (omega arith))

pub used_in-image_of : (s : Contents) (more : List ℕ) → IsStore s → used_in s.slots (image_of s ++ more) ≡ length s.pairs
unfolding image_of
used_in-image_of s more store =
    ap (used_in s.slots) (append_assoc (flat_map slot_bytes (places s.slots s.pairs)) (flat_map number_bytes s.numbers) more)
    ∙ used_flat s.pairs s.slots (s.slots - length s.pairs) (flat_map number_bytes s.numbers ++ more) store.good_pairs (omega (arith, store.room))

pub used_in-le : (k : ℕ) (bytes : List ℕ) → used_in k bytes ≤ k
used_in-le zero bytes = omega arith
used_in-le (suc k) bytes = by (used_in-le k (drop 23 bytes)) (is_unused (take 23 bytes))
  where
    by : used_in k (drop 23 bytes) ≤ k → (b : Bool) → (if b then 0 else suc (used_in k (drop 23 bytes))) ≤ suc k
    by more true = omega arith
    by more false = omega (arith, more)

-- the fields of the image that was read
pub IsImage-read : (callers slots used : ℕ) (bytes : List ℕ) (s : Contents) → IsImageOf callers bytes s → s.slots ≡ slots → used ≡ used_in slots bytes → IsImage s used slots callers (padded 216 bytes)
IsImage-read callers slots used bytes s image all counted = record {
  used_slots =
      counted
      ∙ (λ j. used_in (sym all j) (image.image j))
      ∙ ap (used_in s.slots) (sym (append-nil (image_of s)))
      ∙ used_in-image_of s [] image.store;
  all_slots = sym all;
  all_callers = sym image.numbers;
  whole = ap (padded 216) image.image;
}

-- the store whose image the bytes are
pub store_in-image : (slots callers : ℕ) (bytes : List ℕ) (s : Contents) → IsImageOf callers bytes s → s.slots ≡ slots → store_in slots callers bytes ≡ s
unfolding store_in
store_in-image slots callers bytes s image all =
    let count : used_in slots bytes ≡ length s.pairs =
    (λ j. used_in (sym all j) (image.image j)) ∙ ap (used_in s.slots) (sym (append-nil (image_of s))) ∙ used_in-image_of s [] image.store in
    let read : store_read (used_in slots bytes) slots callers bytes ≡ s =
    (λ j. store_read (count j) (sym all j) (sym image.numbers j) (image.image j))
    ∙ ap (store_read (length s.pairs) s.slots (length s.numbers)) (sym (append-nil (image_of s)))
    ∙ store_read-image_of s [] image.store in
    let test : has_image s bytes ≡ true =
    and_from (are_pairs s.pairs && list_all is_number s.numbers) (bytes_eq (image_of s) bytes)
    (and_from (are_pairs s.pairs) (list_all is_number s.numbers) image.store.good_pairs image.store.good_numbers)
    ((bytes_eq-Decides (image_of s) bytes).1 (sym image.image)) in
    ap (λ t. if has_image t bytes then t else empty_store slots callers) read
    ∙ ap (λ b. if b then s else empty_store slots callers) test

-- the bytes are the image of the store that they represent, or that store is empty
pub store_in_cases : (slots callers : ℕ) (bytes : List ℕ) → 1 ≤ slots → slots ≤ 8 → callers ≤ 16 → IsImageOf callers bytes (store_in slots callers bytes) ⊎ (store_in slots callers bytes ≡ empty_store slots callers)
unfolding store_in
store_in_cases slots callers bytes some few few_callers = by (has_image read bytes) refl
  where
    used : ℕ
    used = used_in slots bytes

    read : Contents
    read = store_read used slots callers bytes

    by : (b : Bool) → has_image read bytes ≡ b → IsImageOf callers bytes (if b then read else empty_store slots callers) ⊎ ((if b then read else empty_store slots callers) ≡ empty_store slots callers)
    by false same = inr refl
    by true same =
        let both : ((are_pairs read.pairs && list_all is_number read.numbers) ≡ true) × (bytes_eq (image_of read) bytes ≡ true) = and_parts (are_pairs read.pairs && list_all is_number read.numbers) (bytes_eq (image_of read) bytes) same in
        let good : (are_pairs read.pairs ≡ true) × (list_all is_number read.numbers ≡ true) = and_parts (are_pairs read.pairs) (list_all is_number read.numbers) both.0 in
        inl (record {
          store = record {
            good_pairs = good.0;
            room = omega (arith, used_read used slots callers bytes, slots_read used slots callers bytes, used_in-le slots bytes);
            some_slots = omega (arith, slots_read used slots callers bytes);
            few_slots = omega (arith, slots_read used slots callers bytes);
            few_callers = omega (arith, callers_read used slots callers bytes);
            good_numbers = good.1;
          };
          numbers = callers_read used slots callers bytes;
          image = sym ((bytes_eq-Decides (image_of read) bytes).0 both.1);
        })
