-- The bits that were read off a whole image are the store's: they make its bytes again, and these the store.
use Rattle.std.proofs.Common.{◌≡◌, ℕ, ℤ, zero, suc, ◌*◌, ◌/◌, ◌%◌, ◌^◌, ◌<◌, ◌-◌, true, false, List, [], ◌∷◌, ◌++◌, length, map, replicate, flat_map, None, Some, sym, ◌∙◌, arith, inl, inr}
use Rattle.std.specs.Int.{byte_at, w64, cast_unsigned}
use Rattle.std.specs.List.{AllByRecursion, list_all}
use Rattle.std.proofs.lemmas.Bool.{and_parts, cases_lt}
use Rattle.std.proofs.lemmas.Bool.Decides.{nat_tests}
use Rattle.std.proofs.lemmas.List.{get_or_past}
use Rattle.model.specs.safe_number.{AreBytes, IsBytesOf, bits_in}
use Rattle.model.proofs.safe_number.Numbers.{bit_in-past, get-bits, length_bits}
use Rattle.plain_store.specs.{Contents, Pair, Setup, Value, are_pairs, callers_of, is_name, is_name_byte, is_pair, is_text_byte, is_value, padded}
use Rattle.plain_store.specs.declared.commands.Value.TheVariants.{Count, Text}
use Rattle.model.specs.store_image.{IsImageOf, IsStore, count_bytes, image_of, kind_of, number_bytes, places, slot_bytes, slot_of, unused_slot, value_bytes}
use Rattle.model.proofs.store_image.ImageBytes.{first_good, length-image_of, others_good}
use Rattle.model.proofs.store_image.Readings.{store_in-image}
use Rattle.model.proofs.store_image.SlotBytes.{name_room, value_room}
use Rattle.model.specs.{Call, bytes_of_bits, image_bytes, store_read}
use Rattle.model.proofs.Bytes.{bytes-of-bits}
use Rattle.history_laws.proofs.Kept.{image_bits}
use Rattle.history_laws.proofs.Sound.{IsStoreOf}

-- The bytes of an image are bytes.

abbrev AreAllBytes : List ℕ → Type 0
AreAllBytes = AllByRecursion (λ b. b < 256)

joined : (xs ys : List ℕ) → AreAllBytes xs → AreAllBytes ys → AreAllBytes (xs ++ ys)
joined [] ys h k = k
joined (x ∷ xs) ys h k = (h.0, joined xs ys h.1 k)

zeros : (n : ℕ) → AreAllBytes (replicate n 0)
zeros zero = tt
zeros (suc n) = (omega arith, zeros n)

each_byte : (bytes : List ℕ) → AreAllBytes bytes → AreBytes bytes
each_byte [] h zero = omega arith
each_byte [] h (suc k) = omega arith
each_byte (b ∷ bytes) h zero = h.0
each_byte (b ∷ bytes) h (suc k) = each_byte bytes h.1 k

byte_small : (i n : ℕ) → byte_at i n < 256
byte_small zero n = omega arith
byte_small (suc i) n = let m : ℕ = n / 256 ^ suc i in let low : m % 256 < 256 = omega arith in low

number_is : (n : ℕ) → AreAllBytes (number_bytes n)
unfolding number_bytes
number_is n = (byte_small 1 n, (byte_small 0 n, tt))

count_is : (c : ℤ) → AreAllBytes (count_bytes c)
unfolding count_bytes
count_is c =
    let n : ℕ = cast_unsigned w64 c in
    (byte_small 7 n, (byte_small 6 n, (byte_small 5 n, (byte_small 4 n, (byte_small 3 n, (byte_small 2 n, (byte_small 1 n, (byte_small 0 n, tt))))))))

unused_is : AreAllBytes unused_slot
unfolding unused_slot
unused_is = zeros 23

name_is : (bytes : List ℕ) → list_all is_name_byte bytes ≡ true → AreAllBytes bytes
name_is [] all = tt
name_is (b ∷ bytes) all =
    let low : b < 256 = grind (arith, nat_tests) in
    let rest : list_all is_name_byte bytes ≡ true = grind (arith, nat_tests) in
    (low, name_is bytes rest)

text_is : (bytes : List ℕ) → list_all is_text_byte bytes ≡ true → AreAllBytes bytes
text_is [] all = tt
text_is (b ∷ bytes) all =
    let low : b < 256 = grind (arith, nat_tests) in
    let rest : list_all is_text_byte bytes ≡ true = grind (arith, nat_tests) in
    (low, text_is bytes rest)

value_is : (x : Value) → is_value x ≡ true → AreAllBytes (value_bytes x)
value_is (Count c) good = count_is c
value_is (Text t) good = text_is t (let all : list_all is_text_byte t ≡ true = grind (arith, nat_tests) in all)

kind_small : (x : Value) → kind_of x < 256
kind_small (Count c) = omega arith
kind_small (Text t) = omega arith

slot_is : (p : Pair) → is_pair p ≡ true → AreAllBytes (slot_of p)
slot_is p good =
    let parts : (is_name p.0 ≡ true) × (is_value p.1 ≡ true) = and_parts (is_name p.0) (is_value p.1) good in
    let named = name_room p.0 parts.0 in
    let wide = value_room p.1 parts.1 in
    let name : list_all is_name_byte p.0 ≡ true = is_named p.0 parts.0 in
    let long : length p.0 < 256 = omega (arith, named.1) in
    let valued : length (value_bytes p.1) < 256 = omega (arith, wide) in (
      kind_small p.1,
      (
        long,
        joined (padded 8 p.0) (length (value_bytes p.1) ∷ padded 12 (value_bytes p.1))
            (joined p.0 (replicate (8 - length p.0) 0) (name_is p.0 name) (zeros (8 - length p.0)))
            (valued, joined (value_bytes p.1) (replicate (12 - length (value_bytes p.1)) 0) (value_is p.1 parts.1) (zeros (12 - length (value_bytes p.1)))),
      ),
    )
  where
    is_named : (bytes : List ℕ) → is_name bytes ≡ true → list_all is_name_byte bytes ≡ true
    is_named bytes h = grind (arith, nat_tests)

unused_are : (n : ℕ) → AreAllBytes (flat_map slot_bytes (replicate n None))
unused_are zero = tt
unused_are (suc n) = joined unused_slot (flat_map slot_bytes (replicate n None)) unused_is (unused_are n)

slots_are : (pairs : List Pair) (n : ℕ) → are_pairs pairs ≡ true → AreAllBytes (flat_map slot_bytes (map Some pairs ++ replicate n None))
slots_are [] n good = unused_are n
slots_are (p ∷ pairs) n good =
    joined (slot_of p) (flat_map slot_bytes (map Some pairs ++ replicate n None)) (slot_is p (first_good p pairs good)) (slots_are pairs n (others_good p pairs good))

numbers_are : (ns : List ℕ) → AreAllBytes (flat_map number_bytes ns)
numbers_are [] = tt
numbers_are (n ∷ ns) = joined (number_bytes n) (flat_map number_bytes ns) (number_is n) (numbers_are ns)

image_is : (store : Contents) → IsStore store → AreAllBytes (image_of store)
unfolding image_of
image_is store good =
    joined (flat_map slot_bytes (places store.slots store.pairs)) (flat_map number_bytes store.numbers)
    (slots_are store.pairs (store.slots - length store.pairs) good.good_pairs) (numbers_are store.numbers)

-- The bits make the bytes, and the bytes the store.

-- an image of a setup has as many bytes as its register
pub length-image : (s : Setup) (store : Contents) → IsStoreOf s store → length (image_of store) ≡ image_bytes s
length-image s store is =
    let long = length-image_of store is.store in
    let slots = is.slots in
    let callers = is.callers in
    omega (arith, long, slots, callers)

-- bytes have their own bits
has_bits : (k : ℕ) (bytes : List ℕ) → length bytes ≡ k → IsBytesOf (bits_in bytes (8 * k)) bytes
has_bits k bytes many j = elim (cases_lt j (8 * k)) [
  | inl within ↦ sym (get-bits bytes (8 * k) j within)
  | inr beyond ↦
      bit_in-past bytes j (omega (arith, many, beyond))
      ∙ sym (get_or_past (bits_in bytes (8 * k)) j false (let long = length_bits bytes (8 * k) in omega (arith, long, beyond)))
]

-- the bytes that the bits of an image make are the image
pub bytes_read : (s : Setup) (store : Contents) → IsStoreOf s store → bytes_of_bits (image_bytes s) (image_bits s store) ≡ image_of store
bytes_read s store is =
    sym (bytes-of-bits (image_bytes s) (image_bits s store) (image_of store) (length_bits (image_of store) (8 * image_bytes s)) (length-image s store is)
    (each_byte (image_of store) (image_is store is.store)) (has_bits (image_bytes s) (image_of store) (length-image s store is)))

-- they are the image of the store
pub image_read : (s : Setup) (store : Contents) → IsStoreOf s store → IsImageOf (callers_of s) (bytes_of_bits (image_bytes s) (image_bits s store)) store
image_read s store is = record { store = is.store; numbers = is.callers; image = bytes_read s store is }

-- the store that is read from these bits is the store
pub store_is_read : (c : Call) (store : Contents) → IsStoreOf c.setup store → store_read c (image_bits c.setup store) ≡ store
store_is_read c store is = store_in-image c.setup.slots (callers_of c.setup) (bytes_of_bits (image_bytes c.setup) (image_bits c.setup store)) store (image_read c.setup store is) is.slots
