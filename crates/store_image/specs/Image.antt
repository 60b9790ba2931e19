-- The image of a store, and the store that is read from bytes.
use Rattle.std.specs.Prelude.{◌≡◌, ℕ, zero, suc, ◌-◌, ◌*◌, ◌^◌, ◌≤◌, nat_lt, Bool, true, List, [], ◌∷◌, ◌++◌, length, take, drop, map, replicate, Option, Some, None}
use Rattle.std.proofs.Common.{refl, ap, ◌∙◌}
use Rattle.std.proofs.lemmas.List.{length-map}
use Rattle.std.specs.Int.{w16, to_be_bytes, from_be_bytes}
use Rattle.std.specs.List.{flat_map, list_all}
use Rattle.plain_store.specs.{Contents, Pair, are_pairs, padded}
use Rattle.store_image.specs.Slots.{slot_bytes, pair_in}

-- the pairs in order of first write, each in its place, and then nothing in the other slots
abbrev pub places : ℕ → List Pair → List (Option Pair)
places slots pairs = map Some pairs ++ replicate (slots - length pairs) None

-- the 2 bytes of a call number, the higher one first
unfoldable pub number_bytes : ℕ → List ℕ
number_bytes n = to_be_bytes w16 n

-- the image of a store: its slots, and then its callers' numbers
unfoldable pub image_of : Contents → List ℕ
image_of s = flat_map slot_bytes (places s.slots s.pairs) ++ flat_map number_bytes s.numbers

-- a number of 16 bits
abbrev pub is_number : ℕ → Bool
is_number n = nat_lt n (2 ^ 16)

-- the stores that have an image
pub record IsStore (s : Contents) : Type 0 where
  pub good_pairs : are_pairs s.pairs ≡ true
  pub room : length s.pairs ≤ s.slots
  pub some_slots : 1 ≤ s.slots
  pub few_slots : s.slots ≤ 8
  pub few_callers : length s.numbers ≤ 16
  pub good_numbers : list_all is_number s.numbers ≡ true

-- the first k rows of w bytes
abbrev pub rows : ℕ → ℕ → List ℕ → List (List ℕ)
rows w zero bytes = []
rows w (suc k) bytes = take w bytes ∷ rows w k (drop w bytes)

-- the number of rows
pub length-rows : (w k : ℕ) (bytes : List ℕ) → length (rows w k bytes) ≡ k
length-rows w zero bytes = refl
length-rows w (suc k) bytes = ap suc (length-rows w k (drop w bytes))

-- the call number of 2 bytes
unfoldable pub number_in : List ℕ → ℕ
number_in bytes = from_be_bytes w16 bytes

-- the store of which the first slots are used
unfoldable pub store_read : ℕ → ℕ → ℕ → List ℕ → Contents
store_read used slots callers bytes =
    record { pairs = map pair_in (rows 23 used bytes); slots = slots; numbers = map number_in (rows 2 callers (drop (23 * slots) bytes)) }

-- the numbers of pairs, slots and callers that are read
pub used_read : (used slots callers : ℕ) (bytes : List ℕ) → length (store_read used slots callers bytes).pairs ≡ used
unfolding store_read
used_read used slots callers bytes = length-map {B = Pair} (rows 23 used bytes) pair_in ∙ length-rows 23 used bytes

pub slots_read : (used slots callers : ℕ) (bytes : List ℕ) → (store_read used slots callers bytes).slots ≡ slots
unfolding store_read
slots_read used slots callers bytes = refl

pub callers_read : (used slots callers : ℕ) (bytes : List ℕ) → length (store_read used slots callers bytes).numbers ≡ callers
unfolding store_read
callers_read used slots callers bytes = length-map {B = ℕ} (rows 2 callers (drop (23 * slots) bytes)) number_in ∙ length-rows 2 callers (drop (23 * slots) bytes)

-- the invariant of the fields of an image: the bytes are the image of the store that they represent
pub record IsKept (used slots callers : ℕ) (bytes : List ℕ) : Type 0 where
  pub used_slots : used ≤ slots
  pub few_slots : slots ≤ 8
  pub few_callers : callers ≤ 16
  pub store : IsStore (store_read used slots callers bytes)
  pub whole : bytes ≡ padded 216 (image_of (store_read used slots callers bytes))
