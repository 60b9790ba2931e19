-- The bytes that are an image, the faults of other bytes, and the store that bytes represent.
use Rattle.std.specs.Prelude.{◌≡◌, ℕ, zero, suc, ◌+◌, ◌-◌, ◌*◌, ◌/◌, ◌<◌, ◌==◌, Bool, true, false, not, ◌&&◌, ◌||◌, List, length, take, drop, if◌then◌else◌, ◌≤◌, Option, Some, None}
use Rattle.std.specs.Int.{is_in_range}
use Rattle.std.specs.List.{list_all, list_any}
use Rattle.std.specs.Str.{bytes_eq}
use Rattle.store_image.specs.Image.{rows, image_of, store_read, is_number, IsStore}
use Rattle.store_image.specs.Slots.{name_in, is_used, is_unused}
use Rattle.plain_store.specs.{Contents, empty_store, are_pairs}
use Rattle.store_image.specs.declared.image.BadImage.{BadImage}
use Rattle.store_image.specs.declared.image.BadImage.TheVariants.{Length, Slot}

-- the bytes are the image of a store with this number of callers
pub record IsImageOf (callers : ℕ) (bytes : List ℕ) (s : Contents) : Type 0 where
  pub store : IsStore s
  pub numbers : length s.numbers ≡ callers
  pub image : bytes ≡ image_of s

-- the number of slots in n bytes
abbrev pub slot_count : ℕ → ℕ → ℕ
slot_count callers n = (n - 2 * callers) / 23

-- whether the length less 2 times the callers is 23 times 1 to 8
abbrev pub is_length : ℕ → ℕ → Bool
is_length callers n = is_in_range 1 8 (slot_count callers n) && (n == 23 * slot_count callers n + 2 * callers)

-- the number of slots, if the length is that of an image
abbrev pub slots_if_length : ℕ → ℕ → Option ℕ
slots_if_length callers n = if is_length callers n then Some (slot_count callers n) else None

-- whether one of the slots has the name
abbrev pub have_name : List (List ℕ) → List ℕ → Bool
have_name slots name = list_any (λ slot. bytes_eq name (name_in slot)) slots

-- A slot after earlier ones is unused, or it is the slot of a pair. In the second case no earlier slot is unused,
-- and no earlier slot has its name.
abbrev pub is_good_slot : List (List ℕ) → List ℕ → Bool
is_good_slot earlier slot = is_unused slot || (is_used slot && not (list_any is_unused earlier) && not (have_name earlier (name_in slot)))

-- slot k of some bytes
abbrev pub slot_in : List ℕ → ℕ → List ℕ
slot_in bytes k = take 23 (drop (23 * k) bytes)

-- whether slot k follows the rules
unfoldable pub follows_rules : List ℕ → ℕ → Bool
follows_rules bytes k = is_good_slot (rows 23 k bytes) (slot_in bytes k)

-- the lowest slot that breaks a rule
pub record IsFirstBad (slots : ℕ) (bytes : List ℕ) (k : ℕ) : Type 0 where
  pub within : k < slots
  pub bad : follows_rules bytes k ≡ false
  pub lowest : (j : ℕ) → j < k → follows_rules bytes j ≡ true

-- the fault of bytes: their length, or otherwise the lowest bad slot
abbrev pub IsFault : ℕ → List ℕ → BadImage → Type 0
IsFault callers bytes Length = is_length callers (length bytes) ≡ false
IsFault callers bytes (Slot k) = (is_length callers (length bytes) ≡ true) × IsFirstBad (slot_count callers (length bytes)) bytes k

-- the number of slots before the first unused one
abbrev pub used_in : ℕ → List ℕ → ℕ
used_in zero bytes = 0
used_in (suc k) bytes = if is_unused (take 23 bytes) then 0 else suc (used_in k (drop 23 bytes))

-- whether a store with good pairs and numbers has these bytes as its image
abbrev pub has_image : Contents → List ℕ → Bool
has_image s bytes = are_pairs s.pairs && list_all is_number s.numbers && bytes_eq (image_of s) bytes

-- the store whose image the bytes are, or the empty one if they are not an image
unfoldable pub store_in : ℕ → ℕ → List ℕ → Contents
store_in slots callers bytes =
    let s = store_read (used_in slots bytes) slots callers bytes in
    if has_image s bytes then s else empty_store slots callers

-- these bytes represent the store without pairs, for any number of slots
abbrev pub SaysNothing : ℕ → List ℕ → Type 0
SaysNothing callers bytes = (slots : ℕ) → 1 ≤ slots → slots ≤ 8 → store_in slots callers bytes ≡ empty_store slots callers
