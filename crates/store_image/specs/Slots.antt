-- The layout of a pair in the 23 bytes of a slot.
use Rattle.std.specs.Prelude.{ℕ, ℤ, ◌==◌, Bool, ◌&&◌, if◌then◌else◌, List, ◌∷◌, ◌++◌, length, min, take, drop, replicate, slice_index, Option, Some, None}
use Rattle.std.specs.Int.{w64, to_be_bytes, from_be_bytes, cast_unsigned, cast_signed}
use Rattle.std.specs.Str.{bytes_eq}
use Rattle.plain_store.specs.{Pair, Value, is_pair, padded}
use Rattle.plain_store.specs.declared.commands.Value.TheVariants.{Count, Text}

-- the 8 bytes of a count: two's complement, the highest byte first
unfoldable pub count_bytes : ℤ → List ℕ
count_bytes c = to_be_bytes w64 (cast_unsigned w64 c)

-- the count that 8 bytes represent
unfoldable pub count_in : List ℕ → ℤ
count_in bytes = cast_signed w64 (from_be_bytes w64 bytes)

-- 1 for a counter, 2 for a text
abbrev pub kind_of : Value → ℕ
kind_of (Count c) = 1
kind_of (Text t) = 2

-- the bytes of a value, before the zeros
abbrev pub value_bytes : Value → List ℕ
value_bytes (Count c) = count_bytes c
value_bytes (Text t) = t

-- a used slot: the kind, the name after its length, the value after its length
abbrev pub slot_of : Pair → List ℕ
slot_of p = kind_of p.1 ∷ length p.0 ∷ (padded 8 p.0 ++ length (value_bytes p.1) ∷ padded 12 (value_bytes p.1))

-- an unused slot
unfoldable pub unused_slot : List ℕ
unused_slot = replicate 23 0

-- the slot of a pair, or an unused one
abbrev pub slot_bytes : Option Pair → List ℕ
slot_bytes None = unused_slot
slot_bytes (Some p) = slot_of p

-- the name in a used slot
unfoldable pub name_in : List ℕ → List ℕ
name_in slot = take (min (slice_index slot 1) 8) (drop 2 slot)

-- the text in a slot that has one
abbrev pub text_in : List ℕ → List ℕ
text_in slot = take (min (slice_index slot 10) 12) (drop 11 slot)

-- the value in a used slot
unfoldable pub value_in : List ℕ → Value
value_in slot =
    if slice_index slot 0 == 1 then Count (count_in (take 8 (drop 11 slot)))
    else Text (text_in slot)

-- the pair in a used slot
abbrev pub pair_in : List ℕ → Pair
pair_in slot = (name_in slot, value_in slot)

-- whether the bytes are an unused slot
abbrev pub is_unused : List ℕ → Bool
is_unused slot = bytes_eq slot unused_slot

-- whether the bytes are the slot of a pair
abbrev pub is_used : List ℕ → Bool
is_used slot = is_pair (pair_in slot) && bytes_eq slot (slot_of (pair_in slot))
