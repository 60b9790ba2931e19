-- The initial memory.
use Rattle.std.proofs.Common.{◌≡◌, ℕ, zero, suc, ◌+◌, ◌*◌, ◌/◌, ◌%◌, Bool, false, cond, List, [], ◌∷◌, get_or, map, replicate, refl, sym, ap, ◌∙◌, arith, inl, inr}
use Rattle.std.specs.List.{range_with_len}
use Rattle.std.proofs.lemmas.Bool.{cases_eq, eq-eqb, ne_eqb}
use Rattle.std.proofs.lemmas.List.FromFn.{get_or-map-range_with_len}
use Rattle.std.proofs.lemmas.Simd.{map-map}
use Rattle.registers.specs.safe_bit.Cell.{Cell, new_cell}
use Rattle.plain_store.specs.{Setup, opening_store}
use Rattle.model.specs.{Field, field_number, opening_bits, width}
use Rattle.model.specs.declared.access.Field.TheVariants.{Choosing, Ticket, Commit, Stamp0, Stamp1, Image0, Image1}
use Rattle.model.specs.safe_number.{bit_in, bits_in}
use Rattle.model.proofs.safe_number.Numbers.{range_same}
use Rattle.store_image.specs.{image_of}
use Rattle.registers.specs.{field_numbered, opening_lane, opening_memory}
use Rattle.process.specs.{cells_opening, lane_with, memory_with}
use Rattle.process.proofs.Memories.{number-back}

-- a constant over a range
const-range : {X : Type 0} (x : X) (a n : ℕ) → replicate n x ≡ map (λ (k : ℕ). x) (range_with_len a n)
const-range x a zero = refl
const-range x a (suc n) = ap (λ xs. x ∷ xs) (const-range x (a + 1) n)

-- the registers that are initially 0
zero-bits : (s : Setup) (owner : ℕ) (field : Field) → (owner ≡ 0 → field ≡ Image0 → ⊥) → opening_bits s owner field ≡ []
zero-bits s zero Choosing other = refl
zero-bits s zero Ticket other = refl
zero-bits s zero Commit other = refl
zero-bits s zero Stamp0 other = refl
zero-bits s zero Stamp1 other = refl
zero-bits s zero Image0 other = absurd (other refl refl)
zero-bits s zero Image1 other = refl
zero-bits s (suc owner) field other = refl

-- the bits of the opening image, as the initial values of a lane
image-lane : (bytes : List ℕ) (w : ℕ) → map new_cell (bits_in bytes w) ≡ map (λ bit. new_cell (get_or (bits_in bytes w) bit false)) (range_with_len 0 w)
image-lane bytes w =
    map-map new_cell (bit_in bytes) (range_with_len 0 w)
    ∙ range_same (λ bit. new_cell (get_or (bits_in bytes w) bit false)) (λ bit. new_cell (bit_in bytes bit)) w (new_cell false)
    (λ bit below. ap new_cell (sym (get_or-map-range_with_len (bit_in bytes) 0 w bit bit false below (omega arith))))

-- an initial lane
lane-opens : (s : Setup) (lane : ℕ) → opening_lane s (bits_in (image_of (opening_store s)) (width s Image0)) lane ≡ lane_with (cells_opening s) s lane
lane-opens s lane =
    let register : ℕ = lane / s.processes in
    let owner : ℕ = register / 7 in
    let field : Field = field_numbered (register % 7) in
    let bytes : List ℕ = image_of (opening_store s) in
    let image : List Bool = bits_in bytes (width s Image0) in
    let none : List Cell = replicate (width s field) (new_cell false) in
    elim (cases_eq register 5) [
      | inl first ↦
          let here : field ≡ Image0 = ap (λ k. field_numbered (k % 7)) first in
          let of : owner ≡ 0 = ap (λ k. k / 7) first in
          ap (λ b. cond b (map new_cell image) none) (eq-eqb register 5 first)
          ∙ image-lane bytes (width s Image0)
          ∙ (λ i. map (λ bit. new_cell (get_or (opening_bits s (sym of i) (sym here i)) bit false)) (range_with_len 0 (width s (sym here i))))
      | inr other ↦
          let apart : owner ≡ 0 → field ≡ Image0 → ⊥ = λ of here.
          let number : register % 7 ≡ 5 = sym (number-back (register % 7) (omega arith)) ∙ ap field_number here in
          other (omega (arith, number, of)) in
          ap (λ b. cond b (map new_cell image) none) (ne_eqb register 5 other)
          ∙ const-range (new_cell false) 0 (width s field)
          ∙ (λ i. map (λ bit. new_cell (get_or (sym (zero-bits s owner field apart) i) bit false)) (range_with_len 0 (width s field)))
    ]

-- the initial memory is that of the initial cells
pub opening-with : (s : Setup) (image : List Bool) → image ≡ bits_in (image_of (opening_store s)) (width s Image0) → opening_memory s image ≡ memory_with (cells_opening s) s
opening-with s image is =
    ap (opening_memory s) is
    ∙ range_same (lane_with (cells_opening s) s) (opening_lane s (bits_in (image_of (opening_store s)) (width s Image0))) (7 * s.processes * s.processes) [] (λ lane below. lane-opens s lane)
