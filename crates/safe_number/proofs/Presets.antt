-- A row whose bits are preset one after another.
use Rattle.std.proofs.Common.{◌≡◌, ℕ, ◌+◌, ◌<◌, false, cond, List, [], map, set, get_or, length, ltb, ap, sym, subst, ◌∙◌, refl, arith, inl, inr}
use Rattle.std.specs.List.{range_with_len}
use Rattle.std.proofs.lemmas.Bool.{cases_lt, lt-ltb, le-ltb}
use Rattle.std.proofs.lemmas.List.{get_or-map, ext_get_or, length-map, map-id}
use Rattle.std.proofs.lemmas.Simd.{map-map}
use Rattle.std.proofs.lemmas.List.FromFn.{length-map-range_with_len, get_or-map-range_with_len, fill_by_all}
use Rattle.reader_copies.specs.safe_bit.Cell.{Cell, new_cell}
use Rattle.reader_copies.specs.{IsAt, IsRow, IsWritten, cell_at, cell_in, preset_row}
use Rattle.reader_copies.proofs.Flags.{made-set}
use Rattle.safe_number.specs.{bit_in, preset_number}
use Rattle.safe_number.proofs.Numbers.{range_same}

-- one reader's copies once the bits below k are preset
abbrev pub cell_below : List ℕ → ℕ → List Cell → ℕ → Cell
cell_below value k copies j = cond (ltb j k) (new_cell (bit_in value j)) (cell_in copies j)

abbrev pub preset_below : List ℕ → ℕ → List Cell → List Cell
preset_below value k copies = map (cell_below value k copies) (range_with_len 0 (length copies))

pub none_below : (value : List ℕ) (copies : List Cell) → preset_below value 0 copies ≡ copies
none_below value copies = sym (fill_by_all (cell_below value 0 copies) copies (length copies) (new_cell false) refl (λ k h. ap (λ b. cond b (new_cell (bit_in value k)) (cell_in copies k)) (sym (le-ltb k 0 (omega arith)))))

pub more_below : (value : List ℕ) (k : ℕ) (copies : List Cell) → k < length copies → set (preset_below value k copies) k (new_cell (bit_in value k)) ≡ preset_below value (k + 1) copies
more_below value k copies inside =
    sym (made-set (cell_below value k copies) (cell_below value (k + 1) copies) (length copies) k (new_cell (bit_in value k)) inside
    (ap (λ b. cond b (new_cell (bit_in value k)) (cell_in copies k)) (lt-ltb k (k + 1) (omega arith)))
    (λ j below apart. ap (λ b. cond b (new_cell (bit_in value j)) (cell_in copies j)) (elim (cases_lt j k) [
      | inl h ↦ lt-ltb j (k + 1) (omega arith) ∙ sym (lt-ltb j k h)
      | inr h ↦ le-ltb j (k + 1) (omega arith) ∙ sym (le-ltb j k h)
    ])))

pub all_below : (value : List ℕ) (copies : List Cell) → preset_below value (length copies) copies ≡ map (λ k. new_cell (bit_in value k)) (range_with_len 0 (length copies))
all_below value copies = range_same (λ k. new_cell (bit_in value k)) (cell_below value (length copies) copies) (length copies) (new_cell false)
    (λ j below. ap (λ b. cond b (new_cell (bit_in value j)) (cell_in copies j)) (lt-ltb j (length copies) below))

-- two functions that agree on each list of a row
pub row_same : (f g : List Cell → List Cell) (row : List (List Cell)) → ((r : ℕ) → r < length row → f (get_or row r []) ≡ g (get_or row r [])) → map f row ≡ map g row
row_same f g row same =
    ext_get_or [] (map f row) (map g row) (length-map row f ∙ sym (length-map row g))
    (λ r below. let inside : r < length row = omega (arith, length-map row f) in
    get_or-map f row r [] [] inside ∙ same r inside ∙ sym (get_or-map g row r [] [] inside))

pub row-none : (value : List ℕ) (row : List (List Cell)) → map (preset_below value 0) row ≡ row
row-none value row = row_same (preset_below value 0) (λ x. x) row (λ r inside. none_below value (get_or row r [])) ∙ map-id row

pub row-more : (value : List ℕ) (k width : ℕ) (row : List (List Cell)) → k < width → IsRow row width → preset_row (map (preset_below value k) row) k (bit_in value k) ≡ map (preset_below value (k + 1)) row
row-more value k width row inside shape =
    map-map (λ copies. set copies k (new_cell (bit_in value k))) (preset_below value k) row
    ∙ row_same _ (preset_below value (k + 1)) row (λ r there. more_below value k (get_or row r []) (omega (arith, shape.widths r there)))

pub row-all : (value : List ℕ) (width : ℕ) (row : List (List Cell)) → IsRow row width → map (preset_below value width) row ≡ preset_number row value
row-all value width row shape =
    row_same (preset_below value width) _ row (λ r there. ap (λ n. preset_below value n (get_or row r [])) (sym (shape.widths r there)) ∙ all_below value (get_or row r []))

-- such a row keeps its shape
pub row-shape : (value : List ℕ) (k width : ℕ) (row after : List (List Cell)) → after ≡ map (preset_below value k) row → IsRow row width → IsRow after width
row-shape value k width row after is shape = record {
  readers = omega (arith, shape.readers, ap length is, length-map row (preset_below value k));
  widths = λ r there.
      let inside : r < length row = omega (arith, ap length is, length-map row (preset_below value k)) in
      ap (λ xs. length (get_or xs r [])) is ∙ ap length (get_or-map (preset_below value k) row r [] [] inside)
      ∙ length-map-range_with_len (cell_below value k (get_or row r [])) 0 (length (get_or row r [])) ∙ shape.widths r inside;
}

-- such a row keeps its bits from k on
pub row-rest : (value : List ℕ) (k width r : ℕ) (row after : List (List Cell)) → after ≡ map (preset_below value k) row → IsRow row width → k < width → r < length row → cell_at after k r ≡ cell_at row k r
row-rest value k width r row after is shape inside there =
    ap (λ xs. cell_in (get_or xs r []) k) is
    ∙ ap (λ copies. cell_in copies k) (get_or-map (preset_below value k) row r [] [] there)
    ∙ get_or-map-range_with_len (cell_below value k (get_or row r [])) 0 (length (get_or row r [])) k k (new_cell false) (omega (arith, shape.widths r there)) (omega arith)
    ∙ ap (λ b. cond b (new_cell (bit_in value k)) (cell_in (get_or row r []) k)) (le-ltb k k (omega arith))

pub same_length : (value : List ℕ) (k : ℕ) (row after : List (List Cell)) → after ≡ map (preset_below value k) row → length after ≡ length row
same_length value k row after is = ap length is ∙ length-map row (preset_below value k)

-- a preset register is written
pub preset-written : (row : List (List Cell)) (value : List ℕ) → IsWritten (preset_number row value) (bit_in value)
preset-written row value = record {
  copies = λ bit reader there.
      let cells : List Cell → List Cell = λ copies. map (λ k. new_cell (bit_in value k)) (range_with_len 0 (length copies)) in
      let inside : reader < length row = omega (arith, there.reader_in, length-map row cells) in
      let n : ℕ = length (get_or row reader []) in
      let copies : get_or (preset_number row value) reader [] ≡ cells (get_or row reader []) = get_or-map cells row reader [] [] inside in
      let within : bit < n = omega (arith, there.bit_in, ap length copies, length-map-range_with_len (λ k. new_cell (bit_in value k)) 0 n) in
      let same : cell_at (preset_number row value) bit reader ≡ new_cell (bit_in value bit) = ap (λ xs. cell_in xs bit) copies ∙ get_or-map-range_with_len (λ k. new_cell (bit_in value k)) 0 n bit bit (new_cell false) within (omega arith) in
      let P : Cell → Type 0 = λ c. IsAt c (bit_in value bit) in
      subst P (sym same) (record { closed = refl; value = refl });
}
