-- Copies, sixty-four to a place, as a list of cells.
use Rattle.std.proofs.Common.{◌≡◌, ◌≢◌, ℕ, ◌+◌, ◌*◌, ◌/◌, ◌%◌, ◌<◌, ◌≤◌, Bool, true, false, cond, List, map, set, get_or, length, replicate, refl, sym, subst, ◌∙◌, arith, ap, ◌⊎◌, inl, inr}
use Rattle.safe_bit.specs.Cell.{Cell, new_cell, without_read}
use Rattle.std.proofs.lemmas.Bool.{cases_eq, cases_lt}
use Rattle.std.proofs.lemmas.List.{get_or-set_same, get_or-set_other, get_or-replicate, length-replicate, length-map, get_or-map, get_or_default}
use Rattle.std.proofs.lemmas.List.FromFn.{length-map-range_with_len, get_or-map-range_with_len, fill_by_all}
use Rattle.reader_copies.specs.declared.copies.Flags.{Flags}
use Rattle.reader_copies.specs.{AreAlike, IsMask, SetsFlag, bits_of_words, cell_among, cell_in, cell_in_flags, cells_of, flag_in, open_flags, over, without_unused_flag, without_unused_flags}
use Rattle.std.specs.List.{range_with_len}
use Rattle.reader_copies.proofs.Words.{bit-found, length-bits}
use Rattle.reader_copies.proofs.Over.{length-over, over-inside, over-outside}
use Rattle.reader_copies.proofs.Flags.{cell, flag-both, flag-zero, same_cell}

pub length_cells : (flags : List Flags) (n : ℕ) → length (cells_of flags n) ≡ n
length_cells flags n = length-map-range_with_len (cell_among flags) 0 n

-- copy k of those that were seen
cells-among : (flags : List Flags) (len k : ℕ) (cells : List Cell) → cells_of flags len ≡ cells → k < length cells → cell_among flags k ≡ cell_in cells k
cells-among flags len k cells seen inside =
    sym (get_or-map-range_with_len (cell_among flags) 0 len k k (new_cell false) (omega (arith, length_cells flags len, ap length seen)) (omega arith)) ∙ ap (λ x. cell_in x k) seen

-- cells are those of flags where each of them is
cells-each : (flags : List Flags) (cells : List Cell) (len : ℕ) → length cells ≡ len → ((k : ℕ) → k < len → cell_in cells k ≡ cell_among flags k) → cells_of flags len ≡ cells
cells-each flags cells len long each = sym (fill_by_all (cell_among flags) cells len (new_cell false) long each)

-- the cells that are read in the word of copy k
pub cells-read : {at : Flags} {cells : List Cell} (flags : List Flags) (len k i : ℕ) → cells_of flags len ≡ cells → length flags ≡ (len + 63) / 64 → at ≡ get_or flags (k / 64) at → i < length cells → i / 64 ≡ k / 64 → cell_in_flags at (i % 64) ≡ cell_in cells i
cells-read {at} {cells} flags len k i seen many read inside same =
    ap (λ x. cell_in_flags x (i % 64)) (read ∙ get_or_default flags (k / 64) at (open_flags 0) (omega (arith, many, length_cells flags len, ap length seen)) ∙ ap (λ p. get_or flags p (open_flags 0)) (sym same))
    ∙ cells-among flags len i cells seen inside

-- n copies of that word change
cells-over : {at : Flags} {cells : List Cell} (flags : List Flags) (len k n : ℕ) (now : Flags) → cells_of flags len ≡ cells → length flags ≡ (len + 63) / 64 → at ≡ get_or flags (k / 64) at → k % 64 + n ≤ 64 → k + n ≤ length cells → 1 ≤ n → (f : ℕ → Cell → Cell) →
    ((j : ℕ) → k ≤ j → j < k + n → cell_in_flags now (j % 64) ≡ f j (cell_in_flags at (j % 64))) →
    ((j : ℕ) → j / 64 ≡ k / 64 → (j < k) ⊎ (k + n ≤ j) → cell_in_flags now (j % 64) ≡ cell_in_flags at (j % 64)) →
    cells_of (set flags (k / 64) now) len ≡ over n f k cells
cells-over {at} {cells} flags len k n now seen many read word there some f inside outside =
    let long : length cells ≡ len = ap length (sym seen) ∙ length_cells flags len in
    let new : List Flags = set flags (k / 64) now in
    cells-each new (over n f k cells) len (length-over n f k cells ∙ long)
    (λ j below.
    let within : j < length cells = omega arith in
    elim (cases_eq (j / 64) (k / 64)) [
      | inl e ↦
          let was : cell_in cells j ≡ cell_in_flags at (j % 64) = sym (cells-read flags len k j seen many read within e) in
          let is : cell_in_flags now (j % 64) ≡ cell_among new j =
          ap (λ x. cell_in_flags x (j % 64)) (sym (get_or-set_same flags (k / 64) now (open_flags 0) (omega (arith, many)))) ∙ ap (λ p. cell_in_flags (get_or new p (open_flags 0)) (j % 64)) (sym e) in
          elim (cases_lt j k) [
            | inl low ↦ over-outside n f k j cells (λ x h. omega arith) ∙ was ∙ sym (outside j e (inl low)) ∙ is
            | inr high ↦ elim (cases_lt j (k + n)) [
              | inl here ↦ over-inside n f k j cells high here there ∙ ap (f j) was ∙ sym (inside j high here) ∙ is
              | inr far ↦ over-outside n f k j cells (λ x h. omega arith) ∙ was ∙ sym (outside j e (inr far)) ∙ is
            ]
          ]
      | inr apart ↦ over-outside n f k j cells (λ x h. omega arith) ∙ sym (cells-among flags len j cells seen within) ∙ ap (λ x. cell_in_flags x (j % 64)) (sym (get_or-set_other flags (k / 64) (j / 64) now (open_flags 0) apart))
    ])

-- one flag of each of its words is set, and so one copy changes
pub cells-moved : {at : Flags} {cells : List Cell} (flags : List Flags) (len k : ℕ) → cells_of flags len ≡ cells → length flags ≡ (len + 63) / 64 → at ≡ get_or flags (k / 64) at → k < length cells → (f : Cell → Cell) (v w r t : ℕ) (a b c d : Bool) →
    SetsFlag at.value (k % 64) a v → SetsFlag at.writing (k % 64) b w → SetsFlag at.reading (k % 64) c r → SetsFlag at.touched (k % 64) d t → cell a b c d ≡ f (cell_in_flags at (k % 64)) →
    cells_of (set flags (k / 64) (record { value = v; writing = w; reading = r; touched = t })) len ≡ set cells k (f (cell_in cells k))
cells-moved {at} {cells} flags len k seen many read there f v w r t a b c d sv sw sr st is =
    let now : Flags = record { value = v; writing = w; reading = r; touched = t } in
    cells-over flags len k 1 now seen many read (omega arith) (omega arith) (omega arith) (λ j. f)
    (λ j low high. let e : k ≡ j = omega arith in subst (λ (i : ℕ). cell_in_flags now (i % 64) ≡ f (cell_in_flags at (i % 64))) e (same_cell sv.same sw.same sr.same st.same ∙ is))
    (λ j e out.
    let below : j % 64 < 64 = omega arith in
    let apart : j % 64 ≢ k % 64 = omega arith in
    same_cell (sv.others (j % 64) below apart) (sw.others (j % 64) below apart) (sr.others (j % 64) below apart) (st.others (j % 64) below apart))
    ∙ ap (λ i. set cells i (f (cell_in cells i))) (let e : k + 0 ≡ k = omega arith in e)

-- the cells after a change under a mask
pub cells-masked : {at : Flags} {cells : List Cell} {mask : ℕ} (flags : List Flags) (len k n : ℕ) (now : Flags) → cells_of flags len ≡ cells → length flags ≡ (len + 63) / 64 → at ≡ get_or flags (k / 64) at → k % 64 + n ≤ 64 → k + n ≤ length cells → 1 ≤ n → IsMask (k % 64) n mask → (f : ℕ → Cell → Cell) →
    ((i : ℕ) → i < 64 → cell_in_flags now i ≡ cond (flag_in mask i) (f i (cell_in_flags at i)) (cell_in_flags at i)) →
    cells_of (set flags (k / 64) now) len ≡ over n (λ j. f (j % 64)) k cells
cells-masked {at} {cells} {mask} flags len k n now seen many read word there some masks f changed =
    let is = λ (j : ℕ) (here : Bool) (e : flag_in mask (j % 64) ≡ here). changed (j % 64) (omega arith) ∙ ap (λ b. cond b (f (j % 64) (cell_in_flags at (j % 64))) (cell_in_flags at (j % 64))) e in
    cells-over flags len k n now seen many read word there some (λ j. f (j % 64))
    (λ j low high. is j true (masks.inside (j % 64) (omega arith) (omega arith)))
    (λ j e out. is j false (elim out [ inl low ↦ masks.below (j % 64) (omega arith) | inr high ↦ masks.above (j % 64) (omega arith) ]))

opens : (word k : ℕ) → new_cell (flag_in word k) ≡ cell_in_flags (open_flags word) k
opens word k = same_cell refl (sym (flag-zero k)) (sym (flag-zero k)) (sym (flag-zero k))

-- copies that open at 0
pub cells-new : (flags : List Flags) (many len : ℕ) → flags ≡ replicate many (open_flags 0) → len ≤ 64 * many → cells_of flags len ≡ replicate len (new_cell false)
cells-new flags many len is fits = cells-each flags (replicate len (new_cell false)) len (length-replicate len (new_cell false))
    (λ k below.
    get_or-replicate len k (new_cell false) (new_cell false) below ∙ ap new_cell (sym (flag-zero (k % 64))) ∙ opens 0 (k % 64)
    ∙ ap (λ x. cell_in_flags x (k % 64)) (sym (get_or-replicate many (k / 64) (open_flags 0) (open_flags 0) (omega arith)) ∙ ap (λ fs. get_or fs (k / 64) (open_flags 0)) (sym is)))

-- the flags of sixty-four copies with each open read dropped
abbrev pub dropped : Flags → Flags
dropped flags = record { value = flags.value; writing = flags.writing; reading = 0; touched = flags.touched }

pub cells-without_reads : (flags now : List Flags) (len : ℕ) (cells : List Cell) → cells_of flags len ≡ cells → length flags ≡ (len + 63) / 64 → now ≡ map dropped flags → cells_of now len ≡ map without_read cells
cells-without_reads flags now len cells seen many is =
    let long : length cells ≡ len = ap length (sym seen) ∙ length_cells flags len in
    cells-each now (map without_read cells) len (length-map cells without_read ∙ long)
    (λ k below.
    get_or-map without_read cells k (new_cell false) (new_cell false) (omega arith) ∙ ap without_read (sym (cells-among flags len k cells seen (omega arith)))
    ∙ same_cell refl refl (sym (flag-zero (k % 64))) refl
    ∙ ap (λ x. cell_in_flags x (k % 64)) (sym (get_or-map dropped flags (k / 64) (open_flags 0) (open_flags 0) (omega (arith, many))) ∙ ap (λ fs. get_or fs (k / 64) (open_flags 0)) (sym is)))

-- the flags that no read uses are cleared word by word
unused-in : (flags : Flags) (k : ℕ) → without_unused_flag (cell_in_flags flags k) ≡ cell_in_flags (without_unused_flags flags) k
unused-in flags k = same_cell refl refl refl (sym (flag-both flags.reading flags.touched k))

pub cells-without_unused : (flags : List Flags) (len : ℕ) (cells : List Cell) → cells_of flags len ≡ cells → length flags ≡ (len + 63) / 64 → map without_unused_flag cells ≡ cells_of (map without_unused_flags flags) len
cells-without_unused flags len cells seen many =
    let long : length cells ≡ len = ap length (sym seen) ∙ length_cells flags len in
    sym (cells-each (map without_unused_flags flags) (map without_unused_flag cells) len (length-map cells without_unused_flag ∙ long)
    (λ k below.
    get_or-map without_unused_flag cells k (new_cell false) (new_cell false) (omega arith) ∙ ap without_unused_flag (sym (cells-among flags len k cells seen (omega arith)))
    ∙ unused-in (get_or flags (k / 64) (open_flags 0)) (k % 64)
    ∙ ap (λ x. cell_in_flags x (k % 64)) (sym (get_or-map without_unused_flags flags (k / 64) (open_flags 0) (open_flags 0) (omega (arith, many))))))

-- copies behave alike if their words do
pub alike-cells : (flags flags' : List Flags) (len len' : ℕ) (cells cells' : List Cell) → cells_of flags len ≡ cells → cells_of flags' len' ≡ cells' → length flags ≡ (len + 63) / 64 → length flags' ≡ (len' + 63) / 64 → len ≡ len' →
    map without_unused_flags flags ≡ map without_unused_flags flags' → AreAlike cells cells'
alike-cells flags flags' len len' cells cells' seen seen' many many' same alike =
    cells-without_unused flags len cells seen many ∙ (λ i. cells_of (alike i) (same i)) ∙ sym (cells-without_unused flags' len' cells' seen' many')

-- copies that open at bits
pub cells-open : (flags : List Flags) (words : List ℕ) (many len : ℕ) → flags ≡ map (λ p. open_flags (get_or words p 0)) (range_with_len 0 many) → len ≤ 64 * many → cells_of flags len ≡ map new_cell (bits_of_words words len)
cells-open flags words many len is fits =
    let made : ℕ → Flags = λ p. open_flags (get_or words p 0) in
    let bits : List Bool = bits_of_words words len in
    cells-each flags (map new_cell bits) len (length-map bits new_cell ∙ length-bits words len)
    (λ k below.
    get_or-map new_cell bits k false (new_cell false) (omega (arith, length-bits words len)) ∙ ap new_cell (bit-found words len k below) ∙ opens (get_or words (k / 64) 0) (k % 64)
    ∙ ap (λ x. cell_in_flags x (k % 64)) (sym (get_or-map-range_with_len made 0 many (k / 64) (k / 64) (open_flags 0) (omega arith) (omega arith)) ∙ ap (λ fs. get_or fs (k / 64) (open_flags 0)) (sym is)))
