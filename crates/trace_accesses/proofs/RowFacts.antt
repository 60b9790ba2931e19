-- The rows of cells, as they are kept.
use Rattle.std.proofs.Common.{◌≡◌, ◌≢◌, ℕ, zero, suc, ◌+◌, ◌*◌, ◌<◌, ◌≤◌, Bool, true, false, cond, List, [], ◌∷◌, ◌++◌, Option, None, Some, get_or, length, option_map, replicate, slice_set, refl, sym, ap, ◌∙◌, subst, inl, inr, true≢false, add-one, arith, get_or-set_other, get_or-set_same, length-append, length-set}
use Rattle.std.proofs.lemmas.List.{length-replicate}
use Rattle.std.proofs.lemmas.Bool.{cases_Bool}
use Rattle.trace.specs.{Cell, TraceSetup, is_trace_setup}
use Rattle.trace_memory.specs.{has_cell, place_of, same_cell}
use Rattle.trace_memory.proofs.CellPlaces.{place_within, places_apart, same_cell-eq, same_cell-refl}
use Rattle.trace_accesses.specs.{HasRows, IsRows, RowsState, begun_if, no_rows, row_at, row_below, row_in, rows_begun, rows_in, rows_taken, rows_with, waves_with, with_last}

-- The number of rows.

-- one place more has a row
pub rows-set : (places : List (Option ℕ)) (i row : ℕ) → i < length places → get_or places i None ≡ None → rows_in (slice_set places i (Some row)) ≡ rows_in places + 1
rows-set [] i row below none = absurd (omega arith)
rows-set (None ∷ places) zero row below none = refl
rows-set (Some k ∷ places) zero row below none = absurd (cc)
rows-set (None ∷ places) (suc i) row below none = rows-set places i row (omega arith) none
rows-set (Some k ∷ places) (suc i) row below none = ap (λ n. n + 1) (rows-set places i row (omega arith) none)

-- there are at most as many rows as places
pub rows-most : (places : List (Option ℕ)) → rows_in places ≤ length places
rows-most [] = omega arith
rows-most (None ∷ places) = let rest = rows-most places in omega (arith, rest)
rows-most (Some row ∷ places) = let rest = rows-most places in omega (arith, rest)

pub rows-none : (n : ℕ) → rows_in (replicate n None) ≡ 0
rows-none zero = refl
rows-none (suc n) = rows-none n

none-at : (n i : ℕ) → get_or (replicate {A = Option ℕ} n None) i None ≡ None
none-at zero i = refl
none-at (suc n) zero = refl
none-at (suc n) (suc i) = none-at n i

-- no cell has a row
pub rows-first : (s : TraceSetup) (n : ℕ) → HasRows s (no_rows n) []
rows-first s n = record { places = λ c there. none-at n (place_of c); count = refl }

-- One cell more has a row.

none_mapped : (o : Option ℕ) → option_map row_below o ≡ None → o ≡ None
none_mapped None h = refl
none_mapped (Some k) h = absurd (cc)

-- it has the last row
last-or : (b : Bool) (before after : Option ℕ) (n : ℕ) → (before ≡ None → after ≡ Some n) → cond b (Some 0) (option_map row_below before) ≡ None →
    cond b (Some 0) (option_map row_below after) ≡ Some (suc n)
last-or true before after n rest none = absurd (cc)
last-or false before after n rest none = ap (option_map row_below) (rest (none_mapped before none)) ∙ ap Some (add-one n)

pub last-same : (rows : List Cell) (c : Cell) → row_in rows c ≡ None → row_in (rows ++ c ∷ []) c ≡ Some (length rows)
last-same [] c none = ap (λ b. cond b (Some 0) None) (same_cell-refl c)
last-same (d ∷ rows) c none = last-or (same_cell d c) (row_in rows c) (row_in (rows ++ c ∷ []) c) (length rows) (last-same rows c) none

-- the others keep theirs
pub last-other : (rows : List Cell) (c d : Cell) → same_cell c d ≡ false → row_in (rows ++ c ∷ []) d ≡ row_in rows d
last-other [] c d other = ap (λ b. cond b (Some 0) None) other
last-other (x ∷ rows) c d other = ap (λ o. cond (same_cell x d) (Some 0) (option_map row_below o)) (last-other rows c d other)

module _ (s : TraceSetup) (r : RowsState) (rows : List Cell) (good : is_trace_setup s ≡ true) (long : length r.places ≡ 16 * length s.registers) (has : HasRows s r rows) where
  -- where its row is kept
  place-last : (c d : Cell) → has_cell s c ≡ true → has_cell s d ≡ true → row_in rows c ≡ None →
      get_or (slice_set r.places (place_of c) (Some r.count)) (place_of d) None ≡ row_in (rows ++ c ∷ []) d
  place-last c d there exists none = elim (cases_Bool (same_cell c d)) [
    | inl same ↦
        let is : c ≡ d = same_cell-eq c d same in
        ap (λ i. get_or (slice_set r.places (place_of c) (Some r.count)) i None) (sym (ap place_of is))
        ∙ get_or-set_same r.places (place_of c) (Some r.count) None (subst (λ n. place_of c < n) (sym long) (place_within s c good there))
        ∙ ap Some has.count
        ∙ sym (last-same rows c none)
        ∙ ap (row_in (rows ++ c ∷ [])) is
    | inr other ↦
        let apart : place_of d ≢ place_of c = λ h. true≢false (sym (same_cell-refl d) ∙ ap (λ x. same_cell x d) (places_apart s d c good exists there h) ∙ other) in
        get_or-set_other r.places (place_of c) (place_of d) (Some r.count) None apart
        ∙ has.places d exists
        ∙ sym (last-other rows c d other)
  ]

  begun : (c : Cell) → has_cell s c ≡ true → (o : Option ℕ) → row_in rows c ≡ o → HasRows s (begun_if o (place_of c) r) (with_last o c rows)
  begun c there (Some row) is = has
  begun c there None is = record {
    places = λ d exists. place-last c d there exists is;
    count = let more = length-append rows (c ∷ []) in let count = has.count in omega (arith, more, count);
  }

  rows-begun : (c : Cell) → has_cell s c ≡ true → HasRows s (rows_begun (place_of c) r) (rows_with c rows)
  rows-begun c there = subst (λ (o : Option ℕ). HasRows s (begun_if o (place_of c) r) (rows_with c rows)) (sym (has.places c there)) (begun c there (row_in rows c) refl)

  -- after an access
  pub rows-taken : (counts : Bool) (c : Cell) → has_cell s c ≡ true → HasRows s (rows_taken counts c r) (waves_with counts c rows)
  rows-taken true c there = rows-begun c there
  rows-taken false c there = has

-- the places stay
long-begun : (o : Option ℕ) (place : ℕ) (r : RowsState) → length (begun_if o place r).places ≡ length r.places
long-begun (Some row) place r = refl
long-begun None place r = length-set r.places place (Some r.count)

pub long-taken : (counts : Bool) (c : Cell) (r : RowsState) → length (rows_taken counts c r).places ≡ length r.places
long-taken true c r = long-begun (row_at r (place_of c)) (place_of c) r
long-taken false c r = refl

-- the places and the rows of no cell, and of one cell more
pub are-none : (registers : ℕ) (r : RowsState) → registers ≤ 64 → r ≡ no_rows (16 * registers) → IsRows r
are-none registers r few is = subst (λ (r : RowsState). IsRows r) (sym is) (record {
  few = let long = length-replicate {A = Option ℕ} (16 * registers) None in omega (arith, long, few);
  count = sym (rows-none (16 * registers));
})

pub are-more : (r : RowsState) (place : ℕ) → IsRows r → place < length r.places → row_at r place ≡ None → IsRows (record { places = slice_set r.places place (Some r.count); count = r.count + 1 })
are-more r place is within none = record {
  few = let long = length-set r.places place (Some r.count) in let few = is.few in omega (arith, long, few);
  count = ap (λ n. n + 1) is.count ∙ sym (rows-set r.places place r.count within none);
}

-- the next row has a number
pub count-few : (r : RowsState) → IsRows r → r.count ≤ 1024
count-few r is = let most = rows-most r.places in let few = is.few in let count = is.count in omega (arith, most, few, count)
