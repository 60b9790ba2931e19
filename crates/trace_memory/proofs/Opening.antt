-- The memory before the first entry.
use Rattle.std.proofs.Common.{◌≡◌, true, ℕ, zero, suc, ◌+◌, ◌*◌, ◌<◌, List, [], ◌∷◌, ◌++◌, Option, None, Some, length, replicate, slice_get, refl, sym, ap, ◌∙◌, arith, length-append}
use Rattle.std.proofs.lemmas.List.{length-replicate}
use Rattle.trace.proofs.Lists.{slice_get-replicate}
use Rattle.trace.specs.{TraceRegister, TraceSetup, is_trace_setup}
use Rattle.trace_memory.specs.{CellState, HasMade, OpenAccess, first_state, opening_cells, place_in, place_of}
use Rattle.trace_memory.proofs.CellPlaces.{index-below}
use Rattle.trace_memory.proofs.SetupFacts.{has_register}

pub length-opening : (rs : List TraceRegister) → length (opening_cells rs) ≡ 16 * length rs
length-opening [] = refl
length-opening (r ∷ rs) =
    let more = length-append (replicate 16 (first_state r)) (opening_cells rs) in
    let here = length-replicate 16 (first_state r) in
    let rest = length-opening rs in
    omega (arith, more, here, rest)

get-front : {A : Type 0} (xs ys : List A) (i : ℕ) → i < length xs → slice_get (xs ++ ys) i ≡ slice_get xs i
get-front [] ys i h = absurd (omega arith)
get-front (x ∷ xs) ys zero h = refl
get-front (x ∷ xs) ys (suc i) h = get-front xs ys i (omega arith)

get-back : {A : Type 0} (xs ys : List A) (i : ℕ) → slice_get (xs ++ ys) (length xs + i) ≡ slice_get ys i
get-back {A} [] ys i = let same : length {A = A} [] + i ≡ i = omega arith in ap (slice_get ys) same
get-back (x ∷ xs) ys i = let same : length (x ∷ xs) + i ≡ suc (length xs + i) = omega arith in ap (slice_get (x ∷ xs ++ ys)) same ∙ get-back xs ys i

pub opening_at : (rs : List TraceRegister) (k i : ℕ) (r : TraceRegister) → i < 16 → slice_get rs k ≡ Some r → slice_get (opening_cells rs) (16 * k + i) ≡ Some (first_state r)
opening_at [] k i r below h = absurd (cc)
opening_at (x ∷ rs) zero i r below h =
    let same : x ≡ r = cc in
    let place : 16 * zero + i ≡ i = omega arith in
    ap (slice_get (replicate 16 (first_state x) ++ opening_cells rs)) place
    ∙ get-front (replicate 16 (first_state x)) (opening_cells rs) i (omega (arith, length-replicate 16 (first_state x)))
    ∙ slice_get-replicate 16 i (first_state x) below
    ∙ ap (λ y. Some (first_state y)) same
opening_at (x ∷ rs) (suc k) i r below h =
    let place : 16 * suc k + i ≡ length (replicate 16 (first_state x)) + (16 * k + i) = omega (arith, length-replicate 16 (first_state x)) in
    ap (slice_get (replicate 16 (first_state x) ++ opening_cells rs)) place
    ∙ get-back (replicate 16 (first_state x)) (opening_cells rs) (16 * k + i)
    ∙ opening_at rs k i r below h

-- what is kept before the first entry
pub made-first : (s : TraceSetup) (cells : List CellState) → is_trace_setup s ≡ true → cells ≡ opening_cells s.registers →
    HasMade (record { setup = s; cells = cells; opened = replicate {A = Option OpenAccess} 16 None }) []
made-first s cells good are = record {
  cells = λ c there.
      let has = has_register s c there in
      ap (λ l. slice_get l (place_of c)) are
      ∙ opening_at s.registers c.register (place_in c.index) has.register (index-below s c good there) has.is
      ∙ ap (λ (r : TraceRegister). Some (first_state r)) (sym has.of);
  opened = λ p below. slice_get-replicate {A = Option OpenAccess} 16 p None below;
}
