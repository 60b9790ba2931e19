-- Bits and lanes side by side.
use Rattle.std.proofs.Common.{◌≡◌, ◌≢◌, ℕ, zero, suc, ◌+◌, ◌<◌, ◌≤◌, Bool, List, [], ◌∷◌, ◌++◌, set, length, refl, sym, ◌∙◌, arith, ap}
use Rattle.std.proofs.lemmas.List.{get_or-set_same, get_or-set_other, length-set, set-set, set_comm, set-get_or}
use Rattle.safe_bit.specs.Cell.{Cell}
use Rattle.registers.specs.{HasLanes, lane_of, more_bits}
use Rattle.registers.proofs.Steps.{lanes-set}

pub more-same : (n : ℕ) (f g : ℕ → Bool) (bits : List Bool) → ((j : ℕ) → j < n → f j ≡ g j) → more_bits n f bits ≡ more_bits n g bits
more-same zero f g bits same = refl
more-same (suc n) f g bits same = let last : f n ≡ g n = same n (omega arith) in let before : more_bits n f bits ≡ more_bits n g bits = more-same n f g bits (λ j h. same j (omega arith)) in λ i. before i ++ last i ∷ []

-- LANES

-- n lanes from one on, each changed
abbrev pub over_lanes : ℕ → (List Cell → List Cell) → ℕ → List (List Cell) → List (List Cell)
over_lanes zero g lane memory = memory
over_lanes (suc n) g lane memory = set (over_lanes n g lane memory) (lane + n) (g (lane_of (over_lanes n g lane memory) (lane + n)))

pub length-over_lanes : (n : ℕ) (g : List Cell → List Cell) (lane : ℕ) (memory : List (List Cell)) → length (over_lanes n g lane memory) ≡ length memory
length-over_lanes zero g lane memory = refl
length-over_lanes (suc n) g lane memory = length-set (over_lanes n g lane memory) (lane + n) _ ∙ length-over_lanes n g lane memory

-- lanes above stay
pub lanes-above : (n : ℕ) (g : List Cell → List Cell) (lane l : ℕ) (memory : List (List Cell)) → lane + n ≤ l → lane_of (over_lanes n g lane memory) l ≡ lane_of memory l
lanes-above zero g lane l memory above = refl
lanes-above (suc n) g lane l memory above = get_or-set_other (over_lanes n g lane memory) (lane + n) l _ [] (omega arith) ∙ lanes-above n g lane l memory (omega arith)

-- they may be changed before or after
pub lanes-commute : (n : ℕ) (g : List Cell → List Cell) (lane l : ℕ) (memory : List (List Cell)) (new : List Cell) → lane + n ≤ l → over_lanes n g lane (set memory l new) ≡ set (over_lanes n g lane memory) l new
lanes-commute zero g lane l memory new above = refl
lanes-commute (suc n) g lane l memory new above =
    let A : List (List Cell) = over_lanes n g lane memory in
    let apart : lane + n ≢ l = omega arith in
    let other : l ≢ lane + n = omega arith in
    ap (λ m. set m (lane + n) (g (lane_of m (lane + n)))) (lanes-commute n g lane l memory new (omega arith))
    ∙ ap (λ x. set (set A l new) (lane + n) (g x)) (get_or-set_other A l (lane + n) new [] apart)
    ∙ set_comm A l (lane + n) new (g (lane_of A (lane + n))) other

-- to change them twice is to change them once
pub lanes-twice : (n : ℕ) (g h : List Cell → List Cell) (lane : ℕ) (memory : List (List Cell)) → lane + n ≤ length memory → over_lanes n h lane (over_lanes n g lane memory) ≡ over_lanes n (λ x. h (g x)) lane memory
lanes-twice zero g h lane memory there = refl
lanes-twice (suc n) g h lane memory there =
    let G : List (List Cell) = over_lanes n g lane memory in
    let H : List (List Cell) = over_lanes n h lane G in
    let x : List Cell = lane_of G (lane + n) in
    let inside : lane + n < length H = omega (arith, length-over_lanes n h lane G, length-over_lanes n g lane memory) in
    ap (λ m. set m (lane + n) (h (lane_of m (lane + n)))) (lanes-commute n h lane (lane + n) G (g x) (omega arith))
    ∙ ap (λ y. set (set H (lane + n) (g x)) (lane + n) (h y)) (get_or-set_same H (lane + n) (g x) [] inside)
    ∙ set-set H (lane + n) (g x) (h (g x))
    ∙ ap (λ y. set H (lane + n) (h (g y))) (sym (lanes-above n h lane (lane + n) G (omega arith)))
    ∙ ap (λ m. set m (lane + n) (h (g (lane_of m (lane + n))))) (lanes-twice n g h lane memory (omega arith))

-- changes that keep lengths keep the lanes
pub lanes-kept : (n : ℕ) (g : List Cell → List Cell) (at lane copies width : ℕ) (memory : List (List Cell)) → ((x : List Cell) → length (g x) ≡ length x) → at + n ≤ length memory → HasLanes memory lane copies width → HasLanes (over_lanes n g at memory) lane copies width
lanes-kept zero g at lane copies width memory keeps there h = h
lanes-kept (suc n) g at lane copies width memory keeps there h =
    lanes-set (over_lanes n g at memory) (at + n) lane copies width _ (keeps (lane_of (over_lanes n g at memory) (at + n))) (omega (arith, length-over_lanes n g at memory)) (lanes-kept n g at lane copies width memory keeps (omega arith) h)

-- functions with equal values change the lanes alike
pub lanes-same : (n : ℕ) (g h : List Cell → List Cell) (lane : ℕ) (memory : List (List Cell)) → ((x : List Cell) → g x ≡ h x) → over_lanes n g lane memory ≡ over_lanes n h lane memory
lanes-same zero g h lane memory same = refl
lanes-same (suc n) g h lane memory same =
    ap (λ m. set m (lane + n) (g (lane_of m (lane + n)))) (lanes-same n g h lane memory same)
    ∙ ap (λ x. set (over_lanes n h lane memory) (lane + n) x) (same (lane_of (over_lanes n h lane memory) (lane + n)))

-- no change
pub lanes-nothing : (n lane : ℕ) (memory : List (List Cell)) → over_lanes n (λ x. x) lane memory ≡ memory
lanes-nothing zero lane memory = refl
lanes-nothing (suc n) lane memory = set-get_or (over_lanes n (λ x. x) lane memory) (lane + n) [] ∙ lanes-nothing n lane memory
