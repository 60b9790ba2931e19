-- Rows of one width, one after the other.
use Rattle.std.proofs.Common.{◌≡◌, ℕ, zero, suc, ◌+◌, ◌*◌, ◌<◌, ◌≤◌, List, [], ◌∷◌, ◌++◌, length, take, drop, set, map, get_or, refl, ap, sym, ◌∙◌, append_assoc, arith, length-append}
use Rattle.std.proofs.Math.Nat.{mul-suc}
use Rattle.std.proofs.Math.Seq.{take-append-add, drop-append-add}
use Rattle.std.proofs.lemmas.List.{take_at, drop_at, drop-drop, take-append-drop}
use Rattle.std.specs.List.{flat_map}
use Rattle.store_image.specs.{rows}

-- each row has the width w
abbrev pub AllWide : {X : Type 0} → ℕ → (X → List ℕ) → List X → Type 0
AllWide w f [] = Unit {0}
AllWide w f (x ∷ xs) = (length (f x) ≡ w) × AllWide w f xs

pub length-rows_flat : {X : Type 0} (w : ℕ) (f : X → List ℕ) (xs : List X) → AllWide w f xs → length (flat_map f xs) ≡ w * length xs
length-rows_flat w f [] wide = omega arith
length-rows_flat w f (x ∷ xs) wide = omega (arith, length-append (f x) (flat_map f xs), wide.0, length-rows_flat w f xs wide.1, mul-suc w (length xs))

-- reading the rows returns the items that were written
pub rows-flat : {X : Type 0} (w : ℕ) (f : X → List ℕ) (xs : List X) (more : List ℕ) → AllWide w f xs → rows w (length xs) (flat_map f xs ++ more) ≡ map f xs
rows-flat w f [] more wide = refl
rows-flat w f (x ∷ xs) more wide =
    let joined : (f x ++ flat_map f xs) ++ more ≡ f x ++ (flat_map f xs ++ more) = append_assoc (f x) (flat_map f xs) more in
    ap (λ bytes. take w bytes ∷ rows w (length xs) (drop w bytes)) joined
    ∙ ap (λ row. row ∷ rows w (length xs) (drop w (f x ++ (flat_map f xs ++ more)))) (take_at (f x) (flat_map f xs ++ more) w wide.0)
    ∙ ap (λ rest. f x ∷ rows w (length xs) rest) (drop_at (f x) (flat_map f xs ++ more) w wide.0)
    ∙ ap (λ rest. f x ∷ rest) (rows-flat w f xs more wide.1)

-- the position after one more row
further : (w k at : ℕ) → at ≡ w * suc k → at ≡ w + w * k
further w k at here = omega (arith, mul-suc w k)

-- the row with an index
pub row_at : {X : Type 0} (w : ℕ) (f : X → List ℕ) (xs : List X) (more : List ℕ) (k at : ℕ) (d : X) → AllWide w f xs → k < length xs → at ≡ w * k → take w (drop at (flat_map f xs ++ more)) ≡ f (get_or xs k d)
row_at w f [] more k at d wide small here = absurd (omega arith)
row_at w f (x ∷ xs) more zero at d wide small here =
    let start : at ≡ 0 = omega arith in
    ap (λ n. take w (drop n ((f x ++ flat_map f xs) ++ more))) start
    ∙ ap (take w) (append_assoc (f x) (flat_map f xs) more)
    ∙ take_at (f x) (flat_map f xs ++ more) w wide.0
row_at w f (x ∷ xs) more (suc k) at d wide small here =
    let on : at ≡ length (f x) + w * k = omega (arith, further w k at here, wide.0) in
    ap (λ n. take w (drop n ((f x ++ flat_map f xs) ++ more))) on
    ∙ ap (λ bytes. take w (drop (length (f x) + w * k) bytes)) (append_assoc (f x) (flat_map f xs) more)
    ∙ ap (take w) (drop-append-add (f x) (flat_map f xs ++ more) (w * k))
    ∙ row_at w f xs more k (w * k) d wide.1 (omega arith) refl

-- a row is written over the one with an index
pub row_over : {X : Type 0} (w : ℕ) (f : X → List ℕ) (xs : List X) (more : List ℕ) (k at : ℕ) (y : X) → AllWide w f xs → k < length xs → at ≡ w * k → take at (flat_map f xs ++ more) ++ (f y ++ drop w (drop at (flat_map f xs ++ more))) ≡ flat_map f (set xs k y) ++ more
row_over w f [] more k at y wide small here = absurd (omega arith)
row_over w f (x ∷ xs) more zero at y wide small here =
    let start : at ≡ 0 = omega arith in
    ap (λ n. take n ((f x ++ flat_map f xs) ++ more) ++ (f y ++ drop w (drop n ((f x ++ flat_map f xs) ++ more)))) start
    ∙ ap (λ bytes. f y ++ drop w bytes) (append_assoc (f x) (flat_map f xs) more)
    ∙ ap (λ bytes. f y ++ bytes) (drop_at (f x) (flat_map f xs ++ more) w wide.0)
    ∙ sym (append_assoc (f y) (flat_map f xs) more)
row_over w f (x ∷ xs) more (suc k) at y wide small here =
    let on : at ≡ length (f x) + w * k = omega (arith, further w k at here, wide.0) in
    let rest : List ℕ = flat_map f xs ++ more in
    ap (λ n. take n ((f x ++ flat_map f xs) ++ more) ++ (f y ++ drop w (drop n ((f x ++ flat_map f xs) ++ more)))) on
    ∙ ap (λ bytes. take (length (f x) + w * k) bytes ++ (f y ++ drop w (drop (length (f x) + w * k) bytes))) (append_assoc (f x) (flat_map f xs) more)
    ∙ ap (λ front. front ++ (f y ++ drop w (drop (length (f x) + w * k) (f x ++ rest)))) (take-append-add (f x) rest (w * k))
    ∙ ap (λ back. (f x ++ take (w * k) rest) ++ (f y ++ drop w back)) (drop-append-add (f x) rest (w * k))
    ∙ append_assoc (f x) (take (w * k) rest) (f y ++ drop w (drop (w * k) rest))
    ∙ ap (λ back. f x ++ back) (row_over w f xs more k (w * k) y wide.1 (omega arith) refl)
    ∙ sym (append_assoc (f x) (flat_map f (set xs k y)) more)

-- the first k + 1 rows are the first k rows and the next one
pub rows_more : (w k : ℕ) (bytes : List ℕ) → rows w (suc k) bytes ≡ rows w k bytes ++ take w (drop (w * k) bytes) ∷ []
rows_more w zero bytes =
    let none : w * 0 ≡ 0 = omega arith in
    ap (λ n. take w (drop n bytes) ∷ []) (sym none)
rows_more w (suc k) bytes =
    let on : w + w * k ≡ w * suc k = omega (arith, mul-suc w k) in
    ap (λ rest. take w bytes ∷ rest) (rows_more w k (drop w bytes))
    ∙ ap (λ row. take w bytes ∷ (rows w k (drop w bytes) ++ take w row ∷ [])) (drop-drop (w * k) w bytes)
    ∙ ap (λ n. take w bytes ∷ (rows w k (drop w bytes) ++ take w (drop n bytes) ∷ [])) on

-- the rows and the bytes after them
pub rows_joined : (w k : ℕ) (bytes : List ℕ) → flat_map (λ row. row) (rows w k bytes) ++ drop (w * k) bytes ≡ bytes
rows_joined w zero bytes =
    let none : w * 0 ≡ 0 = omega arith in
    ap (λ n. drop n bytes) none
rows_joined w (suc k) bytes =
    let on : w * suc k ≡ w + w * k = omega (arith, mul-suc w k) in
    append_assoc (take w bytes) (flat_map (λ row. row) (rows w k (drop w bytes))) (drop (w * suc k) bytes)
    ∙ ap (λ n. take w bytes ++ (flat_map (λ row. row) (rows w k (drop w bytes)) ++ drop n bytes)) on
    ∙ ap (λ rest. take w bytes ++ (flat_map (λ row. row) (rows w k (drop w bytes)) ++ rest)) (sym (drop-drop (w * k) w bytes))
    ∙ ap (λ rest. take w bytes ++ rest) (rows_joined w k (drop w bytes))
    ∙ take-append-drop w bytes

-- the rows of items, joined
pub flat_rows : {X : Type 0} (f : X → List ℕ) (xs : List X) → flat_map (λ row. row) (map f xs) ≡ flat_map f xs
flat_rows f [] = refl
flat_rows f (x ∷ xs) = ap (λ rest. f x ++ rest) (flat_rows f xs)

-- the first k rows
pub rows_front : {X : Type 0} (w : ℕ) (f : X → List ℕ) (xs : List X) (more : List ℕ) (k : ℕ) → AllWide w f xs → k ≤ length xs → rows w k (flat_map f xs ++ more) ≡ map f (take k xs)
rows_front w f xs more zero wide few = refl
rows_front w f [] more (suc k) wide few = absurd (omega arith)
rows_front w f (x ∷ xs) more (suc k) wide few =
    let joined : (f x ++ flat_map f xs) ++ more ≡ f x ++ (flat_map f xs ++ more) = append_assoc (f x) (flat_map f xs) more in
    ap (λ bytes. take w bytes ∷ rows w k (drop w bytes)) joined
    ∙ ap (λ row. row ∷ rows w k (drop w (f x ++ (flat_map f xs ++ more)))) (take_at (f x) (flat_map f xs ++ more) w wide.0)
    ∙ ap (λ rest. f x ∷ rows w k rest) (drop_at (f x) (flat_map f xs ++ more) w wide.0)
    ∙ ap (λ rest. f x ∷ rest) (rows_front w f xs more k wide.1 (omega arith))
