-- Searches among the slots of some bytes, one slot after the other.
use Rattle.std.proofs.Common.{◌≡◌, ℕ, zero, suc, ◌+◌, ◌-◌, ◌*◌, ◌<◌, Bool, true, false, ◌||◌, if◌then◌else◌, List, ◌∷◌, take, drop, refl, ap, sym, ◌∙◌, arith}
use Rattle.std.specs.List.{list_any}
use Rattle.std.specs.Str.{bytes_eq}
use Rattle.std.proofs.lemmas.List.{drop-drop}
use Rattle.store_image.specs.{have_name, is_unused, name_in, rows, slot_in, used_in}

-- the slots from index k on
abbrev pub rest_in : ℕ → List ℕ → ℕ → List (List ℕ)
rest_in slots bytes k = rows 23 (slots - k) (drop (23 * k) bytes)

one_less : (slots k : ℕ) → k < slots → slots - k ≡ suc (slots - (k + 1))
one_less slots k below = omega arith

next_slot : (bytes : List ℕ) (k : ℕ) → drop 23 (drop (23 * k) bytes) ≡ drop (23 * (k + 1)) bytes
next_slot bytes k = let on : 23 * k + 23 ≡ 23 * (k + 1) = omega arith in drop-drop 23 (23 * k) bytes ∙ ap (λ n. drop n bytes) on

rest_more : (slots : ℕ) (bytes : List ℕ) (k : ℕ) → k < slots → rest_in slots bytes k ≡ slot_in bytes k ∷ rest_in slots bytes (k + 1)
rest_more slots bytes k below =
    ap (λ n. rows 23 n (drop (23 * k) bytes)) (one_less slots k below)
    ∙ ap (λ b. slot_in bytes k ∷ rows 23 (slots - (k + 1)) b) (next_slot bytes k)

pub name_found : (slots : ℕ) (bytes name : List ℕ) (k : ℕ) → k < slots → have_name (rest_in slots bytes k) name ≡ have_name (rows 23 slots bytes) name → bytes_eq name (name_in (slot_in bytes k)) ≡ true → have_name (rows 23 slots bytes) name ≡ true
name_found slots bytes name k below rest here =
    sym rest
    ∙ ap (λ slots_left. have_name slots_left name) (rest_more slots bytes k below)
    ∙ ap (λ b. b || have_name (rest_in slots bytes (k + 1)) name) here

pub name_passed : (slots : ℕ) (bytes name : List ℕ) (k : ℕ) → k < slots → have_name (rest_in slots bytes k) name ≡ have_name (rows 23 slots bytes) name → bytes_eq name (name_in (slot_in bytes k)) ≡ false → have_name (rest_in slots bytes (k + 1)) name ≡ have_name (rows 23 slots bytes) name
name_passed slots bytes name k below rest here =
    sym (ap (λ b. b || have_name (rest_in slots bytes (k + 1)) name) here)
    ∙ sym (ap (λ slots_left. have_name slots_left name) (rest_more slots bytes k below))
    ∙ rest

-- the used slots before the first unused one, from index k on
abbrev pub used_from : ℕ → List ℕ → ℕ → ℕ
used_from slots bytes k = used_in (slots - k) (drop (23 * k) bytes)

used_more : (slots : ℕ) (bytes : List ℕ) (k : ℕ) → k < slots → used_from slots bytes k ≡ (if is_unused (slot_in bytes k) then 0 else suc (used_from slots bytes (k + 1)))
used_more slots bytes k below =
    ap (λ n. used_in n (drop (23 * k) bytes)) (one_less slots k below)
    ∙ ap (λ b. if is_unused (slot_in bytes k) then 0 else suc (used_in (slots - (k + 1)) b)) (next_slot bytes k)

pub unused_found : (slots : ℕ) (bytes : List ℕ) (k : ℕ) → k < slots → k + used_from slots bytes k ≡ used_in slots bytes → is_unused (slot_in bytes k) ≡ true → k ≡ used_in slots bytes
unused_found slots bytes k below passed here =
    let none : used_from slots bytes k ≡ 0 = used_more slots bytes k below ∙ ap (λ b. if b then 0 else suc (used_from slots bytes (k + 1))) here in
    omega arith

pub used_passed : (slots : ℕ) (bytes : List ℕ) (k : ℕ) → k < slots → k + used_from slots bytes k ≡ used_in slots bytes → is_unused (slot_in bytes k) ≡ false → (k + 1) + used_from slots bytes (k + 1) ≡ used_in slots bytes
used_passed slots bytes k below passed here =
    let one : used_from slots bytes k ≡ suc (used_from slots bytes (k + 1)) = used_more slots bytes k below ∙ ap (λ b. if b then 0 else suc (used_from slots bytes (k + 1))) here in
    omega arith

-- if no slot is unused, all are used
pub used_full : (k : ℕ) (bytes : List ℕ) → list_any is_unused (rows 23 k bytes) ≡ false → used_in k bytes ≡ k
used_full zero bytes none = refl
used_full (suc k) bytes none = by (λ rest. used_full k (drop 23 bytes) rest) (is_unused (take 23 bytes)) none
  where
    by : (list_any is_unused (rows 23 k (drop 23 bytes)) ≡ false → used_in k (drop 23 bytes) ≡ k) → (b : Bool) → (b || list_any is_unused (rows 23 k (drop 23 bytes))) ≡ false → (if b then 0 else suc (used_in k (drop 23 bytes))) ≡ suc k
    by more true same = cc
    by more false same = ap suc (more same)

-- if one slot is unused, fewer are used
pub used_less : (k : ℕ) (bytes : List ℕ) → list_any is_unused (rows 23 k bytes) ≡ true → used_in k bytes < k
used_less zero bytes some = cc
used_less (suc k) bytes some = by (λ rest. used_less k (drop 23 bytes) rest) (is_unused (take 23 bytes)) some
  where
    by : (list_any is_unused (rows 23 k (drop 23 bytes)) ≡ true → used_in k (drop 23 bytes) < k) → (b : Bool) → (b || list_any is_unused (rows 23 k (drop 23 bytes))) ≡ true → (if b then 0 else suc (used_in k (drop 23 bytes))) < suc k
    by more true same = omega arith
    by more false same = omega (arith, more same)
