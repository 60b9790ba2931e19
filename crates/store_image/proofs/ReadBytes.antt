-- Bytes whose slots follow the rules are the image of a store, and only those.
use Rattle.std.proofs.Common.{◌≡◌, ℕ, zero, suc, ◌+◌, ◌-◌, ◌*◌, ◌<◌, ◌≤◌, Bool, true, false, not, ◌&&◌, ◌||◌, if◌then◌else◌, List, [], ◌∷◌, ◌++◌, length, take, drop, map, replicate, get_or, Option, Some, None, refl, ap, sym, subst, ◌∙◌, append_assoc, arith, length-append}
use Rattle.std.specs.List.{flat_map, list_any}
use Rattle.std.specs.Str.{bytes_eq}
use Rattle.std.proofs.lemmas.Bool.{and_parts}
use Rattle.std.proofs.lemmas.List.{append-nil, nil_from_length, take-append-drop, map-append, replicate_more, length-drop, length-take-le, get_or-drop}
use Rattle.std.proofs.lemmas.Nat.{be_bytes_2}
use Rattle.std.proofs.lemmas.Slice.Eq.{bytes_eq-Decides}
use Rattle.store_image.proofs.ImageBytes.{first_good, others_good}
use Rattle.store_image.proofs.Puts.{are_pairs-put}
use Rattle.store_image.proofs.Rows.{rows_more}
use Rattle.store_image.proofs.SlotBytes.{is_unused-slot_of, is_unused-unused_slot, name_in-slot_of}
use Rattle.store_image.specs.{follows_rules, have_name, is_unused, is_used, name_in, number_bytes, number_in, pair_in, places, rows, slot_bytes, slot_in, slot_of, unused_slot}
use Rattle.plain_store.specs.{Pair, Value, are_pairs, is_pair, put}

or_parts : (a b : Bool) → (a || b) ≡ false → (a ≡ false) × (b ≡ false)
or_parts false false same = (refl, refl)
or_parts true b same = cc
or_parts false true same = cc

not_true : (a : Bool) → not a ≡ true → a ≡ false
not_true false same = refl
not_true true same = cc

-- a new name is written after all pairs
put-new : (pairs : List Pair) (name : List ℕ) (x : Value) → list_any (λ (q : Pair). bytes_eq name q.0) pairs ≡ false → put pairs name x ≡ pairs ++ (name, x) ∷ []
put-new [] name x new = refl
put-new (e ∷ es) name x new =
    let parts : (bytes_eq name e.0 ≡ false) × (list_any (λ (q : Pair). bytes_eq name q.0) es ≡ false) = or_parts (bytes_eq name e.0) (list_any (λ (q : Pair). bytes_eq name q.0) es) new in
    ap (λ b. if b then (e.0, x) ∷ es else e ∷ put es name x) parts.0
    ∙ ap (λ rest. e ∷ rest) (put-new es name x parts.1)

-- used slots are not unused
pub none_unused : (pairs : List Pair) → list_any is_unused (map slot_bytes (map Some pairs)) ≡ false
none_unused [] = refl
none_unused (p ∷ ps) = ap (λ b. b || list_any is_unused (map slot_bytes (map Some ps))) (is_unused-slot_of p) ∙ none_unused ps

-- an unused slot after them is unused
some_unused : (pairs : List Pair) (m : ℕ) → list_any is_unused (map slot_bytes (map Some pairs ++ replicate (suc m) None)) ≡ true
some_unused [] m = ap (λ b. b || list_any is_unused (map slot_bytes (replicate m None))) is_unused-unused_slot
some_unused (p ∷ ps) m = ap (λ b. b || list_any is_unused (map slot_bytes (map Some ps ++ replicate (suc m) None))) (is_unused-slot_of p) ∙ some_unused ps m

-- the names in the slots of pairs are those of the pairs
have_name-pairs : (pairs : List Pair) (name : List ℕ) → are_pairs pairs ≡ true → have_name (map slot_bytes (map Some pairs)) name ≡ list_any (λ (q : Pair). bytes_eq name q.0) pairs
have_name-pairs [] name good = refl
have_name-pairs (p ∷ ps) name good = λ j. bytes_eq name (name_in-slot_of p (first_good p ps good) j) || have_name-pairs ps name (others_good p ps good) j

-- the first k slots are those of these pairs, and then unused ones
pub record IsReadTo (bytes : List ℕ) (k : ℕ) (pairs : List Pair) : Type 0 where
  pub slots : rows 23 k bytes ≡ map slot_bytes (places k pairs)
  pub fits : length pairs ≤ k
  pub good : are_pairs pairs ≡ true

-- one more unused slot
places_unused : (k : ℕ) (pairs : List Pair) → length pairs ≤ k → map slot_bytes (places k pairs) ++ unused_slot ∷ [] ≡ map slot_bytes (places (suc k) pairs)
places_unused k pairs fits =
    let free : ℕ = k - length pairs in
    let more : free + 1 ≡ suc k - length pairs = omega arith in
    sym (map-append slot_bytes (places k pairs) (None ∷ []))
    ∙ ap (map slot_bytes) (append_assoc (map Some pairs) (replicate free None) (None ∷ []) ∙ ap (λ rest. map Some pairs ++ rest) (replicate_more free None))
    ∙ ap (λ n. map slot_bytes (map Some pairs ++ replicate n None)) more

-- no unused slots
places_full : (k : ℕ) (pairs : List Pair) → length pairs ≡ k → places k pairs ≡ map Some pairs
places_full k pairs full =
    let none : k - length pairs ≡ 0 = omega arith in
    ap (λ n. map Some pairs ++ replicate n None) none ∙ append-nil (map Some pairs)

-- if no slot is unused, the pairs fill all slots
all_used : (k : ℕ) (pairs : List Pair) → length pairs ≤ k → list_any is_unused (map slot_bytes (places k pairs)) ≡ false → length pairs ≡ k
all_used k pairs fits none = by (k - length pairs) refl
  where
    by : (free : ℕ) → k - length pairs ≡ free → length pairs ≡ k
    by zero same = omega arith
    by (suc m) same =
        let some : list_any is_unused (map slot_bytes (places k pairs)) ≡ true = ap (λ n. list_any is_unused (map slot_bytes (map Some pairs ++ replicate n None))) same ∙ some_unused pairs m in
        let bad : true ≡ false = sym some ∙ none in
        cc

-- a slot that follows the rules adds a pair or is unused
read_more : (bytes : List ℕ) (k : ℕ) (pairs : List Pair) → IsReadTo bytes k pairs → follows_rules bytes k ≡ true → (then_pairs : List Pair) × IsReadTo bytes (suc k) then_pairs
unfolding follows_rules
read_more bytes k pairs read follows = by (is_unused (slot_in bytes k)) refl follows
  where
    slot : List ℕ
    slot = slot_in bytes k

    more : (p : Option Pair) → slot ≡ slot_bytes p → rows 23 (suc k) bytes ≡ map slot_bytes (places k pairs) ++ slot_bytes p ∷ []
    more p same = rows_more 23 k bytes ∙ (λ j. read.slots j ++ same j ∷ [])

    by : (b : Bool) → is_unused slot ≡ b → (b || (is_used slot && not (list_any is_unused (rows 23 k bytes)) && not (have_name (rows 23 k bytes) (name_in slot)))) ≡ true → (then_pairs : List Pair) × IsReadTo bytes (suc k) then_pairs
    by true here rules = (
      pairs,
      record {
        slots = more None ((bytes_eq-Decides slot unused_slot).0 here) ∙ places_unused k pairs read.fits;
        fits = omega (arith, read.fits);
        good = read.good;
      },
    )
    by false here rules =
        let both : (is_used slot && not (list_any is_unused (rows 23 k bytes)) ≡ true) × (not (have_name (rows 23 k bytes) (name_in slot)) ≡ true) = and_parts (is_used slot && not (list_any is_unused (rows 23 k bytes))) (not (have_name (rows 23 k bytes) (name_in slot))) rules in
        let first : (is_used slot ≡ true) × (not (list_any is_unused (rows 23 k bytes)) ≡ true) = and_parts (is_used slot) (not (list_any is_unused (rows 23 k bytes))) both.0 in
        let p : Pair = pair_in slot in
        let used : (is_pair p ≡ true) × (bytes_eq slot (slot_of p) ≡ true) = and_parts (is_pair p) (bytes_eq slot (slot_of p)) first.0 in
        let none : list_any is_unused (map slot_bytes (places k pairs)) ≡ false = ap (list_any is_unused) (sym read.slots) ∙ not_true (list_any is_unused (rows 23 k bytes)) first.1 in
        let full : length pairs ≡ k = all_used k pairs read.fits none in
        let there : places k pairs ≡ map Some pairs = places_full k pairs full in
        let new : list_any (λ (q : Pair). bytes_eq p.0 q.0) pairs ≡ false =
        sym (have_name-pairs pairs p.0 read.good)
        ∙ ap (λ ps. have_name (map slot_bytes ps) p.0) (sym there)
        ∙ ap (λ slots. have_name slots p.0) (sym read.slots)
        ∙ not_true (have_name (rows 23 k bytes) (name_in slot)) both.1 in
        let written : put pairs p.0 p.1 ≡ pairs ++ p ∷ [] = put-new pairs p.0 p.1 new in
        let long : length (pairs ++ p ∷ []) ≡ suc k = omega (arith, length-append pairs (p ∷ []), full) in (
          pairs ++ p ∷ [],
          record {
            slots =
                more (Some p) ((bytes_eq-Decides slot (slot_of p)).0 used.1)
                ∙ ap (λ ps. map slot_bytes ps ++ slot_of p ∷ []) there
                ∙ sym (map-append slot_bytes (map Some pairs) (Some p ∷ []))
                ∙ ap (map slot_bytes) (sym (map-append Some pairs (p ∷ [])))
                ∙ ap (map slot_bytes) (sym (places_full (suc k) (pairs ++ p ∷ []) long));
            fits = omega (arith, long);
            good = ap are_pairs (sym written) ∙ are_pairs-put pairs p.0 p.1 read.good used.0;
          },
        )

-- slots that all follow the rules are those of some pairs
pub read_all : (bytes : List ℕ) (k : ℕ) → ((j : ℕ) → j < k → follows_rules bytes j ≡ true) → (pairs : List Pair) × IsReadTo bytes k pairs
read_all bytes zero follow = ([], record { slots = refl; fits = omega arith; good = refl })
read_all bytes (suc k) follow =
    let before : (pairs : List Pair) × IsReadTo bytes k pairs = read_all bytes k (λ j below. follow j (omega (arith, below))) in
    read_more bytes k before.0 before.1 (follow k (omega arith))

-- two bytes are those of the number that they represent
row_back : (row : List ℕ) → length row ≡ 2 → ((i : ℕ) → get_or row i 0 < 256) → number_bytes (number_in row) ≡ row
unfolding number_bytes number_in
row_back row two bytes = be_bytes_2 row _ two bytes refl

pub front_small : (bytes : List ℕ) (i : ℕ) → get_or bytes i 0 < 256 → get_or (take 2 bytes) i 0 < 256
front_small [] i small = small
front_small (a ∷ []) zero small = small
front_small (a ∷ []) (suc i) small = omega arith
front_small (a ∷ b ∷ bytes) zero small = small
front_small (a ∷ b ∷ bytes) (suc zero) small = small
front_small (a ∷ b ∷ bytes) (suc (suc i)) small = omega arith

pub numbers_back : (k : ℕ) (bytes : List ℕ) → length bytes ≡ 2 * k → ((i : ℕ) → get_or bytes i 0 < 256) → flat_map number_bytes (map number_in (rows 2 k bytes)) ≡ bytes
numbers_back zero bytes long small = sym (nil_from_length bytes (omega (arith, long)))
numbers_back (suc k) bytes long small =
    let two : length (take 2 bytes) ≡ 2 = length-take-le 2 bytes (omega (arith, long)) in
    let front : (i : ℕ) → get_or (take 2 bytes) i 0 < 256 = λ (i : ℕ). front_small bytes i (small i) in
    let back : (i : ℕ) → get_or (drop 2 bytes) i 0 < 256 = λ (i : ℕ). subst (λ (n : ℕ). n < 256) (sym (get_or-drop 2 bytes i 0)) (small (2 + i)) in
    let rest : length (drop 2 bytes) ≡ 2 * k = omega (arith, length-drop 2 bytes, long) in
    (λ j. row_back (take 2 bytes) two front j ++ numbers_back k (drop 2 bytes) rest back j)
    ∙ take-append-drop 2 bytes
