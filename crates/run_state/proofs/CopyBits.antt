-- The copies of a register as they are read off a core, by their bits.
use Rattle.std.proofs.Common.{◌≡◌, ℕ, zero, suc, ◌+◌, ◌<◌, ◌≤◌, ◌==◌, Bool, true, false, not, ◌||◌, cond, List, [], ◌∷◌, length, map, get_or, replicate, None, Some, Ok, if◌then◌else◌, refl, sym, ap, ◌∙◌, arith, inl, inr}
use Rattle.std.specs.Int.{is_in_range}
use Rattle.std.specs.List.{list_any, range_with_len}
use Rattle.std.specs.Prelude.{Decides}
use Rattle.std.specs.Str.{bytes_eq}
use Rattle.std.proofs.lemmas.Bool.{cases_lt, false_from_ne_true, or_from, true_from_ne_false, true≢false}
use Rattle.std.proofs.lemmas.Bool.Decides.{nat_tests}
use Rattle.std.proofs.lemmas.List.{get_or_past, length-map}
use Rattle.std.proofs.lemmas.List.Folds.{list_any_at}
use Rattle.std.proofs.lemmas.List.FromFn.{get_or-range_with_len, length-map-range_with_len, length-range_with_len}
use Rattle.std.proofs.lemmas.Simd.{map-map}
use Rattle.std.proofs.lemmas.Slice.Eq.{bytes_eq-Decides}
use Rattle.plain_store.specs.{Setup, checked, opening_store}
use Rattle.model.specs.store_image.{image_of}
use Rattle.model.specs.safe_bit.Cell.{Cell}
use Rattle.model.specs.safe_number.{bit_in}
use Rattle.model.specs.declared.access.Field.TheVariants.{Choosing, Ticket, Commit, Stamp0, Stamp1, Image0, Image1}
use Rattle.model.specs.{Field, Past, copy, opening_bits, processes, width}
use Rattle.model.proofs.safe_number.Numbers.{length_bits}
use Rattle.model.proofs.store_image.GoodRanges.{few-callers, few-slots}
use Rattle.plain_store.proofs.GoodSetups.{good-checked}
use Rattle.calls.specs.world.{CoreState, InEachCorePast}
use Rattle.calls.specs.world.laws.{cell_held}
use Rattle.calls.specs.world.process.registers.{RegisterName}
use Rattle.calls.specs.world.{cells_held}
use Rattle.calls.specs.world.process.registers.{copy_bytes, has_open_write, register_bytes, values_in}
use Rattle.run_state.specs.{CoreShows, are_other, bits_in_cells, bits_read, bits_text, copy_text, differ, has_changed, is_copy_changed}
use Rattle.calls.proofs.world_proofs.process_proofs.registers_proofs.CopyBytes.{register-made}
use Rattle.calls.proofs.world_proofs.process_proofs.registers_proofs.MadeBytes.{register-bits, register-length, register-small}
use Rattle.run_state.proofs.RegisterBytes.{padded-register, register-back}
use Rattle.run_state.proofs.Ranges.{any_next}

any-map : {A B : Type 0} (p : B → Bool) (f : A → B) (xs : List A) → list_any p (map f xs) ≡ list_any (λ x. p (f x)) xs
any-map p f [] = refl
any-map p f (x ∷ xs) = ap (λ b. p (f x) || b) (any-map p f xs)

-- a fact about each past of a core, by the setup that it was made for
pub in_past : {A : Type 0} (c : CoreState) (s : Setup) (given : A) (f : Setup → Past → A) → c.setup ≡ s → InEachCorePast c (λ t past. given ≡ f t past) → (past : Past) → CoreShows c past → given ≡ f s past
in_past c s given f same each past u = each u.taken u.events u.shows ∙ (λ i. f (same i) (u.is i))

-- Widths.

few_bits : (b : Bool) (n : ℕ) → is_in_range 1 (if b then 16 else 32) n ≡ true → n ≤ 32
few_bits true n k = grind (arith, nat_tests)
few_bits false n k = grind (arith, nat_tests)

-- a register has at most 1728 bits
most_bits : (s : Setup) → checked s ≡ Ok tt → (field : Field) → width s field ≤ 1728
most_bits s good Choosing = omega arith
most_bits s good Ticket = omega (arith, few_bits (s.version == 1) s.ticket_bits (good-checked s good).ticket_bits)
most_bits s good Commit = omega arith
most_bits s good Stamp0 = omega (arith, few_bits (s.version == 1) s.stamp_bits (good-checked s good).stamp_bits)
most_bits s good Stamp1 = omega (arith, few_bits (s.version == 1) s.stamp_bits (good-checked s good).stamp_bits)
most_bits s good Image0 = omega (arith, few-slots s good, few-callers s good)
most_bits s good Image1 = omega (arith, few-slots s good, few-callers s good)

-- Openings.

-- all registers except the first image of process 0 are initially 0
opening-none : (s : Setup) (owner : ℕ) (field : Field) → (owner ≡ 0 → field ≡ Image0 → ⊥) → opening_bits s owner field ≡ []
opening-none s zero Choosing other = refl
opening-none s zero Ticket other = refl
opening-none s zero Commit other = refl
opening-none s zero Stamp0 other = refl
opening-none s zero Stamp1 other = refl
opening-none s zero Image0 other = absurd (other refl refl)
opening-none s zero Image1 other = refl
opening-none s (suc owner) field other = refl

pub opening-zeros : (s : Setup) (owner : ℕ) (field : Field) → (owner ≡ 0 → field ≡ Image0 → ⊥) → replicate 216 0 ≡ register_bytes (opening_bits s owner field)
opening-zeros s owner field other =
    padded-register [] (omega arith) (λ k. omega (arith, get_or_past {X = ℕ} [] k 0 (omega arith))) ∙ ap register_bytes (sym (opening-none s owner field other))

opening-short : (s : Setup) (owner : ℕ) (field : Field) → length (opening_bits s owner field) ≤ width s field
opening-short s zero Choosing = omega arith
opening-short s zero Ticket = omega arith
opening-short s zero Commit = omega arith
opening-short s zero Stamp0 = omega arith
opening-short s zero Stamp1 = omega arith
opening-short s zero Image0 = omega (arith, length_bits (image_of (opening_store s)) (width s Image0))
opening-short s zero Image1 = omega arith
opening-short s (suc owner) field = omega arith

-- Changes.

same-differ : (a b : Bool) → a ≡ b → differ a b ≡ false
same-differ true true e = refl
same-differ true false e = absurd (cc)
same-differ false true e = absurd (cc)
same-differ false false e = refl

differ-same : (a b : Bool) → differ a b ≡ false → a ≡ b
differ-same true true e = refl
differ-same true false e = absurd (cc)
differ-same false true e = absurd (cc)
differ-same false false e = refl

none_below : (f : ℕ → Bool) (n : ℕ) → ((k : ℕ) → k < n → f k ≡ false) → list_any f (range_with_len 0 n) ≡ false
none_below f zero none = refl
none_below f (suc n) none =
    let next : suc n ≡ n + 1 = omega arith in
    ap (λ m. list_any f (range_with_len 0 m)) next ∙ any_next f n
    ∙ or_from (list_any f (range_with_len 0 n)) (f n) (none_below f n (λ k below. none k (omega arith))) (none n (omega arith))

below_none : (f : ℕ → Bool) (n k : ℕ) → k < n → list_any f (range_with_len 0 n) ≡ false → f k ≡ false
below_none f n k below none =
    let here : 0 + k ≡ k = omega arith in
    false_from_ne_true (f k) (λ is. true≢false (sym (list_any_at f (range_with_len 0 n) k 0 (omega (arith, length-range_with_len 0 n)) (ap f (get_or-range_with_len 0 n k 0 below ∙ here) ∙ is)) ∙ none))

-- the bytes of a register are not those with which it opens exactly where its bits are not
other-bytes : (opening bits : List Bool) → length bits ≤ 1728 → length opening ≤ length bits → not (bytes_eq (register_bytes bits) (register_bytes opening)) ≡ has_changed opening (Some bits)
other-bytes opening bits most short = by (bytes_eq made first) (bytes_eq-Decides made first)
  where
    made : List ℕ
    made = register_bytes bits

    first : List ℕ
    first = register_bytes opening

    test : ℕ → Bool
    test k = differ (get_or bits k false) (get_or opening k false)

    same : list_any test (range_with_len 0 (length bits)) ≡ false → made ≡ first
    same none = register-made opening made (register-length bits) (register-small bits) (λ k. register-bits bits most k ∙ elim (cases_lt k (length bits)) [
      | inl inside ↦ differ-same (get_or bits k false) (get_or opening k false) (below_none test (length bits) k inside none)
      | inr past ↦ get_or_past bits k false past ∙ sym (get_or_past opening k false (omega arith))
    ])

    by : (b : Bool) → Decides b (made ≡ first) → not b ≡ list_any test (range_with_len 0 (length bits))
    by true decides = sym (none_below test (length bits) (λ k below.
        same-differ (get_or bits k false) (get_or opening k false) (sym (register-bits bits most k) ∙ ap (λ l. bit_in l k) (decides.0 refl) ∙ register-bits opening (omega arith) k)))
    by false decides = sym (true_from_ne_false (list_any test (range_with_len 0 (length bits))) (λ none. true≢false (sym (decides.1 (same none)))))

length-values : (cells : List Cell) (n : ℕ) → length cells ≡ n → length (values_in cells) ≡ n
length-values cells n wide = length-map {B = Bool} cells (λ (c : Cell). c.value) ∙ wide

-- so a copy is changed where its bytes are others
other-copy : (opening : List Bool) (cells : List Cell) (n : ℕ) → length cells ≡ n → n ≤ 1728 → length opening ≤ n → are_other (register_bytes opening) (copy_bytes cells) ≡ has_changed opening (bits_in_cells cells)
other-copy opening cells n wide most short = by (has_open_write cells)
  where
    many : length (values_in cells) ≡ n
    many = length-values cells n wide

    by : (b : Bool) → are_other (register_bytes opening) (cond b None (Some (register_bytes (values_in cells)))) ≡ has_changed opening (cond b None (Some (values_in cells)))
    by true = refl
    by false = other-bytes opening (values_in cells) (omega (arith, many)) (omega (arith, many))

-- the bits of a copy are read off its bytes
copy-back : (cells : List Cell) (n : ℕ) → length cells ≡ n → n ≤ 1728 → bits_read n (copy_bytes cells) ≡ bits_in_cells cells
copy-back cells n wide most = by (has_open_write cells)
  where
    by : (b : Bool) → bits_read n (cond b None (Some (register_bytes (values_in cells)))) ≡ cond b None (Some (values_in cells))
    by true = refl
    by false = ap Some (register-back (values_in cells) n (length-values cells n wide) most)

-- the cells of a copy are as many as its register has bits
length-cells : (s : Setup) (past : Past) (register : RegisterName) (reader : ℕ) → length (cells_held s past register reader) ≡ width s register.field
length-cells s past register reader = length-map-range_with_len (λ k. cell_held s past (copy register.owner register.field reader k)) 0 (width s register.field)

-- the texts of the copies that a core gives
pub texts-held : (s : Setup) (past : Past) (register : RegisterName) → checked s ≡ Ok tt →
    map (λ c. bits_text s register.field (bits_read (width s register.field) c)) (map (λ reader. copy_bytes (cells_held s past register reader)) (processes s)) ≡ map (copy_text s past register.owner register.field) (processes s)
texts-held s past register good =
    map-map (λ c. bits_text s register.field (bits_read (width s register.field) c)) (λ reader. copy_bytes (cells_held s past register reader)) (processes s)
    ∙ (λ i. map (λ reader. bits_text s register.field (copy-back (cells_held s past register reader) (width s register.field) (length-cells s past register reader) (most_bits s good register.field) i)) (processes s))

-- whether one of them is changed
pub changed-held : (s : Setup) (past : Past) (register : RegisterName) → checked s ≡ Ok tt →
    list_any (are_other (register_bytes (opening_bits s register.owner register.field))) (map (λ reader. copy_bytes (cells_held s past register reader)) (processes s)) ≡ list_any (is_copy_changed s past register.owner register.field) (processes s)
changed-held s past register good =
    let opening : List Bool = opening_bits s register.owner register.field in
    any-map (are_other (register_bytes opening)) (λ reader. copy_bytes (cells_held s past register reader)) (processes s)
    ∙ (λ i. list_any (λ reader. other-copy opening (cells_held s past register reader) (width s register.field) (length-cells s past register reader) (most_bits s good register.field) (opening-short s register.owner register.field) i) (processes s))
