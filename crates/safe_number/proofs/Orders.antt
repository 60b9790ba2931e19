-- The accesses of a write and a read, one after another.
use Rattle.std.proofs.Common.{◌≡◌, ℕ, zero, suc, ◌+◌, ◌-◌, ◌*◌, ◌<◌, ◌≤◌, ◌==◌, List, [], ◌∷◌, ◌++◌, Bool, true, false, cond, Some, None, drop, length, map, refl, sym, ap, ◌∙◌, append-nil, append_assoc, arith, inl, inr}
use Rattle.std.proofs.Math.Nat.{mul-suc, mul-zero}
use Rattle.std.proofs.lemmas.Bool.{cases_lt, eqb-true, eqb-false}
use Rattle.std.proofs.lemmas.List.{length-append, length-map, length_push}
use Rattle.std.specs.List.{range_with_len}
use Rattle.reader_copies.specs.safe_bit.declared.Move.TheVariants.{BeginRead, EndRead}
use Rattle.reader_copies.specs.{Made, Writing, bit_writes}
use Rattle.reader_copies.proofs.Orders.{rest-write, length-writes}
use Rattle.safe_number.specs.{NumberRead, NumberWrite, at_bit, bit_in, bit_write, bits_in, made_by_read, new_read, new_write, next_of_read, next_of_write, number_read_after, number_reads, number_write_after, number_writes, read_after_steps, reads_from, rest_of_bits, rest_of_number_write, reported_by_read, reported_by_write, write_after_steps, writes_from}
use Rattle.safe_number.proofs.Numbers.{length_bits}

-- a write that has more accesses to make
pub record GoesOn (n : ℕ) (value : List ℕ) (w : NumberWrite) : Type 0 where
  pub inside : w.bit ≤ w.width
  pub going : (bit_write value w).made < 2 * n

-- past the last access of a bit nothing of it is left
pub drop_past : {X : Type 0} (xs : List X) (k : ℕ) → length xs ≤ k → drop k xs ≡ []
drop_past [] zero h = refl
drop_past [] (suc k) h = refl
drop_past (x ∷ xs) zero h = absurd (omega arith)
drop_past (x ∷ xs) (suc k) h = drop_past xs k (omega arith)

-- the accesses left when the next bit comes
next_bit_rest : (n : ℕ) (value : List ℕ) (width bit m : ℕ) → rest_of_bits n value (record { width = width; bit = bit; run = None }) m ≡ writes_from n bit (map (bit_in value) (range_with_len bit m))
next_bit_rest n value width bit zero = refl
next_bit_rest n value width bit (suc m) = refl

-- the accesses left of a write whose present bit has come so far, whether that bit is done or not
rest_on : (n : ℕ) (value : List ℕ) (width bit m made : ℕ) (v ended : Bool) → made ≤ 2 * n → (made == 2 * n) ≡ ended → width - bit ≡ suc m
    → let run : Writing = record { value = v; made = made; ended = ended } in
    let w : NumberWrite = cond ended (record { width = width; bit = bit + 1; run = None }) (record { width = width; bit = bit; run = Some run }) in
    rest_of_number_write n value w ≡ map (at_bit bit) (drop made (bit_writes n v)) ++ writes_from n (bit + 1) (map (bit_in value) (range_with_len (bit + 1) m))
rest_on n value width bit m made v true fits e remaining =
    let all : made ≡ 2 * n = eqb-true made (2 * n) e in
    let fewer : width - (bit + 1) ≡ m = omega arith in
    ap (rest_of_bits n value (record { width = width; bit = bit + 1; run = None })) fewer
    ∙ next_bit_rest n value width (bit + 1) m
    ∙ ap (λ xs. map (at_bit bit) xs ++ writes_from n (bit + 1) (map (bit_in value) (range_with_len (bit + 1) m))) (sym (drop_past (bit_writes n v) made (omega (arith, length-writes 0 n v))))
rest_on n value width bit m made v false fits e remaining =
    ap (rest_of_bits n value (record { width = width; bit = bit; run = Some (record { value = v; made = made; ended = false }) })) remaining

-- the next access of a write is the first of those that are left
pub rest-next : (n : ℕ) (value : List ℕ) (w : NumberWrite) → GoesOn n value w → w.bit < w.width → rest_of_number_write n value w ≡ next_of_write value w ∷ rest_of_number_write n value (number_write_after n value w)
rest-next n value w on inside =
    let run : Writing = bit_write value w in
    let m : ℕ = w.width - w.bit - 1 in
    let remaining : w.width - w.bit ≡ suc m = omega arith in
    let more : List (ℕ × Made) = writes_from n (w.bit + 1) (map (bit_in value) (range_with_len (w.bit + 1) m)) in
    ap (rest_of_bits n value w) remaining
    ∙ ap (λ xs. map (at_bit w.bit) xs ++ more) (rest-write n run on.going)
    ∙ ap (λ xs. next_of_write value w ∷ xs) (sym (rest_on n value w.width w.bit m (run.made + 1) run.value (run.made + 1 == 2 * n) (omega (arith, on.going)) refl remaining))

-- and the write goes on
goes_on : (n width bit made : ℕ) (value : List ℕ) (v ended : Bool) → bit < width → 0 < n → made ≤ 2 * n → (made == 2 * n) ≡ ended
    → let run : Writing = record { value = v; made = made; ended = ended } in
    let w : NumberWrite = cond ended (record { width = width; bit = bit + 1; run = None }) (record { width = width; bit = bit; run = Some run }) in
    GoesOn n value w
goes_on n width bit made value v true inside some fits e = record { inside = omega arith; going = omega arith }
goes_on n width bit made value v false inside some fits e =
    let apart : made ≡ 2 * n → ⊥ = eqb-false made (2 * n) e in
    record { inside = omega arith; going = omega arith }

pub goes-on : (n : ℕ) (value : List ℕ) (w : NumberWrite) → 0 < n → GoesOn n value w → w.bit < w.width → GoesOn n value (number_write_after n value w)
goes-on n value w some on inside =
    let run : Writing = bit_write value w in
    goes_on n w.width w.bit (run.made + 1) value run.value (run.made + 1 == 2 * n) inside some (omega (arith, on.going)) refl

-- a write that is done has nothing left, and one with nothing left is done
pub rest-done : (n : ℕ) (value : List ℕ) (w : NumberWrite) → w.bit ≡ w.width → rest_of_number_write n value w ≡ []
rest-done n value w all = let none : w.width - w.bit ≡ 0 = omega arith in ap (rest_of_bits n value w) none

-- so a write makes exactly the accesses that are left
pub reported-rest : (k n : ℕ) (value : List ℕ) (w : NumberWrite) → 0 < n → GoesOn n value w → length (rest_of_number_write n value w) ≡ k → (reported_by_write k n value w ≡ rest_of_number_write n value w) × ((write_after_steps k n value w).bit ≡ (write_after_steps k n value w).width)
reported-rest zero n value w some on len = elim (cases_lt w.bit w.width) [
  | inl inside ↦ absurd (omega (arith, ap length (rest-next n value w on inside)))
  | inr past ↦ let all : w.bit ≡ w.width = omega (arith, on.inside) in (sym (rest-done n value w all), all)
]
reported-rest (suc k) n value w some on len = elim (cases_lt w.bit w.width) [
  | inl inside ↦
      let next : NumberWrite = number_write_after n value w in
      let so : (reported_by_write k n value next ≡ rest_of_number_write n value next) × ((write_after_steps k n value next).bit ≡ (write_after_steps k n value next).width) =
      reported-rest k n value next some (goes-on n value w some on inside) (omega (arith, ap length (rest-next n value w on inside))) in
      (ap (λ xs. next_of_write value w ∷ xs) so.0 ∙ sym (rest-next n value w on inside), so.1)
  | inr past ↦ let all : w.bit ≡ w.width = omega (arith, on.inside) in absurd (omega (arith, ap length (rest-done n value w all)))
]

-- a new write has all of them left
pub rest-new : (n : ℕ) (value : List ℕ) (width : ℕ) → rest_of_number_write n value (new_write width) ≡ number_writes n (bits_in value width)
rest-new n value width = let all : width - 0 ≡ width = omega arith in ap (rest_of_bits n value (new_write width)) all ∙ next_bit_rest n value width 0 width

-- how many they are
pub length-number_writes : (n k : ℕ) (bits : List Bool) → length (writes_from n k bits) ≡ 2 * n * length bits
length-number_writes n k [] = sym (mul-zero (2 * n))
length-number_writes n k (b ∷ bits) =
    length-append (map (at_bit k) (bit_writes n b)) (writes_from n (k + 1) bits)
    ∙ ap (λ x. x + length (writes_from n (k + 1) bits)) (length-map (bit_writes n b) (at_bit k) ∙ length-writes 0 n b)
    ∙ ap (λ x. 2 * n + x) (length-number_writes n (k + 1) bits)
    ∙ (omega (arith, mul-suc (2 * n) (length bits)))

pub whole-write : (n : ℕ) (value : List ℕ) (width : ℕ) → 0 < n → (reported_by_write (2 * n * width) n value (new_write width) ≡ number_writes n (bits_in value width)) × ((write_after_steps (2 * n * width) n value (new_write width)).bit ≡ (write_after_steps (2 * n * width) n value (new_write width)).width)
whole-write n value width some =
    let len : length (rest_of_number_write n value (new_write width)) ≡ 2 * n * width =
    ap length (rest-new n value width) ∙ length-number_writes n 0 (bits_in value width) ∙ ap (λ x. 2 * n * x) (length_bits value width) in
    let so = reported-rest (2 * n * width) n value (new_write width) some (record { inside = omega arith; going = omega arith }) len in
    (so.0 ∙ rest-new n value width, so.1)

-- a read of one more bit
reads-push : (reader k : ℕ) (bits : List Bool) (v : Bool) → reads_from reader k (bits ++ v ∷ []) ≡ reads_from reader k bits ++ at_bit (k + length bits) (record { reader = reader; how = BeginRead }) ∷ at_bit (k + length bits) (record { reader = reader; how = EndRead v }) ∷ []
reads-push reader k [] v =
    let same : k ≡ k + 0 = omega arith in
    ap (λ j. at_bit j (record { reader = reader; how = BeginRead }) ∷ at_bit j (record { reader = reader; how = EndRead v }) ∷ []) same
reads-push reader k (b ∷ bits) v =
    let same : k + 1 + length bits ≡ k + suc (length bits) = omega arith in
    ap (λ xs. at_bit k (record { reader = reader; how = BeginRead }) ∷ at_bit k (record { reader = reader; how = EndRead b }) ∷ xs)
    (reads-push reader (k + 1) bits v
    ∙ ap (λ j. reads_from reader (k + 1) bits ++ at_bit j (record { reader = reader; how = BeginRead }) ∷ at_bit j (record { reader = reader; how = EndRead v }) ∷ []) same)

made_next : (reader width room : ℕ) (bits : List Bool) (begun v : Bool)
    → let r : NumberRead = record { width = width; bits = bits; begun = begun; room = room } in
    made_by_read reader (number_read_after r v) ≡ made_by_read reader r ++ next_of_read reader r v ∷ []
made_next reader width room bits true v =
    let same : 0 + length bits ≡ length bits = omega arith in
    append-nil (number_reads reader (bits ++ v ∷ []))
    ∙ reads-push reader 0 bits v
    ∙ ap (λ j. number_reads reader bits ++ at_bit j (record { reader = reader; how = BeginRead }) ∷ at_bit j (record { reader = reader; how = EndRead v }) ∷ []) same
    ∙ sym (append_assoc (number_reads reader bits) (at_bit (length bits) (record { reader = reader; how = BeginRead }) ∷ []) (at_bit (length bits) (record { reader = reader; how = EndRead v }) ∷ []))
made_next reader width room bits false v = ap (λ xs. xs ++ at_bit (length bits) (record { reader = reader; how = BeginRead }) ∷ []) (sym (append-nil (number_reads reader bits)))

-- the next access of a read comes after those that it has made
pub made-next : (reader : ℕ) (r : NumberRead) (v : Bool) → made_by_read reader (number_read_after r v) ≡ made_by_read reader r ++ next_of_read reader r v ∷ []
made-next reader r v = made_next reader r.width r.room r.bits r.begun v

pub made-reported : (reader : ℕ) (r : NumberRead) (values : List Bool) → made_by_read reader (read_after_steps r values) ≡ made_by_read reader r ++ reported_by_read reader r values
made-reported reader r [] = sym (append-nil (made_by_read reader r))
made-reported reader r (v ∷ values) =
    made-reported reader (number_read_after r v) values
    ∙ ap (λ xs. xs ++ reported_by_read reader (number_read_after r v) values) (made-next reader r v)
    ∙ append_assoc (made_by_read reader r) (next_of_read reader r v ∷ []) (reported_by_read reader (number_read_after r v) values)

-- a read has come to the bit of half its accesses
steps_on : (width room : ℕ) (bits : List Bool) (values : List Bool) (k : ℕ) → length values ≡ 2 * k
    → let r : NumberRead = read_after_steps (record { width = width; bits = bits; begun = false; room = room }) values in
    (length r.bits ≡ length bits + k) × (r.begun ≡ false) × (r.width ≡ width)
steps_on width room bits [] k len = (omega arith, refl, refl)
steps_on width room bits (v ∷ []) k len = absurd (omega arith)
steps_on width room bits (u ∷ v ∷ values) zero len = absurd (omega arith)
steps_on width room bits (u ∷ v ∷ values) (suc k) len =
    let so = steps_on width room (bits ++ v ∷ []) values k (omega arith) in
    (omega (arith, so.0, length_push bits v), so.1, so.2)

pub whole-read : (reader width room : ℕ) (values : List Bool) → length values ≡ 2 * width
    → let r : NumberRead = read_after_steps (new_read width room) values in
    (reported_by_read reader (new_read width room) values ≡ number_reads reader r.bits) × (length r.bits ≡ width) × (r.begun ≡ false)
whole-read reader width room values len =
    let r : NumberRead = read_after_steps (new_read width room) values in
    let so = steps_on width room [] values width len in
    let closed : made_by_read reader r ≡ number_reads reader r.bits =
    ap (λ b. number_reads reader r.bits ++ cond b (at_bit (length r.bits) (record { reader = reader; how = BeginRead }) ∷ []) []) so.1 ∙ append-nil (number_reads reader r.bits) in
    (sym (made-reported reader (new_read width room) values) ∙ closed, omega (arith, so.0), so.1)
