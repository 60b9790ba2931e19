-- The access that a call made last is the last one of its cursor. After its next access, this is the last one.
use Rattle.std.proofs.Common.{◌≡◌, ◌≢◌, ℕ, ◌+◌, ◌-◌, ◌*◌, ◌/◌, ◌%◌, ◌==◌, Bool, true, false, cond, not, List, [], ◌∷◌, ◌++◌, get_or, length, Option, None, Some, option_map, refl, sym, ap, ◌∙◌, arith, eqb-true, inl, inr}
use Rattle.std.proofs.lemmas.Bool.{cases_eq, eq-eqb, ne_eqb}
use Rattle.std.proofs.lemmas.List.{get_or_push, length_push}
use Rattle.registers.specs.safe_bit.declared.moves.Move.TheVariants.{BeginRead, BeginWrite, EndRead, EndWrite}
use Rattle.registers.specs.reader_copies.{Made, next_write}
use Rattle.registers.specs.reader_copies.Runs as copies
use Rattle.model.specs.safe_number.{NumberWrite, write_on}
use Rattle.model.specs.{Access, Call, Field, Part, Reading, Run, Writing, access_at, access_of, bit_written, ended, ended_with, is_read, next_written, read_at, run_after, written_at}
use Rattle.registers.specs.{CursorState, IsAtPart, RegisterAccessKind, ReadsAt, WritesAt, access_on, bit_begun, last_by_run, run_at, run_by, write_kept}
use Rattle.registers.specs.Progress as registers
use Rattle.process.specs.{last_of_read, last_of_run, last_of_write}

-- AFTER THE NEXT ACCESS

-- the case of a read
read-goes : (owner : ℕ) (field : Field) (reader : ℕ) (bits : List Bool) (begun v : Bool) →
    option_map (access_of owner field) (last_of_read reader (cond begun (bits ++ v ∷ []) bits) (cond begun false true)) ≡ Some (ended_with v (access_of owner field (Rattle.model.specs.Places.next_read reader bits begun)))
read-goes owner field reader bits false v = refl
read-goes owner field reader bits true v =
    let long : length (bits ++ v ∷ []) ≡ length bits + 1 = length_push bits v in
    let before : length (bits ++ v ∷ []) - 1 ≡ length bits = omega (arith, long) in
    let bit : get_or (bits ++ v ∷ []) (length (bits ++ v ∷ []) - 1) false ≡ v = ap (λ k. get_or (bits ++ v ∷ []) k false) before ∙ get_or_push bits v false (length bits) refl in
    ap (λ b. option_map (access_of owner field) (cond b None (Some (length (bits ++ v ∷ []) - 1, record { reader = reader; how = EndRead (get_or (bits ++ v ∷ []) (length (bits ++ v ∷ []) - 1) false) })))) (ne_eqb (length (bits ++ v ∷ [])) 0 (omega (arith, long)))
    ∙ (λ i. Some (access_of owner field (before i, record { reader = reader; how = EndRead (bit i) })))

-- a write leaves nothing open
ended-write : (v value b : Bool) → ended v (cond b (BeginWrite value) EndWrite) ≡ cond b (BeginWrite value) EndWrite
ended-write v value true = refl
ended-write v value false = refl

-- the case of a write, by whether the access is the last one of its bit
write-by : (n width bit : ℕ) (now : copies.Writing) (e : Bool) → (now.made + 1 == 2 * n) ≡ e →
    last_of_write n (write_on (record { width = width; bit = bit; run = None }) (record { value = now.value; made = now.made + 1; ended = e })) ≡ Some (bit, next_write now)
write-by n width bit now true last =
    let all : now.made + 1 ≡ 2 * n = eqb-true (now.made + 1) (2 * n) last in
    let before : bit + 1 - 1 ≡ bit = omega arith in
    let copy : n - 1 ≡ now.made / 2 = omega (arith, all) in
    let odd : now.made % 2 ≢ 0 = omega (arith, all) in
    ap (λ b. cond b None (let x : ℕ × Made = (bit + 1 - 1, record { reader = n - 1; how = EndWrite }) in Some x)) (ne_eqb (bit + 1) 0 (omega arith))
    ∙ (λ i. let x : ℕ × Made = (before i, record { reader = copy i; how = cond (sym (ne_eqb (now.made % 2) 0 odd) i) (BeginWrite now.value) EndWrite }) in Some x)
write-by n width bit now false last =
    let before : now.made + 1 - 1 ≡ now.made = omega arith in
    ap (λ (m : ℕ). let x : ℕ × Made = (bit, next_write (record { value = now.value; made = m; ended = false })) in Some x) before

write-goes : (owner : ℕ) (field : Field) (n : ℕ) (bits : List Bool) (w : NumberWrite) (v : Bool) →
    option_map (access_of owner field) (last_of_write n (write_on w (copies.write_after n (bit_written bits w)))) ≡ Some (ended_with v (access_of owner field (next_written bits w)))
write-goes owner field n bits w v =
    let now : copies.Writing = bit_written bits w in
    ap (option_map (access_of owner field)) (write-by n w.width w.bit now (now.made + 1 == 2 * n) refl)
    ∙ (λ i. let a : Access = record { owner = owner; field = field; bit = w.bit; reader = now.made / 2; how = sym (ended-write v now.value (now.made % 2 == 0)) i } in Some a)

pub last-goes : (c : Call) (part : Part) (run : Run) (v : Bool) → last_of_run c part (run_after c part run v) ≡ Some (ended_with v (access_at c part run))
last-goes c part (Reading bits begun) v = read-goes (read_at c part).0 (read_at c part).1 c.process bits begun v
last-goes c part (Writing w) v = write-goes c.process (written_at c part).0 c.setup.processes (written_at c part).1 w v

-- BY THE CURSOR

-- the case of a read
abbrev read_shape : (owner : ℕ) → Field → (bit reader : ℕ) → (begun : Bool) → List Bool → Option Access
read_shape owner field bit reader begun bits = cond begun
    (Some (record { owner = owner; field = field; bit = bit; reader = reader; how = BeginRead }))
    (cond (bit == 0) None (Some (record { owner = owner; field = field; bit = bit - 1; reader = reader; how = EndRead (get_or bits (bit - 1) false) })))

read-shaped : (owner : ℕ) (field : Field) (reader : ℕ) (bits : List Bool) (begun zero : Bool) → (length bits == 0) ≡ zero →
    read_shape owner field (length bits) reader begun bits ≡ option_map (access_of owner field) (last_of_read reader bits begun)
read-shaped owner field reader bits true zero is = refl
read-shaped owner field reader bits false true is =
    ap (λ b. cond b None (Some (record { owner = owner; field = field; bit = length bits - 1; reader = reader; how = EndRead (get_or bits (length bits - 1) false) }))) is
    ∙ sym (ap (λ b. option_map (access_of owner field) (cond b None (Some (length bits - 1, record { reader = reader; how = EndRead (get_or bits (length bits - 1) false) })))) is)
read-shaped owner field reader bits false false is =
    ap (λ b. cond b None (Some (record { owner = owner; field = field; bit = length bits - 1; reader = reader; how = EndRead (get_or bits (length bits - 1) false) }))) is
    ∙ sym (ap (λ b. option_map (access_of owner field) (cond b None (Some (length bits - 1, record { reader = reader; how = EndRead (get_or bits (length bits - 1) false) })))) is)

read-shown : (c : Call) (part : Part) (cur : CursorState) → ReadsAt c.setup c.process (read_at c part) cur → registers.last_read cur ≡ last_of_run c part (Reading cur.bits cur.begun)
read-shown c part cur at =
    let reader : cur.reader + cur.copy ≡ c.process = omega (arith, at.reader, at.copy) in
    (λ i. read_shape (at.at i).owner (at.at i).field (sym at.bits i) (reader i) cur.begun cur.bits)
    ∙ read-shaped (read_at c part).0 (read_at c part).1 c.process cur.bits cur.begun (length cur.bits == 0) refl

-- the case of a write: the progress of the present bit, by the number of accesses made
some-made : (n width bit made : ℕ) (value : Bool) → made ≢ 0 →
    last_of_write n (record { width = width; bit = bit; run = bit_begun made value }) ≡ (let x : ℕ × Made = (bit, next_write (record { value = value; made = made - 1; ended = false })) in Some x)
some-made n width bit made value some = ap (λ b. last_of_write n (record { width = width; bit = bit; run = cond b None (Some (record { value = value; made = made; ended = false })) })) (ne_eqb made 0 some)

none-made : (n width bit made : ℕ) (value : Bool) → made ≡ 0 →
    last_of_write n (record { width = width; bit = bit; run = bit_begun made value }) ≡ cond (bit == 0) None (let x : ℕ × Made = (bit - 1, record { reader = n - 1; how = EndWrite }) in Some x)
none-made n width bit made value none = ap (λ b. last_of_write n (record { width = width; bit = bit; run = cond b None (Some (record { value = value; made = made; ended = false })) })) (eq-eqb made 0 none)

-- this move as an access
abbrev written_shape : ℕ → Field → Option (ℕ × Made) → Option Access
written_shape owner field o = option_map (access_of owner field) o

write-shape : (owner : ℕ) (field : Field) (cur : CursorState) (begun : Bool) → cur.reader ≡ 0 → cur.register ≡ record { owner = owner; field = field } →
    registers.last_write (record cur { begun = begun }) ≡ written_shape owner field (last_of_write cur.copies (record { width = cur.width; bit = cur.bit; run = bit_begun (2 * cur.copy + cond begun 1 0) (get_or cur.bits cur.bit false) }))
write-shape owner field cur true reader at =
    let value : Bool = get_or cur.bits cur.bit false in
    let made : ℕ = 2 * cur.copy + 1 in
    let there : cur.reader + cur.copy ≡ (made - 1) / 2 = omega (arith, reader) in
    let even : (made - 1) % 2 ≡ 0 = omega arith in
    (λ i. let a : Access = record { owner = (at i).owner; field = (at i).field; bit = cur.bit; reader = there i; how = cond (sym (eq-eqb ((made - 1) % 2) 0 even) i) (BeginWrite value) EndWrite } in Some a)
    ∙ ap (written_shape owner field) (sym (some-made cur.copies cur.width cur.bit made value (omega arith)))
write-shape owner field cur false reader at = elim (cases_eq cur.copy 0) [
  | inl first ↦
      let value : Bool = get_or cur.bits cur.bit false in
      let made : ℕ = 2 * cur.copy + 0 in
      ap (λ b. cond (not b) (Some (access_on cur cur.bit (cur.copy - 1) EndWrite)) (cond (cur.bit == 0) None (Some (access_on cur (cur.bit - 1) (cur.copies - 1) EndWrite)))) (eq-eqb cur.copy 0 first)
      ∙ none-last (cur.bit == 0)
      ∙ ap (written_shape owner field) (sym (none-made cur.copies cur.width cur.bit made value (omega (arith, first))))
  | inr later ↦
      let value : Bool = get_or cur.bits cur.bit false in
      let made : ℕ = 2 * cur.copy + 0 in
      let there : cur.reader + (cur.copy - 1) ≡ (made - 1) / 2 = omega (arith, reader, later) in
      let odd : (made - 1) % 2 ≢ 0 = omega (arith, later) in
      ap (λ b. cond (not b) (Some (access_on cur cur.bit (cur.copy - 1) EndWrite)) (cond (cur.bit == 0) None (Some (access_on cur (cur.bit - 1) (cur.copies - 1) EndWrite)))) (ne_eqb cur.copy 0 later)
      ∙ (λ i. let a : Access = record { owner = (at i).owner; field = (at i).field; bit = cur.bit; reader = there i; how = cond (sym (ne_eqb ((made - 1) % 2) 0 odd) i) (BeginWrite value) EndWrite } in Some a)
      ∙ ap (written_shape owner field) (sym (some-made cur.copies cur.width cur.bit made value (omega (arith, later))))
]
  where
    none-last : (b : Bool) → cond b None (Some (access_on cur (cur.bit - 1) (cur.copies - 1) EndWrite)) ≡ written_shape owner field (cond b None (let x : ℕ × Made = (cur.bit - 1, record { reader = cur.copies - 1; how = EndWrite }) in Some x))
    none-last true = refl
    none-last false =
        let there : cur.reader + (cur.copies - 1) ≡ cur.copies - 1 = omega (arith, reader) in
        λ i. let a : Access = record { owner = (at i).owner; field = (at i).field; bit = cur.bit - 1; reader = there i; how = EndWrite } in Some a

write-shown : (c : Call) (part : Part) (cur : CursorState) → WritesAt c.setup c.process (written_at c part) cur → registers.last_write cur ≡ last_of_run c part (Writing (write_kept cur))
write-shown c part cur at =
    write-shape c.process (written_at c part).0 cur cur.begun at.reader at.at
    ∙ ap (λ n. option_map (access_of c.process (written_at c part).0) (last_of_write n (write_kept cur))) at.copies

part-shown : (c : Call) (part : Part) (cur : CursorState) (b : Bool) →
    elim b as (λ _. Type 0) [ true ↦ ReadsAt c.setup c.process (read_at c part) cur | false ↦ WritesAt c.setup c.process (written_at c part) cur ] → registers.last_access cur ≡ last_of_run c part (run_at cur)
part-shown c part cur true at =
    ap (λ (r : RegisterAccessKind). last_by_run r cur) at.run ∙ read-shown c part cur at ∙ sym (ap (λ (r : RegisterAccessKind). last_of_run c part (run_by r cur)) at.run)
part-shown c part cur false at =
    ap (λ (r : RegisterAccessKind). last_by_run r cur) at.run ∙ write-shown c part cur at ∙ sym (ap (λ (r : RegisterAccessKind). last_of_run c part (run_by r cur)) at.run)

pub last-shown : (c : Call) (part : Part) (cur : CursorState) → IsAtPart c part cur → registers.last_access cur ≡ last_of_run c part (run_at cur)
last-shown c part cur at = part-shown c part cur (is_read part) at
