-- The effect of an access of a write on its register, and the progress of the write then.
use Rattle.std.proofs.Common.{◌≡◌, ◌≢◌, ℕ, ◌+◌, ◌*◌, ◌/◌, ◌%◌, ◌<◌, ◌==◌, Bool, true, false, cond, List, ◌∷◌, length, Some, None, refl, sym, ap, subst, ◌∙◌, arith, inl, inr}
use Rattle.std.proofs.lemmas.Bool.{cases_eq, eqb-true, eqb-false, ne_eqb}
use Rattle.model.specs.safe_bit.{read_value}
use Rattle.model.specs.safe_bit.declared.Move.TheVariants.{BeginWrite, EndWrite}
use Rattle.model.specs.{Access, Entry, Field, Past, access_of, bit_written, ended, moves_of, next_written, opening_bit, valued, write_moved}
use Rattle.model.specs.safe_number.{NumberWrite}
use Rattle.plain_store.specs.{Setup}
use Rattle.laws.proofs.FrameCells.{off-bit, off-reader}
use Rattle.laws.proofs.FrameWires.{wire_after, wires-here, wires-there, wires-fields, touches-fields}
use Rattle.laws.proofs.Invariant.{Wire, Wires, wires, Touches, touches, Closed, bit, Before, Written}

-- a write of field f leaves the other fields of p, and the marks of overlap on them, as they were
pub record OneField (p : ℕ) (f : Field) (m m' : Wires) (t t' : ℕ → ℕ → Touches) : Type 0 where
  pub wires : (g : Field) → g ≢ f → m' g ≡ m g
  pub touches : (r : ℕ) (g : Field) → g ≢ f → t' p r g ≡ t p r g

pub one_field : (s : Setup) (past : Past) (p : ℕ) (e : Entry) (x : Access) → e.access ≡ Some x → OneField p x.field (wires s past p) (wires s (e ∷ past) p) (touches s past) (touches s (e ∷ past))
one_field s past p e x h = record { wires = λ g ne. wires-fields s past e x p g h ne; touches = λ r g ne. touches-fields s past e x p r g h ne }

-- the copy for reader c of bit b is x then, and the other copies are as they were
pub record Rewired (m m' : ℕ → ℕ → Wire) (b c : ℕ) (x : Wire) : Type 0 where
  pub here : m' b c ≡ x
  pub there : (k r : ℕ) → ((k ≡ b) × (r ≡ c) → ⊥) → m' k r ≡ m k r

-- a property of the new wire there, and of the old ones elsewhere, is a property of all
all_rewired : (P : ℕ → ℕ → Wire → Type 0) (m m' : ℕ → ℕ → Wire) (b c : ℕ) (x : Wire) → Rewired m m' b c x → P b c x → ((k r : ℕ) → ((k ≡ b) × (r ≡ c) → ⊥) → P k r (m k r)) → (k r : ℕ) → P k r (m' k r)
all_rewired P m m' b c x w here there k r = elim (cases_eq k b) [
  | inr ne ↦ off (λ h. ne h.0)
  | inl kb ↦ elim (cases_eq r c) [
    | inr ne ↦ off (λ h. ne h.1)
    | inl rc ↦ subst (λ k. P k r (m' k r)) (sym kb) (subst (λ r. P b r (m' b r)) (sym rc) (subst (P b c) (sym w.here) here))
  ]
]
  where
    off : ((k ≡ b) × (r ≡ c) → ⊥) → P k r (m' k r)
    off ne = subst (P k r) (sym (w.there k r ne)) (there k r ne)

-- the effect of an access on its copy
pub rewired : (s : Setup) (past : Past) (e : Entry) (x : Access) → e.access ≡ Some x →
    Rewired (wires s past x.owner x.field) (wires s (e ∷ past) x.owner x.field) x.bit x.reader (wire_after (wires s past x.owner x.field x.bit x.reader) x.how)
rewired s past e x h = record { here = wires-here s past e x h; there = apart }
  where
    apart : (k r : ℕ) → ((k ≡ x.bit) × (r ≡ x.reader) → ⊥) → wires s (e ∷ past) x.owner x.field k r ≡ wires s past x.owner x.field k r
    apart k r ne = elim (cases_eq k x.bit) [
      | inr kb ↦ wires-there s past e x x.owner x.field k r h (off-bit x x.owner x.field k r kb)
      | inl kb ↦ wires-there s past e x x.owner x.field k r h (off-reader x x.owner x.field k r (λ rc. ne (kb, rc)))
    ]

-- The next access of a write: begin or end on a copy.

-- the place of the write, once it has begun on a copy, or ended on one that is not the last of its bit
pub stays : (n : ℕ) (bits : List Bool) (w : NumberWrite) → ((bit_written bits w).made + 1 == 2 * n) ≡ false →
    write_moved n bits w ≡ record { width = w.width; bit = w.bit; run = Some (record { value = (bit_written bits w).value; made = (bit_written bits w).made + 1; ended = false }) }
stays n bits w e = ap {A = Bool} (λ b. cond b (let next : NumberWrite = record { width = w.width; bit = w.bit + 1; run = None } in next)
    (record { width = w.width; bit = w.bit; run = Some (record { value = (bit_written bits w).value; made = (bit_written bits w).made + 1; ended = b }) })) e

-- the place of the write, once it has ended on the last copy
pub turns : (n : ℕ) (bits : List Bool) (w : NumberWrite) → ((bit_written bits w).made + 1 == 2 * n) ≡ true → write_moved n bits w ≡ record { width = w.width; bit = w.bit + 1; run = None }
turns n bits w e = ap {A = Bool} (λ b. cond b (let next : NumberWrite = record { width = w.width; bit = w.bit + 1; run = None } in next)
    (record { width = w.width; bit = w.bit; run = Some (record { value = (bit_written bits w).value; made = (bit_written bits w).made + 1; ended = b }) })) e

-- the progress of a write after an access: it continues, or all its copies are done
pub record Advanced (n : ℕ) (bits : List Bool) (w : NumberWrite) (m' : Wires) (f : Field) : Type 0 where
  pub on : ((write_moved n bits w).bit == w.width) ≡ false → Written n bits (write_moved n bits w) m' f
  pub all : ((write_moved n bits w).bit == w.width) ≡ true → (k r : ℕ) → k < length bits → r < n → Closed (m' f k r) (bit bits k)

-- a write that stays at its bit
advanced_here : (n : ℕ) (bits : List Bool) (w : NumberWrite) (m m' : Wires) (f : Field) → Written n bits w m f → ((bit_written bits w).made + 1 == 2 * n) ≡ false
    → ((k r : ℕ) → r < n → Before k r w.bit (((bit_written bits w).made + 1) / 2) → Closed (m' f k r) (bit bits k))
    → (((bit_written bits w).made + 1) % 2 ≡ 1 → (m' f w.bit (((bit_written bits w).made + 1) / 2)).value ≡ bit bits w.bit) → Advanced n bits w m' f
advanced_here n bits w m m' f h e done begun = record {
  on = λ l. subst (λ y. Written n bits y m' f) (sym (stays n bits w e))
      (record { width_is = h.width_is; below = h.below; made = let made = h.made in let apart : (bit_written bits w).made + 1 ≢ 2 * n = eqb-false ((bit_written bits w).made + 1) (2 * n) e in omega arith; value = h.value; going = refl; done = done; begun = begun });
  all = λ l. let below = h.below in let same : w.bit ≡ w.width = eqb-true w.bit w.width (ap (λ (y : NumberWrite). y.bit == w.width) (sym (stays n bits w e)) ∙ l) in absurd (omega arith);
}

-- a begin on a copy
begins : (n : ℕ) (bits : List Bool) (w : NumberWrite) (m m' : Wires) (f : Field) → Written n bits w m f → (bit_written bits w).made % 2 ≡ 0
    → Rewired (m f) (m' f) w.bit ((bit_written bits w).made / 2) (record { value = (bit_written bits w).value; writing = true }) → Advanced n bits w m' f
begins n bits w m m' f h even x =
    let made : ℕ = (bit_written bits w).made in
    let same : (made + 1) / 2 ≡ made / 2 = omega arith in
    advanced_here n bits w m m' f h (ne_eqb (made + 1) (2 * n) (λ z. omega (arith, z)))
    (subst (λ c. (k r : ℕ) → r < n → Before k r w.bit c → Closed (m' f k r) (bit bits k)) (sym same)
    (all_rewired (λ k r y. r < n → Before k r w.bit (made / 2) → Closed y (bit bits k)) (m f) (m' f) w.bit (made / 2) (record { value = (bit_written bits w).value; writing = true }) x
    (λ below before. absurd (here before)) (λ k r ne. h.done k r)))
    (λ odd. subst (λ c. (m' f w.bit c).value ≡ bit bits w.bit) (sym same) (ap (λ (y : Wire). y.value) x.here ∙ h.value))
  where
    here : Before w.bit ((bit_written bits w).made / 2) w.bit ((bit_written bits w).made / 2) → ⊥
    here (inl lower) = omega arith
    here (inr same) = let low : (bit_written bits w).made / 2 < (bit_written bits w).made / 2 = same.1 in omega arith

-- an end on a copy: all copies before the next one are done
ended_copy : (n : ℕ) (bits : List Bool) (w : NumberWrite) (m m' : Wires) (f : Field) → Written n bits w m f → (bit_written bits w).made % 2 ≡ 1
    → Rewired (m f) (m' f) w.bit ((bit_written bits w).made / 2) (record { value = (m f w.bit ((bit_written bits w).made / 2)).value; writing = false })
    → (k r : ℕ) → r < n → Before k r w.bit ((bit_written bits w).made / 2 + 1) → Closed (m' f k r) (bit bits k)
ended_copy n bits w m m' f h odd x =
    all_rewired (λ k r y. r < n → Before k r w.bit (c + 1) → Closed y (bit bits k)) (m f) (m' f) w.bit c (record { value = (m f w.bit c).value; writing = false }) x
    (λ below before. record { writing = refl; value = h.begun odd }) there
  where
    c : ℕ
    c = (bit_written bits w).made / 2

    there : (k r : ℕ) → ((k ≡ w.bit) × (r ≡ c) → ⊥) → r < n → Before k r w.bit (c + 1) → Closed (m f k r) (bit bits k)
    there k r ne below (inl lower) = h.done k r below (inl lower)
    there k r ne below (inr same) = let at : k ≡ w.bit = same.0 in let low : r < c + 1 = same.1 in let off : r ≢ c = λ rc. ne (at, rc) in h.done k r below (inr (at, omega arith))

ends : (n : ℕ) (bits : List Bool) (w : NumberWrite) (m m' : Wires) (f : Field) → Written n bits w m f → (bit_written bits w).made % 2 ≡ 1
    → Rewired (m f) (m' f) w.bit ((bit_written bits w).made / 2) (record { value = (m f w.bit ((bit_written bits w).made / 2)).value; writing = false }) → Advanced n bits w m' f
ends n bits w m m' f h odd x = go (made + 1 == 2 * n) refl
  where
    made : ℕ
    made = (bit_written bits w).made

    done : (k r : ℕ) → r < n → Before k r w.bit (made / 2 + 1) → Closed (m' f k r) (bit bits k)
    done = ended_copy n bits w m m' f h odd x

    -- the bit is done on all copies
    whole : made + 1 ≡ 2 * n → (k r : ℕ) → k < w.bit + 1 → r < n → Closed (m' f k r) (bit bits k)
    whole full k r low below = elim (cases_eq k w.bit) [
      | inl is ↦ done k r below (inr (is, omega arith))
      | inr ne ↦ done k r below (inl (omega arith))
    ]

    before : made + 1 ≡ 2 * n → (k r : ℕ) → r < n → Before k r (w.bit + 1) (0 / 2) → Closed (m' f k r) (bit bits k)
    before full k r below (inl lower) = whole full k r lower below
    before full k r below (inr same) = let low : r < 0 / 2 = same.1 in absurd (omega arith)

    go : (b : Bool) → (made + 1 == 2 * n) ≡ b → Advanced n bits w m' f
    go false e =
        let half : (made + 1) / 2 ≡ made / 2 + 1 = omega arith in
        advanced_here n bits w m m' f h e (subst (λ c. (k r : ℕ) → r < n → Before k r w.bit c → Closed (m' f k r) (bit bits k)) (sym half) done) (λ one. absurd (omega arith))
    go true e = record {
      on = λ l. let below = h.below in let apart : w.bit + 1 ≢ w.width = eqb-false (w.bit + 1) w.width (ap (λ (y : NumberWrite). y.bit == w.width) (sym (turns n bits w e)) ∙ l) in
          subst (λ y. Written n bits y m' f) (sym (turns n bits w e)) (record {
            width_is = h.width_is;
            below = omega arith;
            made = let less = h.made in omega arith;
            value = refl;
            going = refl;
            done = before (eqb-true (made + 1) (2 * n) e);
            begun = λ one. absurd (omega arith);
          });
      all = λ l k r low below.
          let wide = h.width_is in
          let last : w.bit + 1 ≡ w.width = eqb-true (w.bit + 1) w.width (ap (λ (y : NumberWrite). y.bit == w.width) (sym (turns n bits w e)) ∙ l) in
          whole (eqb-true (made + 1) (2 * n) e) k r (omega arith) below;
    }

-- the next access of a write of p takes it one further
pub advances : (s : Setup) (past : Past) (p : ℕ) (e : Entry) (f : Field) (bits : List Bool) (w : NumberWrite) (flick : Bool) → e.access ≡ Some (valued s past flick (access_of p f (next_written bits w))) →
    Written s.processes bits w (wires s past p) f → Advanced s.processes bits w (wires s (e ∷ past) p) f
advances s past p e f bits w flick h written = go (made % 2 == 0) refl
  where
    made : ℕ
    made = (bit_written bits w).made

    x : Access
    x = access_of p f (next_written bits w)

    v : Bool
    v = read_value (opening_bit s x) (moves_of x past) flick

    m : Wires
    m = wires s past p

    all : Rewired (m f) (wires s (e ∷ past) p f) w.bit (made / 2) (wire_after (m f w.bit (made / 2)) (ended v (cond (made % 2 == 0) (BeginWrite (bit_written bits w).value) EndWrite)))
    all = rewired s past e (valued s past flick x) h

    go : (b : Bool) → (made % 2 == 0) ≡ b → Advanced s.processes bits w (wires s (e ∷ past) p) f
    go true is = begins s.processes bits w m (wires s (e ∷ past) p) f written (eqb-true (made % 2) 0 is)
        (subst (λ b. Rewired (m f) (wires s (e ∷ past) p f) w.bit (made / 2) (wire_after (m f w.bit (made / 2)) (ended v (cond b (BeginWrite (bit_written bits w).value) EndWrite)))) is all)
    go false is = let apart : made % 2 ≢ 0 = eqb-false (made % 2) 0 is in
        ends s.processes bits w m (wires s (e ∷ past) p) f written (omega arith)
        (subst (λ b. Rewired (m f) (wires s (e ∷ past) p f) w.bit (made / 2) (wire_after (m f w.bit (made / 2)) (ended v (cond b (BeginWrite (bit_written bits w).value) EndWrite)))) is all)
