-- Each bit's look has a position of its own.
use Rattle.std.proofs.Common.{◌≡◌, ℕ, suc, ◌+◌, ◌*◌, ◌<◌, ◌≤◌, ◌/◌, ◌==◌, ◌&&◌, Bool, true, sym, ap, ◌∙◌, subst, arith, eq-eqb, mul-le-mul_right, suc-mul}
use Rattle.std.proofs.lemmas.Nat.{div-mul-add}
use Rattle.model.specs.{Access, Field, field_number, same_bit, width}
use Rattle.model.specs.declared.access.Field.TheVariants.{Choosing}
use Rattle.plain_store.specs.{Setup}
use Rattle.laws.specs.{IsThere}
use Rattle.safe_monitor.specs.{copy_of, register_of}
use Rattle.laws.proofs.FrameCells.{OnCopy, field-same, on-copy}

pub field_below : (f : Field) → field_number f < 7
field_below Choosing = omega arith
field_below _ = omega arith

-- a register determines its owner and its field
pub same_owner : (a b : Access) → register_of a ≡ register_of b → a.owner ≡ b.owner
same_owner a b h = let x = field_below a.field in let y = field_below b.field in omega (arith, h, x, y)

pub same_field : (a b : Access) → register_of a ≡ register_of b → a.field ≡ b.field
same_field a b h = let x = field_below a.field in let y = field_below b.field in
    field-same a.field b.field (eq-eqb (field_number a.field) (field_number b.field) (omega (arith, h, x, y)))

-- a number of two digits determines the digits
same_high : (w r k q j : ℕ) → k < w → j < w → r * w + k ≡ q * w + j → r ≡ q
same_high w r k q j h g same = sym (div-mul-add r w k h) ∙ ap (λ n. n / w) same ∙ div-mul-add q w j g

same_low : (w r k q j : ℕ) → r ≡ q → r * w + k ≡ q * w + j → k ≡ j
same_low w r k q j high same = let front : r * w ≡ q * w = ap (λ n. n * w) high in omega (arith, same, front)

pub below : (m n high low : ℕ) → high < m → low < n → high * n + low < m * n
below m n high low a b = let h : suc high * n ≤ m * n = mul-le-mul_right n a in omega (arith, h, b, suc-mul high n)

-- the position lies within the register
pub copy_below : (s : Setup) (a : Access) → IsThere s a → copy_of s a < s.processes * width s a.field
copy_below s a there = below s.processes (width s a.field) a.reader a.bit there.reader there.bit

pub register_below : (s : Setup) (a : Access) → IsThere s a → register_of a < s.processes * 7
register_below s a there = below s.processes 7 a.owner (field_number a.field) there.owner (field_below a.field)

all_true : (k r o f : Bool) → k ≡ true → r ≡ true → o ≡ true → f ≡ true → (k && r && o && f) ≡ true
all_true k r o f a b c d = λ i. a i && b i && c i && d i

-- bits at one position of one register are one bit
pub one_place : (s : Setup) (b a : Access) → IsThere s b → IsThere s a → register_of b ≡ register_of a → copy_of s b ≡ copy_of s a → same_bit b a ≡ true
one_place s b a b_there a_there registers places =
    let owner = same_owner b a registers in
    let field = same_field b a registers in
    let within : b.bit < width s a.field = subst (λ f. b.bit < width s f) field b_there.bit in
    let at : b.reader * width s a.field + b.bit ≡ a.reader * width s a.field + a.bit = ap (λ f. b.reader * width s f + b.bit) (sym field) ∙ places in
    let reader = same_high (width s a.field) b.reader b.bit a.reader a.bit within a_there.bit at in
    let bit = same_low (width s a.field) b.reader b.bit a.reader a.bit reader at in
    all_true (b.bit == a.bit) (b.reader == a.reader) (b.owner == a.owner) (field_number b.field == field_number a.field)
    (eq-eqb b.bit a.bit bit) (eq-eqb b.reader a.reader reader) (eq-eqb b.owner a.owner owner) (eq-eqb (field_number b.field) (field_number a.field) (ap field_number field))

-- one bit has one position
pub on_bit : (b a : Access) → same_bit b a ≡ true → OnCopy a b.owner b.field b.bit b.reader
on_bit b a h = on-copy a b.owner b.field b.bit b.reader h

pub one_register : (b a : Access) → same_bit b a ≡ true → register_of b ≡ register_of a
one_register b a h = let on = on_bit b a h in λ i. on.owner i * 7 + field_number (on.field i)

pub one_copy : (s : Setup) (b a : Access) → same_bit b a ≡ true → copy_of s b ≡ copy_of s a
one_copy s b a h = let on = on_bit b a h in λ i. on.reader i * width s (on.field i) + on.bit i

-- a bit that is the same as a bit in range is in range
pub there_too : (s : Setup) (b a : Access) → same_bit b a ≡ true → IsThere s b → IsThere s a
there_too s b a h there = let on = on_bit b a h in record {
  owner = subst (λ n. n < s.processes) on.owner there.owner;
  reader = subst (λ n. n < s.processes) on.reader there.reader;
  bit = subst (λ n. n < width s a.field) on.bit (subst (λ f. b.bit < width s f) on.field there.bit);
}

-- the converse of this fact
pub there_from : (s : Setup) (b a : Access) → same_bit b a ≡ true → IsThere s a → IsThere s b
there_from s b a h there = let on = on_bit b a h in record {
  owner = subst (λ n. n < s.processes) (sym on.owner) there.owner;
  reader = subst (λ n. n < s.processes) (sym on.reader) there.reader;
  bit = subst (λ n. n < width s b.field) (sym on.bit) (subst (λ f. a.bit < width s f) (sym on.field) there.bit);
}
