-- The memory of a setup contains the lanes on which a register access begins.
use Rattle.std.proofs.Common.{◌≡◌, ℕ, ◌+◌, ◌-◌, ◌*◌, ◌/◌, ◌%◌, ◌<◌, List, length, sym, ◌∙◌, arith, ap, refl, subst}
use Rattle.std.proofs.Math.Nat.{mul-le-mul_right}
use Rattle.std.proofs.lemmas.Nat.{div-mul-add}
use Rattle.safe_bit.specs.Cell.{Cell}
use Rattle.plain_store.specs.{Setup}
use Rattle.model.specs.{Access, Field, field_number, width}
use Rattle.model.specs.declared.access.Field.TheVariants.{Choosing, Ticket, Commit, Stamp0, Stamp1, Image0, Image1}
use Rattle.registers.specs.{AreOf, AreOfOneSetup, CursorState, Fits, HasLanes, IsAtCopy, RegisterName, field_numbered, lane_number, lane_of, lane_of_access, register_number}

numbered : (f : Field) → field_numbered (field_number f) ≡ f
numbered Choosing = refl
numbered Ticket = refl
numbered Commit = refl
numbered Stamp0 = refl
numbered Stamp1 = refl
numbered Image0 = refl
numbered Image1 = refl

pub number-small : (f : Field) → field_number f < 7
number-small Choosing = omega arith
number-small Ticket = omega arith
number-small Commit = omega arith
number-small Stamp0 = omega arith
number-small Stamp1 = omega arith
number-small Image0 = omega arith
number-small Image1 = omega arith

-- the field of a lane
pub lane-field : (n : ℕ) (r : RegisterName) (j : ℕ) → j < n → field_numbered (lane_number n r j / n % 7) ≡ r.field
lane-field n r j inside =
    let number : register_number r % 7 ≡ field_number r.field = omega (arith, number-small r.field) in
    ap (λ k. field_numbered (k % 7)) (div-mul-add (register_number r) n j inside) ∙ ap field_numbered number ∙ numbered r.field

-- the lane is one of the memory
pub lane-in : (n : ℕ) (r : RegisterName) (j : ℕ) → r.owner < n → j < n → lane_number n r j < 7 * n * n
lane-in n r j owner inside = omega (arith, number-small r.field, mul-le-mul_right {m = register_number r + 1} {n = 7 * n} n (omega (arith, number-small r.field)))

-- the memory contains a reader's copies of a register, in its width
pub reader-lane : (s : Setup) (memory : List (List Cell)) (r : RegisterName) (reader : ℕ) → AreOf s memory → r.owner < s.processes → reader < s.processes →
    (lane_number s.processes r reader < length memory) × (length (lane_of memory (lane_number s.processes r reader)) ≡ width s r.field)
reader-lane s memory r reader of owner inside =
    let there : lane_number s.processes r reader < length memory = omega (arith, of.lanes, lane-in s.processes r reader owner inside) in
    (there, of.widths (lane_number s.processes r reader) there ∙ ap (width s) (lane-field s.processes r reader inside))

-- it contains those of reader 0
pub register-lane : (s : Setup) (memory : List (List Cell)) (r : RegisterName) → AreOf s memory → r.owner < s.processes → (lane_number s.processes r 0 < length memory) × (length (lane_of memory (lane_number s.processes r 0)) ≡ width s r.field)
register-lane s memory r of owner = reader-lane s memory r 0 of owner (omega arith)

-- it contains the bit of an access
pub access-lane : (s : Setup) (memory : List (List Cell)) (a : Access) → AreOf s memory → a.owner < s.processes → a.reader < s.processes → a.bit < width s a.field →
    (lane_of_access s.processes a < length memory) × (a.bit < length (lane_of memory (lane_of_access s.processes a)))
access-lane s memory a of owner reader bit =
    let r : RegisterName = record { owner = a.owner; field = a.field } in
    let there = reader-lane s memory r a.reader of owner reader in
    (there.0, omega (arith, there.1, bit))

-- it contains all copies of a register
pub register-there : (s : Setup) (memory : List (List Cell)) (r : RegisterName) → AreOf s memory → r.owner < s.processes → HasLanes memory (lane_number s.processes r 0) s.processes (width s r.field)
register-there s memory r of owner =
    let n : ℕ = s.processes in
    let first : ℕ = lane_number n r 0 in
    record {
      lanes = omega (arith, of.lanes, number-small r.field, mul-le-mul_right {m = register_number r + 1} {n = 7 * n} n (omega (arith, number-small r.field)));
      wide = λ l from below.
          let j : ℕ = l - first in
          let is : l ≡ lane_number n r j = omega arith in
          let inside : j < n = omega arith in
          let there : lane_number n r j < length memory = omega (arith, of.lanes, lane-in n r j owner inside) in
          let same : length (lane_of memory l) ≡ width s r.field = ap (λ k. length (lane_of memory k)) is ∙ of.widths (lane_number n r j) there ∙ ap (width s) (lane-field n r j inside) in
          omega (arith, same);
    }

-- so a register access on one of its registers fits
pub setup-fits : (s : Setup) (memory : List (List Cell)) (cur : CursorState) → AreOf s memory → cur.register.owner < s.processes → cur.copies ≡ s.processes → cur.width ≡ width s cur.register.field →
    cur.reader + cur.copy < cur.copies → IsAtCopy cur.run cur.reader cur.copy → Fits memory cur
setup-fits s memory cur of owner copies wide inside at =
    let P : ℕ → ℕ → Type 0 = λ n w. HasLanes memory (lane_number n cur.register 0) n w in
    record {
      lanes = subst (λ n. P n cur.width) (sym copies) (subst (P s.processes) (sym wide) (register-there s memory cur.register of owner));
      copy = inside;
      at = at;
    }

-- two memories of one setup are alike
pub one-setup : (memory other : List (List Cell)) → AreOfOneSetup memory other → (length memory ≡ length other) × ((lane : ℕ) → lane < length memory → length (lane_of memory lane) ≡ length (lane_of other lane))
one-setup memory other (s, of, its) =
    let long : length memory ≡ length other = of.lanes ∙ sym its.lanes in
    (long, λ lane below. of.widths lane below ∙ sym (its.widths lane (omega (arith, long))))
