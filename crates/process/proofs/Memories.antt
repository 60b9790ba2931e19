-- The memory of a function of an access: its shape, and its cells.
use Rattle.std.proofs.Common.{◌≡◌, ℕ, zero, suc, ◌+◌, ◌*◌, ◌/◌, ◌%◌, ◌<◌, false, List, [], length, map, refl, ap, ◌∙◌, arith}
use Rattle.std.specs.List.{range_with_len}
use Rattle.std.proofs.Math.Nat.{div-lt_iff_lt-mul}
use Rattle.std.proofs.lemmas.Nat.{div-add-mod', div-mul-add, mod-mul-add}
use Rattle.std.proofs.lemmas.List.FromFn.{length-map-range_with_len, get_or-map-range_with_len}
use Rattle.registers.specs.safe_bit.Cell.{Cell, new_cell}
use Rattle.registers.specs.safe_bit.{Move}
use Rattle.registers.specs.safe_bit.declared.moves.Move.TheVariants.{BeginRead}
use Rattle.model.proofs.safe_number.Numbers.{range_same}
use Rattle.plain_store.specs.{Setup}
use Rattle.model.specs.{Access, copy, field_number, width}
use Rattle.laws.specs.{IsThere}
use Rattle.registers.specs.{AreOf, RegisterName, cell_at, field_numbered, lane_number, lane_of, lane_of_access, register_number}
use Rattle.registers.specs.reader_copies.{cell_in}
use Rattle.registers.proofs.Openings.{lane-field, lane-in, number-small}
use Rattle.process.specs.{access_there, lane_with, memory_with}

-- all accesses to one bit have the same cell
abbrev pub AreOfBits : (Access → Cell) → Type 0
AreOfBits cells = (a : Access) (how : Move) → cells (record a { how = how }) ≡ cells a

-- THE LANES AND THEIR NAMES

-- the lane of an access in range is one of the memory
pub lane-there : (s : Setup) (a : Access) → IsThere s a → lane_of_access s.processes a < 7 * s.processes * s.processes
lane-there s a there = lane-in s.processes (record { owner = a.owner; field = a.field }) a.reader there.owner there.reader

-- the name of the lane is that of the access
pub lane-named : (s : Setup) (r : RegisterName) (reader bit : ℕ) → reader < s.processes → access_there s (lane_number s.processes r reader) bit ≡ copy r.owner r.field reader bit
lane-named s r reader bit inside =
    let n : ℕ = s.processes in
    let owner : register_number r / 7 ≡ r.owner = omega (arith, number-small r.field) in
    let its : lane_number n r reader / n / 7 ≡ r.owner = ap (λ k. k / 7) (div-mul-add (register_number r) n reader inside) ∙ owner in
    λ i. copy (its i) (lane-field n r reader inside i) (mod-mul-add (register_number r) n reader inside i) bit

-- a lane by its name
pub number-back : (k : ℕ) → k < 7 → field_number (field_numbered k) ≡ k
number-back zero h = refl
number-back (suc zero) h = refl
number-back (suc (suc zero)) h = refl
number-back (suc (suc (suc zero))) h = refl
number-back (suc (suc (suc (suc zero)))) h = refl
number-back (suc (suc (suc (suc (suc zero))))) h = refl
number-back (suc (suc (suc (suc (suc (suc zero)))))) h = refl
number-back (suc (suc (suc (suc (suc (suc (suc k))))))) h = absurd (omega (arith, h))

pub named-lane : (s : Setup) (lane : ℕ) → lane_number s.processes (record { owner = lane / s.processes / 7; field = field_numbered (lane / s.processes % 7) }) (lane % s.processes) ≡ lane
named-lane s lane =
    let n : ℕ = s.processes in
    let field : field_number (field_numbered (lane / n % 7)) ≡ lane / n % 7 = number-back (lane / n % 7) (omega arith) in
    let register : 7 * (lane / n / 7) + field_number (field_numbered (lane / n % 7)) ≡ lane / n = omega (arith, field) in
    ap (λ k. k * n + lane % n) register ∙ div-add-mod' lane n

some : (n lane : ℕ) → lane < 7 * n * n → 0 < n
some zero lane h = absurd (omega (arith, h))
some (suc n) lane h = omega arith

-- each bit of each lane is in range
pub access-there : (s : Setup) (lane bit : ℕ) → lane < 7 * s.processes * s.processes → bit < width s (field_numbered (lane / s.processes % 7)) → IsThere s (access_there s lane bit)
access-there s lane bit below inside =
    let n : ℕ = s.processes in
    let any : 0 < n = some n lane below in
    let register : lane / n < 7 * n = (div-lt_iff_lt-mul {x = lane} {y = 7 * n} any).1 below in
    record { owner = omega (arith, register); reader = omega (arith, any); bit = inside }

-- THE MEMORY

-- the memory is one of its setup
pub with-are : (cells : Access → Cell) (s : Setup) → AreOf s (memory_with cells s)
with-are cells s =
    let n : ℕ = 7 * s.processes * s.processes in
    record {
      lanes = length-map-range_with_len (lane_with cells s) 0 n;
      widths = λ lane below.
          let none : List Cell = [] in
          ap length (get_or-map-range_with_len (lane_with cells s) 0 n lane lane none (omega (arith, length-map-range_with_len (lane_with cells s) 0 n)) (omega arith))
          ∙ length-map-range_with_len (λ bit. cells (access_there s lane bit)) 0 (width s (field_numbered (lane / s.processes % 7)));
    }

-- equal cells make equal memories
pub with-same : (f g : Access → Cell) (s : Setup) → ((a : Access) → IsThere s a → f a ≡ g a) → memory_with f s ≡ memory_with g s
with-same f g s same =
    range_same (lane_with g s) (lane_with f s) (7 * s.processes * s.processes) [] (λ lane below.
    range_same (λ bit. g (access_there s lane bit)) (λ bit. f (access_there s lane bit)) (width s (field_numbered (lane / s.processes % 7))) (new_cell false)
    (λ bit inside. same (access_there s lane bit) (access-there s lane bit below inside)))

-- a lane of the memory
pub with-lane : (cells : Access → Cell) (s : Setup) (lane : ℕ) → lane < 7 * s.processes * s.processes → lane_of (memory_with cells s) lane ≡ lane_with cells s lane
with-lane cells s lane below = let none : List Cell = [] in get_or-map-range_with_len (lane_with cells s) 0 (7 * s.processes * s.processes) lane lane none below (omega arith)

-- a reader's copies of a register
pub with-copies : (cells : Access → Cell) (s : Setup) (r : RegisterName) (reader : ℕ) → r.owner < s.processes → reader < s.processes →
    lane_of (memory_with cells s) (lane_number s.processes r reader) ≡ map (λ k. cells (copy r.owner r.field reader k)) (range_with_len 0 (width s r.field))
with-copies cells s r reader owner inside =
    with-lane cells s (lane_number s.processes r reader) (lane-in s.processes r reader owner inside)
    ∙ (λ i. map (λ k. cells (lane-named s r reader k inside i)) (range_with_len 0 (width s (lane-field s.processes r reader inside i))))

-- a cell of the memory
pub with-copy : (cells : Access → Cell) (s : Setup) (a : Access) → IsThere s a → cell_at (memory_with cells s) (lane_of_access s.processes a) a.bit ≡ cells (copy a.owner a.field a.reader a.bit)
with-copy cells s a there =
    let n : ℕ = s.processes in
    let r : RegisterName = record { owner = a.owner; field = a.field } in
    let lane : ℕ = lane_number n r a.reader in
    let wide : a.bit < width s (field_numbered (lane / n % 7)) = omega (arith, there.bit, ap (width s) (lane-field n r a.reader there.reader)) in
    ap (λ x. cell_in x a.bit) (with-lane cells s lane (lane-there s a there))
    ∙ get_or-map-range_with_len (λ bit. cells (access_there s lane bit)) 0 (width s (field_numbered (lane / n % 7))) a.bit a.bit (new_cell false) wide (omega arith)
    ∙ ap cells (lane-named s r a.reader a.bit there.reader)

pub with-cell : (cells : Access → Cell) (s : Setup) (a : Access) → AreOfBits cells → IsThere s a → cell_at (memory_with cells s) (lane_of_access s.processes a) a.bit ≡ cells a
with-cell cells s a bits there = with-copy cells s a there ∙ bits a BeginRead
