-- The memory of a function of an access, after an access and after a dropped read.
use Rattle.std.proofs.Common.{◌≡◌, ◌≢◌, ℕ, ◌*◌, ◌/◌, ◌%◌, ◌<◌, ◌==◌, ◌&&◌, Bool, true, false, cond, List, map, set, refl, sym, ap, ◌∙◌, arith, eqb-true}
use Rattle.std.proofs.lemmas.Bool.{eq-eqb}
use Rattle.std.proofs.lemmas.Simd.{map-map}
use Rattle.std.specs.List.{range_with_len}
use Rattle.registers.specs.safe_bit.Cell.{Cell, cell_after, without_read}
use Rattle.plain_store.specs.{Setup}
use Rattle.model.specs.{Access, copy, field_number, same_bit, width}
use Rattle.laws.specs.{IsThere}
use Rattle.laws.proofs.FrameCells.{OnCopy, field-same, itself, on-copy}
use Rattle.registers.specs.{RegisterName, applied, cell_at, field_numbered, lane_number, lane_of, lane_of_access, without_reads}
use Rattle.model.proofs.reader_copies.Flags.{made-set}
use Rattle.registers.proofs.Openings.{lane-field, lane-in}
use Rattle.process.specs.{access_there, cells_after, cells_dropped, is_of_reader, lane_with, memory_with}
use Rattle.process.proofs.Memories.{lane-named, lane-there, named-lane, with-copy, with-lane}

not-true : (b : Bool) → (b ≡ true → ⊥) → b ≡ false
not-true true h = absurd (h refl)
not-true false h = refl

-- AN ACCESS

-- the bits of all other lanes are different from its bit
off-lane : (s : Setup) (a : Access) (lane bit : ℕ) → lane ≢ lane_of_access s.processes a → same_bit (access_there s lane bit) a ≡ false
off-lane s a lane bit apart =
    let n : ℕ = s.processes in
    not-true (same_bit (access_there s lane bit) a) (λ same.
    let on : OnCopy a (lane / n / 7) (field_numbered (lane / n % 7)) bit (lane % n) = on-copy a (lane / n / 7) (field_numbered (lane / n % 7)) bit (lane % n) same in
    apart (sym (named-lane s lane) ∙ (λ i. lane_number n (record { owner = on.owner i; field = on.field i }) (on.reader i))))

-- the other bits of its lane are different from its bit
off-bit : (s : Setup) (a : Access) (lane bit : ℕ) → bit ≢ a.bit → same_bit (access_there s lane bit) a ≡ false
off-bit s a lane bit apart =
    let n : ℕ = s.processes in
    not-true (same_bit (access_there s lane bit) a) (λ same.
    let on : OnCopy a (lane / n / 7) (field_numbered (lane / n % 7)) bit (lane % n) = on-copy a (lane / n / 7) (field_numbered (lane / n % 7)) bit (lane % n) same in
    apart on.bit)

pub with-applied : (cells : Access → Cell) (s : Setup) (a : Access) → IsThere s a → applied s.processes (memory_with cells s) a ≡ memory_with (cells_after cells a) s
with-applied cells s a there =
    let n : ℕ = s.processes in
    let r : RegisterName = record { owner = a.owner; field = a.field } in
    let lane : ℕ = lane_of_access n a in
    let inside : lane < 7 * n * n = lane-there s a there in
    let w : ℕ = width s (field_numbered (lane / n % 7)) in
    let wide : a.bit < w = omega (arith, there.bit, ap (width s) (lane-field n r a.reader there.reader)) in
    let old : ℕ → Cell = λ bit. cells (access_there s lane bit) in
    let new : ℕ → Cell = λ bit. cells_after cells a (access_there s lane bit) in
    let now : Cell = cell_at (memory_with cells s) lane a.bit in
    let named : access_there s lane a.bit ≡ copy a.owner a.field a.reader a.bit = lane-named s r a.reader a.bit there.reader in
    let here : new a.bit ≡ cell_after now a.how =
    ap (cells_after cells a) named
    ∙ ap (λ b. cond b (cell_after (cells (copy a.owner a.field a.reader a.bit)) a.how) (cells (copy a.owner a.field a.reader a.bit))) (itself a)
    ∙ ap (λ c. cell_after c a.how) (sym (with-copy cells s a there)) in
    let same : lane_with (cells_after cells a) s lane ≡ set (lane_of (memory_with cells s) lane) a.bit (cell_after now a.how) =
    made-set old new w a.bit (cell_after now a.how) wide here
    (λ bit below apart. ap (λ b. cond b (cell_after (old bit) a.how) (old bit)) (off-bit s a lane bit apart))
    ∙ ap (λ x. set x a.bit (cell_after now a.how)) (sym (with-lane cells s lane inside)) in
    sym (made-set (lane_with cells s) (lane_with (cells_after cells a) s) (7 * n * n) lane (set (lane_of (memory_with cells s) lane) a.bit (cell_after now a.how)) inside same
    (λ other below apart. λ i. map (λ bit. cond (off-lane s a other bit apart i) (cell_after (cells (access_there s other bit)) a.how) (cells (access_there s other bit))) (range_with_len 0 (width s (field_numbered (other / n % 7))))))

-- A DROPPED READ

three : (o f r : Bool) → (o && f && r) ≡ true → (o ≡ true) × (f ≡ true) × (r ≡ true)
three true true true h = (refl, refl, refl)
three true true false h = cc
three true false r h = cc
three false f r h = cc

off-reader : (s : Setup) (r : RegisterName) (reader lane bit : ℕ) → lane ≢ lane_number s.processes r reader → is_of_reader r reader (access_there s lane bit) ≡ false
off-reader s r reader lane bit apart =
    let n : ℕ = s.processes in
    let x : Access = access_there s lane bit in
    not-true (is_of_reader r reader x) (λ same.
    let on = three (x.owner == r.owner) (field_number x.field == field_number r.field) (x.reader == reader) same in
    let owner : x.owner ≡ r.owner = eqb-true x.owner r.owner on.0 in
    let field : x.field ≡ r.field = field-same x.field r.field on.1 in
    let its : x.reader ≡ reader = eqb-true x.reader reader on.2 in
    apart (sym (named-lane s lane) ∙ (λ i. lane_number n (record { owner = owner i; field = field i }) (its i))))

on-reader : (r : RegisterName) (reader bit : ℕ) → is_of_reader r reader (copy r.owner r.field reader bit) ≡ true
on-reader r reader bit = λ i. one r.owner i && one (field_number r.field) i && one reader i
  where
    one : (k : ℕ) → (k == k) ≡ true
    one k = eq-eqb k k refl

pub with-dropped : (cells : Access → Cell) (s : Setup) (r : RegisterName) (reader : ℕ) → r.owner < s.processes → reader < s.processes →
    without_reads (memory_with cells s) (lane_number s.processes r reader) ≡ memory_with (cells_dropped cells r reader) s
with-dropped cells s r reader owner inside =
    let n : ℕ = s.processes in
    let lane : ℕ = lane_number n r reader in
    let there : lane < 7 * n * n = lane-in n r reader owner inside in
    let bits : List ℕ = range_with_len 0 (width s (field_numbered (lane / n % 7))) in
    let old : ℕ → Cell = λ bit. cells (access_there s lane bit) in
    let of : (bit : ℕ) → is_of_reader r reader (access_there s lane bit) ≡ true = λ bit. ap (is_of_reader r reader) (lane-named s r reader bit inside) ∙ on-reader r reader bit in
    let same : lane_with (cells_dropped cells r reader) s lane ≡ map without_read (lane_of (memory_with cells s) lane) =
    (λ i. map (λ bit. cond (of bit i) (without_read (old bit)) (old bit)) bits)
    ∙ sym (map-map without_read old bits)
    ∙ ap (map without_read) (sym (with-lane cells s lane there)) in
    sym (made-set (lane_with cells s) (lane_with (cells_dropped cells r reader) s) (7 * n * n) lane (map without_read (lane_of (memory_with cells s) lane)) there same
    (λ other below apart. λ i. map (λ bit. cond (off-reader s r reader other bit apart i) (without_read (cells (access_there s other bit))) (cells (access_there s other bit))) (range_with_len 0 (width s (field_numbered (other / n % 7))))))
