-- The rows of a memory, after a move on one lane and after a dropped read.
use Rattle.std.proofs.Common.{◌≡◌, ◌≢◌, ℕ, ◌+◌, ◌*◌, ◌/◌, ◌%◌, ◌<◌, List, [], set, get_or, length, map, sym, ap, ◌∙◌, arith, inl, inr}
use Rattle.std.proofs.Math.Nat.{mul-le-mul_right}
use Rattle.std.proofs.lemmas.Bool.{cases_lt}
use Rattle.std.proofs.lemmas.List.{get_or-set_same, get_or-set_other}
use Rattle.std.proofs.lemmas.List.FromFn.{get_or-map-range_with_len, length-map-range_with_len}
use Rattle.model.specs.safe_bit.Cell.{Cell, cell_after, without_read}
use Rattle.model.specs.safe_bit.{Move}
use Rattle.reader_copies.specs.{cell_in}
use Rattle.reader_copies.specs.Row as rows
use Rattle.reader_copies.proofs.Flags.{made-set}
use Rattle.safe_number.proofs.Numbers.{range_same}
use Rattle.registers.specs.{RegisterName, cell_at, field_numbered, lane_number, lane_of, memory_moved, register_number, without_reads}
use Rattle.registers.specs.Rows.{row_of}
use Rattle.registers.proofs.Openings.{lane-field, number-small}

-- a row has a list of copies for each reader
pub row-length : (n : ℕ) (memory : List (List Cell)) (r : RegisterName) → length (row_of n memory r) ≡ n
row-length n memory r = length-map-range_with_len (λ k. lane_of memory (lane_number n r k)) 0 n

-- the copies of one reader
pub row-lane : (n : ℕ) (memory : List (List Cell)) (r : RegisterName) (j : ℕ) → j < n → get_or (row_of n memory r) j [] ≡ lane_of memory (lane_number n r j)
row-lane n memory r j inside = get_or-map-range_with_len (λ k. lane_of memory (lane_number n r k)) 0 n j j [] inside (omega arith)

-- one copy
pub row-cell : (n : ℕ) (memory : List (List Cell)) (r : RegisterName) (bit j : ℕ) → j < n → rows.cell_at (row_of n memory r) bit j ≡ cell_at memory (lane_number n r j) bit
row-cell n memory r bit j inside = ap (λ x. cell_in x bit) (row-lane n memory r j inside)

-- a lane of a register is replaced
row-set : (n : ℕ) (memory : List (List Cell)) (r : RegisterName) (j : ℕ) (new : List Cell) → j < n → lane_number n r j < length memory →
    row_of n (set memory (lane_number n r j) new) r ≡ set (row_of n memory r) j new
row-set n memory r j new inside there =
    let lane : ℕ = lane_number n r j in
    made-set (λ k. lane_of memory (lane_number n r k)) (λ k. lane_of (set memory lane new) (lane_number n r k)) n j new inside (get_or-set_same memory lane new [] there)
    (λ k below apart. let other : lane_number n r k ≢ lane = omega arith in get_or-set_other memory lane (lane_number n r k) new [] other)

-- an access to a register changes its row
pub row-moved : (n : ℕ) (memory : List (List Cell)) (r : RegisterName) (j bit : ℕ) (how : Move) → j < n → lane_number n r j < length memory →
    row_of n (memory_moved memory (lane_number n r j) bit how) r ≡ rows.row_after (row_of n memory r) bit (record { reader = j; how = how })
row-moved n memory r j bit how inside there =
    let lane : ℕ = lane_number n r j in
    row-set n memory r j (set (lane_of memory lane) bit (cell_after (cell_at memory lane bit) how)) inside there
    ∙ ap (λ x. set (row_of n memory r) j (set x bit (cell_after (cell_in x bit) how))) (sym (row-lane n memory r j inside))

-- a reader's dropped read changes its row
pub row-dropped : (n : ℕ) (memory : List (List Cell)) (r : RegisterName) (j : ℕ) → j < n → lane_number n r j < length memory →
    row_of n (without_reads memory (lane_number n r j)) r ≡ rows.without_reads (row_of n memory r) j
row-dropped n memory r j inside there =
    row-set n memory r j (map without_read (lane_of memory (lane_number n r j))) inside there
    ∙ ap (λ x. set (row_of n memory r) j (map without_read x)) (sym (row-lane n memory r j inside))

-- lanes of two registers differ
apart : (a b n k j : ℕ) → a ≢ b → k < n → j < n → a * n + k ≢ b * n + j
apart a b n k j differ low low' = elim (cases_lt a b) [
  | inl less ↦ omega (arith, mul-le-mul_right {m = a + 1} {n = b} n (omega arith))
  | inr more ↦ omega (arith, mul-le-mul_right {m = b + 1} {n = a} n (omega arith))
]

-- registers of one number are one register
same-register : (a b : RegisterName) → register_number a ≡ register_number b → a ≡ b
same-register a b same =
    let owner : a.owner ≡ b.owner = omega (arith, same, number-small a.field, number-small b.field) in
    let lane : lane_number 1 a 0 ≡ lane_number 1 b 0 = ap (λ k. k * 1 + 0) same in
    let field : a.field ≡ b.field = sym (lane-field 1 a 0 (omega arith)) ∙ ap (λ k. field_numbered (k / 1 % 7)) lane ∙ lane-field 1 b 0 (omega arith) in
    λ i. record { owner = owner i; field = field i }

-- a replaced lane changes no row of another register
pub row-stays : (n : ℕ) (memory : List (List Cell)) (r other : RegisterName) (j : ℕ) (new : List Cell) → j < n → other ≢ r →
    row_of n (set memory (lane_number n r j) new) other ≡ row_of n memory other
row-stays n memory r other j new inside differ =
    let lane : ℕ = lane_number n r j in
    range_same (λ k. lane_of memory (lane_number n other k)) (λ k. lane_of (set memory lane new) (lane_number n other k)) n []
    (λ k below. get_or-set_other memory lane (lane_number n other k) new []
    (apart (register_number other) (register_number r) n k j (λ same. differ (same-register other r same)) below inside))
