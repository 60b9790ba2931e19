-- All seats are updated with whether a process waits.
use Rattle.std.proofs.Common.{◌≡◌, ℕ, List, ◌++◌, ◌&&◌, length, map, take, slice_set, Bool, true, false, not, sym, ap, ◌∙◌}
use Rattle.std.proofs.Math.Seq.{take-append_seam}
use Rattle.std.proofs.lemmas.List.{length-map, map-id}
use Rattle.world.specs.{Seat, reported}
use mathlib.Core.Bool.{beq}

-- the list that is written back through a slice
pub reported-back : {A : Type 0} (f : A → A) (n : ℕ) (new was items rest : List A) → new ≡ map f was → was ≡ items → length items ≡ n → take n (new ++ rest) ≡ map f items
reported-back f n new was items rest h same long =
    let reported : new ≡ map f items = h ∙ ap (map f) same in
    ap (λ k. take k (new ++ rest)) (sym (ap length reported ∙ length-map items f ∙ long)) ∙ take-append_seam new rest ∙ reported

-- no seat is updated if nothing has changed
pub reported-same : (p : ℕ) (b : Bool) (seats : List Seat) → map (reported p b b) seats ≡ seats
reported-same p true seats = map-id seats
reported-same p false seats = map-id seats

pub reported-none : (p : ℕ) (waited waits : Bool) (seats : List Seat) → not (beq waited waits) ≡ false → seats ≡ map (reported p waited waits) seats
reported-none p true true seats h = sym (reported-same p true seats)
reported-none p false false seats h = sym (reported-same p false seats)
reported-none p true false seats h = cc
reported-none p false true seats h = cc

-- each seat is updated if something has changed
pub reported-seat : (p i : ℕ) (waited waits observes : Bool) (seat : Seat) → not (beq waited waits) ≡ true → i ≡ p → observes ≡ (waits && not seat.begun) → (let then : Seat = record seat { before = slice_set seat.before i observes } in then) ≡ reported p waited waits seat
reported-seat p i true false observes seat h at is = λ k. let then : Seat = record seat { before = slice_set seat.before (at k) (is k) } in then
reported-seat p i false true observes seat h at is = λ k. let then : Seat = record seat { before = slice_set seat.before (at k) (is k) } in then
reported-seat p i true true observes seat h at is = cc
reported-seat p i false false observes seat h at is = cc
