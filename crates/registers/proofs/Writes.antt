-- THE LEMMA: a write of whole bits to all lanes, many at once.
use Rattle.std.proofs.Common.{◌≡◌, ℕ, zero, suc, ◌+◌, ◌*◌, ◌<◌, ◌≤◌, ◌==◌, Bool, true, false, cond, List, set, get_or, refl, sym, ◌∙◌, arith, ap, add-one}
use Rattle.std.proofs.Math.Nat.{mul-suc}
use Rattle.std.proofs.lemmas.Bool.{eq-eqb, ne_eqb}
use Rattle.std.proofs.lemmas.List.{length-set}
use Rattle.safe_bit.specs.Cell.{Cell}
use Rattle.safe_bit.specs.declared.moves.Move.TheVariants.{BeginWrite, EndWrite}
use Rattle.choices.specs.{after_flick}
use Rattle.reader_copies.specs.{after_write, cell_in, over}
use Rattle.registers.specs.{CursorState, HasLanes, LeadsTo, first_lane, lane_number, lane_of}
use Rattle.registers.specs.declared.cursor.RegisterAccessKind.TheVariants.{Writes}
use Rattle.registers.proofs.Iterates.{leads_more, leads-same}
use Rattle.reader_copies.proofs.Over.{length-over}
use Rattle.registers.proofs.Over.{lanes-kept, lanes-nothing, lanes-twice, over_lanes}
use Rattle.registers.proofs.Quiet.{moved-twice}

-- a write at the begin of a copy of a bit
abbrev pub writing_at : CursorState → ℕ → ℕ → CursorState
writing_at c bit copy = record c { run = Writes; bit = bit; copy = copy; begun = false }

-- one bit of a lane, written
abbrev pub written : ℕ → Bool → List Cell → List Cell
written bit v cells = set cells bit (after_write v (cell_in cells bit))

-- begin and end on one copy
write-pair : (c : CursorState) (bit copy : ℕ) (memory : List (List Cell)) → copy < c.copies → bit < c.width → HasLanes memory (first_lane c) c.copies c.width →
    let ends = copy + 1 == c.copies in
    LeadsTo 2 (writing_at c bit copy) memory (writing_at c (cond ends (bit + 1) bit) (cond ends 0 (copy + 1))) (set memory (first_lane c + copy) (written bit (get_or c.bits bit false) (lane_of memory (first_lane c + copy))))
write-pair c bit copy memory below inside h =
    let lane : ℕ = lane_number c.copies c.register (c.reader + copy) in
    let v : Bool = get_or c.bits bit false in
    let lane_is : lane ≡ first_lane c + copy = omega arith in
    let ends : Bool = copy + 1 == c.copies in
    let moved = moved-twice memory lane bit (BeginWrite v) EndWrite (omega (arith, h.lanes)) (omega (arith, h.wide lane (omega arith) (omega arith))) ∙ ap (λ l. set memory l (written bit v (lane_of memory l))) lane_is in
    record {
      run = λ f. (λ i. (writing_at c (cond ends (bit + 1) bit) (cond ends 0 (copy + 1)), moved i, after_flick (after_flick f)));
      none = λ f. refl;
    }

-- on n copies, without the last one
copies-written : (n : ℕ) (c : CursorState) (bit : ℕ) (memory : List (List Cell)) → n < c.copies → bit < c.width → HasLanes memory (first_lane c) c.copies c.width →
    LeadsTo (2 * n) (writing_at c bit 0) memory (writing_at c bit n) (over_lanes n (written bit (get_or c.bits bit false)) (first_lane c) memory)
copies-written zero c bit memory below inside h = record { run = λ f. refl; none = λ f. refl }
copies-written (suc n) c bit memory below inside h =
    let lane : ℕ = first_lane c in
    let v : Bool = get_or c.bits bit false in
    let now : List (List Cell) = over_lanes n (written bit v) lane memory in
    let kept : HasLanes now lane c.copies c.width = lanes-kept n (written bit v) lane lane c.copies c.width memory (λ x. length-set x bit (after_write v (cell_in x bit))) (omega (arith, h.lanes)) h in
    let more : (n + 1 == c.copies) ≡ false = ne_eqb (n + 1) c.copies (omega arith) in
    leads-same _ _ _ _ _ _ _ _ _ _ (let e : 2 * n + 2 ≡ 2 * suc n = omega arith in e) refl refl
    (ap (λ b. writing_at c (cond b (bit + 1) bit) (cond b 0 (n + 1))) more ∙ ap (λ k. writing_at c bit k) (add-one n)) refl
    (leads_more (2 * n) 2 _ _ _ _ _ _ (copies-written n c bit memory (omega arith) inside h) (write-pair c bit n now (omega arith) inside kept))

-- on all copies: n and one more
bit-written : (n : ℕ) (c : CursorState) (bit : ℕ) (memory : List (List Cell)) → c.copies ≡ suc n → bit < c.width → HasLanes memory (first_lane c) c.copies c.width →
    LeadsTo (2 * c.copies) (writing_at c bit 0) memory (writing_at c (bit + 1) 0) (over_lanes c.copies (written bit (get_or c.bits bit false)) (first_lane c) memory)
bit-written n c bit memory all inside h =
    let lane : ℕ = first_lane c in
    let v : Bool = get_or c.bits bit false in
    let now : List (List Cell) = over_lanes n (written bit v) lane memory in
    let kept : HasLanes now lane c.copies c.width = lanes-kept n (written bit v) lane lane c.copies c.width memory (λ x. length-set x bit (after_write v (cell_in x bit))) (omega (arith, h.lanes)) h in
    let last : (n + 1 == c.copies) ≡ true = eq-eqb (n + 1) c.copies (omega arith) in
    leads-same _ _ _ _ _ _ _ _ _ _ (let e : 2 * n + 2 ≡ 2 * c.copies = omega arith in e) refl refl
    (ap (λ b. writing_at c (cond b (bit + 1) bit) (cond b 0 (n + 1))) last) (ap (λ k. over_lanes k (written bit v) lane memory) (sym all))
    (leads_more (2 * n) 2 _ _ _ _ _ _ (copies-written n c bit memory (omega arith) inside h) (write-pair c bit n now (omega arith) inside kept))

-- the effect of a write on a bit
abbrev pub of_value : List Bool → ℕ → Cell → Cell
of_value value i c = after_write (get_or value i false) c

-- a write of several bits
pub writes-whole : (n m : ℕ) (c : CursorState) (bit : ℕ) (memory : List (List Cell)) → c.copies ≡ suc m → bit + n ≤ c.width → HasLanes memory (first_lane c) c.copies c.width →
    LeadsTo (2 * (c.copies * n)) (writing_at c bit 0) memory (writing_at c (bit + n) 0) (over_lanes c.copies (over n (of_value c.bits) bit) (first_lane c) memory)
writes-whole zero m c bit memory some inside h =
    leads-same 0 _ (writing_at c bit 0) _ (writing_at c bit 0) _ memory _ memory _ (let e : 0 ≡ 2 * (c.copies * 0) = omega arith in e) refl refl
    (ap (λ b. writing_at c b 0) (let e : bit ≡ bit + 0 = omega arith in e)) (sym (lanes-nothing c.copies (first_lane c) memory))
    (record { run = λ f. refl; none = λ f. refl })
writes-whole (suc n) m c bit memory some inside h =
    let lane : ℕ = first_lane c in
    let number : 2 * (c.copies * n) + 2 * c.copies ≡ 2 * (c.copies * suc n) = omega (arith, mul-suc c.copies n) in
    let G : List Cell → List Cell = over n (of_value c.bits) bit in
    let now : List (List Cell) = over_lanes c.copies G lane memory in
    let kept : HasLanes now lane c.copies c.width = lanes-kept c.copies G lane lane c.copies c.width memory (λ x. length-over n (of_value c.bits) bit x) h.lanes h in
    leads-same _ _ _ _ _ _ _ _ _ _ number refl refl
    (ap (λ b. writing_at c b 0) (let e : bit + n + 1 ≡ bit + suc n = omega arith in e))
    (lanes-twice c.copies G (written (bit + n) (get_or c.bits (bit + n) false)) lane memory h.lanes)
    (leads_more (2 * (c.copies * n)) (2 * c.copies) _ _ _ _ _ _ (writes-whole n m c bit memory some (omega arith) h) (bit-written m c (bit + n) now some (omega arith) kept))
