-- THE LEMMA: reads of bits that no process is writing, many at once.
use Rattle.std.proofs.Common.{◌≡◌, ℕ, zero, suc, ◌+◌, ◌*◌, ◌<◌, ◌≤◌, Bool, false, cond, List, [], ◌∷◌, ◌++◌, set, length, refl, sym, ◌∙◌, arith, ap}
use Rattle.std.proofs.lemmas.List.{get_or-set_same, length-set, set-set, set-get_or}
use Rattle.safe_bit.specs.Cell.{Cell, new_cell, cell_after, read_answer}
use Rattle.safe_bit.specs.{Move}
use Rattle.safe_bit.specs.declared.moves.Move.TheVariants.{BeginRead, EndRead}
use Rattle.choices.specs.{FlickState, flick_of, after_flick}
use Rattle.reader_copies.specs.{after_read, cell_in, over}
use Rattle.registers.specs.{CursorState, LeadsTo, cell_at, lane_number, lane_of, memory_moved, more_bits}
use Rattle.registers.specs.declared.cursor.RegisterAccessKind.TheVariants.{Reads}
use Rattle.reader_copies.proofs.Over.{length-over, over-outside}
use Rattle.registers.proofs.Iterates.{leads_more, leads-same}

-- a cell that was changed
cell-moved : (memory : List (List Cell)) (lane bit : ℕ) (how : Move) → lane < length memory → bit < length (lane_of memory lane) → cell_at (memory_moved memory lane bit how) lane bit ≡ cell_after (cell_at memory lane bit) how
cell-moved memory lane bit how there inside =
    ap (λ x. cell_in x bit) (get_or-set_same memory lane (set (lane_of memory lane) bit (cell_after (cell_at memory lane bit) how)) [] there)
    ∙ get_or-set_same (lane_of memory lane) bit (cell_after (cell_at memory lane bit) how) (new_cell false) inside

-- two accesses to one cell
pub moved-twice : (memory : List (List Cell)) (lane bit : ℕ) (h k : Move) → lane < length memory → bit < length (lane_of memory lane) → memory_moved (memory_moved memory lane bit h) lane bit k ≡ set memory lane (set (lane_of memory lane) bit (cell_after (cell_after (cell_at memory lane bit) h) k))
moved-twice memory lane bit h k there inside =
    let cells : List Cell = lane_of memory lane in
    let first : List Cell = set cells bit (cell_after (cell_in cells bit) h) in
    ap (λ c. set (memory_moved memory lane bit h) lane (set (lane_of (memory_moved memory lane bit h) lane) bit (cell_after c k))) (cell-moved memory lane bit h there inside)
    ∙ ap (λ x. set (memory_moved memory lane bit h) lane (set x bit (cell_after (cell_after (cell_in cells bit) h) k))) (get_or-set_same memory lane first [] there)
    ∙ set-set memory lane first (set first bit (cell_after (cell_after (cell_in cells bit) h) k))
    ∙ ap (set memory lane) (set-set cells bit (cell_after (cell_in cells bit) h) (cell_after (cell_after (cell_in cells bit) h) k))

-- a read at the begin of a bit, and the lane that it reads
abbrev pub reading_at : CursorState → ℕ → List Bool → CursorState
reading_at c bit bits = record c { run = Reads; bit = bit; begun = false; bits = bits }

abbrev pub here : CursorState → ℕ
here c = lane_number c.copies c.register (c.reader + c.copy)

-- begin and end
read-pair : (c : CursorState) (bit : ℕ) (bits : List Bool) (memory : List (List Cell)) → here c < length memory → bit < length (lane_of memory (here c)) → (cell_at memory (here c) bit).writing ≡ false →
    LeadsTo 2 (reading_at c bit bits) memory (reading_at c (bit + 1) (bits ++ (cell_at memory (here c) bit).value ∷ [])) (set memory (here c) (set (lane_of memory (here c)) bit (after_read (cell_at memory (here c) bit))))
read-pair c bit bits memory there inside quiet =
    let lane : ℕ = here c in
    let x : Cell = cell_at memory lane bit in
    let begun : cell_at (memory_moved memory lane bit BeginRead) lane bit ≡ cell_after x BeginRead = cell-moved memory lane bit BeginRead there inside in
    let answer = λ (f : FlickState). ap (λ (y : Cell). reading_at c (bit + 1) (bits ++ read_answer y (flick_of (after_flick f)) ∷ [])) begun ∙ ap (λ w. reading_at c (bit + 1) (bits ++ cond w (flick_of (after_flick f)) x.value ∷ [])) quiet in
    let moved = moved-twice memory lane bit BeginRead (EndRead false) there inside in
    record {
      run = λ f. (λ i. (answer f i, moved i, after_flick (after_flick f)));
      none = λ f. ap (λ (y : Cell). 0 + 0 + cond y.touched 1 0) begun ∙ ap (λ w. 0 + 0 + cond w 1 0) quiet;
    }

-- reads of n bits
pub reads-quiet : (n : ℕ) (c : CursorState) (bit : ℕ) (bits : List Bool) (memory : List (List Cell)) → here c < length memory → bit + n ≤ length (lane_of memory (here c)) → ((j : ℕ) → j < n → (cell_at memory (here c) (bit + j)).writing ≡ false) →
    LeadsTo (2 * n) (reading_at c bit bits) memory (reading_at c (bit + n) (more_bits n (λ j. (cell_at memory (here c) (bit + j)).value) bits)) (set memory (here c) (over n (λ i x. after_read x) bit (lane_of memory (here c))))
reads-quiet zero c bit bits memory there inside quiet =
    let number : bit ≡ bit + 0 = omega arith in
    record { run = λ f. (λ i. (reading_at c (number i) bits, sym (set-get_or memory (here c) []) i, f)); none = λ f. refl }
reads-quiet (suc n) c bit bits memory there inside quiet =
    let lane : ℕ = here c in
    let cells : List Cell = lane_of memory lane in
    let done : List Cell = over n (λ i x. after_read x) bit cells in
    let before : List (List Cell) = set memory lane done in
    let so_far : List Bool = more_bits n (λ j. (cell_at memory lane (bit + j)).value) bits in
    let lane_is : lane_of before lane ≡ done = get_or-set_same memory lane done [] there in
    let cell_is : cell_in done (bit + n) ≡ cell_in cells (bit + n) = over-outside n (λ i x. after_read x) bit (bit + n) cells (λ j h. omega arith) in
    let cell_there : cell_at before lane (bit + n) ≡ cell_in cells (bit + n) = ap (λ x. cell_in x (bit + n)) lane_is ∙ cell_is in
    let pair = read-pair c (bit + n) so_far before (omega (arith, length-set memory lane done)) (omega (arith, length-over n (λ i x. after_read x) bit cells, ap length lane_is)) (ap (λ (x : Cell). x.writing) cell_there ∙ quiet n (omega arith)) in
    leads-same _ _ _ _ _ _ _ _ _ _ (let e : 2 * n + 2 ≡ 2 * suc n = omega arith in e) refl refl
    (ap (λ b. reading_at c b (so_far ++ (cell_at before lane (bit + n)).value ∷ [])) (let e : bit + n + 1 ≡ bit + suc n = omega arith in e)
    ∙ ap (λ (x : Cell). reading_at c (bit + suc n) (so_far ++ x.value ∷ [])) cell_there)
    (ap (λ x. set before lane (set x (bit + n) (after_read (cell_in x (bit + n))))) lane_is ∙ set-set memory lane done (set done (bit + n) (after_read (cell_in done (bit + n)))))
    (leads_more (2 * n) 2 _ _ _ _ _ _ (reads-quiet n c bit bits memory there (omega arith) (λ j h. quiet j (omega arith))) pair)
