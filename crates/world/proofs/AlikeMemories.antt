-- Memories that behave alike do so after each access and each drop of reads too, and an open read ends with the same value in both.
use Rattle.std.proofs.Common.{◌≡◌, ℕ, ◌&&◌, Bool, true, false, List, [], ◌∷◌, cond, get_or, map, refl, set, sym, ap, ◌∙◌}
use Rattle.std.proofs.Math.ListN.{get_or-map}
use Rattle.std.proofs.lemmas.List.{map-set}
use Rattle.model.specs.{ended}
use Rattle.model.specs.safe_bit.Cell.{Cell, MayMove, cell_after, new_cell, read_answer, without_read}
use Rattle.model.specs.safe_bit.{Move}
use Rattle.model.specs.safe_bit.declared.moves.Move.TheVariants.{BeginWrite, EndWrite, BeginRead, EndRead, Settle}
use Rattle.process.specs.registers.{AreAlikeMemories, cell_at, lane_of, memory_moved, without_reads}
use Rattle.process.specs.registers.reader_copies.{without_unused_flag}

-- ONE CELL

twice : (a b : Bool) → (a && (a && b)) ≡ (a && b)
twice true b = refl
twice false b = refl

-- no move uses a flag that is cleared here
unused_moved : (c : Cell) (how : Move) → without_unused_flag (cell_after (without_unused_flag c) how) ≡ without_unused_flag (cell_after c how)
unused_moved c (BeginWrite v) = refl
unused_moved c EndWrite = λ i. record { value = c.value; writing = false; reading = c.reading; touched = twice c.reading c.touched i }
unused_moved c BeginRead = refl
unused_moved c (EndRead v) = refl
unused_moved c (Settle v) = λ i. record { value = v; writing = false; reading = c.reading; touched = twice c.reading c.touched i }

alike_moved : (c d : Cell) (how : Move) → without_unused_flag c ≡ without_unused_flag d → without_unused_flag (cell_after c how) ≡ without_unused_flag (cell_after d how)
alike_moved c d how alike = sym (unused_moved c how) ∙ ap (λ x. without_unused_flag (cell_after x how)) alike ∙ unused_moved d how

-- an open read ends with the same value in both cells
alike_answer : (c d : Cell) (flick : Bool) → without_unused_flag c ≡ without_unused_flag d → c.reading ≡ true → read_answer c flick ≡ read_answer d flick
alike_answer c d flick alike reading = λ i. cond (touched i) flick (ap (λ (x : Cell). x.value) alike i)
  where
    reading_too : d.reading ≡ true
    reading_too = sym (ap (λ (x : Cell). x.reading) alike) ∙ reading

    touched : c.touched ≡ d.touched
    touched = (λ i. sym reading i && c.touched) ∙ ap (λ (x : Cell). x.touched) alike ∙ (λ i. reading_too i && d.touched)

-- so a move in its turn gets the same value in both
pub alike_ended : (c d : Cell) (flick : Bool) (how : Move) → without_unused_flag c ≡ without_unused_flag d → MayMove c (ended (read_answer c flick) how) → ended (read_answer c flick) how ≡ ended (read_answer d flick) how
alike_ended c d flick (BeginWrite v) alike turn = refl
alike_ended c d flick EndWrite alike turn = refl
alike_ended c d flick BeginRead alike turn = refl
alike_ended c d flick (EndRead v) alike turn = ap EndRead (alike_answer c d flick alike turn.0)
alike_ended c d flick (Settle v) alike turn = refl

-- ONE MEMORY, WITHOUT THE FLAGS

abbrev without_flags : List (List Cell) → List (List Cell)
without_flags memory = map (map without_unused_flag) memory

lane_without : (memory : List (List Cell)) (lane : ℕ) → lane_of (without_flags memory) lane ≡ map without_unused_flag (lane_of memory lane)
lane_without memory lane = get_or-map (map without_unused_flag) memory lane []

cell_without : (memory : List (List Cell)) (lane bit : ℕ) → cell_at (without_flags memory) lane bit ≡ without_unused_flag (cell_at memory lane bit)
cell_without memory lane bit = ap (λ l. get_or l bit (new_cell false)) (lane_without memory lane) ∙ get_or-map without_unused_flag (lane_of memory lane) bit (new_cell false)

-- after an access
moved_without : (memory : List (List Cell)) (lane bit : ℕ) (how : Move) →
    without_flags (memory_moved memory lane bit how) ≡ set (without_flags memory) lane (set (lane_of (without_flags memory) lane) bit (without_unused_flag (cell_after (cell_at memory lane bit) how)))
moved_without memory lane bit how =
    let now : Cell = cell_after (cell_at memory lane bit) how in
    map-set (map without_unused_flag) memory lane (set (lane_of memory lane) bit now)
    ∙ ap (set (without_flags memory) lane) (map-set without_unused_flag (lane_of memory lane) bit now ∙ ap (λ l. set l bit (without_unused_flag now)) (sym (lane_without memory lane)))

-- after a drop of the open reads of a lane
lane_dropped : (copies : List Cell) → map without_unused_flag (map without_read copies) ≡ map (λ c. without_unused_flag (without_read c)) (map without_unused_flag copies)
lane_dropped [] = refl
lane_dropped (c ∷ copies) = ap (λ l. without_unused_flag (without_read c) ∷ l) (lane_dropped copies)

dropped_without : (memory : List (List Cell)) (lane : ℕ) → without_flags (without_reads memory lane) ≡ set (without_flags memory) lane (map (λ c. without_unused_flag (without_read c)) (lane_of (without_flags memory) lane))
dropped_without memory lane =
    map-set (map without_unused_flag) memory lane (map without_read (lane_of memory lane))
    ∙ ap (set (without_flags memory) lane) (lane_dropped (lane_of memory lane) ∙ ap (map (λ c. without_unused_flag (without_read c))) (sym (lane_without memory lane)))

-- TWO MEMORIES

module _ (memory other : List (List Cell)) (alike : AreAlikeMemories memory other) where
  pub alike_cell : (lane bit : ℕ) → without_unused_flag (cell_at memory lane bit) ≡ without_unused_flag (cell_at other lane bit)
  alike_cell lane bit = sym (cell_without memory lane bit) ∙ ap (λ m. cell_at m lane bit) alike ∙ cell_without other lane bit

  pub alike_after : (lane bit : ℕ) (how : Move) → AreAlikeMemories (memory_moved memory lane bit how) (memory_moved other lane bit how)
  alike_after lane bit how =
      moved_without memory lane bit how
      ∙ (λ i. set (alike i) lane (set (lane_of (alike i) lane) bit (alike_moved (cell_at memory lane bit) (cell_at other lane bit) how (alike_cell lane bit) i)))
      ∙ sym (moved_without other lane bit how)

  pub alike_dropped : (lane : ℕ) → AreAlikeMemories (without_reads memory lane) (without_reads other lane)
  alike_dropped lane = dropped_without memory lane ∙ (λ i. set (alike i) lane (map (λ c. without_unused_flag (without_read c)) (lane_of (alike i) lane))) ∙ sym (dropped_without other lane)
