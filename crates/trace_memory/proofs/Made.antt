-- What is kept goes on with an entry.
use Rattle.std.proofs.Common.{◌≡◌, ◌≢◌, ℕ, ◌<◌, Bool, true, false, cond, List, ◌∷◌, None, Some, length, map, slice_get, slice_set, option_map, refl, sym, ap, ◌∙◌, subst, inl, inr, true≢false}
use Rattle.std.proofs.lemmas.Bool.{cases_Bool, cases_eq}
use Rattle.std.proofs.lemmas.Option.{slice_get-map}
use Rattle.std.proofs.lemmas.List.{length-map}
use Rattle.trace.proofs.Lists.{slice_get-set_other, slice_get-set_same}
use Rattle.trace.specs.{Cell, CellAccess, CellMove, LockMark, TracePast, TraceSetup, trace_entry}
use Rattle.trace_memory.specs.{CellState, HasMade, IsMemory, MemoryState, cell_after, cell_state, has_cell, kept_open, moves_on, opened_by, place_of, register_of, same_cell, seen, state_after, state_with, with_move}
use Rattle.trace_memory.proofs.CellPlaces.{place_within, places_apart, same_cell-eq, same_cell-refl, state-move}
use Rattle.trace_memory.proofs.Overlaps.{open-mine, open-other, open-still}

-- an entry without an access
pub made-still : (k : MemoryState) (p : ℕ) (marks : List LockMark) (past : TracePast) → HasMade k past → HasMade k (trace_entry p None marks ∷ past)
made-still k p marks past made = record {
  cells = λ c there. made.cells c there;
  opened = λ q below. made.opened q below ∙ ap Some (sym (open-still k.setup p q marks past));
}

-- a cell with an access more, on it or on another
pub cell-with : (s : TraceSetup) (c : Cell) (past : TracePast) (how : CellMove) (b : Bool) →
    cell_state (register_of s c) (with_move (cond b (Some how) None) (moves_on c past)) ≡ cond b (state_after (register_of s c).width (cell_after s c past) how) (cell_after s c past)
cell-with s c past how true = state-move (register_of s c) how (moves_on c past)
cell-with s c past how false = refl

-- an access of process p
pub made-on : (k : MemoryState) (p n : ℕ) (a : CellAccess) (marks : List LockMark) (past : TracePast) → IsMemory k → p < 16 → has_cell k.setup a.cell ≡ true → n ≡ length past →
    HasMade k past → HasMade (state_with k p n (cell_after k.setup a.cell past) a) (trace_entry p (Some a) marks ∷ past)
made-on k p n a marks past is_memory below there number made = record { cells = cell; opened = opened }
  where
    s : TraceSetup
    s = k.setup

    before : CellState
    before = cell_after s a.cell past

    then : CellState
    then = state_after (register_of s a.cell).width before a.how

    cell : (c : Cell) → has_cell s c ≡ true → slice_get (slice_set k.cells (place_of a.cell) then) (place_of c) ≡ Some (cell_after s c (trace_entry p (Some a) marks ∷ past))
    cell c exists = elim (cases_Bool (same_cell a.cell c)) [
      | inl same ↦
          let is : a.cell ≡ c = same_cell-eq a.cell c same in
          ap (λ i. slice_get (slice_set k.cells (place_of a.cell) then) i) (sym (ap place_of is))
          ∙ slice_get-set_same k.cells (place_of a.cell) then (subst (λ m. place_of a.cell < m) (sym is_memory.cells) (place_within s a.cell is_memory.good there))
          ∙ ap (λ d. Some (state_after (register_of s d).width (cell_after s d past) a.how)) is
          ∙ ap Some (sym (cell-with s c past a.how true))
          ∙ ap (λ b. Some (cell_state (register_of s c) (with_move (cond b (Some a.how) None) (moves_on c past)))) (sym same)
      | inr other ↦
          let apart : place_of c ≢ place_of a.cell = λ h. true≢false (sym (same_cell-refl c) ∙ ap (λ d. same_cell d c) (places_apart s c a.cell is_memory.good exists there h) ∙ other) in
          slice_get-set_other k.cells (place_of a.cell) (place_of c) then apart
          ∙ made.cells c exists
          ∙ ap (λ b. Some (cell_state (register_of s c) (with_move (cond b (Some a.how) None) (moves_on c past)))) (sym other)
    ]

    opened : (q : ℕ) → q < 16 → slice_get (slice_set (map (option_map (seen s.memory a)) k.opened) p (opened_by s.memory n before a)) q ≡ Some (kept_open s q (trace_entry p (Some a) marks ∷ past))
    opened q inside = elim (cases_eq q p) [
      | inl mine ↦
          ap (slice_get (slice_set (map (option_map (seen s.memory a)) k.opened) p (opened_by s.memory n before a))) mine
          ∙ slice_get-set_same (map (option_map (seen s.memory a)) k.opened) p (opened_by s.memory n before a)
          (subst (λ m. p < m) (sym (length-map k.opened (option_map (seen s.memory a)) ∙ is_memory.opened)) below)
          ∙ ap (λ m. Some (opened_by s.memory m before a)) number
          ∙ ap Some (sym (open-mine s p a marks past))
          ∙ ap (λ r. Some (kept_open s r (trace_entry p (Some a) marks ∷ past))) (sym mine)
      | inr apart ↦
          slice_get-set_other (map (option_map (seen s.memory a)) k.opened) p q (opened_by s.memory n before a) apart
          ∙ slice_get-map (option_map (seen s.memory a)) k.opened q
          ∙ ap (option_map (option_map (seen s.memory a))) (made.opened q inside)
          ∙ ap Some (sym (open-other s p a marks q past apart))
    ]
