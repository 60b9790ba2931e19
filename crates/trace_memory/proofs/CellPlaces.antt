-- Cells: which are the same, where they are kept, and what a move makes of them.
use Rattle.std.proofs.Common.{◌≡◌, ℕ, ◌*◌, ◌<◌, ◌≤◌, ◌==◌, Bool, true, false, not, List, ◌∷◌, Option, None, Some, length, nat_lt, slice_get, refl, sym, ap, ◌∙◌, subst, arith, true≢false, eq-eqb}
use Rattle.std.proofs.lemmas.Bool.{and_parts, and_from, eqb-true, ltb-true}
use Rattle.trace.specs.{Cell, CellMove, TraceRegister, TraceSetup, is_trace_setup}
use Rattle.trace.specs.declared.accesses.CellMove.TheVariants.{Write, End, Read, Value, Set, Get, Swap, Add, Cas}
use Rattle.trace_memory.specs.{cell_state, has_cell, names_cell, place_in, place_of, same_cell, same_index, state_after}
use Rattle.trace_memory.proofs.SetupFacts.{few_processes, has_register}

-- Cells that are the same are equal.
same_index-eq : (i j : Option ℕ) → same_index i j ≡ true → i ≡ j
same_index-eq None None h = refl
same_index-eq (Some i) (Some j) h = ap Some (eqb-true i j h)
same_index-eq None (Some j) h = absurd (true≢false (sym h))
same_index-eq (Some i) None h = absurd (true≢false (sym h))

pub same_cell-eq : (c d : Cell) → same_cell c d ≡ true → c ≡ d
same_cell-eq c d h =
    let parts = and_parts (c.register == d.register) (same_index c.index d.index) h in
    let r : c.register ≡ d.register = eqb-true c.register d.register parts.0 in
    let i : c.index ≡ d.index = same_index-eq c.index d.index parts.1 in
    λ x. record { register = r x; index = i x }

same_index-refl : (i : Option ℕ) → same_index i i ≡ true
same_index-refl None = refl
same_index-refl (Some i) = eq-eqb i i refl

pub same_cell-refl : (c : Cell) → same_cell c c ≡ true
same_cell-refl c = and_from (c.register == c.register) (same_index c.index c.index) (eq-eqb c.register c.register refl) (same_index-refl c.index)

-- Where cells that exist are kept.
below_16 : (s : TraceSetup) (r : TraceRegister) (i : Option ℕ) → s.processes ≤ 16 → names_cell s r i ≡ true → place_in i < 16
below_16 s r None few h = omega arith
below_16 s r (Some i) few h =
    let below : i < s.processes = ltb-true i s.processes (and_parts (not r.is_shared) (nat_lt i s.processes) h).1 in omega arith

-- one register has cells of processes, or one that is shared
not_both : (b : Bool) → b ≡ true → not b ≡ true → ⊥
not_both true h g = true≢false (sym g)
not_both false h g = true≢false (sym h)

same_place : (s : TraceSetup) (r : TraceRegister) (i j : Option ℕ) → names_cell s r i ≡ true → names_cell s r j ≡ true → place_in i ≡ place_in j → i ≡ j
same_place s r None None h g e = refl
same_place s r (Some i) (Some j) h g e = ap Some e
same_place s r None (Some j) h g e = absurd (not_both r.is_shared h (and_parts (not r.is_shared) (nat_lt j s.processes) g).0)
same_place s r (Some i) None h g e = absurd (not_both r.is_shared g (and_parts (not r.is_shared) (nat_lt i s.processes) h).0)

pub index-below : (s : TraceSetup) (c : Cell) → is_trace_setup s ≡ true → has_cell s c ≡ true → place_in c.index < 16
index-below s c good h = let there = has_register s c h in below_16 s there.register c.index (few_processes s good) there.names

pub place_within : (s : TraceSetup) (c : Cell) → is_trace_setup s ≡ true → has_cell s c ≡ true → place_of c < 16 * length s.registers
place_within s c good h =
    let there = has_register s c h in
    let below : place_in c.index < 16 = below_16 s there.register c.index (few_processes s good) there.names in
    let within : c.register < length s.registers = there.within in
    omega arith

-- cells of one place are the same
pub places_apart : (s : TraceSetup) (c d : Cell) → is_trace_setup s ≡ true → has_cell s c ≡ true → has_cell s d ≡ true → place_of c ≡ place_of d → c ≡ d
places_apart s c d good h g e =
    let here = has_register s c h in
    let there = has_register s d g in
    let low : place_in c.index < 16 = below_16 s here.register c.index (few_processes s good) here.names in
    let high : place_in d.index < 16 = below_16 s there.register d.index (few_processes s good) there.names in
    let r : c.register ≡ d.register = omega (arith, e, low, high) in
    let p : place_in c.index ≡ place_in d.index = omega (arith, e, low, high) in
    let one : Some here.register ≡ Some there.register = sym here.is ∙ ap (slice_get s.registers) r ∙ there.is in
    let same : here.register ≡ there.register = cc in
    let i : c.index ≡ d.index = same_place s there.register c.index d.index (subst (λ (x : TraceRegister). names_cell s x c.index ≡ true) same here.names) there.names p in
    λ x. record { register = r x; index = i x }

-- one move more
pub state-move : (r : TraceRegister) (m : CellMove) (moves : List CellMove) → cell_state r (m ∷ moves) ≡ state_after r.width (cell_state r moves) m
state-move r (Write v) moves = refl
state-move r End moves = refl
state-move r Read moves = refl
state-move r (Value v) moves = refl
state-move r (Set v) moves = refl
state-move r (Get v) moves = refl
state-move r (Swap new gives) moves = refl
state-move r (Add addend gives) moves = refl
state-move r (Cas expected new gives) moves = refl
