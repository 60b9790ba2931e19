-- Facts that are read from a core: a process, and a bit.
use Rattle.std.proofs.Common.{◌≡◌, ◌<◌, ℕ, None, ap, refl, ◌∙◌}
use Rattle.std.specs.Prelude.{slice_get, Some}
use Rattle.model.specs.{Access, past_of}
use Rattle.model.proofs.Width.{is_good}
use Rattle.laws.specs.{IsThere, Rests, cell_held, doing}
use Rattle.laws.proofs.FrameSteps.{doing-above}
use Rattle.process.specs.registers.{RegisterName, cell_at, lane_number, lane_of, lane_of_access}
use Rattle.process.specs.{process_after}
use Rattle.process.proofs.Memories.{with-cell, with-copies}
use Rattle.world.specs.{CoreState, InEachCorePast, Seat, WorldState, cells_held, with_history}
use Rattle.world.proofs.WorldOpen.{seat-shown, seatless}

-- the process of a core is that of the past
pub process-shown : (c : CoreState) (p : ℕ) (seat : Seat) → slice_get c.seats p ≡ Some seat → InEachCorePast c (λ s past. seat.process ≡ process_after s past p)
process-shown c p seat there taken events shows = ap (λ (x : Seat). x.process) (seat-shown (with_history c taken) events p seat shows there)

-- a process that does not exist is idle
pub none-shown : (c : CoreState) (p : ℕ) → slice_get c.seats p ≡ None → InEachCorePast c (λ s past. doing s p past ≡ Rests)
none-shown c p none taken events shows = doing-above c.setup (is_good c.setup shows.good) events p (seatless (with_history c taken) events p shows none)

-- the cell of a bit that exists is that of the past
pub cell-shown : (c : CoreState) (a : Access) → IsThere c.setup a → InEachCorePast c (λ s past. cell_at c.registers (lane_of_access s.processes a) a.bit ≡ cell_held s past a)
cell-shown c a there taken events shows =
    ap (λ (w : WorldState). cell_at w.registers (lane_of_access c.setup.processes a) a.bit) shows.shown
    ∙ with-cell (cell_held c.setup (past_of c.setup events)) c.setup a (λ a how. refl) there

-- the cells of a reader's copies of a register that exists are those of the past
pub cells-shown : (c : CoreState) (register : RegisterName) (reader : ℕ) → register.owner < c.setup.processes → reader < c.setup.processes →
    InEachCorePast c (λ s past. lane_of c.registers (lane_number s.processes register reader) ≡ cells_held s past register reader)
cells-shown c register reader owner inside taken events shows =
    ap (λ (w : WorldState). lane_of w.registers (lane_number c.setup.processes register reader)) shows.shown
    ∙ with-copies (cell_held c.setup (past_of c.setup events)) c.setup register reader owner inside
