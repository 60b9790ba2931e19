-- The registers and the seats of two cores of one setup are of one shape.
use Rattle.std.proofs.Common.{◌≡◌, ℕ, List, [], ◌∷◌, map, refl, sym, ap, subst, ◌∙◌}
use Rattle.plain_store.specs.{Setup}
use Rattle.model.specs.{Past, past_of, processes}
use Rattle.process.specs.registers.{AreOf}
use Rattle.world.specs.{CoreState, KeepsCore, WorldState, seat_of, setups_in}
use Rattle.world.proofs.WorldRegisters.{are_of}

-- the registers are those of its setup
pub registers-are : (c : CoreState) → KeepsCore c → AreOf c.setup c.registers
registers-are c k = subst (AreOf c.setup) (sym (ap (λ (w : WorldState). w.registers) k.shows.shown)) (are_of c.setup (past_of c.setup k.events))

-- the seats of a setup have it
seats-setup : (s : Setup) (past then : Past) (ps : List ℕ) → setups_in (map (seat_of s past) ps) ≡ setups_in (map (seat_of s then) ps)
seats-setup s past then [] = refl
seats-setup s past then (p ∷ ps) = ap (λ setups. s ∷ setups) (seats-setup s past then ps)

pub seats-alike : (c d : CoreState) (k : KeepsCore c) (l : KeepsCore d) → c.setup ≡ d.setup → setups_in c.seats ≡ setups_in d.seats
seats-alike c d k l same =
    let past : Past = past_of c.setup k.events in
    let then : Past = past_of d.setup l.events in
    ap (λ (w : WorldState). setups_in w.seats) k.shows.shown
    ∙ ap (λ s. setups_in (map (seat_of s past) (processes s))) same
    ∙ seats-setup d.setup past then (processes d.setup)
    ∙ sym (ap (λ (w : WorldState). setups_in w.seats) l.shows.shown)
