-- Whether a step ends a read that a write overlapped: the registers of a core agree with the past.
use Rattle.std.proofs.Common.{◌≡◌, ℕ, Bool, List, Some, refl, ap, ◌∙◌}
use Rattle.plain_store.specs.{Setup}
use Rattle.model.specs.safe_bit.{Move}
use Rattle.model.specs.safe_bit.declared.Move.TheVariants.{BeginWrite, EndWrite, BeginRead, EndRead, Settle}
use Rattle.model.specs.{Access, Event, moves_of, past_of}
use Rattle.model.specs.declared.events.Event.TheVariants.{Step}
use Rattle.model.proofs.Width.{IsGood, is_good}
use Rattle.laws.specs.{IsThere, cell_held}
use Rattle.laws.proofs.HeldCells.{held_shows}
use Rattle.laws.proofs.HeldThere.{access_there}
use Rattle.process.specs.{EventOutcome}
use Rattle.process.specs.registers.Accesses as registers
use Rattle.world.specs.{CoreAdds, CoreState, CoreReportsOverlapped, act_next, ends_overlapped, entry_with, with_history}
use Rattle.world.proofs.CoreLooks.{cell-shown}

-- the stored cell and the moves of its bit agree on it
ends-held : (s : Setup) → IsGood s → (events : List Event) (a : Access) (how : Move) → registers.ends_touched (cell_held s (past_of s events) a) how ≡ ends_overlapped (moves_of a (past_of s events)) how
ends-held s g events a (EndRead v) = (held_shows s g events a).touched
ends-held s g events a (BeginWrite v) = refl
ends-held s g events a EndWrite = refl
ends-held s g events a BeginRead = refl
ends-held s g events a (Settle v) = refl

-- the registers of a core and the moves agree on it for the access of the next step
reported-overlapped : (c : CoreState) (p : ℕ) (flick : Bool) (a : Access) (effect : EventOutcome) → CoreAdds c (Step p flick) effect (Some a) → CoreReportsOverlapped c a (registers.ends_overlapped c.setup.processes c.registers a)
reported-overlapped c p flick a effect adds taken events shows =
    let g : IsGood c.setup = is_good c.setup shows.good in
    let there : IsThere c.setup a = access_there c.setup g events (Step p flick) (entry_with p (act_next (with_history c taken) (Some a) effect)) (adds taken events shows) a refl in
    ap (λ x. registers.ends_touched x a.how) (cell-shown c a there taken events shows) ∙ ends-held c.setup g events a a.how

-- the case of a core that contracts see as another one
pub reports-overlapped : (c d : CoreState) (p : ℕ) (flick : Bool) (a : Access) (effect : EventOutcome) (overlapped : Bool) (s : Setup) → c ≡ d → s ≡ c.setup → overlapped ≡ registers.ends_overlapped s.processes c.registers a → CoreAdds d (Step p flick) effect (Some a) → CoreReportsOverlapped d a overlapped
reports-overlapped c d p flick a effect overlapped s view setup is adds taken events shows =
    is
    ∙ ap (λ (s : Setup). registers.ends_overlapped s.processes c.registers a) setup
    ∙ ap (λ (x : CoreState). registers.ends_overlapped x.setup.processes x.registers a) view
    ∙ reported-overlapped d p flick a effect adds taken events shows
