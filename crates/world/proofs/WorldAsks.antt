-- The stage of a process and the processes ahead of it, by its seat.
use Rattle.std.proofs.Common.{◌≡◌, ℕ, Bool, true, false, cond, List, [], Some, None, sym, ap, ◌∙◌}
use Rattle.std.specs.Prelude.{slice_get}
use Rattle.plain_store.specs.{Setup}
use Rattle.model.specs.declared.events.Event.TheVariants as event
use Rattle.model.specs.{ahead, is_at_door, past_of, stage}
use Rattle.model.proofs.Width.{is_good}
use Rattle.laws.proofs.AheadLists.{queued-only}
use Rattle.laws.proofs.Doings.{stage_of}
use Rattle.laws.proofs.FrameInside.{stage-is}
use Rattle.laws.proofs.FrameSteps.{doing-above}
use Rattle.process.specs.{stage_doing}
use Rattle.world.specs.{CoreState, InEachCorePast, Seat, listed, seat_at_door, stage_in, with_history}
use Rattle.world.proofs.CoreRefused.{below-is, is-above, stage-reported}
use Rattle.world.proofs.QueueListed.{ahead-listed}
use Rattle.world.proofs.WorldOpen.{seat-shown, seatless}

-- the stage of a process that exists
pub stage-there : (c : CoreState) (p : ℕ) (seat : Seat) → slice_get c.seats p ≡ Some seat → InEachCorePast c (λ s past. Some (stage_doing seat.process.doing) ≡ stage_in s past p)
stage-there c p seat there taken events shows =
    ap Some (stage-reported c taken events (event.Fail p) seat shows there)
    ∙ sym (ap (λ b. cond b (Some (stage p (past_of c.setup events))) None) (below-is c taken events (event.Fail p) seat shows there))

-- the stage of a process that does not exist
pub stage-beyond : (c : CoreState) (p : ℕ) → slice_get c.seats p ≡ None → InEachCorePast c (λ s past. None ≡ stage_in s past p)
stage-beyond c p none taken events shows =
    sym (ap (λ b. cond b (Some (stage p (past_of c.setup events))) None) (is-above p c.setup.processes (seatless (with_history c taken) events p shows none)))

-- the processes ahead of one that exists
pub ahead-there : (c : CoreState) (p : ℕ) (seat : Seat) (queued : Bool) → slice_get c.seats p ≡ Some seat → seat_at_door seat ≡ queued →
    InEachCorePast c (λ s past. elim queued as (λ _. List ℕ) [ true ↦ listed seat.before | false ↦ [] ] ≡ ahead s p past)
ahead-there c p seat queued there h taken events shows =
    let at_door : is_at_door (stage p (past_of c.setup events)) ≡ queued = ap is_at_door (sym (stage-reported c taken events (event.Fail p) seat shows there)) ∙ h in
    let before = ap (λ (x : Seat). x.before) (seat-shown (with_history c taken) events p seat shows there) in
    sym (ahead-listed c.setup shows.good events p ∙ (λ i. elim (at_door i) as (λ _. List ℕ) [ true ↦ listed (sym before i) | false ↦ [] ]))

-- the processes ahead of one that does not exist
pub ahead-beyond : (c : CoreState) (p : ℕ) → slice_get c.seats p ≡ None → InEachCorePast c (λ s past. [] ≡ ahead s p past)
ahead-beyond c p none taken events shows =
    let s : Setup = c.setup in
    let g = is_good s shows.good in
    sym (queued-only s p (past_of s events) (ap is_at_door (stage-is s g events p ∙ ap stage_of (doing-above s g events p (seatless (with_history c taken) events p shows none)))))
