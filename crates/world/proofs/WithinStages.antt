-- The stage of a process that is within a register access.
use Rattle.std.proofs.Common.{◌≡◌, ℕ, ◌<◌, Bool, true, false, List, refl, ap, ◌∙◌, arith}
use Rattle.model.specs.{Event, is_fresh, past_of, stage}
use Rattle.model.specs.declared.stages.Stage.TheVariants as stages
use Rattle.model.specs.Parts.{Part, Raises, Asks, TakesTicket, Lowers, Refuses, Waits, AsksCommit, AsksStamp, AsksImage, WritesImage, WritesStamp, WritesCommit, Clears, Over, stage_of}
use Rattle.model.proofs.Width.{is_good}
use Rattle.laws.specs.{Doing, Rests, Lies, Runs, Closes}
use Rattle.process.specs.{ProcessState, remaining_at, stage_doing}
use Rattle.world.specs.{Seat, remaining_in}
use Rattle.world.specs.Shows.{Shows, WorldState}
use Rattle.world.proofs.WorldOpen.{seat-shown, seat-there}
use Rattle.world.proofs.WorldStages.{stage-process}

-- no part of a call is one of a memory unit
part-unsettled : (x : Part) (fresh : Bool) → stage_of x fresh ≡ stages.Settling → ⊥
part-unsettled Raises fresh is = absurd (cc)
part-unsettled (Asks j js ts) fresh is = absurd (cc)
part-unsettled (TakesTicket t) fresh is = absurd (cc)
part-unsettled (Lowers t) fresh is = absurd (cc)
part-unsettled (Refuses f) fresh is = absurd (cc)
part-unsettled (Waits t w ws) fresh is = absurd (cc)
part-unsettled (AsksCommit k ks vs) fresh is = absurd (cc)
part-unsettled (AsksStamp k ks vs b) fresh is = absurd (cc)
part-unsettled (AsksImage vs) fresh is = absurd (cc)
part-unsettled (WritesImage vs st) fresh is = absurd (cc)
part-unsettled (WritesStamp vs st) fresh is = absurd (cc)
part-unsettled (WritesCommit vs st) fresh is = absurd (cc)
part-unsettled (Clears a) true is = absurd (cc)
part-unsettled (Clears a) false is = absurd (cc)
part-unsettled Over fresh is = absurd (cc)

-- a process within a register access of its call is not settling
remaining-unsettled : (now : ProcessState) (d : Doing) → now.doing ≡ d → 0 < remaining_at now → stage_doing d ≡ stages.Settling → ⊥
remaining-unsettled now Rests is some settling = absurd (cc)
remaining-unsettled now Lies is some settling = absurd (cc)
remaining-unsettled now (Runs command number at) is some settling = part-unsettled at.part (is_fresh at.run) settling
remaining-unsettled now (Closes command number at) is some settling =
    let none : remaining_at now ≡ 0 = ap (λ d. remaining_at (record now { doing = d })) is in absurd (omega (arith, some, none))

-- it is not settling in any record that a world shows
pub within-unsettled : (w : WorldState) (events : List Event) (p : ℕ) → Shows w events → 0 < remaining_in w.seats p → stage p (past_of w.setup events) ≡ stages.Settling → ⊥
within-unsettled w events p shows some settling =
    let (seat, is, remaining) = seat-there w.seats p some in
    remaining-unsettled seat.process seat.process.doing refl remaining
    (ap (λ (x : Seat). stage_doing x.process.doing) (seat-shown w events p seat shows is) ∙ stage-process w.setup (is_good w.setup shows.good) events p ∙ settling)
