-- A Step without a mark: its process exists, and within a register access it does not end the access.
use Rattle.std.proofs.Common.{◌≡◌, ◌+◌, ◌<◌, Bool, true, false, List, [], ℕ, Some, Ok, refl, eqb-true}
use Rattle.plain_store.specs.{Setup, checked}
use Rattle.model.specs.safe_bit.{Move}
use Rattle.model.specs.safe_bit.declared.Move.TheVariants.{BeginWrite, EndWrite, BeginRead, EndRead, Settle}
use Rattle.model.specs.{Access, Event, entry_of, past_of, width}
use Rattle.model.specs.declared.events.Event.TheVariants.{Step}
use Rattle.model.proofs.Width.{is_good}
use Rattle.scenario_run.proofs.InTurn.{process_there}
use Rattle.scenario_run.specs.{Happening, UnmarkedStep, StepsOn, tried}
use Rattle.calls.specs.{ends_number}
use Rattle.world.proofs.WorldWithin.{inside-number}
use Rattle.world.specs.process.{remaining_at, process_after}

-- an access that ends the read of a number
ends_number-is : (n k : ℕ) (how : Move) → ends_number n k how ≡ true → (v : Bool) × (how ≡ EndRead v) × (k + 1 ≡ n)
ends_number-is n k (EndRead v) is = (v, refl, eqb-true (k + 1) n is)
ends_number-is n k (BeginWrite v) is = absurd (cc)
ends_number-is n k EndWrite is = absurd (cc)
ends_number-is n k BeginRead is = absurd (cc)
ends_number-is n k (Settle v) is = absurd (cc)

pub not_so : (b : Bool) → (b ≡ true → ⊥) → b ≡ false
not_so true never = absurd (never refl)
not_so false never = refl

-- it is not made within a register access
pub inside_never : (s : Setup) → checked s ≡ Ok tt → (events : List Event) (p : ℕ) (flick : Bool) (a : Access) → entry_of s (past_of s events) (Step p flick) ≡ Some (record { process = p; access = Some a; marks = [] }) →
    0 < remaining_at (process_after s (past_of s events) p) → ends_number (width s a.field) a.bit a.how ≡ true → ⊥
inside_never s good events p flick a adds some ends =
    let r = ends_number-is (width s a.field) a.bit a.how ends in
    inside-number s (is_good s good) events p flick r.0 (record { process = p; access = Some a; marks = [] }) a adds refl some r.1 r.2

-- its process exists
pub steps_below : (s : Setup) (before : List Happening) (made : UnmarkedStep) → StepsOn s before made → made.process < s.processes
steps_below s before made on = process_there s (tried before) (Step made.process made.flick) (record { process = made.process; access = Some made.access; marks = [] }) refl on.adds
