-- Steps of a process without a mark, one after another.
use Rattle.std.specs.Prelude.{◌≡◌, ◌<◌, ℕ, zero, suc, ◌+◌, Bool, false, if◌then◌else◌, List, [], None, Some, slice_get}
use Rattle.model.specs.safe_bit.{Move, is_overlapped}
use Rattle.model.specs.safe_bit.declared.Move.TheVariants.{EndRead}
use Rattle.model.specs.{Access, Entry, Past, moves_of}
use Rattle.model.specs.declared.events.Event.TheVariants.{Step}
use Rattle.world.specs.Events.{Adds, GoesOn, InEachPast, KeepsTheMainTheorem}
use Rattle.choices.specs.{FlickState, after_flick, flick_of}
use Rattle.world.specs.Seats.{Seat}
use Rattle.world.specs.Shows.{WorldState}
use Rattle.process.specs.{remaining_at}

-- the move ends a read that a write overlapped: a write was open when the latest read began, or has begun since
abbrev pub ends_overlapped : List Move → Move → Bool
ends_overlapped moves (EndRead v) = is_overlapped moves
ends_overlapped moves _ = false

-- the entry ends a read that a write overlapped
abbrev pub ends_overlapped_read : Past → Entry → Bool
ends_overlapped_read before e = elim e.access [ None ↦ false | Some a ↦ ends_overlapped (moves_of a before) a.how ]

-- whether the access would end a read that a write overlapped, in every record that the world shows
abbrev pub ReportsOverlapped : WorldState → Access → Bool → Type 0
ReportsOverlapped w access overlapped = InEachPast w (λ s past. overlapped ≡ ends_overlapped (moves_of access past) access.how)

-- a step by this flick adds the entry with this access, and with no mark
abbrev pub AddsQuietly : WorldState → ℕ → Bool → Access → Type 0
AddsQuietly w p flick access = Adds w (Step p flick) p (record { access = Some access; marks = [] })

-- a step of p by this flick, without a mark, makes the new world of the old one
pub record StepsQuietly (old : WorldState) (p : ℕ) (flick : Bool) (new : WorldState) : Type 0 where
  pub access : Access
  pub adds : AddsQuietly old p flick access
  pub shows : GoesOn old (Step p flick) new
  pub main_theorem : KeepsTheMainTheorem old p (record { access = Some access; marks = [] })
  pub setup : new.setup ≡ old.setup

-- the number of the next steps of p that are within a register access of its call; 0 if p does not exist
abbrev pub remaining_in : List Seat → ℕ → ℕ
remaining_in seats p = elim (slice_get seats p) [ None ↦ 0 | Some seat ↦ remaining_at seat.process ]

-- for each process other than p, the number of these steps is as before
abbrev pub KeepOthers : List Seat → ℕ → List Seat → Type 0
KeepOthers seats p new = (q : ℕ) → (q ≡ p → ⊥) → remaining_in new q ≡ remaining_in seats q

-- such a step within a register access, with this access; overlapped: it ended a read that a write overlapped
pub record MakesQuietly (old : WorldState) (p : ℕ) (flick : Bool) (access : Access) (overlapped : Bool) (new : WorldState) : Type 0 where
  pub within : 0 < remaining_in old.seats p
  pub steps : StepsQuietly old p flick new
  pub access_is : steps.access ≡ access
  pub reports : ReportsOverlapped old access overlapped

-- n such steps, each by the next flick; the newest makes this access, and `overlapped` of them ended a read that a write overlapped
abbrev pub Walks : WorldState → FlickState → ℕ → ℕ → Access → ℕ → WorldState → FlickState → Type 0
Walks old flicks p zero newest overlapped new flicks_then = (new ≡ old) × (flicks_then ≡ flicks) × (overlapped ≡ 0)
Walks old flicks p (suc n) newest overlapped new flicks_then =
    (w : WorldState) × (f : FlickState) × (access : Access) × (before : ℕ) × Walks old flicks p n access before w f
    × (last : Bool) × MakesQuietly w p (flick_of f) newest last new × (flicks_then ≡ after_flick f) × (overlapped ≡ before + (if last then 1 else 0))
