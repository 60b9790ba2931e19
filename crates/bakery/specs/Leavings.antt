-- The clearing of a ticket is that of a call at its last part.
use Rattle.std.specs.Prelude.{◌≡◌, ℕ, Bool, Option}
use Rattle.plain_store.specs.{Answer, Setup}
use Rattle.plain_store.specs.declared.Command.TheVariants.{Ask}
use Rattle.model.specs.{Access, Call, Clears, Ended, Part, Place, Quit, Run, TornBit, Withdraws, Writing, access_at, enter, place_after, torn_at}
use Rattle.process.specs.laws.{Doing, Closes, Rests, Runs}
use Rattle.process.specs.{ProcessState}

-- the process runs no call: it is closing one and has an access to make, or has nothing to do
abbrev pub IsClosing : Doing → Type 0
IsClosing (Runs command number at) = ⊥
IsClosing (Closes command number Quit) = ⊥
IsClosing (Closes command number Ended) = ⊥
IsClosing _ = Unit {0}

-- the progress of the clearing, as in a withdrawal of some call
abbrev pub clearing_by : Run → Doing
clearing_by (Writing w) = Closes Ask 0 (Withdraws w)
clearing_by _ = Rests

-- the clearing at a part of a call; at any part except the last one, nothing is cleared
abbrev pub clearing_at : Part → Run → Doing
clearing_at (Clears a) run = clearing_by run
clearing_at _ run = Rests

-- the clearing at a place of a call
abbrev pub leaving_at : Call → Place → ProcessState
leaving_at c at = record { setup = c.setup; process = c.process; doing = clearing_at at.part at.run; command = Ask; number = 0 }

-- each call of the process begins to clear its ticket there
abbrev pub BeginsClearing : Setup → ℕ → ProcessState → Type 0
BeginsClearing s p l = (c : Call) (a : Answer) → s ≡ c.setup → p ≡ c.process → l ≡ leaving_at c (enter c (Clears a))

-- the next access of the call
abbrev pub IsNextOfCall : ProcessState → Access → Type 0
IsNextOfCall l access = (c : Call) (at : Place) → l ≡ leaving_at c at → access ≡ access_at c at.part at.run

-- the next access moves the call to its next place, for any value of the access
abbrev pub CallGoesOn : ProcessState → ProcessState → Type 0
CallGoesOn l then = (c : Call) (at : Place) (value : Bool) → l ≡ leaving_at c at → then ≡ leaving_at c (place_after c at value)

-- a halt of the call tears this bit, or none
abbrev pub CallTears : ProcessState → Option TornBit → Type 0
CallTears l torn = (c : Call) (at : Place) → l ≡ leaving_at c at → torn ≡ torn_at c at
