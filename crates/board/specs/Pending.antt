-- The events of a process since the last word step of its port.
use Rattle.std.specs.Prelude.{ℕ, Bool, true, false, List, [], ◌∷◌, ◌++◌, Option, None, Some}
use Rattle.plain_store.specs.{Command}
use Rattle.model.specs.{Event}
use Rattle.model.specs.declared.events.Event.TheVariants as event
use Rattle.board.specs.declared.pending.Pending.{Pending}

-- the event, if it has happened
abbrev pub if_so : Bool → Event → List Event
if_so true event = event ∷ []
if_so false event = []

-- the call, if one has begun
abbrev pub if_called : ℕ → Option Command → List Event
if_called p None = []
if_called p (Some command) = event.Call p command ∷ []

-- these events, the newest first: a restart, then a call or a withdrawal, and then a failure
abbrev pub events_of : ℕ → Pending → List Event
events_of p pending = if_so pending.failed (event.Fail p) ++ if_so pending.withdrew (event.Withdraw p) ++ if_called p pending.called ++ if_so pending.restarted (event.Restart p)

-- no event
abbrev pub nothing : Pending
nothing = record { restarted = false; called = None; withdrew = false; failed = false }
