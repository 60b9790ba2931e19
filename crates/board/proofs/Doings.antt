-- The call or closing of a process has not come to its end, and the process has a next access if its stage allows a step.
use Rattle.std.proofs.Common.{◌≡◌, ℕ, Bool, true, false, cond, List, ◌∷◌, [], ◌==◌, refl, sym, ◌∙◌, arith}
use Rattle.std.specs.Prelude.{Option, None, Some}
use Rattle.model.specs.{Access, Call, Entry, Event, Mark, Past, Stage, call_number, is_at_work, last_call, last_command, last_write, own, past_of, refused_at, settling_from, stage, start_in, unfinished}
use Rattle.plain_store.specs.{Command, Setup}
use Rattle.model.specs.declared.events.Event.TheVariants as event
use Rattle.model.specs.declared.marks.Mark.TheVariants as mark
use Rattle.model.proofs.Width.{IsGood}
use Rattle.laws.proofs.Doings as laws
use Rattle.laws.proofs.FrameInside.{stage-is}
use Rattle.laws.specs.{Closes, Doing, does_after, does_then, doing, goes_on, next_of}
use Rattle.process.specs.{may_step, next_at, stage_doing}
use Rattle.board.specs.{IsUnended, OwnView, process_at, with_event}

-- The call or closing has not come to its end.

-- after its next access
pub does_unended : (s : Setup) (p : ℕ) (d : Doing) (flick value : Bool) → IsUnended (does_then s p d flick value)
does_unended s p d flick value = grind arith

-- after an event other than an access
pub event_unended : (s : Setup) (o : OwnView) (event : Event) → IsUnended o.doing → IsUnended (with_event s o event).doing
event_unended s o event h = grind arith

failing-unended : (command : Command) (number : ℕ) (c : Call) (mine : Past) (a : Option Access) → IsUnended (Closes command number (settling_from c mine a))
failing-unended command number c mine None = tt
failing-unended command number c mine (Some a) = tt

goes-unended : (s : Setup) (p : ℕ) (e : Entry) (a : Option Access) (d : Doing) → IsUnended (goes_on s p e a d)
goes-unended s p e a d = grind arith

after-unended : (s : Setup) (p : ℕ) (mine : Past) (e : Entry) (m : Option Mark) (d : Doing) → IsUnended (does_after s p mine e m d)
after-unended s p mine e None d = goes-unended s p e e.access d
after-unended s p mine e (Some (mark.Called command)) d = refl
after-unended s p mine e (Some mark.Withdrew) d = tt
after-unended s p mine e (Some mark.Failed) d = failing-unended (last_command mine) (call_number s mine) (last_call s p mine) mine (unfinished s.processes (last_write mine))
after-unended s p mine e (Some (mark.Waiting t)) d = goes-unended s p e e.access d
after-unended s p mine e (Some mark.Entered) d = goes-unended s p e e.access d
after-unended s p mine e (Some (mark.Taken k r)) d = goes-unended s p e e.access d
after-unended s p mine e (Some mark.Left) d = goes-unended s p e e.access d
after-unended s p mine e (Some (mark.Answered a)) d = goes-unended s p e e.access d
after-unended s p mine e (Some (mark.Settled v)) d = goes-unended s p e e.access d
after-unended s p mine e (Some mark.Down) d = goes-unended s p e e.access d
after-unended s p mine e (Some mark.Restarted) d = goes-unended s p e e.access d

either : (b : Bool) (d then : Doing) → IsUnended d → IsUnended then → IsUnended (cond b d then)
either true d then h k = h
either false d then h k = k

-- in each past
pub known_unended : (s : Setup) (p : ℕ) (past : Past) → IsUnended (doing s p past)
known_unended s p [] = tt
known_unended s p (e ∷ past) = either (e.process == p) _ _ (after-unended s p (own p past) e (start_in e.marks) (doing s p past)) (known_unended s p past)

-- The next access.

-- a process that may step has a next access
pub next_there : (s : Setup) (o : OwnView) (flick : Bool) → IsUnended o.doing → may_step o.doing ≡ true → next_of s o.process o.doing flick ≡ Some (next_at (process_at s o) flick)
next_there s o flick h k = grind arith

-- a process that has a next access may step
pub may_go : (s : Setup) (p : ℕ) (d : Doing) (flick : Bool) (n : Access) → next_of s p d flick ≡ Some n → may_step d ≡ true
may_go s p d flick n h = grind arith

-- The stage.

same-stage : (d : Doing) → stage_doing d ≡ laws.stage_of d
same-stage d = grind arith

-- the stage of a process is that of the record
pub stage_known : (s : Setup) → IsGood s → (events : List Event) (p : ℕ) → stage_doing (doing s p (past_of s events)) ≡ stage p (past_of s events)
stage_known s g events p = same-stage (doing s p (past_of s events)) ∙ sym (stage-is s g events p)

-- if there is a next access, the stage allows one
pub next_goes : (s : Setup) (p : ℕ) (d : Doing) (flick : Bool) (n : Access) → IsUnended d → next_of s p d flick ≡ Some n → is_at_work (stage_doing d) ≡ true
next_goes s p d flick n h k = grind arith

-- a stage that allows an access allows a step
pub step_allowed : (st : Stage) (p : ℕ) (flick : Bool) → is_at_work st ≡ true → refused_at (event.Step p flick) st ≡ None
step_allowed st p flick h = grind arith

-- a process whose stage allows an access may step
pub goes_steps : (d : Doing) → is_at_work (stage_doing d) ≡ true → may_step d ≡ true
goes_steps d h = grind arith
