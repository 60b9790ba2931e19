-- A port that makes one call: the progress of the call, and the port's list of calls after it.
use Rattle.std.specs.Prelude.{◌≡◌, ℕ, Bool, true, false, ◌∷◌, ◌++◌, [], Option, None, Some, option_map}
use Rattle.plain_store.specs.{Answer, Command, Setup}
use Rattle.model.specs.declared.stages.Stage.TheVariants.{Idle}
use Rattle.board.specs.laws.{Doing, Rests, Runs}
use Rattle.board.specs.Calls.{Calls, and_then}
use Rattle.board.specs.{OwnView, PortState, ViewState, goes, stage_in}
use Rattle.race.specs.declared.workers.CallReached.{CallReached}
use Rattle.race.specs.declared.workers.CallReached.TheVariants as reached
use Rattle.model.specs.{Placed}

-- a process has no call, or runs one: it has not failed and has not withdrawn
abbrev pub is_uncut : Doing → Bool
is_uncut Rests = true
is_uncut (Runs command number at) = true
is_uncut _ = false

-- a process makes a call that is not answered
pub record IsCalling (s : Setup) (o : OwnView) : Type 0 where
  pub goes : goes s o ≡ true
  pub uncut : is_uncut o.doing ≡ true

-- the call that is not finished goes on; its command may be taken meanwhile
abbrev pub CallGoesOn : Calls → Calls → Type 0
CallGoesOn before after = (place : Option ℕ) × (after ≡ record before { now = option_map (λ (call : Placed). record call { place = place }) before.now })

-- the call that is not finished is answered, and is then a finished one
abbrev pub IsAnswered : Calls → Calls → Type 0
IsAnswered before after =
    (place : Option ℕ) × (answer : Answer) × (after ≡ record { done = and_then before.done (option_map (λ (call : Placed). record { command = call.command; answer = Some answer; place = place }) before.now); now = None })

-- the state that the call of a port has reached: it is answered, and the port rests; or it goes on, at the door or inside
abbrev pub ComesTo : Setup → Option CallReached → ViewState → ViewState → Type 0
ComesTo s (Some reached.Answer) v w = IsAnswered v.own.calls w.own.calls × (stage_in s w.own ≡ Idle)
ComesTo s _ v w = IsCalling s w.own × CallGoesOn v.own.calls w.own.calls

-- a call of this command was made: the list has one more call, which is answered, and the port rests
pub record HasCalled (s : Setup) (command : Command) (v w : ViewState) : Type 0 where
  pub call : Placed
  pub of_command : call.command ≡ command
  pub answered : (answer : Answer) × (call.answer ≡ Some answer)
  pub calls : w.own.calls ≡ record { done = v.own.calls.done ++ call ∷ []; now = None }
  pub rests : stage_in s w.own ≡ Idle

-- a port has made a call of this command
abbrev pub PortHasCalled : PortState → Command → PortState → Type 0
PortHasCalled port command then = HasCalled port.setup command port.view then.view
