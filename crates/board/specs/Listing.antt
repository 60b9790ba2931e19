-- The position of a call, as its port knows it, and the effect of a word step on the list of calls.
use Rattle.std.specs.Prelude.{◌≡◌, ℕ, Bool, true, false, length, fold, Option, Some}
use Rattle.model.specs.{Settles}
use Rattle.laws.specs.{Doing, Closes, is_inside}
use Rattle.history_laws.specs.{stamp_read}
use Rattle.process.specs.{StepOutcome, marks_reported}
use Rattle.process.specs.declared.outcomes.StepOutcome.TheVariants as reported
use Rattle.board.specs.Calls.{Calls, calls_after}
use Rattle.board.specs.Views.{ViewState}

-- this is the position of the command that is taken, if one is; `stamp` is the stamp kept for a memory unit
abbrev pub IsPlace : StepOutcome → (stamp : Option ℕ) → ℕ → Type 0
IsPlace (reported.Took reply changes) stamp place = changes ≡ place
IsPlace (reported.SettlesAndTakes value reply) stamp place = stamp ≡ Some place
IsPlace _ stamp place = Unit {0}

-- the calls after a word step with this outcome, for every position that the taken command may have
abbrev pub GoOnBy : StepOutcome → (stamp : Option ℕ) → Calls → Calls → Type 0
GoOnBy reported stamp calls then = (place : ℕ) → IsPlace reported stamp place → then ≡ fold (calls_after place) calls (marks_reported reported)

-- a memory unit may take the command
abbrev pub may_take : Doing → Bool
may_take (Closes command number (Settles field bit begun (Some reply) inside torn)) = true
may_take _ = false

-- a view has seen as many changes as the greatest stamp that its process has read; if a memory unit may take the command, it is inside, and the kept stamp is the number of changes seen
pub record KnowsPlace (stamp : Option ℕ) (v : ViewState) : Type 0 where
  pub read : (newest : ℕ) → stamp_read v.own.doing ≡ Some newest → length v.seen ≡ newest
  pub inside : may_take v.own.doing ≡ true → is_inside v.own.doing ≡ true
  pub kept : may_take v.own.doing ≡ true → stamp ≡ Some (length v.seen)

-- the calls that a view knows, after a word step with this outcome
pub record Lists (stamp : Option ℕ) (reported : StepOutcome) (v w : ViewState) : Type 0 where
  pub place : ℕ
  pub is : IsPlace reported stamp place
  pub calls : w.own.calls ≡ fold (calls_after place) v.own.calls (marks_reported reported)
  pub known : KnowsPlace stamp w
