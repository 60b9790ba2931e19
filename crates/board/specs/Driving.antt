-- Driving a port: word steps, one after the other.
use Rattle.std.specs.Prelude.{◌≡◌, ℕ, zero, suc, ◌≤◌, true}
use Rattle.plain_store.specs.{Answer, Setup}
use Rattle.process.specs.choices.{FlickState, after_flick, flick_of}
use Rattle.model.specs.declared.stages.Stage.TheVariants.{Down, Idle}
use Rattle.process.specs.declared.outcomes.StepOutcome.TheVariants as reported
use Rattle.board.specs.declared.driving.Driven.{Driven}
use Rattle.board.specs.declared.driving.Driven.TheVariants as driven
use Rattle.board.specs.Ports.{PortState}
use Rattle.board.specs.Views.{ViewState, stage_in}
use Rattle.board.specs.WordSteps.{LeadsTo, WordStep, goes}

-- the flicks after n of them were taken
abbrev pub flicks_after : ℕ → FlickState → FlickState
flicks_after zero flicks = flicks
flicks_after (suc n) flicks = after_flick (flicks_after n flicks)

-- w is the view after n word steps from v, each with its own flick; before each step the process has a next access
abbrev pub Walks : Setup → FlickState → ViewState → ℕ → ViewState → Type 0
Walks s flicks v zero w = w ≡ v
Walks s flicks v (suc n) w = (u : ViewState) × Walks s flicks v n u × (goes s u.own ≡ true) × WordStep s (flick_of (flicks_after n flicks)) u w

-- w is such a view, and the last word step leads to this answer
abbrev pub WalksTo : Setup → FlickState → ViewState → ℕ → Answer → ViewState → Type 0
WalksTo s flicks v zero answer w = ⊥
WalksTo s flicks v (suc n) answer w = (u : ViewState) × Walks s flicks v n u × (goes s u.own ≡ true) × WordStep s (flick_of (flicks_after n flicks)) u w × LeadsTo s (reported.Answers answer) u.own w.own

-- how n word steps, of at most `turns`, end: after all turns the process has a next access; or the last step answered the call; or the process is down; or the process was idle, and no step was made
abbrev pub EndsWith : Setup → FlickState → ViewState → (turns : ℕ) → Driven → ℕ → ViewState → Type 0
EndsWith s flicks v turns driven.Turns n w = (n ≡ turns) × Walks s flicks v n w × (goes s w.own ≡ true)
EndsWith s flicks v turns (driven.Answered answer) n w = (n ≤ turns) × WalksTo s flicks v n answer w
EndsWith s flicks v turns driven.Down n w = (n ≤ turns) × Walks s flicks v n w × (stage_in s w.own ≡ Down)
EndsWith s flicks v turns driven.Idle n w = (n ≡ 0) × (w ≡ v) × (stage_in s v.own ≡ Idle)

-- a port is driven for at most `turns` word steps; each word step takes one flick
pub record Drives (s : Setup) (v : ViewState) (turns : ℕ) (flicks : FlickState) (driven : Driven) (w : ViewState) (flicks_then : FlickState) : Type 0 where
  pub made : ℕ
  pub ends : EndsWith s flicks v turns driven made w
  pub taken : flicks_then ≡ flicks_after made flicks

-- the port is driven, as its view is
abbrev pub DrivesPort : PortState → (turns : ℕ) → FlickState → Driven → PortState → FlickState → Type 0
DrivesPort port turns flicks driven then flicks_then = Drives port.setup port.view turns flicks driven then.view flicks_then
