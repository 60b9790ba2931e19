-- Observers of a run: the reports that they receive, and what they have observed once a line has made its turns.
use Rattle.std.specs.Prelude.{◌≡◌, ◌⊎◌, ◌+◌, ◌<◌, ◌≤◌, ℕ, zero, suc, Bool, if◌then◌else◌, List, [], ◌∷◌, Option, None, Some, Ok}
use Rattle.plain_store.specs.{Setup, checked}
use Rattle.model.specs.{Access, AreGiven, Event, Past, entry_of, moves_of, past_of}
use Rattle.model.specs.declared.events.Event.TheVariants.{Step}
use Rattle.scenario.specs.{Line}
use Rattle.scenario.specs.files.{Fault}
use Rattle.world.specs.laws.{doing}
use Rattle.world.specs.process.{remaining_at, number_read, process_after}
use Rattle.world.specs.choices.{FlickState}
use Rattle.world.specs.{GoesOn, remaining_in}
use Rattle.world.specs.Shows.{Shows, WorldState, world_of}
use Rattle.world.specs.Walks.{StepsQuietly, ends_overlapped, ends_overlapped_read}
use Rattle.auditor.specs.{steps_on}
use Rattle.scenario_run.specs.ScenarioRuns.{ScenarioRunState, Follows, IsQuiet, QuietTurns}
use Rattle.scenario_run.specs.Happenings.{Happening, Tries, past_after, tried}
use Rattle.scenario_run.specs.Runs.{Run, past_in, run_after, runs}
use Rattle.scenario_run.specs.Steppers.{IsAlone}
use Rattle.scenario_run.specs.Reporting.{IsMarked, Reports, ReportsOf}
use Rattle.scenario_run.specs.Turns.{rest_of, turn_of}
use Rattle.scenario_run.specs.declared.reports.UnmarkedStep.{UnmarkedStep}
use Rattle.scenario_run.specs.declared.reports.TurnReport.{TurnReport}

-- this happens in a run of the setup, and `reported` reports it
pub record Happens (s : Setup) (before : List Happening) (this : Happening) (reported : TurnReport) : Type 0 where
  pub good : checked s ≡ Ok tt
  pub given : AreGiven s (tried (this ∷ before))
  pub reports : ReportsOf s (past_after s before) this reported
  pub marked : IsMarked reported

-- a Step without a mark is made; `number` gives how much of a number was read before it, and is absent only within a register access
pub record StepsOn (s : Setup) (before : List Happening) (made : UnmarkedStep) : Type 0 where
  pub good : checked s ≡ Ok tt
  pub given : AreGiven s (Step made.process made.flick ∷ tried before)
  pub adds : entry_of s (past_after s before) (Step made.process made.flick) ≡ Some (record { process = made.process; access = Some made.access; marks = [] })
  pub number : (n : ℕ) → made.number ≡ Some n → n ≡ number_read (doing s made.process (past_after s before))
  pub within : made.number ≡ None → 0 < remaining_at (process_after s (past_after s before) made.process)
  pub overlapped : made.overlapped ≡ ends_overlapped (moves_of made.access (past_after s before)) made.access.how

-- n events without a mark are made
abbrev pub PassQuietly : Setup → ℕ → List Happening → List Happening → Type 0
PassQuietly s zero before after = after ≡ before
PassQuietly s (suc n) before after = (this : Happening) × IsQuiet s (past_after s before) (Some this) × PassQuietly s n (this ∷ before) after

-- a Step of p by this flick is made within a register access, and has no mark
pub record StepsWithin (s : Setup) (before : List Happening) (p : ℕ) (flick : Bool) : Type 0 where
  pub good : checked s ≡ Ok tt
  pub quiet : IsQuiet s (past_after s before) (Some (Tries (Step p flick)))
  pub within : 0 < remaining_at (process_after s (past_after s before) p)

-- n such Steps are made
abbrev pub PassWithin : Setup → ℕ → ℕ → List Happening → List Happening → Type 0
PassWithin s p zero before after = after ≡ before
PassWithin s p (suc n) before after = (flick : Bool) × StepsWithin s before p flick × PassWithin s p n (Tries (Step p flick) ∷ before) after

-- the newest entry is one of p, with this access and without a mark
abbrev pub IsNewest : Setup → ℕ → Access → List Happening → Type 0
IsNewest s p access happened = (past : Past) × (past_after s happened ≡ record { process = p; access = Some access; marks = [] } ∷ past)

-- how many of the newest n entries end a read that a write overlapped
abbrev pub overlapped_in : ℕ → Past → ℕ
overlapped_in zero past = 0
overlapped_in (suc n) [] = 0
overlapped_in (suc n) (e ∷ past) = overlapped_in n past + (if ends_overlapped_read past e then 1 else 0)

-- `steps` such Steps are made, each by the next flick of f; the newest makes the access `newest`, and `overlapped` of them end a read that a write overlapped
pub record PassBy (s : Setup) (p : ℕ) (f : FlickState) (steps : ℕ) (newest : Access) (overlapped : ℕ) (before after : List Happening) : Type 0 where
  pub given : AreGiven s (tried after)
  pub remaining : steps ≤ remaining_in (world_of s (past_after s before)).seats p
  pub tried_are : tried after ≡ steps_on p f steps (tried before)
  pub within : PassWithin s p steps before after
  pub newest_is : IsNewest s p newest after
  pub overlapped_are : overlapped ≡ overlapped_in steps (past_after s after)

-- the room that an observer needs for a report and for the turns left after it
abbrev pub room_wanted : Option TurnReport → ℕ → ℕ
room_wanted None remaining = remaining
room_wanted (Some reported) remaining = remaining + 1

-- the observer observes what a turn reports
abbrev pub ObservesReported : {L : Type 0} → (L → Setup → List Happening → List Happening → L → Type 0) → TurnReport → L → L → Type 0
ObservesReported Observes reported was is = (s : Setup) (before : List Happening) (this : Happening) → Happens s before this reported → Observes was s before (this ∷ before) is

-- the observer observes a Step without a mark
abbrev pub ObservesUnmarked : {L : Type 0} → (L → Setup → List Happening → List Happening → L → Type 0) → UnmarkedStep → L → L → Type 0
ObservesUnmarked Observes made was is = (s : Setup) (before : List Happening) → StepsOn s before made → Observes was s before (Tries (Step made.process made.flick) ∷ before) is

-- the observer observes `steps` Steps of p within a register access: their flicks, the newest access, and how many end a read that a write overlapped
abbrev pub ObservesPassing : {L : Type 0} → (L → Setup → List Happening → List Happening → L → Type 0) → ℕ → FlickState → ℕ → Access → ℕ → L → L → Type 0
ObservesPassing Observes p f steps newest overlapped was is = (s : Setup) (before after : List Happening) → PassBy s p f steps newest overlapped before after → Observes was s before after is

-- an observer that stops by this fault has observed a prefix of what it would have observed
abbrev pub StopsBy : {L : Type 0} → (L → Setup → List Happening → List Happening → Fault → L → Type 0) → Fault → L → Setup → List Happening → List Happening → L → Type 0
StopsBy Stops fault was s before after is = Stops was s before after fault is

-- room for `things` things was used
abbrev pub TakesRoom : {L : Type 0} → (L → ℕ → Type 0) → L → ℕ → L → Type 0
TakesRoom HasRoom was things is = (more : ℕ) → HasRoom was (more + things) → HasRoom is more

-- room for `turns` turns before leaves room for the report and for the turns that are left
abbrev pub LeavesRoom : {L : Type 0} → (L → ℕ → Type 0) → L → ℕ → L → ℕ → Option TurnReport → Type 0
LeavesRoom HasRoom was turns is remaining reported = (more : ℕ) → HasRoom was (more + turns) → HasRoom is (more + room_wanted reported remaining)

-- a statement holds of each run that the scenario run shows
abbrev pub InItsRun : ScenarioRunState → (Run → Type 0) → Type 0
InItsRun scenario_run Holds = (run : Run) → Follows scenario_run run → Holds run

-- a run continues to another, and the observer has observed what happened between them
pub record Plays {L : Type 0} (Observes : L → Setup → List Happening → List Happening → L → Type 0) (s : Setup) (before after : Run) (scenario_run : ScenarioRunState) (was is : L) : Type 0 where
  pub follows : Follows scenario_run after
  pub setup : scenario_run.world.setup ≡ s
  pub observes : Observes was s before.happened after.happened is

-- a Step without a mark is made, and the observer observes it
pub record ObservesStep {L : Type 0} (Observes : L → Setup → List Happening → List Happening → L → Type 0) (old : WorldState) (p : ℕ) (flick : Bool) (new : WorldState) (was is : L) : Type 0 where
  pub step : StepsQuietly old p flick new
  pub observes : (before : List Happening) → Shows old (tried before) → Observes was old.setup before (Tries (Step p flick) ∷ before) is

-- a Step is made or refused, and reported
pub record ReportsStep (old : WorldState) (p : ℕ) (flick : Bool) (answer : TurnReport) (new : WorldState) : Type 0 where
  pub reports : (events : List Event) → Shows old events → ReportsOf old.setup (past_of old.setup events) (Tries (Step p flick)) answer
  pub marked : IsMarked answer
  pub shows : GoesOn old (Step p flick) new
  pub setup : new.setup ≡ old.setup

-- a Step is made and observed, or it is reported and the observer is unchanged
abbrev pub MakesStep : {L : Type 0} (Observes : L → Setup → List Happening → List Happening → L → Type 0) → WorldState → ℕ → Bool → Option TurnReport → WorldState → L → L → Type 0
MakesStep Observes old p flick None new was is = ObservesStep Observes old p flick new was is
MakesStep Observes old p flick (Some answer) new was is = ReportsStep old p flick answer new × (is ≡ was)

-- from `had` turns left on, turns of the line without a mark were made and observed; `Next` holds of the line and the run now
pub record ComesOn {L : Type 0} (Observes : L → Setup → List Happening → List Happening → L → Type 0) (s : Setup) (line : Line) (had : ℕ) (run : Run) (was is : L) (scenario_run : ScenarioRunState) (Next : Setup → Line → Run → Type 0) : Type 0 where
  pub quiet : ℕ
  pub now : Run
  pub turns : QuietTurns s line quiet had run scenario_run.remaining now
  pub observes : Observes was s run.happened now.happened is
  pub follows : Follows scenario_run now
  pub setup : scenario_run.world.setup ≡ s
  pub next : Next s line now

-- from `had` turns left on, turns of the line without a mark were made and observed; with `before` left, the turn of this report was made, not yet observed
pub record ComesTo {L : Type 0} (Observes : L → Setup → List Happening → List Happening → L → Type 0) (s : Setup) (line : Line) (had : ℕ) (run : Run) (was is : L) (before : ℕ) (answer : Option TurnReport) (scenario_run : ScenarioRunState) : Type 0 where
  pub quiet : ℕ
  pub now : Run
  pub turns : QuietTurns s line quiet had run before now
  pub observes : Observes was s run.happened now.happened is
  pub reports : Reports s (past_in s now) (turn_of s line before now).this answer
  pub follows : Follows scenario_run (turn_of s line before now).run
  pub remaining_is : scenario_run.remaining ≡ (turn_of s line before now).remaining
  pub setup : scenario_run.world.setup ≡ s

-- a process has made its Steps up to one that is reported, or all Steps that it makes while more than `floor` turns are left
abbrev pub RunsTo : {L : Type 0} (Observes : L → Setup → List Happening → List Happening → L → Type 0) → Setup → Line → ℕ → Run → L → L → ℕ → ℕ → ℕ → Option TurnReport → ScenarioRunState → Type 0
RunsTo Observes s line had run was is p floor before (Some answer) scenario_run = (floor < before) × ComesTo Observes s line had run was is before (Some answer) scenario_run
RunsTo Observes s line had run was is p floor before None scenario_run = ComesOn Observes s line had run was is scenario_run (IsAlone p floor)

-- from `had` turns left down to the floor, turns of the line were made without a mark, and observed
pub record ComesDown {L : Type 0} (Observes : L → Setup → List Happening → List Happening → L → Type 0) (s : Setup) (line : Line) (had : ℕ) (run : Run) (was is : L) (floor before : ℕ) (scenario_run : ScenarioRunState) : Type 0 where
  pub quiet : ℕ
  pub now : Run
  pub turns : QuietTurns s line quiet had run floor now
  pub observes : Observes was s run.happened now.happened is
  pub follows : Follows scenario_run now
  pub remaining_is : scenario_run.remaining ≡ floor
  pub before_is : before ≡ floor
  pub setup : scenario_run.world.setup ≡ s

-- the turns of a line are made up to one that is reported, or otherwise down to the floor or to the end of the line
abbrev pub ComesAlong : {L : Type 0} (Observes : L → Setup → List Happening → List Happening → L → Type 0) → Setup → Line → ℕ → Run → L → L → ℕ → ℕ → Option TurnReport → ScenarioRunState → Type 0
ComesAlong Observes s line had run was is floor before (Some answer) scenario_run = (floor < before) × ComesTo Observes s line had run was is before (Some answer) scenario_run
ComesAlong Observes s line had run was is floor before None scenario_run = ComesDown Observes s line had run was is floor before scenario_run ⊎ ((floor < before) × ComesTo Observes s line had run was is before None scenario_run)

-- the turns are made so in each run that the scenario run shows
abbrev pub Comes : {L : Type 0} → (L → Setup → List Happening → List Happening → L → Type 0) → ScenarioRunState → Line → ℕ → ℕ → ScenarioRunState → L → L → Option TurnReport → Type 0
Comes Observes old line floor before new was is reported = InItsRun old (λ run. ComesAlong Observes old.world.setup line old.remaining run was is floor before reported new)

-- an observer stops during the turns that a line has left, or during all turns of the line
abbrev pub StopsAmid : {L : Type 0} → (L → Setup → List Happening → List Happening → Fault → L → Type 0) → ScenarioRunState → Line → L → L → Fault → Type 0
StopsAmid Stops old line was is fault = InItsRun old (λ run. Stops was old.world.setup run.happened (rest_of old.world.setup line old.remaining run).happened fault is)

abbrev pub StopsLine : {L : Type 0} → (L → Setup → List Happening → List Happening → Fault → L → Type 0) → ScenarioRunState → Line → L → L → Fault → Type 0
StopsLine Stops old line was is fault = InItsRun old (λ run. Stops was old.world.setup run.happened (run_after old.world.setup line run).happened fault is)

-- one process makes the Steps of a line, in each run that the scenario run shows, or the observer stops at a Step without a mark
abbrev pub RunsAlone : {L : Type 0} → (L → Setup → List Happening → List Happening → L → Type 0) → ScenarioRunState → ℕ → ℕ → ℕ → ScenarioRunState → L → L → Option TurnReport → Type 0
RunsAlone Observes old p floor before new was is reported = (line : Line) → InItsRun old (λ run. IsAlone p floor old.world.setup line run → RunsTo Observes old.world.setup line old.remaining run was is p floor before reported new)

abbrev pub StopsAlone : {L : Type 0} → (L → Setup → List Happening → List Happening → Fault → L → Type 0) → ScenarioRunState → ℕ → ℕ → ScenarioRunState → L → L → Fault → Type 0
StopsAlone Stops old p floor new was is fault = (line : Line) → InItsRun old (λ run. IsAlone p floor old.world.setup line run → ComesOn (StopsBy Stops fault) old.world.setup line old.remaining run was is new (IsAlone p floor))

-- one process makes Steps of a line without a mark, and the observer observes them
abbrev pub PassesAlone : {L : Type 0} → (L → Setup → List Happening → List Happening → L → Type 0) → ScenarioRunState → ℕ → ℕ → ScenarioRunState → L → L → Type 0
PassesAlone Observes old p floor new was is = (line : Line) → InItsRun old (λ run. IsAlone p floor old.world.setup line run → ComesOn Observes old.world.setup line old.remaining run was is new (IsAlone p floor))

-- all turns of a line are made, in each run that the scenario run shows
abbrev pub PlaysLine : {L : Type 0} → (L → Setup → List Happening → List Happening → L → Type 0) → ScenarioRunState → Line → ScenarioRunState → L → L → Type 0
PlaysLine Observes old line new was is = InItsRun old (λ run. Plays Observes old.world.setup run (run_after old.world.setup line run) new was is)

-- all turns of these lines are made, one line after the other
abbrev pub PlaysLines : {L : Type 0} → (L → Setup → List Happening → List Happening → L → Type 0) → ScenarioRunState → List Line → ScenarioRunState → L → L → Type 0
PlaysLines Observes old lines new was is = InItsRun old (λ run. Plays Observes old.world.setup run (runs old.world.setup lines run) new was is)

-- an observer stops during these lines
abbrev pub StopsLines : {L : Type 0} → (L → Setup → List Happening → List Happening → Fault → L → Type 0) → ScenarioRunState → List Line → L → L → Fault → Type 0
StopsLines Stops old lines was is fault = InItsRun old (λ run. Stops was old.world.setup run.happened (runs old.world.setup lines run).happened fault is)
