-- The laws that an entry keeps, decided by the entries before it, and the verdict on a record.
use Rattle.std.specs.Prelude.{◌≡◌, ℕ, ◌<◌, Bool, true, false, List, [], ◌∷◌, ◌++◌, length, map, reverse, Some, Ok, IsTrue}
use Rattle.plain_store.specs.{Setup, checked}
use Rattle.model.specs.{AreGiven, Entry, Event, KeepsMainTheoremThroughout, Mark, OvertakesNobody, Past, Stage, TakesItsPlace, entry_of, has, inside, is_entered, past_of, placed, record_of, stage, stepped}
use Rattle.model.specs.declared.marks.Mark.TheVariants.{Called, Failed, Withdrew, Restarted}
use Rattle.model.specs.declared.stages.Stage.TheVariants.{Idle, Settling, Down}
use Rattle.safe_monitor.specs.{AllAreOfThere, KeepsSafe}
use Rattle.safe_monitor.specs.declared.verdicts.Law.{Law}
use Rattle.safe_monitor.specs.declared.verdicts.Law.TheVariants as law
use Rattle.safe_monitor.specs.declared.verdicts.Verdict.{Verdict}
use Rattle.safe_monitor.specs.declared.verdicts.Verdict.TheVariants.{Good, Bad}

-- The laws.

-- the mark is that of an event other than a step
abbrev pub reports_event : Mark → Bool
reports_event (Called c) = true
reports_event Failed = true
reports_event Withdrew = true
reports_event Restarted = true
reports_event _ = false

-- two entries are equal, except for the positions of commands taken
pub record IsAlike (e other : Entry) : Type 0 where
  pub process : e.process ≡ other.process
  pub access : e.access ≡ other.access
  pub marks : map (placed 0) e.marks ≡ map (placed 0) other.marks

-- for some flick, the present program of the process makes this entry, except for the positions of commands taken
abbrev pub IsMade : Setup → Past → Entry → Type 0
IsMade s past e = (flick : Bool) × (made : Entry) × (stepped s past e.process flick ≡ Some made) × IsAlike e made

-- the entry is that of an event that is not refused
abbrev pub IsOfEvent : Setup → Past → Entry → Type 0
IsOfEvent s past e = (event : Event) × (entry_of s past event ≡ Some e)

-- the entries of a process at a stage: none while it is idle or down, and otherwise those of its program; the law `Unit` decides about those of its memory unit
abbrev pub OwesAt : Stage → Setup → Past → Entry → Type 0
OwesAt Idle s past e = ⊥
OwesAt Down s past e = ⊥
OwesAt Settling s past e = Unit {0}
OwesAt _ s past e = IsMade s past e

-- A process that exists makes what its local program prescribes, and nothing else. The mark of a call, a failure, a withdrawal or a restart is alone in its entry, and that event is not refused.
abbrev pub KeepsProgram : Setup → Past → Entry → Type 0
KeepsProgram s past e = (e.process < s.processes) × elim (has reports_event e) as (λ _. Type 0) [ true ↦ IsOfEvent s past e | false ↦ OwesAt (stage e.process past) s past e ]

-- The memory unit of a process that failed makes what the failure rule prescribes.
abbrev pub KeepsUnit : Setup → Past → Entry → Type 0
KeepsUnit s past e = stage e.process past ≡ Settling → IsMade s past e

-- No process enters while another is inside.
abbrev pub KeepsTogether : Past → Entry → Type 0
KeepsTogether past e = IsTrue (has is_entered e) → (j : ℕ) → IsTrue (inside j past) → j ≡ e.process

-- The verdict.

-- an entry keeps a law, by the entries before it; the last two laws belong to the main theorem
abbrev pub Keeps : Law → Setup → Past → Entry → Type 0
Keeps law.Safe s past e = KeepsSafe s past e
Keeps law.Program s past e = KeepsProgram s past e
Keeps law.Unit s past e = KeepsUnit s past e
Keeps law.Together s past e = KeepsTogether past e
Keeps law.Overtaken s past e = OvertakesNobody past e
Keeps law.History s past e = TakesItsPlace s past e

-- the laws in their order, counted from 0
abbrev pub number_of : Law → ℕ
number_of law.Safe = 0
number_of law.Program = 1
number_of law.Unit = 2
number_of law.Together = 3
number_of law.Overtaken = 4
number_of law.History = 5

-- an entry keeps all laws
abbrev pub KeepsAll : Setup → Past → Entry → Type 0
KeepsAll s past e = (l : Law) → Keeps l s past e

-- a law is the first that an entry breaks
pub record BreaksFirst (l : Law) (s : Setup) (past : Past) (e : Entry) : Type 0 where
  pub broken : Keeps l s past e → ⊥
  pub before : (k : Law) → number_of k < number_of l → Keeps k s past e

-- each entry keeps all laws
abbrev pub AllKeep : Setup → Past → Type 0
AllKeep s [] = Unit {0}
AllKeep s (e ∷ past) = KeepsAll s past e × AllKeep s past

-- entry number k of a record, the entries before it and those after it, each the newest first
pub record IsAt (entries : List Entry) (k : ℕ) (e : Entry) (past : Past) : Type 0 where
  pub later : Past
  pub splits : reverse entries ≡ later ++ e ∷ past
  pub number : length past ≡ k

-- an entry is the lowest that breaks a law, and this is the first that it breaks
pub record IsBadAt (s : Setup) (entries : List Entry) (k : ℕ) (l : Law) : Type 0 where
  pub entry : Entry
  pub past : Past
  pub at : IsAt entries k entry past
  pub before : AllKeep s past
  pub breaks : BreaksFirst l s past entry

-- the verdict on a record
abbrev pub IsVerdict : Setup → List Entry → Verdict Law → Type 0
IsVerdict s entries Good = AllKeep s (reverse entries)
IsVerdict s entries (Bad k l) = IsBadAt s entries k l

-- The consequences of verdicts.

-- the entries are the record of some list of events, whose names, values and counts are what their types allow; therefore the main theorem holds of each entry
pub record IsTrueRecord (s : Setup) (entries : List Entry) : Type 0 where
  pub events : List Event
  pub record_is : record_of s events ≡ entries
  pub given : AreGiven s (reverse events)
  pub main_theorem : KeepsMainTheoremThroughout s (reverse entries)

-- if the entries are the record of some list of events, whose names, values and counts are what their types allow, the verdict is good
abbrev pub IsGoodOfEvents : Setup → List Entry → Verdict Law → Type 0
IsGoodOfEvents s entries v = (events : List Event) → record_of s events ≡ entries → AreGiven s (reverse events) → v ≡ Good

-- A past in which each entry keeps all laws is that of some list of events.
abbrev pub GoodIsOfEvents : Type 0
GoodIsOfEvents = (s : Setup) → checked s ≡ Ok tt → (past : Past) → AllKeep s past → (events : List Event) × (past_of s events ≡ past)

-- In the past of every list of events, each entry keeps all laws.
abbrev pub OfEventsIsGood : Type 0
OfEventsIsGood = (s : Setup) → checked s ≡ Ok tt → (events : List Event) → AreGiven s events → AllKeep s (past_of s events)

-- A record has one verdict.
abbrev pub VerdictsAreUnique : Type 0
VerdictsAreUnique = (s : Setup) (entries : List Entry) (v w : Verdict Law) → IsVerdict s entries v → IsVerdict s entries w → v ≡ w

-- In a past in which each entry keeps all laws, each access is of a bit that exists.
abbrev pub GoodAccessesAreThere : Type 0
GoodAccessesAreThere = (s : Setup) → checked s ≡ Ok tt → (past : Past) → AllKeep s past → AllAreOfThere s past
