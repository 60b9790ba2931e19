-- The end of a race: the calls of each plan, answered, and the image of the store after one list of changes.
use Rattle.std.specs.Prelude.{◌≡◌, ◌≤◌, ℕ, [], vec_capacity, List, length, map, slice_get, Some}
use Rattle.std.specs.Global.{Vec}
use Rattle.plain_store.specs.{Answer, Command, Contents, Setup}
use Rattle.model.specs.{AreGiven, Event, KeepsMainTheoremThroughout, Placed, Taken, past_of, store_after}
use Rattle.model.specs.declared.stages.Stage.TheVariants.{Idle}
use Rattle.board.specs.{BoardState, Closing, EachIsInRecord, IsOf, PortState, FitsChanges, changes_of, lists_in, new_own, stage_in}
use Rattle.race.specs.declared.racing.PlanPromise.{PlanPromise}

-- the plans: list p is that of process p
abbrev pub plans_of : List (Vec Command) → List (List Command)
plans_of vecs = map (λ (v : Vec Command). v.items) vecs

-- these calls are those of a plan: its commands, in order, each with an answer
pub record AreMade (plan : List Command) (calls : List Placed) : Type 0 where
  pub commands : map (λ (call : Placed). call.command) calls ≡ plan
  pub answered : (k : ℕ) (call : Placed) → slice_get calls k ≡ Some call → (answer : Answer) × (call.answer ≡ Some answer)

-- a list of changes: that of the record of some events, which keeps the main theorem
pub record AreChanges (s : Setup) (list : List Taken) : Type 0 where
  pub events : List Event
  pub given : AreGiven s events
  pub main_theorem : KeepsMainTheoremThroughout s (past_of s events)
  pub are : list ≡ changes_of s (past_of s events)

-- The end of a race. Each plan's calls were made and answered. The calls of each process by itself appear in the changes of the record of some events. The image is that of the store after one such list of changes, whose record keeps the main theorem, and in which the calls of process 0 appear.
pub record IsRaced (s : Setup) (plans : List (List Command)) (answers : List (List Placed)) (image : Contents) : Type 0 where
  pub all : length answers ≡ s.processes
  pub made : (p : ℕ) (calls : List Placed) → slice_get answers p ≡ Some calls → (plan : List Command) × (slice_get plans p ≡ Some plan) × AreMade plan calls
  pub fits : EachIsInRecord s answers
  pub end : (calls : List Placed) → slice_get answers 0 ≡ Some calls → (list : List Taken) × AreChanges s list × FitsChanges s 0 calls list × (image ≡ store_after s list)

-- a closing is the end of a race of these plans
abbrev pub IsRacedBy : Setup → List (Vec Command) → Closing → Type 0
IsRacedBy s plans closing = IsRaced s (plans_of plans) (lists_in closing) closing.image

-- the port of process p has made the calls of its plan, and rests
pub record HasMade (board : BoardState) (p : ℕ) (plan : List Command) (port : PortState) : Type 0 where
  pub of_board : IsOf board port
  pub process : port.view.own.process ≡ p
  pub rests : stage_in port.setup port.view.own ≡ Idle
  pub calls : AreMade plan port.view.own.calls.done

-- each port has made the calls of its plan
abbrev pub AllHaveMade : BoardState → List (List Command) → List PortState → Type 0
AllHaveMade board plans ports = (length ports ≡ length plans) × ((p : ℕ) (port : PortState) → slice_get ports p ≡ Some port → (plan : List Command) × (slice_get plans p ≡ Some plan) × HasMade board p plan port)

-- each port has made the calls of its plan, with plans in vectors
abbrev pub AllMadeFor : BoardState → List (Vec Command) → List PortState → Type 0
AllMadeFor board plans ports = AllHaveMade board (plans_of plans) ports

-- these are ports of the board, of the processes in order, which have done nothing
abbrev pub AreNew : BoardState → List PortState → Type 0
AreNew board ports = (p : ℕ) (port : PortState) → slice_get ports p ≡ Some port → IsOf board port × (port.view.own ≡ new_own p)

-- thread p is for its plan, on the board
pub record IsFor (board : BoardState) (plans : List (List Command)) (p : ℕ) (its_board : BoardState) (its_number : ℕ) (its_plan : List Command) : Type 0 where
  pub on_board : its_board ≡ board
  pub for_process : its_number ≡ p
  pub makes_plan : slice_get plans p ≡ Some its_plan

-- the thread with this promise is for its plan, on the board
abbrev pub MakesFor : BoardState → List (Vec Command) → ℕ → PlanPromise → Type 0
MakesFor board plans p making = IsFor board (plans_of plans) p making.board.value making.number making.plan.value.items

-- the port of the thread with this promise has made the calls of its plan
abbrev pub HasKept : PlanPromise → PortState → Type 0
HasKept making port = HasMade making.board.value making.number making.plan.value.items port

-- P holds of each member of a list, with its index
abbrev pub EachAt : {A : Type 0} → List A → (ℕ → A → Type 0) → Type 0
EachAt {A} xs P = (k : ℕ) (x : A) → slice_get xs k ≡ Some x → P k x

-- P holds of each two members of two lists that have the same index
abbrev pub EachPair : {A B : Type 0} → List A → List B → (A → B → Type 0) → Type 0
EachPair {A} {B} xs ys P = (k : ℕ) (x : A) (y : B) → slice_get xs k ≡ Some x → slice_get ys k ≡ Some y → P x y

-- P holds of some member of a list
abbrev pub SomeAt : {A : Type 0} → List A → (A → Type 0) → Type 0
SomeAt {A} xs P = (k : ℕ) × (x : A) × (slice_get xs k ≡ Some x) × P x

-- a list has no members, and has room for n
abbrev pub HasRoom : {A : Type 0} → Vec A → ℕ → Type 0
HasRoom v n = (v.items ≡ []) × (n ≤ vec_capacity v)
