-- A word step of a port: the next access of its process, or of that process's memory unit; a read is begun and ended in one step.
use Rattle.std.specs.Prelude.{◌≡◌, ◌⊎◌, ℕ, Bool, true, false, List, [], length, None, Some, fold}
use Rattle.model.specs.safe_bit.declared.Move.TheVariants.{BeginRead, BeginWrite, EndRead, EndWrite}
use Rattle.model.specs.safe_bit.{Move}
use Rattle.model.specs.{Access, Taken, is_at_work, reply_taken, stage_after}
use Rattle.model.specs.reader_copies.{IsWrite}
use Rattle.plain_store.specs.{Setup}
use Rattle.model.specs.declared.marks.Mark.TheVariants.{Answered, Down}
use Rattle.model.specs.declared.stages.Stage.TheVariants as stage
use Rattle.laws.specs.{IsCallOf, IsLive, IsReached, being_written, is_inside, marks_with, next_of}
use Rattle.history_laws.specs.{stamp_read}
use Rattle.process.specs.{StepOutcome}
use Rattle.process.specs.declared.outcomes.StepOutcome.TheVariants as reported
use Rattle.board.specs.Calls.{IsPrefix, calls_after}
use Rattle.board.specs.Lists.{AreInSeen}
use Rattle.board.specs.Views.{OwnView, ViewState, stage_in, with_step}
use Rattle.board.specs.Words.{loaded}

-- the process makes its next access, with this value, by a port that has seen these changes. The marks lead to its stage. If its call has read the stamps, a command that it takes has the stamp read as its position. A command taken while the process, or its memory unit, is inside has the number of changes seen
pub record Makes (s : Setup) (seen : List Taken) (flick value : Bool) (o then : OwnView) : Type 0 where
  pub place : ℕ
  pub is : then ≡ with_step s o flick value place
  pub counted : (stamp : ℕ) → stamp_read o.doing ≡ Some stamp → place ≡ stamp
  pub inside : is_inside o.doing ≡ true → place ≡ length seen
  pub stage : stage_in s then ≡ fold stage_after (stage_in s o) (marks_with s o.process o.doing flick value)

-- the view of a process that can be reached by its accesses, in the kept call, which has not come to its end
pub record IsWhere (s : Setup) (o : OwnView) : Type 0 where
  pub reached : IsReached s o.process o.doing
  pub call : IsCallOf o.command o.number o.doing
  pub live : IsLive o.doing

-- a view v becomes w by a word step, which may change only the view of its process and the changes seen. The process is at a state that its accesses reach. The changes seen begin with those of v; once the stamps are read, their number is the stamp read. The calls are consistent with them
pub record GoesOn (s : Setup) (v w : ViewState) : Type 0 where
  pub same : w ≡ record v { own = w.own; seen = w.seen }
  pub at : IsWhere s w.own
  pub seen : IsPrefix v.seen w.seen
  pub stamped : (stamp : ℕ) → stamp_read w.own.doing ≡ Some stamp → length w.seen ≡ stamp
  pub fits : AreInSeen s w

-- a load that found this word: the begin and the end of a read, which returns the loaded value
pub record Loads (s : Setup) (flick : Bool) (v : ViewState) (word : ℕ) (w : ViewState) : Type 0 where
  pub access : Access
  pub next : next_of s v.own.process v.own.doing flick ≡ Some access
  pub reads : access.how ≡ BeginRead
  pub begun : OwnView
  pub begins : Makes s v.seen flick false v.own begun
  pub at : IsWhere s begun
  pub ends : Makes s v.seen flick (loaded flick word) begun w.own
  pub goes : GoesOn s v w

-- a store: one access of a write. While the process, or its memory unit, is inside, a store that takes no command adds no change to those seen
pub record Stores (s : Setup) (flick : Bool) (v w : ViewState) : Type 0 where
  pub access : Access
  pub next : next_of s v.own.process v.own.doing flick ≡ Some access
  pub writes : IsWrite access.how
  pub makes : Makes s v.seen flick false v.own w.own
  pub goes : GoesOn s v w
  pub stays : is_inside v.own.doing ≡ true → reply_taken (marks_with s v.own.process v.own.doing flick false) ≡ None → w.seen ≡ v.seen

-- a word step
abbrev pub WordStep : Setup → Bool → ViewState → ViewState → Type 0
WordStep s flick v w = ((word : ℕ) × Loads s flick v word w) ⊎ Stores s flick v w

-- the process, or its memory unit, has a next access
abbrev pub goes : Setup → OwnView → Bool
goes s o = is_at_work (stage_in s o)

-- the outcome of a word step: the call is answered, or the process is down, or there is a next access
abbrev pub LeadsTo : Setup → StepOutcome → OwnView → OwnView → Type 0
LeadsTo s (reported.Answers answer) o then = (stage_in s then ≡ stage.Idle) × (then.calls ≡ calls_after 0 o.calls (Answered answer))
LeadsTo s reported.Lies o then = (stage_in s then ≡ stage.Down) × (then.calls ≡ calls_after 0 o.calls Down)
LeadsTo s _ o then = goes s then ≡ true

-- no read is open, and an open write is of this value
abbrev pub IsBetween : Setup → Bool → OwnView → Type 0
IsBetween s value o = (flick : Bool) (a : Access) → next_of s o.process o.doing flick ≡ Some a → (a.how ≡ EndWrite → value ≡ being_written s o.process o.doing) × ((v : Bool) → a.how ≡ EndRead v → ⊥)

-- the smallest setup, used where a word step names none
abbrev pub any_setup : Setup
any_setup = record { version = 1; processes = 1; ticket_bits = 1; stamp_bits = 1; slots = 1; opening = [] }

-- the value that a write writes after this access of it, if it was `value` before: a begin sets it
abbrev pub value_after : Move → Bool → Bool
value_after (BeginWrite new) value = new
value_after _ value = value
