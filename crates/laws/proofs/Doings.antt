-- The state of a process: whether it is inside, its stage, and its change by one accepted event.
use Rattle.std.specs.Prelude.{◌≡◌, ℕ, Bool, false, cond, List, None, Some}
use Rattle.model.specs.reader_copies.Runs as copies
use Rattle.model.specs.{Access, Call, Closing, Entry, Next, Past, Place, Raises, Run, Settles, Stage, Wait, Waits, Withdraws, access_at, closing_after, closing_next, closing_stage, enter, freeing, is_commit, is_fresh, is_over, is_read, is_unwritten, place_after, stage_at, value_of, valued, withdrawing, written_at}
use Rattle.model.specs.declared.access.Field.TheVariants.{Ticket}
use Rattle.model.specs.safe_number.{NumberWrite}
use Rattle.plain_store.specs.{Command, Reply, Setup}
use Rattle.model.specs.declared.stages.Stage.TheVariants as stage
use Rattle.laws.specs.{Doing, Rests, Lies, Runs, Closes, call, runs, closes, is_inside_at}

-- the stage of p
abbrev pub stage_of : Doing → Stage
stage_of Rests = stage.Idle
stage_of Lies = stage.Down
stage_of (Runs command number at) = stage_at at
stage_of (Closes command number at) = closing_stage at

-- the first closing of the memory unit of p where p fails: with the bit that is unfinished, or with the ticket
pub data IsCut (s : Setup) (p : ℕ) (c : Call) (cl : Closing) : Doing → Type 0 where
  at_rest : cl ≡ freeing c false → IsCut s p c cl Rests
  between : (command : Command) (number : ℕ) (at : Place) → cl ≡ freeing c (is_inside_at at.part (is_fresh at.run)) → IsCut s p c cl (Runs command number at)
  within : (command : Command) (number : ℕ) (at : Place) (bit : ℕ) (begun : Bool) (taken : Reply) (t : copies.Settling) →
      cl ≡ Settles (written_at (call s p command number) at.part).0 bit begun (cond (is_commit (written_at (call s p command number) at.part).0) (Some taken) None) (is_inside_at at.part (is_fresh at.run)) t →
      is_read at.part ≡ false → is_fresh at.run ≡ false → IsCut s p c cl (Runs command number at)
  leaving : (command : Command) (number : ℕ) (w : NumberWrite) → cl ≡ freeing c false → IsCut s p c cl (Closes command number (Withdraws w))
  clearing : (command : Command) (number : ℕ) (w : NumberWrite) (bit : ℕ) (begun : Bool) (t : copies.Settling) →
      cl ≡ Settles Ticket bit begun None false t → is_unwritten w ≡ false → IsCut s p c cl (Closes command number (Withdraws w))

-- one accepted event for its process p, which had state d and then has d'; e is its entry
pub data Step (s : Setup) (past : Past) (p : ℕ) (e : Entry) (d d' : Doing) : Type 0 where
  calls : (command : Command) (number : ℕ) → d ≡ Rests → e.access ≡ None → d' ≡ Runs command number (enter (call s p command number) Raises) → Step s past p e d d'
  withdraws : (command : Command) (number t : ℕ) (w : Wait) (ws : List Wait) (run : Run) → d ≡ Runs command number (record { part = Waits t w ws; run = run }) → e.access ≡ None →
      d' ≡ Closes command number (withdrawing (call s p command number)) → Step s past p e d d'
  fails : (command : Command) (number : ℕ) (cl : Closing) → IsCut s p (call s p command number) cl d → e.access ≡ None → d' ≡ Closes command number cl → Step s past p e d d'
  restarts : d ≡ Lies → e.access ≡ None → d' ≡ Rests → Step s past p e d d'
  steps : (command : Command) (number : ℕ) (at : Place) (a : Access) (flick : Bool) → d ≡ Runs command number at → is_over at.part ≡ false → e.access ≡ Some a →
      a ≡ valued s past flick (access_at (call s p command number) at.part at.run) → d' ≡ runs command number (place_after (call s p command number) at (value_of a.how)) → Step s past p e d d'
  closes_on : (command : Command) (number : ℕ) (at : Closing) (flick : Bool) (n : Next) → d ≡ Closes command number at → closing_next (call s p command number) at flick ≡ Some n →
      e.access ≡ Some (valued s past flick n.access) → d' ≡ closes command number (closing_after (call s p command number) at flick) → Step s past p e d d'
