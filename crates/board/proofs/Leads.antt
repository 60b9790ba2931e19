-- The outcome of a word step, by the stage and by the calls.
use Rattle.std.proofs.Common.{◌≡◌, ℕ, Bool, true, Some, arith}
use Rattle.std.specs.Prelude.{fold}
use Rattle.model.specs.safe_bit.declared.Move.TheVariants.{BeginRead}
use Rattle.model.specs.{Access, stage_after}
use Rattle.plain_store.specs.{Setup}
use Rattle.laws.specs.{Doing, marks_with, next_of}
use Rattle.process.specs.{StepOutcome, marks_reported}
use Rattle.board.specs.Calls.{Calls, calls_after}
use Rattle.board.specs.{LeadsTo, OwnView, goes, stage_in}

-- the outcome of a word step, in which the calls are those after its marks
pub leads : (s : Setup) (reported : StepOutcome) (o middle after : OwnView) (place : ℕ) → goes s middle ≡ true → stage_in s after ≡ fold stage_after (stage_in s middle) (marks_reported reported) → middle.calls ≡ o.calls → after.calls ≡ fold (calls_after place) middle.calls (marks_reported reported) →
    LeadsTo s reported o after
leads s reported o middle after place h k g e = grind arith

-- The begin of a read leaves the calls unchanged.

pub begin_calls : (s : Setup) (p : ℕ) (d : Doing) (flick value : Bool) (n : Access) (place : ℕ) (t : Calls) → next_of s p d flick ≡ Some n → n.how ≡ BeginRead → fold (calls_after place) t (marks_with s p d flick value) ≡ t
begin_calls s p d flick value n place t h k = grind arith
