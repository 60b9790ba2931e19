-- What the memory of a run reports of an access is whether it ends an overlapped read.
use Rattle.std.proofs.Common.{◌≡◌, Bool, false, List, [], Option, None, Some, IfSome, refl, ap, ◌∙◌}
use Rattle.model.specs.plain_store.{Setup}
use Rattle.model.specs.{Access, Entry, Event, Past, entry_of, moves_of, past_of}
use Rattle.model.specs.declared.events.Event.TheVariants.{Step}
use Rattle.model.specs.safe_bit.{Move}
use Rattle.model.specs.safe_bit.declared.Move.TheVariants.{EndRead}
use Rattle.model.proofs.Width.{IsGood, is_good}
use Rattle.picture.specs.declared.reads.Reads.{Reads as Mode}
use Rattle.picture.specs.declared.reads.Reads.TheVariants.{All, Hidden, Shown}
use Rattle.judge.specs.safe_monitor.{ends_overlapped}
use Rattle.draw.specs.{ReportsEnd, ReportsOver}
use Rattle.scenario_run.specs.world.{ends_overlapped as ends_in_world, ends_overlapped_read}
use Rattle.scenario_run.specs.{Happening, UnmarkedStep, StepsOn, past_after, tried}
use Rattle.scenario_run.proofs.laws.HeldThere.{access_there}

-- the memory and a monitor define it by the same moves
ends_same : (moves : List Move) (how : Move) → ends_in_world moves how ≡ ends_overlapped moves how
ends_same moves (EndRead v) = refl
ends_same moves how = refl

-- the access of each entry of a run is of a bit that exists
reports_over : (s : Setup) → IsGood s → (events : List Event) (event : Event) (e : Entry) → entry_of s (past_of s events) event ≡ Some e → (a : Access) → e.access ≡ Some a → (over : Bool) → over ≡ ends_in_world (moves_of a (past_of s events)) a.how → ReportsOver s (past_of s events) a over
reports_over s good events event e added a is over reported = record {
  there = λ there begun. reported ∙ ends_same (moves_of a (past_of s events)) a.how;
  stray = λ none. absurd (none (access_there s good events event e added a is));
}

by_mode : (mode : Mode) (s : Setup) (past : Past) (access : Option Access) (over : Bool) → IfSome access (λ a. ReportsOver s past a over) → ReportsEnd mode s past access over
by_mode Hidden s past access over reports = tt
by_mode Shown s past access over reports = reports
by_mode All s past access over reports = tt

-- the report of an event with marks
pub made_reports : (mode : Mode) (s : Setup) → IsGood s → (events : List Event) (event : Event) (e : Entry) (over : Bool) → entry_of s (past_of s events) event ≡ Some e → over ≡ ends_overlapped_read (past_of s events) e → ReportsEnd mode s (past_of s events) e.access over
made_reports mode s good events event e over added reported = by_mode mode s (past_of s events) e.access over (by e.access refl)
  where
    by : (access : Option Access) → e.access ≡ access → IfSome access (λ a. ReportsOver s (past_of s events) a over)
    by None is = tt
    by (Some a) is = reports_over s good events event e added a is over (reported ∙ ap (λ (o : Option Access). elim o as (λ _. Bool) [ None ↦ false | Some a ↦ ends_in_world (moves_of a (past_of s events)) a.how ]) is)

-- and the report of a Step without a mark
pub stepped_reports : (mode : Mode) (s : Setup) (before : List Happening) (made : UnmarkedStep) → StepsOn s before made → ReportsEnd mode s (past_after s before) (Some made.access) made.overlapped
stepped_reports mode s before made on =
    by_mode mode s (past_after s before) (Some made.access) made.overlapped
    (reports_over s (is_good s on.good) (tried before) (Step made.process made.flick) (record { process = made.process; access = Some made.access; marks = [] }) on.adds made.access refl made.overlapped on.overlapped)
