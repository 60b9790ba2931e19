-- A good verdict implies the main theorem.
use Rattle.std.proofs.Common.{[], ◌∷◌, ◌++◌, reverse, subst}
use Rattle.plain_store.specs.{Setup}
use Rattle.model.specs.{Past}
use Rattle.any_lock.specs.{GoodSaysTheMainTheorem, KeepsMainTheoremThroughout}
use Rattle.any_lock.proofs.Alone.{AllKeep, all_alone, all_keep, overtakes_nobody, takes_its_place}
use Rattle.any_lock.proofs.Cuts.{answers_no_cut_call}
use Rattle.any_lock.proofs.RepliesInHistory.{reply_in_history}
use Rattle.any_lock.proofs.Once.{calls_take_once}
use Rattle.any_lock.proofs.Order.{places_keep_order}
use Rattle.any_lock.proofs.Took.{answers_what_it_took}

-- the entries before one of those that keep all laws
before : (s : Setup) (later rest : Past) → AllKeep s (later ++ rest) → AllKeep s rest
before s [] rest all = all
before s (x ∷ later) rest all = before s later rest all.1

pub throughout : (s : Setup) (past : Past) → AllKeep s past → KeepsMainTheoremThroughout s past
throughout s past all later earlier e split =
    let kept : AllKeep s (e ∷ earlier) = before s later (e ∷ earlier) (subst (AllKeep s) split all) in
    record {
      alone = all_alone s (e ∷ earlier) kept;
      overtakes = overtakes_nobody s earlier e kept.1 kept.0;
      place = takes_its_place s earlier e kept.0;
      in_history = reply_in_history s earlier e kept.1 kept.0;
      answers = answers_what_it_took s earlier e kept.1 kept.0;
      once = calls_take_once s (e ∷ earlier) kept;
      cut = answers_no_cut_call s earlier e kept.1 kept.0;
      order = places_keep_order s (e ∷ earlier) kept;
    }

pub good_says : GoodSaysTheMainTheorem
good_says s entries good = throughout s (reverse entries) (all_keep s (reverse entries) good)
