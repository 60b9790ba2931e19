-- Stamps are full after all changes.
use Rattle.history_laws.proofs.DataMainTheorem as main_theorem
use Rattle.history_laws.proofs.DataMore.{changes_fit}
use Rattle.history_laws.proofs.data.stamps_are_full_after_all_changes.Goals as goal

pub returns : goal.returns
returns x = record { answered = main_theorem.full; fit = changes_fit }
