-- Versions are read whole.
use Rattle.history_laws.proofs.DataMainTheorem as main_theorem
use Rattle.history_laws.proofs.DataMore.{images_of_the_store}
use Rattle.history_laws.proofs.data.versions_are_read_whole.Goals as goal

pub returns : goal.returns
returns x = record { unoverlapped = main_theorem.unoverlapped; images = main_theorem.images; store = images_of_the_store }
