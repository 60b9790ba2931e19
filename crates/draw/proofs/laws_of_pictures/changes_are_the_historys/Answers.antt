use Rattle.draw.proofs.Changes.{lines_say, store_is}
use Rattle.draw.proofs.laws_of_pictures.changes_are_the_historys.Goals as goal

pub returns : goal.returns
returns c = record { lines = lines_say; store = store_is }
