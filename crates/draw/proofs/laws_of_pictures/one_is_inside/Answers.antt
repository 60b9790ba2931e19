use Rattle.draw.proofs.Insides.{one_is}
use Rattle.draw.proofs.laws_of_pictures.one_is_inside.Goals as goal

pub returns : goal.returns
returns c = one_is c.stages_are_the_records.ensures
