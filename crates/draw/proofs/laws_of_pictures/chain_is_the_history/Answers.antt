use Rattle.draw.proofs.Chains.{chain_is}
use Rattle.draw.proofs.laws_of_pictures.chain_is_the_history.Goals as goal

pub returns : goal.returns
returns c = chain_is
