use Rattle.register_tests.proofs.OtherBits.{others_stay}
use Rattle.register_tests.proofs.copies.other_bits_stay.Goals as goal

pub returns : goal.returns
returns c = others_stay
