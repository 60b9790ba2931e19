-- A read that no write meets gives the bits.
use Rattle.model.proofs.Whole.{whole_bit, reads-no_writes}
use Rattle.model.proofs.laws.unoverlapped_reads_give_the_bits.Goals as goal

pub returns : goal.returns
returns x s later past owner field reader bits flick h k l n b = whole_bit s later past owner field reader bits flick h k l (reads-no_writes _ n) b
