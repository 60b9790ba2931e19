use Rattle.reader_copies.proofs.Flags.{flag-one, flag-one_other}
use Rattle.reader_copies.proofs.flag_words.one_flag.Goals as goal

pub returns-clause-set : goal.returns-clause-set
returns-clause-set c = flag-one c.args.k c.requires

pub returns-clause-nowhere_else : goal.returns-clause-nowhere_else
returns-clause-nowhere_else c = λ i apart. flag-one_other c.args.k i c.requires apart
