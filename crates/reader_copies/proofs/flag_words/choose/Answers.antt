use Rattle.reader_copies.proofs.Flags.{flag-chosen}
use Rattle.reader_copies.proofs.flag_words.choose.Goals as goal

pub returns : goal.returns
returns c = λ i. flag-chosen c.args.among c.args.ones c.args.zeros i
