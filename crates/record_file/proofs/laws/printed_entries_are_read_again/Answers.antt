use Rattle.record_file.proofs.ReadBack.{entry_words_again}
use Rattle.record_file.proofs.laws.printed_entries_are_read_again.Goals as goal

pub returns : goal.returns
returns c = λ first words e good is. entry_words_again first words e is good
