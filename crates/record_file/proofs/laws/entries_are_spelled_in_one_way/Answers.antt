use Rattle.record_file.proofs.ReadBack.{entry_words_again}
use Rattle.record_file.proofs.Spelled.{entry_said}
use Rattle.record_file.proofs.laws.entries_are_spelled_in_one_way.Goals as goal

pub returns : goal.returns
returns c = λ first words e. (entry_said first words e, λ says. entry_words_again first words e says.0 says.1)
