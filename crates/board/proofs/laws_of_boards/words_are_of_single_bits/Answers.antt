use Rattle.board.specs.{access_to}
use Rattle.board.proofs.Seats.{some_processes}
use Rattle.board.proofs.WordNumbers.{bit_there, copy_of_word, word_below}
use Rattle.board.proofs.laws_of_boards.words_are_of_single_bits.Goals as goal

pub returns-clause-bits : goal.returns-clause-bits
returns-clause-bits c = λ s copy there. (word_below s (access_to copy) there, copy_of_word s (access_to copy) there)

pub returns-clause-words : goal.returns-clause-words
returns-clause-words c = λ s good word below. bit_there s word (some_processes s good) below
