use Rattle.history_laws.proofs.MainTheorems.{throughout}
use Rattle.board.proofs.laws_of_boards.boards_keep_the_main_theorem.Goals as goal

pub returns : goal.returns
returns c = record { main_theorem = λ s words views agree. (agree.0, agree.1, agree.2, throughout s agree.1.good agree.0 agree.1.given) }
