use Rattle.board.specs.{with_pending}
use Rattle.board.proofs.steps.write.Given as goal

abbrev pub ghosts-store : goal.ghosts-store
ghosts-store a = record { setup = a.words.now.key; flick = a._flick; view = with_pending a.words.now.key a._pending a.seat.now.me.0 }
