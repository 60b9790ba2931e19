-- The laws of registers, of a world.
use Rattle.model.proofs.Width.{is_good}
use Rattle.register_laws.proofs.NumbersAlways.{numbers-held}
use Rattle.model.specs.{past_of}
use Rattle.register_laws.proofs.ReadsReturn.{returned-fits, returned-length, returns-number, so-far}
use Rattle.register_laws.proofs.SettledMarks.{settled-ends}
use Rattle.register_laws.proofs.SettledWrites.{interrupted-settled}
use Rattle.register_laws.proofs.WritesEnd.{between-bits, write-ends}
use Rattle.register_laws.proofs.worlds.worlds_keep_register_laws.Goals as goal

pub returns : goal.returns
returns x = record {
  numbers = λ s ok events r owner. numbers-held s events (is_good s ok) r owner;
  written = λ s ok events event e is r new ends. write-ends s (is_good s ok) events event e is r new ends;
  bit_by_bit = λ s ok events r new w owner progress none. between-bits s (is_good s ok) events r new w owner progress none;
  unoverlapped = λ s ok events event e is read a ends u. returns-number s ok events event e is read a ends u;
  so_far = λ s ok events p read h u. so-far s ok events p read h u;
  any_read = λ s ok events event e is read a ends. (returned-length s (past_of s events) e read a ends, returned-fits s (past_of s events) e read a ends);
  interrupted = λ s ok events event e is r bit v ends. interrupted-settled s (is_good s ok) events event e is r bit v ends;
  settled = λ s ok events event e is v marked. settled-ends s (is_good s ok) events event e is v marked;
}
