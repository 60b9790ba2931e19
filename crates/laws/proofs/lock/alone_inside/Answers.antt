-- Alone inside.
use Rattle.model.proofs.Width.{is_good}
use Rattle.laws.proofs.Alone.{alone, touched_inside, owner_writes}
use Rattle.laws.proofs.Always.{inv_of}
use Rattle.laws.proofs.Takings.{taken_inside}
use Rattle.laws.proofs.lock.alone_inside.Goals as goal

pub returns : goal.returns
returns x = record {
  entries = λ s h events event e is inside j other. alone s (is_good s h) (inv_of s (is_good s h)) events e.process inside j other;
  touched = λ s h events event e is a access version.
      let here = touched_inside s (is_good s h) (inv_of s (is_good s h)) events event e is a access version in
      (here, λ j other. alone s (is_good s h) (inv_of s (is_good s h)) events e.process here j other);
  written = λ s h events event e is a access version writes. owner_writes s (is_good s h) events event e is a access writes;
  taken = λ s h events event e is takes.
      let here = taken_inside s (is_good s h) events event e is takes in
      (here, λ j other. alone s (is_good s h) (inv_of s (is_good s h)) events e.process here j other);
}
