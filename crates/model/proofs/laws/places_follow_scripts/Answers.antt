-- The place machine follows the script.
use Rattle.model.proofs.NextAccesses.{place-next, place-marks, running_corresponds}
use Rattle.model.proofs.Width.{is_good}
use Rattle.model.proofs.laws.places_follow_scripts.Goals as goal

pub returns : goal.returns
returns x = record {
  next = λ c h accesses f. place-next c (is_good c.setup h) accesses f;
  marks = λ c h accesses f n v k. place-marks c (is_good c.setup h) accesses f n v k;
  every_record = λ s h events p command b run. running_corresponds s (is_good s h) events p command b run;
}
