use Rattle.std.proofs.Common.{◌≡◌, ℕ, ◌<◌, List, [], ◌∷◌, length, Err, refl, arith}
use Rattle.std.specs.Borrow.{Bor}
use Rattle.files.specs.{texts}
use Rattle.files.specs.declared.faults.FaultKind.TheVariants.{Words}
use Rattle.record_file.specs.Reading.{taken_of}
use Rattle.record_file.proofs.marks.taken.Goals as goal

-- a position and the name of a reply are two words
too_few : (words : List (Bor (List ℕ))) → length words < 2 → Err Words ≡ taken_of (texts words)
unfolding taken_of
too_few [] few = refl
too_few (w ∷ []) few = refl
too_few (w ∷ v ∷ ws) few = absurd (omega (arith, few))

pub returns-in_default : goal.returns-in_default
returns-in_default c = too_few c.args.words.now c.in_default.len_below
