-- The part of a line that is written, for functions here to cite.
use Rattle.std.proofs.Common.{◌≡◌, ℕ, List, Option}
use Rattle.scenario.specs.files.{WritesFront}
use Rattle.scenario_run.proofs.Written.{front_none as none_is_front}

-- the empty text is a prefix of every text
pub front_none : (a b : Option (List ℕ)) (text : List ℕ) → b ≡ a → WritesFront a b text
front_none a b text same = none_is_front a b text same
