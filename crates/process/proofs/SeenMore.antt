-- The values that a process has read, with one more number.
use Rattle.std.proofs.Common.{◌≡◌, ℕ, ◌+◌, ◌<◌, ◌≤◌, max, Bool, List, [], ◌∷◌, ◌++◌, take, sym, ◌∙◌, subst, arith}
use Rattle.std.proofs.lemmas.List.{length-set, take_more_set}
use Rattle.std.proofs.lemmas.List.Sums.{fold-append}
use Rattle.model.specs.{greatest, max_of}
use Rattle.process.specs.{Fit, HasRoom}
use Rattle.process.specs.declared.values_read.ValuesRead.{ValuesRead}
use Rattle.process.proofs.VersionsSeen.{with_version}

-- the greatest with one more
more-fits : (ts : List ℕ) (v most : ℕ) → greatest ts ≤ most → v ≤ most → greatest (ts ++ v ∷ []) ≤ most
more-fits ts v most old new = let both : greatest (ts ++ v ∷ []) ≡ max (greatest ts) v = fold-append max 0 ts (v ∷ []) in omega arith

-- a version
pub version-room : (seen : ValuesRead) (k : ℕ) (b : Bool) (v : ℕ) → HasRoom seen → HasRoom (with_version seen k b v)
version-room seen k b v room = record { numbers = length-set seen.numbers k v ∙ room.numbers; commits = length-set seen.commits k b ∙ room.commits }

pub version-fits : (seen : ValuesRead) (k : ℕ) (b : Bool) (v bits : ℕ) → HasRoom seen → k < 16 → Fit k bits seen → v ≤ max_of bits → Fit (k + 1) bits (with_version seen k b v)
version-fits seen k b v bits room inside old new =
    subst (λ ts. greatest ts ≤ max_of bits) (sym (take_more_set seen.numbers k v (omega (arith, room.numbers)))) (more-fits (take k seen.numbers) v (max_of bits) old new)
