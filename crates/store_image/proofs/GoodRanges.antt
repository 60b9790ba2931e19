-- The numbers of slots and callers of a good setup.
use Rattle.std.proofs.Common.{◌≡◌, ◌≤◌, ◌==◌, ℕ, Bool, true, false, if◌then◌else◌, Ok, arith}
use Rattle.std.proofs.lemmas.Bool.Decides.{nat_tests}
use Rattle.plain_store.specs.{Setup, callers_of, checked}
use Rattle.plain_store.proofs.GoodSetups.{few-processes, good-checked}

pub some-slots : (s : Setup) → checked s ≡ Ok tt → 1 ≤ s.slots
some-slots s good = let g = (good-checked s good).slots in grind (arith, nat_tests)

pub few-slots : (s : Setup) → checked s ≡ Ok tt → s.slots ≤ 8
few-slots s good = let g = (good-checked s good).slots in grind (arith, nat_tests)

-- an image has a number for each process, or no numbers
pub few-callers : (s : Setup) → checked s ≡ Ok tt → callers_of s ≤ 16
few-callers s good = by (s.version == 1) s.processes (few-processes s good)
  where
    by : (b : Bool) (n : ℕ) → n ≤ 16 → (if b then 0 else n) ≤ 16
    by true n few = omega arith
    by false n few = few
