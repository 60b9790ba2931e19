-- An image has room for the store of a good setup.
use Rattle.std.proofs.Common.{◌≡◌, ◌≤◌, Bool, true, false, ◌==◌, if◌then◌else◌, Ok, arith}
use Rattle.std.proofs.lemmas.Bool.Decides.{nat_tests}
use Rattle.std.specs.Int.{is_in_range}
use Rattle.plain_store.specs.{Setup, callers_of, checked}
use Rattle.plain_store.proofs.GoodSetups.{good-checked}

pub record HasRoom (s : Setup) : Type 0 where
  pub some_slots : 1 ≤ s.slots
  pub few_slots : s.slots ≤ 8
  pub few_callers : callers_of s ≤ 16

pub has_room : (s : Setup) → checked s ≡ Ok tt → HasRoom s
has_room s good = record {
  some_slots = let g = good-checked s good in grind (arith, nat_tests, g.slots);
  few_slots = let g = good-checked s good in grind (arith, nat_tests, g.slots);
  few_callers = by (s.version == 1) (good-checked s good).processes;
}
  where
    by : (b : Bool) → is_in_range 1 (if b then 8 else 16) s.processes ≡ true → (if b then 0 else s.processes) ≤ 16
    by true range = omega arith
    by false range = grind (arith, nat_tests)
