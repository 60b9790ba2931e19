-- The facts about a setup that passes all tests.
use Rattle.std.proofs.Common.{◌≡◌, ◌≤◌, Bool, true, false, List, [], ◌∷◌, nat_le, length, Ok, refl, arith, if◌then◌else◌, ◌==◌}
use Rattle.std.proofs.lemmas.Bool.Decides.{nat_tests}
use Rattle.std.specs.Int.{is_in_range}
use Rattle.std.specs.List.{list_all}
use Rattle.plain_store.specs.{BadSetup, Setup, checked, checks, first_fault, is_good_opening, most_bits, most_processes}

-- if there is no fault, all tests pass
pub all_pass : (cs : List (Bool × BadSetup)) → first_fault cs ≡ Ok tt → list_all (λ c. c.0) cs ≡ true
all_pass [] good = refl
all_pass ((true, f) ∷ cs) good = all_pass cs good
all_pass ((false, f) ∷ cs) good = absurd (cc)

-- if all tests pass, there is no fault
pub no_fault : (cs : List (Bool × BadSetup)) → list_all (λ c. c.0) cs ≡ true → first_fault cs ≡ Ok tt
no_fault [] all = refl
no_fault ((true, f) ∷ cs) all = no_fault cs all
no_fault ((false, f) ∷ cs) all = absurd (cc)

-- each field is in its range
pub record IsGood (s : Setup) : Type 0 where
  pub version : is_in_range 1 2 s.version ≡ true
  pub processes : is_in_range 1 (most_processes s.version) s.processes ≡ true
  pub ticket_bits : is_in_range 1 (most_bits s.version) s.ticket_bits ≡ true
  pub stamp_bits : is_in_range 1 (most_bits s.version) s.stamp_bits ≡ true
  pub slots : is_in_range 1 8 s.slots ≡ true
  pub opening : is_good_opening s.version s.slots s.opening ≡ true

pub good-checked : (s : Setup) → checked s ≡ Ok tt → IsGood s
good-checked s good =
    let all : list_all (λ c. c.0) (checks s) ≡ true = all_pass (checks s) good in
    record {
      version = grind (arith, nat_tests);
      processes = grind (arith, nat_tests);
      ticket_bits = grind (arith, nat_tests);
      stamp_bits = grind (arith, nat_tests);
      slots = grind (arith, nat_tests);
      opening = grind (arith, nat_tests);
    }

-- there are at most 16 processes
pub few-processes : (s : Setup) → checked s ≡ Ok tt → s.processes ≤ 16
few-processes s good = by (s.version == 1) (good-checked s good).processes
  where
    by : (b : Bool) → is_in_range 1 (if b then 8 else 16) s.processes ≡ true → s.processes ≤ 16
    by true k = grind (arith, nat_tests)
    by false k = grind (arith, nat_tests)

-- an opening has no more pairs than there are slots
pub few-opening : (s : Setup) → checked s ≡ Ok tt → length s.opening ≤ s.slots
few-opening s good = by (s.version == 1) (good-checked s good).opening
  where
    by : (b : Bool) → nat_le (length s.opening) (if b then 0 else s.slots) ≡ true → length s.opening ≤ s.slots
    by true fits = let none : length s.opening ≤ 0 = grind (arith, nat_tests) in omega arith
    by false fits = grind (arith, nat_tests)
