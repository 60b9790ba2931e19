-- Before the first entry all registers are whole at their opening values: the image of process 0 is that of the opening store, and all else is 0.
use Rattle.std.proofs.Common.{◌≡◌, ℕ, zero, suc, ◌≤◌, Bool, true, false, List, [], length, replicate, ◌==◌, if◌then◌else◌, Ok, refl, sym, arith}
use Rattle.std.proofs.lemmas.Bool.Decides.{nat_tests}
use Rattle.std.proofs.lemmas.List.{length-replicate}
use Rattle.std.proofs.lemmas.Nat.{pow_pos}
use Rattle.std.specs.Int.{is_in_range}
use Rattle.std.specs.List.{list_all}
use Rattle.plain_store.specs.{Setup, callers_of, checked, opening_store}
use Rattle.model.specs.store_image.{is_number}
use Rattle.plain_store.proofs.GoodSetups.{good-checked, few-opening}
use Rattle.model.proofs.Width.{is_good}
use Rattle.model.specs.{AreGiven, Event}
use Rattle.model.specs.safe_number.{bits_of_number}
use Rattle.model.specs.declared.access.Field.TheVariants.{Commit, Stamp0}
use Rattle.laws.proofs.Invariant.{Closed, bit, wires}
use Rattle.history_laws.proofs.Sound.{IsStoreOf}
use Rattle.history_laws.proofs.Kept.{stamp_bits_of, Data}

-- the numbers of callers that have made no call
zeros : (n : ℕ) → list_all is_number (replicate n 0) ≡ true
zeros zero = refl
zeros (suc n) = zeros n

-- version 1 has no callers, and version 2 at most 16
callers-fit : (s : Setup) → checked s ≡ Ok tt → callers_of s ≤ 16
callers-fit s good = by (s.version == 1) (good-checked s good).processes
  where
    by : (b : Bool) → is_in_range 1 (if b then 8 else 16) s.processes ≡ true → (if b then 0 else s.processes) ≤ 16
    by true range = omega arith
    by false range = grind (arith, nat_tests)

few-callers : (s : Setup) → checked s ≡ Ok tt → length {A = ℕ} (replicate (callers_of s) 0) ≤ 16
few-callers s good = omega (arith, length-replicate {A = ℕ} (callers_of s) 0, callers-fit s good)

opening-sound : (s : Setup) → checked s ≡ Ok tt → (events : List Event) → AreGiven s events → IsStoreOf s (opening_store s)
opening-sound s good events given = record {
  store = record {
    good_pairs = given.opening;
    room = few-opening s good;
    some_slots = let g = good-checked s good in grind (arith, nat_tests);
    few_slots = let g = good-checked s good in grind (arith, nat_tests);
    few_callers = few-callers s good;
    good_numbers = zeros (callers_of s);
  };
  slots = refl;
  callers = length-replicate (callers_of s) 0;
}

-- the bits of the stamp 0
no_stamp : (w k : ℕ) → bit (bits_of_number w 0) k ≡ false
no_stamp zero k = refl
no_stamp (suc w) zero = refl
no_stamp (suc w) (suc k) = no_stamp w k

-- commit bits and stamps open at 0
commit-opens : (s : Setup) (q r : ℕ) → Closed (wires s [] q Commit 0 r) false
commit-opens s zero r = record { writing = refl; value = refl }
commit-opens s (suc q) r = record { writing = refl; value = refl }

stamp-opens : (s : Setup) (q k r : ℕ) → Closed (wires s [] q Stamp0 k r) (bit (stamp_bits_of s 0) k)
stamp-opens s zero k r = record { writing = refl; value = sym (no_stamp s.stamp_bits k) }
stamp-opens s (suc q) k r = record { writing = refl; value = sym (no_stamp s.stamp_bits k) }

pub opens : (s : Setup) → checked s ≡ Ok tt → (events : List Event) → AreGiven s events → Data s []
opens s good events given = record {
  given = λ p below. tt;
  kept = record {
    sound = opening-sound s good events given;
    commits = λ q below free r rb. commit-opens s q r;
    stamps = λ q below k r kb rb. stamp-opens s q k r;
    image = λ k r kb rb. record { writing = refl; value = refl };
    most = λ q below. omega arith;
    first = λ q below. absurd (omega arith);
    is = refl;
    newest = let g = is_good s good in omega (arith, g.processes_is);
    fits = pow_pos s.stamp_bits;
  };
  knows = λ p below. tt;
}
