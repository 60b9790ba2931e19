-- The pairs of an opening, and the result of adding one.
use Rattle.std.specs.Prelude.{◌≡◌, ℕ, ◌≤◌, nat_le, if◌then◌else◌, List, length, is_some, IsTrue, Option, Result, Ok, Err}
use Rattle.plain_store.specs.Pairs.{Pair, pairs_in, placed}
use Rattle.plain_store.specs.Store.{value_at, names_differ}
use Rattle.plain_store.specs.declared.openings.OpenFault.{OpenFault}
use Rattle.plain_store.specs.declared.openings.OpenFault.TheVariants.{Double, Full}

-- up to 8 pairs of different names, in the first places
pub record IsPacked (len : ℕ) (places : List (Option Pair)) : Type 0 where
  pub few : len ≤ 8
  pub counted : len ≡ length (pairs_in places)
  pub packed : places ≡ placed (pairs_in places)
  pub differ : IsTrue (names_differ (pairs_in places))

-- the result of adding a pair: `Double` if the name has one, otherwise `Full` if there are 8 pairs
abbrev pub answer_to_add : List Pair → List ℕ → Result (Unit {0}) OpenFault
answer_to_add pairs name = if is_some (value_at pairs name) then Err Double else if nat_le 8 (length pairs) then Err Full else Ok tt
