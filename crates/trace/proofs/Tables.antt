-- Tables of refusals.
use Rattle.std.proofs.Common.{◌≡◌, Bool, true, false, List, [], ◌∷◌, ◌++◌, Option, None, Some, refl}
use Rattle.trace.specs.{first_that}

-- the first row of two tables
pub first_of_two : {R : Type 0} (rows more : List (Bool × R)) → first_that (rows ++ more) ≡ elim (first_that rows) as (λ _. Option R) [ Some r ↦ Some r | None ↦ first_that more ]
first_of_two [] more = refl
first_of_two ((true, r) ∷ rows) more = refl
first_of_two ((false, r) ∷ rows) more = first_of_two rows more

-- no row applies
abbrev pub NoneApplies : {R : Type 0} → List (Bool × R) → Type 0
NoneApplies [] = Unit {0}
NoneApplies (row ∷ rows) = (row.0 ≡ false) × NoneApplies rows

pub none_applies : {R : Type 0} (rows : List (Bool × R)) → first_that rows ≡ None → NoneApplies rows
none_applies [] h = tt
none_applies ((true, r) ∷ rows) h = absurd (cc)
none_applies ((false, r) ∷ rows) h = (refl, none_applies rows h)

pub none_first : {R : Type 0} (rows : List (Bool × R)) → NoneApplies rows → first_that rows ≡ None
none_first [] h = refl
none_first ((true, r) ∷ rows) h = absurd (let is : true ≡ false = h.0 in cc)
none_first ((false, r) ∷ rows) h = none_first rows h.1

-- both of two tables, if no row of them applies
pub record NeitherTable {R : Type 0} (rows more : List (Bool × R)) : Type 0 where
  pub first : first_that rows ≡ None
  pub second : first_that more ≡ None

pub neither_table : {R : Type 0} (rows more : List (Bool × R)) → first_that (rows ++ more) ≡ None → NeitherTable rows more
neither_table [] more h = record { first = refl; second = h }
neither_table ((true, r) ∷ rows) more h = absurd (cc)
neither_table ((false, r) ∷ rows) more h = let rest = neither_table rows more h in record { first = rest.first; second = rest.second }

-- the first row applies, or not
pub first_row : {R : Type 0} (test : Bool) (r : R) (rows : List (Bool × R)) → test ≡ true → first_that ((test, r) ∷ rows) ≡ Some r
first_row true r rows h = refl
first_row false r rows h = absurd (let is : false ≡ true = h in cc)

pub next_row : {R : Type 0} (test : Bool) (r : R) (rows : List (Bool × R)) → test ≡ false → first_that ((test, r) ∷ rows) ≡ first_that rows
next_row false r rows h = refl
next_row true r rows h = absurd (let is : true ≡ false = h in cc)
