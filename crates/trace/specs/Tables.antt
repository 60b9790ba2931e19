-- Tables of refusals.
use Rattle.std.specs.Prelude.{Bool, List, [], ◌∷◌, Option, None, Some, if◌then◌else◌}

-- the first refusal whose test holds
abbrev pub first_that : {R : Type 0} → List (Bool × R) → Option R
first_that [] = None
first_that (test ∷ tests) = if test.0 then Some test.1 else first_that tests
