use Rattle.std.proofs.Common.{◌≡◌, string_bytes, take}
use Rattle.picture.specs.{listed_with}
use Rattle.picture.proofs.words.listed.Given as goal

-- the numbers before the present one
abbrev pub invariant-loop-place : goal.invariant-loop-place
invariant-loop-place l = string_bytes l.text ≡ listed_with l.between (take l.place l.numbers)
