-- One entry of a list, and the entries after it.
use Rattle.std.proofs.Common.{◌≡◌, ℕ, List, ◌++◌, [], ◌∷◌, length, reverse, sym, ap, ◌∙◌, arith}
use Rattle.std.proofs.lemmas.List.{length-append, length-reverse}
use Rattle.model.specs.{Entry, Past}
use Rattle.auditor.specs.{IsAt}
use Rattle.judge.specs.ThisLockVerdicts.{newest_first}

-- in a list, an entry and the rest after it are determined by the length of that rest
same_split : (x y : Entry) (xs ys before later : Past) → before ++ x ∷ xs ≡ later ++ y ∷ ys → length xs ≡ length ys → (x ≡ y) × (xs ≡ ys)
same_split x y xs ys [] [] splits long = (cc, cc)
same_split x y xs ys [] (z ∷ later) splits long = let both = ap length splits in let more = length-append later (y ∷ ys) in absurd (omega (arith, both, more, long))
same_split x y xs ys (w ∷ before) [] splits long = let both = ap length splits in let more = length-append before (x ∷ xs) in absurd (omega (arith, both, more, long))
same_split x y xs ys (w ∷ before) (z ∷ later) splits long = let rest : before ++ x ∷ xs ≡ later ++ y ∷ ys = cc in same_split x y xs ys before later rest long

pub one_place : (entries : List Entry) (k : ℕ) (x y : Entry) (xs ys : Past) → IsAt entries k x xs → IsAt entries k y ys → (x ≡ y) × (xs ≡ ys)
one_place entries k x y xs ys first second = same_split x y xs ys first.later second.later (sym first.splits ∙ second.splits) (first.number ∙ sym second.number)

-- the newest entry
pub at_newest : (entries : List Entry) (e : Entry) → IsAt (entries ++ e ∷ []) (length entries) e (reverse entries)
at_newest entries e = record { later = []; splits = newest_first entries e; number = length-reverse entries }

-- the split after one more entry
pub at_before : (entries : List Entry) (k : ℕ) (x e : Entry) (xs : Past) → IsAt entries k x xs → IsAt (entries ++ e ∷ []) k x xs
at_before entries k x e xs at = record { later = e ∷ at.later; splits = newest_first entries e ∙ ap (λ (l : Past). e ∷ l) at.splits; number = at.number }
