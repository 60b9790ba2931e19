-- The lines of reasons, entry by entry.
use Rattle.std.proofs.Common.{◌≡◌, ℕ, zero, suc, List, [], ◌∷◌, ◌++◌, length, reverse, Result, Ok, Err, OnOk, Some, slice_get, refl, ap, subst, ◌∙◌, arith}
use Rattle.std.proofs.lemmas.List.{length-append, length-reverse, reverse-append}
use Rattle.plain_store.specs.{Setup}
use Rattle.model.specs.{Entry, Past}
use Rattle.judge.specs.{AreLinesAt}

-- the last number
last_number : (ns : List ℕ) (n k : ℕ) → length ns ≡ k → slice_get (ns ++ n ∷ []) k ≡ Some n
last_number ns n k long = subst (λ k. slice_get (ns ++ n ∷ []) k ≡ Some n) long (at ns)
  where
    at : (ns : List ℕ) → slice_get (ns ++ n ∷ []) (length ns) ≡ Some n
    at [] = refl
    at (m ∷ ns) = at ns

-- an earlier number
number_before : (ns : List ℕ) (n k m : ℕ) → slice_get ns k ≡ Some m → slice_get (ns ++ n ∷ []) k ≡ Some m
number_before [] n k m is = absurd (cc)
number_before (x ∷ ns) n zero m is = is
number_before (x ∷ ns) n (suc k) m is = number_before ns n k m is

-- each entry has a number
pub counted_on : (entries : List Entry) (numbers : List ℕ) (n : ℕ) (e : Entry) → length numbers ≡ length entries → length (numbers ++ n ∷ []) ≡ length (entries ++ e ∷ [])
counted_on entries numbers n e counted = omega (arith, counted, length-append numbers (n ∷ []), length-append entries (e ∷ []))

module _ (Are : Setup → Past → ℕ → Entry → List ℕ → Type 0) (s : Setup) (entries : List Entry) (numbers : List ℕ) (n : ℕ) (e : Entry) where
  -- one more entry after the bad one
  pub lines_stay : (k : ℕ) (lines : List ℕ) → AreLinesAt Are s entries numbers k lines → AreLinesAt Are s (entries ++ e ∷ []) (numbers ++ n ∷ []) k lines
  lines_stay k lines at = record {
    entry = at.entry;
    past = at.past;
    later = e ∷ at.later;
    splits = reverse-append entries (e ∷ []) ∙ ap (λ (x : Past). e ∷ x) at.splits;
    place = at.place;
    number = at.number;
    line = number_before numbers n k at.number at.line;
    are = at.are;
  }

  -- the newest entry is the bad one
  pub lines_of_newest : (lines : List ℕ) → length numbers ≡ length entries → Are s (reverse entries) n e lines → AreLinesAt Are s (entries ++ e ∷ []) (numbers ++ n ∷ []) (length entries) lines
  lines_of_newest lines counted are = record {
    entry = e;
    past = reverse entries;
    later = [];
    splits = reverse-append entries (e ∷ []);
    place = length-reverse entries;
    number = n;
    line = last_number numbers n (length entries) counted;
    are = are;
  }

-- a consequence, unless memory ran out
pub ok_then : {A E : Type 0} (r : Result A E) {P Q : Type 0} → (P → Q) → OnOk r P → OnOk r Q
ok_then (Ok a) then p = then p
ok_then (Err e) then p = tt
