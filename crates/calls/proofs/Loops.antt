-- The part of a list that a loop has written, and a line part by part.
use Rattle.std.proofs.Common.{◌≡◌, ℕ, ◌+◌, ◌<◌, ◌≤◌, Result, Ok, Err, OnOk, List, ◌++◌, codes, length, get_or, drop, flat_map, sym, ap, ◌∙◌, append-nil, append_assoc}
use Rattle.std.proofs.lemmas.List.{at_drop_all, at_drop_more}

-- one more is written, as long as what was written and what is left are the whole
pub written_more : {A : Type 0} (f : A → List ℕ) (xs : List A) (i : ℕ) (x : A) (whole before after : List ℕ) → i < length xs → before ++ flat_map f (drop i xs) ≡ whole → after ≡ before ++ f (get_or xs i x) →
    after ++ flat_map f (drop (i + 1) xs) ≡ whole
written_more f xs i x whole before after within so_far is =
    ap (λ l. l ++ flat_map f (drop (i + 1) xs)) is ∙ append_assoc before (f (get_or xs i x)) (flat_map f (drop (i + 1) xs)) ∙ sym (at_drop_more (λ l. before ++ flat_map f l) xs i x within) ∙ so_far

-- all are written
pub written_all : {A : Type 0} (f : A → List ℕ) (xs : List A) (i : ℕ) (whole before : List ℕ) → length xs ≤ i → before ++ flat_map f (drop i xs) ≡ whole → before ≡ whole
written_all f xs i whole before past so_far = sym (append-nil before) ∙ sym (at_drop_all (λ l. before ++ flat_map f l) xs i past) ∙ so_far

-- the parts of a line, one after the other
pub head_is : {A E : Type 0} (r : Result A E) (old headed new shown process call reported command : List ℕ) → headed ≡ old ++ shown → shown ≡ process ++ (codes "," ++ (call ++ codes ",")) → OnOk r (new ≡ headed ++ reported) → reported ≡ command →
    OnOk r (new ≡ old ++ (process ++ codes "," ++ call ++ codes "," ++ command))
head_is (Ok done) old headed new shown process call reported command first text is same = is ∙ (λ i. (first ∙ ap (λ l. old ++ l) text) i ++ same i) ∙ simp append_assoc
head_is (Err e) old headed new shown process call reported command first text is same = tt

pub line_is : (old headed numbered answered new head numbers answer : List ℕ) → headed ≡ old ++ head → numbered ≡ headed ++ numbers → answered ≡ numbered ++ (codes "," ++ answer) → new ≡ answered ++ codes "\n" →
    new ≡ old ++ (head ++ numbers ++ codes "," ++ answer ++ codes "\n")
line_is old headed numbered answered new head numbers answer first second third is =
    is ∙ ap (λ l. l ++ codes "\n") (third ∙ ap (λ l. l ++ (codes "," ++ answer)) (second ∙ ap (λ l. l ++ numbers) first)) ∙ simp append_assoc
