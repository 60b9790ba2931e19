-- Escaped texts are read back, and have no sign of markup in them.
use Rattle.std.proofs.Common.{◌≡◌, ℕ, ◌==◌, ◌&&◌, Bool, true, false, if◌then◌else◌, List, [], ◌∷◌, ◌++◌, codes, refl, ap, sym, ◌∙◌}
use Rattle.std.proofs.lemmas.Bool.{eqb-true}
use Rattle.std.proofs.lemmas.List.Folds.{list_all-append}
use Rattle.std.specs.List.{list_all}
use Rattle.markup.specs.{escaped, escaped_by, is_plain, names, unescaped}

-- a byte is read back
byte_back : (b : ℕ) (rest : List ℕ) → unescaped (escaped_by names b ++ rest) ≡ b ∷ unescaped rest
byte_back b rest = amp (b == 38) refl
  where
    quot : (t : Bool) → (b == 34) ≡ t → (b == 38) ≡ false → unescaped ((if t then 38 ∷ codes "quot;" else b ∷ []) ++ rest) ≡ b ∷ unescaped rest
    quot true is differs = ap (λ n. n ∷ unescaped rest) (sym (eqb-true b 34 is))
    quot false is differs = rw differs refl

    gt : (t : Bool) → (b == 62) ≡ t → (b == 38) ≡ false → unescaped ((if t then 38 ∷ codes "gt;" else if b == 34 then 38 ∷ codes "quot;" else b ∷ []) ++ rest) ≡ b ∷ unescaped rest
    gt true is differs = ap (λ n. n ∷ unescaped rest) (sym (eqb-true b 62 is))
    gt false is differs = quot (b == 34) refl differs

    lt : (t : Bool) → (b == 60) ≡ t → (b == 38) ≡ false → unescaped ((if t then 38 ∷ codes "lt;" else if b == 62 then 38 ∷ codes "gt;" else if b == 34 then 38 ∷ codes "quot;" else b ∷ []) ++ rest) ≡ b ∷ unescaped rest
    lt true is differs = ap (λ n. n ∷ unescaped rest) (sym (eqb-true b 60 is))
    lt false is differs = gt (b == 62) refl differs

    amp : (t : Bool) → (b == 38) ≡ t → unescaped ((if t then 38 ∷ codes "amp;" else if b == 60 then 38 ∷ codes "lt;" else if b == 62 then 38 ∷ codes "gt;" else if b == 34 then 38 ∷ codes "quot;" else b ∷ []) ++ rest) ≡ b ∷ unescaped rest
    amp true is = ap (λ n. n ∷ unescaped rest) (sym (eqb-true b 38 is))
    amp false is = lt (b == 60) refl is

-- a text is read back
pub text_back : (text : List ℕ) → unescaped (escaped text) ≡ text
text_back [] = refl
text_back (b ∷ text) = byte_back b (escaped text) ∙ ap (λ t. b ∷ t) (text_back text)

-- a byte has no sign in it
byte_plain : (b : ℕ) → list_all is_plain (escaped_by names b) ≡ true
byte_plain b = amp (b == 38)
  where
    quot : (t : Bool) → (b == 34) ≡ t → (b == 62) ≡ false → (b == 60) ≡ false → list_all is_plain (if t then 38 ∷ codes "quot;" else b ∷ []) ≡ true
    quot true is no3 no2 = refl
    quot false is no3 no2 = rw (no2, no3, is) refl

    gt : (t : Bool) → (b == 62) ≡ t → (b == 60) ≡ false → list_all is_plain (if t then 38 ∷ codes "gt;" else if b == 34 then 38 ∷ codes "quot;" else b ∷ []) ≡ true
    gt true is no2 = refl
    gt false is no2 = quot (b == 34) refl is no2

    lt : (t : Bool) → (b == 60) ≡ t → list_all is_plain (if t then 38 ∷ codes "lt;" else if b == 62 then 38 ∷ codes "gt;" else if b == 34 then 38 ∷ codes "quot;" else b ∷ []) ≡ true
    lt true is = refl
    lt false is = gt (b == 62) refl is

    amp : (t : Bool) → list_all is_plain (if t then 38 ∷ codes "amp;" else if b == 60 then 38 ∷ codes "lt;" else if b == 62 then 38 ∷ codes "gt;" else if b == 34 then 38 ∷ codes "quot;" else b ∷ []) ≡ true
    amp true = refl
    amp false = lt (b == 60) refl

-- a text has none
pub text_plain : (text : List ℕ) → list_all is_plain (escaped text) ≡ true
text_plain [] = refl
text_plain (b ∷ text) = list_all-append is_plain (escaped_by names b) (escaped text) ∙ (λ i. byte_plain b i && text_plain text i)
