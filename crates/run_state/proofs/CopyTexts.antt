-- The texts of copies as they are kept in vectors.
use Rattle.std.proofs.Common.{◌≡◌, ℕ, suc, ◌+◌, ◌<◌, ◌||◌, List, [], ◌∷◌, ◌++◌, length, map, take, get_or, refl, sym, ap, ◌∙◌, arith}
use Rattle.std.specs.Global.{Vec}
use Rattle.std.specs.List.{list_all, list_any}
use Rattle.std.specs.Str.{bytes_eq}
use Rattle.std.proofs.Math.Seq.{take-suc}
use Rattle.std.proofs.lemmas.List.{get_or-map, map-append, take-map}
use Rattle.std.proofs.lemmas.List.Folds.{list_all-map}
use Rattle.run_state.specs.{are_all, is_among, text_at, texts_in}

-- one text more
pub texts_more : {A : Type 0} (g : A → List ℕ) (copies : List A) (k : ℕ) (copy : A) (texts : List (Vec ℕ)) (text : Vec ℕ) → k < length copies → texts_in texts ≡ map g (take k copies) → text.items ≡ g (get_or copies k copy) →
    texts_in (texts ++ text ∷ []) ≡ map g (take (k + 1) copies)
texts_more {A} g copies k copy texts text within before is =
    let more : k + 1 ≡ suc k = omega arith in
    map-append (λ (t : Vec ℕ). t.items) texts (text ∷ []) ∙ (λ i. before i ++ is i ∷ [])
    ∙ sym (ap (λ n. map g (take n copies)) more ∙ ap (map g) (take-suc {A = A} copies k copy within) ∙ map-append g (take k copies) (get_or copies k copy ∷ []))

-- the text at a place
pub text_here : (texts : List (Vec ℕ)) (k : ℕ) (text : Vec ℕ) → k < length texts → text ≡ get_or texts k text → text.items ≡ text_at (texts_in texts) k
text_here texts k text within is = ap (λ (t : Vec ℕ). t.items) is ∙ sym (get_or-map (λ (t : Vec ℕ). t.items) texts k text [] within)

-- tests of all texts
pub all_in : (text : List ℕ) (texts : List (Vec ℕ)) → list_all (λ (t : Vec ℕ). bytes_eq t.items text) texts ≡ are_all text (texts_in texts)
all_in text texts = sym (list_all-map (λ (t : List ℕ). bytes_eq t text) (λ (t : Vec ℕ). t.items) texts)

pub any_in : (text : List ℕ) (texts : List (Vec ℕ)) → list_any (λ (t : Vec ℕ). bytes_eq t.items text) texts ≡ is_among text (texts_in texts)
any_in text [] = refl
any_in text (t ∷ texts) = ap (λ b. bytes_eq t.items text || b) (any_in text texts)

-- the first texts
pub first_texts : (texts : List (Vec ℕ)) (k : ℕ) → texts_in (take k texts) ≡ take k (texts_in texts)
first_texts texts k = sym (take-map (λ (t : Vec ℕ). t.items) k texts)
