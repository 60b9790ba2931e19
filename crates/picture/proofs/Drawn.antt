-- What is drawn, one part after the other.
use Rattle.std.proofs.Common.{◌≡◌, ℕ, suc, ◌+◌, ◌<◌, Result, Ok, Err, OnOk, List, [], ◌∷◌, ◌++◌, drop, length, get_or, ap, sym, ◌∙◌, append-nil, append_assoc, add-one, drop-cons}
use Rattle.std.proofs.lemmas.Grind.{flat_map-append}
use Rattle.markup.specs.{Shape, drawings, drawn}

-- one shape
pub one_drawn : (shape : Shape) → drawn shape ≡ drawings (shape ∷ [])
one_drawn shape = sym (append-nil (drawn shape))

-- some shapes, and then others
pub drawings_on : (some more : List Shape) → drawings (some ++ more) ≡ drawings some ++ drawings more
drawings_on some more = flat_map-append drawn some more

-- what is drawn after what was drawn
pub then_drawn : (old now new : List ℕ) (some more : List Shape) → now ≡ old ++ drawings some → new ≡ now ++ drawings more → new ≡ old ++ drawings (some ++ more)
then_drawn old now new some more before is = is ∙ ap (λ l. l ++ drawings more) before ∙ append_assoc old (drawings some) (drawings more) ∙ ap (λ l. old ++ l) (sym (drawings_on some more))

-- the last of some calls
pub ends_drawn : {A E : Type 0} (r : Result A E) (old now new : List ℕ) (some more : List Shape) → now ≡ old ++ drawings some → OnOk r (new ≡ now ++ drawings more) → OnOk r (new ≡ old ++ drawings (some ++ more))
ends_drawn (Ok done) old now new some more before is = then_drawn old now new some more before is
ends_drawn (Err e) old now new some more before is = tt

-- a part is drawn of all that is to be drawn
pub drawn_on : (now new target : List ℕ) (all some more : List Shape) → all ≡ some ++ more → now ++ drawings all ≡ target → new ≡ now ++ drawings some → new ++ drawings more ≡ target
drawn_on now new target all some more are before is =
    ap (λ l. l ++ drawings more) is ∙ append_assoc now (drawings some) (drawings more) ∙ ap (λ l. now ++ l) (sym (ap drawings are ∙ drawings_on some more)) ∙ before

-- what is left of a list from a place on
pub drop_next : {A : Type 0} (xs : List A) (k : ℕ) (x : A) → k < length xs → x ≡ get_or xs k x → drop k xs ≡ x ∷ drop (k + 1) xs
drop_next xs k x within here = drop-cons xs k x within ∙ ap (λ y. y ∷ drop (suc k) xs) (sym here) ∙ ap (λ n. x ∷ drop n xs) (sym (add-one k))
