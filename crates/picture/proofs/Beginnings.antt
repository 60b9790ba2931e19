-- How a mark begins: its attributes, and its title.
use Rattle.std.proofs.Common.{◌≡◌, ℕ, Bool, Option, Result, Ok, Err, OnOk, List, [], ◌∷◌, ◌++◌, flat_map, ap, ◌∙◌}
use Rattle.markup.specs.{Attribute, Mark, Said, attribute_text, drawings, drawn, marking, marking_by, said_text}
use Rattle.picture_layout.specs.{TakenChange}
use Rattle.picture.specs.{queue_said, store_said}
use Rattle.picture.proofs.Drawn.{one_drawn}

-- the attributes of a mark: behind its place and its source, what else it says
pub attributes_said : (place source : Attribute) (more : List Attribute) (x y : Said) (queue : List ℕ) (change reported : Option TakenChange) (last is_last : Bool) →
    attribute_text place ≡ said_text x → attribute_text source ≡ said_text y → flat_map attribute_text more ≡ flat_map said_text (store_said change ++ queue_said last queue) → change ≡ reported → last ≡ is_last →
    flat_map attribute_text (place ∷ source ∷ more) ≡ flat_map said_text (x ∷ y ∷ (store_said reported ++ queue_said is_last queue))
attributes_said place source more x y queue change reported last is_last p q said same so = λ i. p i ++ (q i ++ (said ∙ (λ j. flat_map said_text (store_said (same j) ++ queue_said (so j) queue))) i)

-- its place and its source alone
pub two_said : (place source : Attribute) (x y : Said) → attribute_text place ≡ said_text x → attribute_text source ≡ said_text y → flat_map attribute_text (place ∷ source ∷ []) ≡ flat_map said_text (x ∷ y ∷ [])
two_said place source x y p q = λ i. p i ++ (q i ++ [])

-- the mark that begins by them
pub mark_drawn : {A E : Type 0} (r : Result A E) (old new text line : List ℕ) (attributes : List Attribute) (says : List Said) →
    OnOk r (new ≡ old ++ marking attributes text) → flat_map attribute_text attributes ≡ flat_map said_text says → text ≡ line → OnOk r (new ≡ old ++ drawings (Mark says line ∷ []))
unfolding drawn
mark_drawn (Ok done) old new text line attributes says is same title = is ∙ (λ i. old ++ marking_by (same i) (title i)) ∙ ap (λ l. old ++ l) (one_drawn (Mark says line))
mark_drawn (Err e) old new text line attributes says is same title = tt
