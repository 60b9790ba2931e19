-- The parts before and after the bands, put together piece by piece.
use Rattle.std.proofs.Common.{◌≡◌, ℕ, Result, Ok, Err, OnOk, List, [], ◌∷◌, ◌++◌, codes, flat_map, ap, ◌∙◌, append_assoc}
use Rattle.markup.specs.{Attribute, Said, attribute_text, said_text}
use Rattle.std.specs.Fmt.{decimal}
use Rattle.picture.specs.{Subject, counted_of, format_word, plural_of, says, subject_word}

-- one more piece
pub adds : (old now new more : List ℕ) → new ≡ now ++ more → now ≡ old → new ≡ old ++ more
adds old now new more is was = is ∙ ap (λ l. l ++ more) was

pub adds_same : (old now new more other : List ℕ) → new ≡ now ++ more → more ≡ other → now ≡ old → new ≡ old ++ other
adds_same old now new more other is same was = is ∙ (λ i. was i ++ same i)

pub adds_on : (start some old new more : List ℕ) → new ≡ old ++ more → old ≡ start ++ some → new ≡ start ++ (some ++ more)
adds_on start some old new more is was = is ∙ ap (λ l. l ++ more) was ∙ append_assoc start some more

pub adds_last : {A E : Type 0} (r : Result A E) (start some old new more : List ℕ) → OnOk r (new ≡ old ++ more) → old ≡ start ++ some → OnOk r (new ≡ start ++ (some ++ more))
adds_last (Ok done) start some old new more is was = adds_on start some old new more is was
adds_last (Err e) start some old new more is was = tt

-- how the heading begins and ends, as `format!` puts it together
pub counted_is : (subject : Subject) (processes : ℕ) (kind many : List ℕ) → kind ≡ subject_word subject → many ≡ plural_of processes →
    kind ++ (codes " of " ++ (decimal processes ++ (codes " process" ++ many))) ≡ counted_of subject processes
counted_is subject processes kind many kinds is =
    (λ i. kinds i ++ (codes " of " ++ (decimal processes ++ (codes " process" ++ is i)))) ∙ simp append_assoc

pub numbers_are : (subject : Subject) (version tickets stamps slots : ℕ) (file : List ℕ) → file ≡ format_word subject →
    codes " (" ++ (file ++ (codes " " ++ (decimal version ++ (codes ", tickets " ++ (decimal tickets ++ (codes ", stamps " ++ (decimal stamps ++ (codes ", slots " ++ (decimal slots ++ codes ")")))))))))
    ≡ codes " (" ++ format_word subject ++ codes " " ++ decimal version ++ codes ", tickets " ++ decimal tickets ++ codes ", stamps " ++ decimal stamps ++ codes ", slots " ++ decimal slots ++ codes ")"
numbers_are subject version tickets stamps slots file files =
    (λ i. codes " (" ++ (files i ++ (codes " " ++ (decimal version ++ (codes ", tickets " ++ (decimal tickets ++ (codes ", stamps " ++ (decimal stamps ++ (codes ", slots " ++ (decimal slots ++ codes ")"))))))))))
    ∙ simp append_assoc

-- a tag with four attributes
pub four_said : (a b c d : Attribute) (x y z w : Said) → attribute_text a ≡ said_text x → attribute_text b ≡ said_text y → attribute_text c ≡ said_text z → attribute_text d ≡ said_text w → flat_map attribute_text (a ∷ b ∷ c ∷ d ∷ []) ≡ says (x ∷ y ∷ z ∷ w ∷ [])
four_said a b c d x y z w one two three four = λ i. one i ++ (two i ++ (three i ++ (four i ++ [])))

pub adds_other : {A E : Type 0} (r : Result A E) (old new more other : List ℕ) → OnOk r (new ≡ old ++ more) → more ≡ other → OnOk r (new ≡ old ++ other)
adds_other (Ok done) old new more other is same = is ∙ ap (λ l. old ++ l) same
adds_other (Err e) old new more other is same = tt
