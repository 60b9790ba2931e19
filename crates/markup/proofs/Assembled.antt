-- Text that is written part by part.
use Rattle.std.proofs.Common.{◌≡◌, ℕ, List, ◌∷◌, ◌++◌, codes, ap, append_assoc, sym}
use Rattle.std.specs.Fmt.{decimal}
use Rattle.markup.specs.{Attribute, Tag, attributes_text, entering, escaped, lowering, marking, noting, empty_element, tag_end, tag_name, text_element}

module _ (t : Tag) (attributes : List Attribute) where
  pub empty_element_parts : codes "<" ++ (tag_name t ++ (attributes_text attributes ++ codes "/>\n")) ≡ empty_element t attributes
  empty_element_parts = ap (λ l. 60 ∷ l) (sym (append_assoc (tag_name t) (attributes_text attributes) (codes "/>\n")))

  pub entering_parts : codes "<" ++ (tag_name t ++ (attributes_text attributes ++ codes ">")) ≡ entering t attributes
  entering_parts = ap (λ l. 60 ∷ l) (sym (append_assoc (tag_name t) (attributes_text attributes) (codes ">")))

  pub reporting_parts : (text : List ℕ) → codes "<" ++ (tag_name t ++ (attributes_text attributes ++ (codes ">" ++ (escaped text ++ tag_end t)))) ≡ text_element t attributes text
  reporting_parts text = ap (λ l. 60 ∷ l) (five (tag_name t) (attributes_text attributes) (codes ">") (escaped text) (tag_end t))
    where
      five : (a b c d e : List ℕ) → a ++ (b ++ (c ++ (d ++ e))) ≡ (((a ++ b) ++ c) ++ d) ++ e
      five a b c d e = simp append_assoc

pub marking_parts : (attributes : List Attribute) (title : List ℕ) →
    codes "<g class=\"m\" role=\"img\"" ++ (attributes_text attributes ++ (codes "><title>" ++ (escaped title ++ codes "</title>\n"))) ≡ marking attributes title
marking_parts attributes title = ap (λ l. codes "<g class=\"m\" role=\"img\"" ++ l) (six (attributes_text attributes) (codes ">") (codes "<title>") (escaped title) (codes "</title>") (codes "\n"))
  where
    six : (a b c d e f : List ℕ) → a ++ (b ++ (c ++ (d ++ (e ++ f)))) ≡ ((a ++ b) ++ (c ++ (d ++ e))) ++ f
    six a b c d e f = simp append_assoc

pub noting_parts : (title : List ℕ) → codes "<g class=\"r\"><title>" ++ (escaped title ++ codes "</title>\n") ≡ noting title
noting_parts title = ap (λ l. codes "<g class=\"r\"><title>" ++ l) (sym (append_assoc (escaped title) (codes "</title>") (codes "\n")))

pub lowering_parts : (by : ℕ) (digits : List ℕ) → digits ≡ decimal by → codes "<g transform=\"translate(0," ++ (escaped digits ++ codes ")\">\n") ≡ lowering by
lowering_parts by digits is = ap (λ d. codes "<g transform=\"translate(0," ++ (escaped d ++ codes ")\">\n")) is
