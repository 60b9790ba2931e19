-- The parts before and after the bands: which elements they begin, and which they end.
use Rattle.std.proofs.Common.{◌≡◌, ℕ, Result, Ok, Err, IfOk, OnOk, List, [], ◌∷◌, codes, Some, refl, ap, ◌∙◌}
use Rattle.markup.specs.{Reading, begun, group, opens_in, reading, with_begun, with_tags}
use Rattle.picture.specs.{Subject, list_begun, page_names, picture_names, script_of}
use Rattle.picture.specs.declared.subjects.Subject.TheVariants.{Record, Run, Trace}

-- the lines and the open elements of a part
abbrev Leaves : Reading → List (List ℕ) → List (List ℕ) → Type 0
Leaves read before after = (read.lines ≡ []) × (read.opens (Some before) ≡ Some after)

leaves : (read other : Reading) (before after : List (List ℕ)) → read ≡ other → Leaves other before after → Leaves read before after
leaves read other before after is so = (ap (λ (r : Reading). r.lines) is ∙ so.0, ap (λ (r : Reading). r.opens (Some before)) is ∙ so.1)

-- a consequence of a fact that holds after a successful call holds after it, too
pub on_ok : {A E : Type 0} {P Q : Type 0} (r : Result A E) → (P → Q) → OnOk r P → OnOk r Q
on_ok (Ok done) gives holds = gives holds
on_ok (Err e) gives holds = tt

pub always : {A E : Type 0} {P : Type 0} (r : Result A E) → P → OnOk r P
always (Ok done) holds = holds
always (Err e) holds = tt

pub if_ok : {A E : Type 0} {P Q : A → Type 0} (r : Result A E) → ((a : A) → P a → Q a) → IfOk r P → IfOk r Q
if_ok (Ok a) gives holds = gives a holds
if_ok (Err e) gives holds = tt

abbrev pub opening_text : List ℕ
opening_text = codes "<!doctype html>\n<html lang=\"en\"><head><meta charset=\"utf-8\">\n<meta name=\"viewport\" content=\"width=device-width\">\n"

abbrev pub style_text : List ℕ
style_text = codes "\n<style>\n"

abbrev pub body_text : List ℕ
body_text = codes "</style></head><body>\n"

pub page_begun_read : (begun titled styled bodied : Reading) →
    begun ≡ reading [] → titled ≡ with_tags (opens_in opening_text) begun → styled ≡ with_tags (opens_in style_text) titled → bodied ≡ with_tags (opens_in body_text) styled → Leaves bodied [] page_names
page_begun_read begun titled styled bodied p q r s =
    leaves bodied (with_tags (opens_in body_text) (with_tags (opens_in style_text) (with_tags (opens_in opening_text) (reading [])))) [] page_names
    (s ∙ ap (with_tags (opens_in body_text)) (r ∙ ap (with_tags (opens_in style_text)) (q ∙ ap (with_tags (opens_in opening_text)) p)))
    (refl, refl)

abbrev pub list_end_text : List ℕ
list_end_text = codes "</ol></details>\n"

-- the list ends the legend, and ends itself, whatever is listed
list_reads : (subject : Subject) → opens_in list_end_text (opens_in (list_begun subject) (begun (codes "svg") (Some page_names))) ≡ Some page_names
list_reads Run = refl
list_reads Record = refl
list_reads Trace = refl

-- no script begins an element or ends one
pub script_reads : (subject : Subject) → opens_in (script_of subject) (Some (codes "script" ∷ page_names)) ≡ Some (codes "script" ∷ page_names)
script_reads Run = refl
script_reads Record = refl
script_reads Trace = refl

-- the elements that begin in the body before the bands end there too
module _ {A E : Type 0} (subject : Subject) (r : Result A E) (old shown listed ended : Reading) (p : shown ≡ with_begun (codes "svg") old) (q : listed ≡ with_tags (opens_in (list_begun subject)) shown) (is : OnOk r (ended ≡ with_tags (opens_in list_end_text) listed)) where
  body_read : ended ≡ with_tags (opens_in list_end_text) listed → ended ≡ with_tags (opens_in list_end_text) (with_tags (opens_in (list_begun subject)) (with_begun (codes "svg") old))
  body_read is = is ∙ ap (with_tags (opens_in list_end_text)) (q ∙ ap (with_tags (opens_in (list_begun subject))) p)

  pub body_lines : OnOk r (ended.lines ≡ old.lines)
  body_lines = on_ok r (λ is. ap (λ (read : Reading). read.lines) (body_read is)) is

  pub body_elements : OnOk r (old.opens (Some []) ≡ Some page_names → ended.opens (Some []) ≡ Some page_names)
  body_elements = on_ok r (λ is before. ap (λ (read : Reading). read.opens (Some [])) (body_read is) ∙ ap (λ stack. opens_in list_end_text (opens_in (list_begun subject) (begun (codes "svg") stack))) before ∙ list_reads subject) is

abbrev pub slider_text : List ℕ
slider_text = codes "<div id=\"now\"><div>"

abbrev pub script_text : List ℕ
script_text = codes "<output id=\"said\" for=\"at\"></output></div></div>\n<script>"

abbrev pub ending_text : List ℕ
ending_text = codes "</script>\n</body></html>\n"

pub page_end_read : (script : List ℕ) (begun asked named scripted ended : Reading) →
    opens_in script (Some (codes "script" ∷ page_names)) ≡ Some (codes "script" ∷ page_names) →
    begun ≡ reading [] → asked ≡ with_tags (opens_in slider_text) begun → named ≡ with_tags (opens_in script_text) asked → scripted ≡ with_tags (opens_in script) named → ended ≡ with_tags (opens_in ending_text) scripted → Leaves ended page_names []
page_end_read script begun asked named scripted ended same p q r s t =
    leaves ended (with_tags (opens_in ending_text) (with_tags (opens_in script) (with_tags (opens_in script_text) (with_tags (opens_in slider_text) (reading []))))) page_names []
    (t ∙ ap (with_tags (opens_in ending_text)) (s ∙ ap (with_tags (opens_in script)) (r ∙ ap (with_tags (opens_in script_text)) (q ∙ ap (with_tags (opens_in slider_text)) p))))
    (refl, ap (opens_in ending_text) same)

abbrev pub style_end_text : List ℕ
style_end_text = codes "\n</style>\n"

pub picture_head_read : (begun entered styled ended : Reading) →
    begun ≡ reading [] → entered ≡ with_begun (codes "svg") begun → styled ≡ with_tags (opens_in style_text) entered → ended ≡ with_tags (opens_in style_end_text) styled → Leaves ended [] picture_names
picture_head_read begun entered styled ended p q r s =
    leaves ended (with_tags (opens_in style_end_text) (with_tags (opens_in style_text) (with_begun (codes "svg") (reading [])))) [] picture_names
    (s ∙ ap (with_tags (opens_in style_end_text)) (r ∙ ap (with_tags (opens_in style_text)) (q ∙ ap (with_begun (codes "svg")) p)))
    (refl, refl)

abbrev pub picture_end_text : List ℕ
picture_end_text = codes "\n</g></svg>\n"

pub picture_end_read : (begun lowered ended : Reading) → begun ≡ reading [] → lowered ≡ with_begun group begun → ended ≡ with_tags (opens_in picture_end_text) lowered → Leaves ended picture_names []
picture_end_read begun lowered ended p q r =
    leaves ended (with_tags (opens_in picture_end_text) (with_begun group (reading []))) picture_names []
    (r ∙ ap (with_tags (opens_in picture_end_text)) (q ∙ ap (with_begun group) p))
    (refl, refl)
