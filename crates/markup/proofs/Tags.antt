-- Reading the tags that are written.
use Rattle.std.proofs.Common.{◌≡◌, ℕ, ◌==◌, not, ◌&&◌, ◌||◌, Bool, true, false, cond, is_some, List, [], ◌∷◌, ◌++◌, codes, flat_map, Option, Some, refl, ap, sym, ◌∙◌, append_assoc, append-nil}
use Rattle.std.proofs.lemmas.Bool.{and_parts}
use Rattle.std.proofs.lemmas.List.Folds.{list_all-append}
use Rattle.std.specs.Fmt.{decimal}
use Rattle.std.specs.List.{list_all}
use Rattle.std.specs.Option.{option_map}
use Rattle.markup.specs.{Attribute, Key, Tag, attribute_text, cut, entering, escaped, inner, input_field, is_at_rest, is_mark, is_no_mark, is_plain, is_settled, key_name, lines_in, lowering, mark_front, marking, meant, noting, empty_element, tag_end, tag_name, tags_of, text_element, titles, unescaped}
use Rattle.markup.specs.declared.names.Key.TheVariants as key
use Rattle.markup.specs.declared.names.Tag.TheVariants as tag
use Rattle.markup.proofs.Escapes.{text_back, text_plain}
use Rattle.markup.proofs.Lines.{front_on, front_with, no_mark_on, nothing, onto_last, tags_on}

-- whether no tag begins in a text, and none ends in it
abbrev pub begins_none : List ℕ → Bool
begins_none = list_all (λ b. not (b == 60))

abbrev pub ends_none : List ℕ → Bool
ends_none = list_all (λ b. not (b == 62))

-- whether a text has neither a `<` nor a `>`
abbrev pub is_calm : List ℕ → Bool
is_calm = list_all (λ b. not (b == 60) && not (b == 62))

both : {p q : Bool} → p ≡ true → q ≡ true → (p && q) ≡ true
both h k = (λ i. h i && k i)

none-append : (xs ys : List ℕ) → begins_none xs ≡ true → begins_none ys ≡ true → begins_none (xs ++ ys) ≡ true
none-append xs ys h k = list_all-append (λ b. not (b == 60)) xs ys ∙ both h k

pub calm-append : (xs ys : List ℕ) → is_calm xs ≡ true → is_calm ys ≡ true → is_calm (xs ++ ys) ≡ true
calm-append xs ys h k = list_all-append (λ b. not (b == 60) && not (b == 62)) xs ys ∙ both h k

-- the two halves
begins_of : (text : List ℕ) → is_calm text ≡ true → begins_none text ≡ true
begins_of [] h = refl
begins_of (b ∷ text) h =
    let parts = and_parts (not (b == 60) && not (b == 62)) (is_calm text) h in
    both (and_parts (not (b == 60)) (not (b == 62)) parts.0).0 (begins_of text parts.1)

pub ends_of : (text : List ℕ) → is_calm text ≡ true → ends_none text ≡ true
ends_of [] h = refl
ends_of (b ∷ text) h =
    let parts = and_parts (not (b == 60) && not (b == 62)) (is_calm text) h in
    both (and_parts (not (b == 60)) (not (b == 62)) parts.0).1 (ends_of text parts.1)

-- a byte that ends neither a text nor a value
no_signs : (p q r : Bool) → not (p || (q || r)) ≡ true → (not p && not q) ≡ true
no_signs true q r h = h
no_signs false true r h = h
no_signs false false r h = refl

calm_plain : (text : List ℕ) → list_all is_plain text ≡ true → is_calm text ≡ true
calm_plain [] h = refl
calm_plain (b ∷ text) h =
    let parts = and_parts (is_plain b) (list_all is_plain text) h in
    both (no_signs (b == 60) (b == 62) (b == 34) parts.0) (calm_plain text parts.1)

pub calm_escaped : (text : List ℕ) → is_calm (escaped text) ≡ true
calm_escaped text = calm_plain (escaped text) (text_plain text)

calm_key : (k : Key) → is_calm (key_name k) ≡ true
calm_key key.Class = refl
calm_key key.X = refl
calm_key key.Y = refl
calm_key key.Width = refl
calm_key key.Height = refl
calm_key key.Rx = refl
calm_key key.Cx = refl
calm_key key.Cy = refl
calm_key key.R = refl
calm_key key.Path = refl
calm_key key.Fill = refl
calm_key key.ViewBox = refl
calm_key key.Role = refl
calm_key key.Label = refl
calm_key key.LabelledBy = refl
calm_key key.Namespace = refl
calm_key key.Id = refl
calm_key key.Type = refl
calm_key key.Least = refl
calm_key key.Value = refl
calm_key key.Place = refl
calm_key key.Source = refl
calm_key key.Store = refl
calm_key key.Queue = refl

calm_tag : (t : Tag) → is_calm (tag_name t) ≡ true
calm_tag tag.Svg = refl
calm_tag tag.Path = refl
calm_tag tag.Rect = refl
calm_tag tag.Circle = refl
calm_tag tag.Text = refl
calm_tag tag.Title = refl
calm_tag tag.Desc = refl
calm_tag tag.Heading = refl
calm_tag tag.Item = refl

calm_attribute : (a : Attribute) → is_calm (attribute_text a) ≡ true
calm_attribute a =
    calm-append (codes " " ++ key_name a.key ++ codes "=\"" ++ escaped (meant a.meaning)) (codes "\"")
    (calm-append (codes " " ++ key_name a.key ++ codes "=\"") (escaped (meant a.meaning))
    (calm-append (codes " " ++ key_name a.key) (codes "=\"") (calm_key a.key) refl) (calm_escaped (meant a.meaning)))
    refl

pub calm_attributes : (attributes : List Attribute) → is_calm (flat_map attribute_text attributes) ≡ true
calm_attributes [] = refl
calm_attributes (a ∷ attributes) = calm-append (attribute_text a) (flat_map attribute_text attributes) (calm_attribute a) (calm_attributes attributes)

-- a text in which no tag begins
cut_none : (text : List ℕ) → begins_none text ≡ true → cut text ≡ (text, [])
cut_none [] h = refl
cut_none (b ∷ text) h = by (b == 60) h (λ k. cut_none text k)
  where
    by : (p : Bool) → (not p && begins_none text) ≡ true → (begins_none text ≡ true → ◌≡◌ {A = List ℕ × List (List ℕ)} (cut text) (text, [])) →
        ◌≡◌ {A = List ℕ × List (List ℕ)} (cond p ([], (cut text).0 ∷ (cut text).1) (b ∷ (cut text).0, (cut text).1)) (b ∷ text, [])
    by true h below = absurd (cc)
    by false h below = ap (λ parts. (b ∷ parts.0, parts.1)) (below h)

front_none : (text : List ℕ) → begins_none text ≡ true → (cut text).0 ≡ text
front_none text h = ap (λ parts. parts.0) (cut_none text h)

tags_none : (text : List ℕ) → begins_none text ≡ true → tags_of text ≡ []
tags_none text h = ap (λ parts. parts.1) (cut_none text h)

-- the bytes in a tag up to its `>`
found_at : (b : ℕ) (text rest : List ℕ) → (ends_none text ≡ true → inner (text ++ 62 ∷ rest) ≡ Some text) → (c : Bool) → (not c && ends_none text) ≡ true →
    ◌≡◌ {A = Option (List ℕ)} (cond c (Some []) (option_map (λ rest. b ∷ rest) (inner (text ++ 62 ∷ rest)))) (Some (b ∷ text))
found_at b text rest below true h = absurd (cc)
found_at b text rest below false h = ap (option_map (λ rest. b ∷ rest)) (below h)

pub inner_found : (text rest : List ℕ) → ends_none text ≡ true → inner (text ++ 62 ∷ rest) ≡ Some text
inner_found [] rest h = refl
inner_found (b ∷ text) rest h = found_at b text rest (inner_found text rest) (b == 62) h

settled_by : (tag text : List ℕ) → is_no_mark tag ≡ true → inner tag ≡ Some text → is_settled tag ≡ true
settled_by tag text h k = both h (ap is_some k)

-- one tag
pub tag_alone : (body : List ℕ) → begins_none body ≡ true → tags_of (60 ∷ body) ≡ body ∷ []
tag_alone body h = ap (λ parts. parts.0 ∷ parts.1) (cut_none body h)

no_title_alone : (body : List ℕ) → titles (body ∷ []) ≡ []
no_title_alone body = ap (λ found. found ++ []) (nothing (is_mark body))

-- a tag without its signs
abbrev pub front_of : Tag → List Attribute → List ℕ
front_of t attributes = tag_name t ++ flat_map attribute_text attributes

pub calm_front : (t : Tag) (attributes : List Attribute) → is_calm (front_of t attributes) ≡ true
calm_front t attributes = calm-append (tag_name t) (flat_map attribute_text attributes) (calm_tag t) (calm_attributes attributes)

-- the body of a tag, with its end
abbrev pub body_of : Tag → List Attribute → List ℕ → List ℕ
body_of t attributes end = front_of t attributes ++ end

pub none_body : (t : Tag) (attributes : List Attribute) (end : List ℕ) → begins_none end ≡ true → begins_none (body_of t attributes end) ≡ true
none_body t attributes end h = none-append (front_of t attributes) end (begins_of (front_of t attributes) (calm_front t attributes)) h

-- a tag with nothing in it
pub inner_empty_element : (t : Tag) (attributes : List Attribute) → inner (body_of t attributes (codes "/>\n")) ≡ Some (front_of t attributes ++ codes "/")
inner_empty_element t attributes =
    ap inner (sym (append_assoc (front_of t attributes) (codes "/") (codes ">\n")))
    ∙ inner_found (front_of t attributes ++ codes "/") (codes "\n") (ends_of (front_of t attributes ++ codes "/") (calm-append (front_of t attributes) (codes "/") (calm_front t attributes) refl))

-- a tag whose content follows
pub inner_entering : (t : Tag) (attributes : List Attribute) (rest : List ℕ) → inner (body_of t attributes (codes ">") ++ rest) ≡ Some (front_of t attributes)
inner_entering t attributes rest =
    ap inner (append_assoc (front_of t attributes) (codes ">") rest) ∙ inner_found (front_of t attributes) rest (ends_of (front_of t attributes) (calm_front t attributes))

unmarked_body : (t : Tag) (attributes : List Attribute) (end : List ℕ) → is_no_mark (tag_name t) ≡ true → is_no_mark (body_of t attributes end) ≡ true
unmarked_body t attributes end h = no_mark_on (front_of t attributes) end (no_mark_on (tag_name t) (flat_map attribute_text attributes) h)

body_lines : (t : Tag) (attributes : List Attribute) (end : List ℕ) → begins_none end ≡ true → lines_in (60 ∷ body_of t attributes end) ≡ []
body_lines t attributes end h = ap titles (tag_alone (body_of t attributes end) (none_body t attributes end h)) ∙ no_title_alone (body_of t attributes end)

pub empty_element_rests : (t : Tag) (attributes : List Attribute) → is_no_mark (tag_name t) ≡ true → is_at_rest (tags_of (empty_element t attributes)) ≡ true
empty_element_rests t attributes h =
    ap is_at_rest (tag_alone (body_of t attributes (codes "/>\n")) (none_body t attributes (codes "/>\n") refl))
    ∙ settled_by (body_of t attributes (codes "/>\n")) (front_of t attributes ++ codes "/") (unmarked_body t attributes (codes "/>\n") h) (inner_empty_element t attributes)

pub empty_element_lines : (t : Tag) (attributes : List Attribute) → lines_in (empty_element t attributes) ≡ []
empty_element_lines t attributes = body_lines t attributes (codes "/>\n") refl

pub entering_rests : (t : Tag) (attributes : List Attribute) → is_no_mark (tag_name t) ≡ true → is_at_rest (tags_of (entering t attributes)) ≡ true
entering_rests t attributes h =
    ap is_at_rest (tag_alone (body_of t attributes (codes ">")) (none_body t attributes (codes ">") refl))
    ∙ settled_by (body_of t attributes (codes ">")) (front_of t attributes) (unmarked_body t attributes (codes ">") h) (ap inner (sym (append-nil (body_of t attributes (codes ">")))) ∙ inner_entering t attributes [])

pub entering_lines : (t : Tag) (attributes : List Attribute) → lines_in (entering t attributes) ≡ []
entering_lines t attributes = body_lines t attributes (codes ">") refl

-- a field for input
pub field_tags : (attributes : List Attribute) → tags_of (input_field attributes) ≡ ((codes "input" ++ flat_map attribute_text attributes) ++ codes ">") ∷ []
field_tags attributes =
    tag_alone ((codes "input" ++ flat_map attribute_text attributes) ++ codes ">")
    (none-append (codes "input" ++ flat_map attribute_text attributes) (codes ">") (begins_of (codes "input" ++ flat_map attribute_text attributes) (calm-append (codes "input") (flat_map attribute_text attributes) refl (calm_attributes attributes))) refl)

pub inner_field : (attributes : List Attribute) → inner ((codes "input" ++ flat_map attribute_text attributes) ++ codes ">") ≡ Some (codes "input" ++ flat_map attribute_text attributes)
inner_field attributes = inner_found (codes "input" ++ flat_map attribute_text attributes) [] (ends_of (codes "input" ++ flat_map attribute_text attributes) (calm-append (codes "input") (flat_map attribute_text attributes) refl (calm_attributes attributes)))

pub field_rests : (attributes : List Attribute) → is_at_rest (tags_of (input_field attributes)) ≡ true
field_rests attributes = ap is_at_rest (field_tags attributes) ∙ settled_by ((codes "input" ++ flat_map attribute_text attributes) ++ codes ">") (codes "input" ++ flat_map attribute_text attributes) refl (inner_field attributes)

pub field_lines : (attributes : List Attribute) → lines_in (input_field attributes) ≡ []
field_lines attributes = ap titles (field_tags attributes) ∙ no_title_alone ((codes "input" ++ flat_map attribute_text attributes) ++ codes ">")

-- the tag that ends another
end_tags : (t : Tag) → tags_of (tag_end t) ≡ (47 ∷ (tag_name t ++ codes ">")) ∷ []
end_tags t = tag_alone (47 ∷ (tag_name t ++ codes ">")) (none-append (tag_name t) (codes ">") (begins_of (tag_name t) (calm_tag t)) refl)

end_settled : (t : Tag) → is_settled (47 ∷ (tag_name t ++ codes ">")) ≡ true
end_settled tag.Svg = refl
end_settled tag.Path = refl
end_settled tag.Rect = refl
end_settled tag.Circle = refl
end_settled tag.Text = refl
end_settled tag.Title = refl
end_settled tag.Desc = refl
end_settled tag.Heading = refl
end_settled tag.Item = refl

-- a text and the end of its tag
text_front : (t : Tag) (text : List ℕ) → (cut (escaped text ++ tag_end t)).0 ≡ escaped text ++ []
text_front t text = front_on (escaped text) (tag_end t) ∙ (λ i. front_with (tags_none (escaped text) (begins_of (escaped text) (calm_escaped text)) i) (front_none (escaped text) (begins_of (escaped text) (calm_escaped text)) i) [])

text_tags : (t : Tag) (text : List ℕ) → tags_of (escaped text ++ tag_end t) ≡ (47 ∷ (tag_name t ++ codes ">")) ∷ []
text_tags t text = tags_on (escaped text) (tag_end t) ∙ (λ i. onto_last (tags_none (escaped text) (begins_of (escaped text) (calm_escaped text)) i) [] ++ end_tags t i)

-- a tag around a text
pub reported_tags : (t : Tag) (attributes : List Attribute) (text : List ℕ) → tags_of (text_element t attributes text) ≡ (body_of t attributes (codes ">") ++ (escaped text ++ [])) ∷ (47 ∷ (tag_name t ++ codes ">")) ∷ []
reported_tags t attributes text =
    ap tags_of (append_assoc (entering t attributes) (escaped text) (tag_end t))
    ∙ tags_on (entering t attributes) (escaped text ++ tag_end t)
    ∙ (λ i. onto_last (tag_alone (body_of t attributes (codes ">")) (none_body t attributes (codes ">") refl) i) (text_front t text i) ++ text_tags t text i)

pub reporting_rests : (t : Tag) (attributes : List Attribute) (text : List ℕ) → is_at_rest (tags_of (text_element t attributes text)) ≡ true
reporting_rests t attributes text = ap is_at_rest (reported_tags t attributes text) ∙ end_settled t

no_title_before : (body name : List ℕ) → titles (body ∷ (47 ∷ name) ∷ []) ≡ []
no_title_before body name = ap (λ found. found ++ []) (nothing (is_mark body))

pub reporting_lines : (t : Tag) (attributes : List Attribute) (text : List ℕ) → lines_in (text_element t attributes text) ≡ []
reporting_lines t attributes text = ap titles (reported_tags t attributes text) ∙ no_title_before (body_of t attributes (codes ">") ++ (escaped text ++ [])) (tag_name t ++ codes ">")

-- a mark and its title
titled_tags : (title : List ℕ) → tags_of (text_element tag.Title [] title ++ codes "\n") ≡ (codes "title>" ++ (escaped title ++ [])) ∷ codes "/title>\n" ∷ []
titled_tags title = tags_on (text_element tag.Title [] title) (codes "\n") ∙ ap (λ tags. onto_last tags (codes "\n") ++ []) (reported_tags tag.Title [] title)

abbrev pub mark_body : List Attribute → List ℕ
mark_body attributes = codes "g class=\"m\" role=\"img\"" ++ (flat_map attribute_text attributes ++ codes ">")

pub marked_tags : (attributes : List Attribute) (title : List ℕ) → tags_of (marking attributes title) ≡ (mark_body attributes ++ []) ∷ (codes "title>" ++ (escaped title ++ [])) ∷ codes "/title>\n" ∷ []
marked_tags attributes title =
    ap tags_of (append_assoc (mark_front attributes) (text_element tag.Title [] title) (codes "\n"))
    ∙ tags_on (mark_front attributes) (text_element tag.Title [] title ++ codes "\n")
    ∙ (λ i. onto_last (tag_alone (mark_body attributes) (none-append (flat_map attribute_text attributes) (codes ">") (begins_of (flat_map attribute_text attributes) (calm_attributes attributes)) refl) i) [] ++ titled_tags title i)

pub marking_rests : (attributes : List Attribute) (title : List ℕ) → is_at_rest (tags_of (marking attributes title)) ≡ true
marking_rests attributes title = ap is_at_rest (marked_tags attributes title)

pub marking_lines : (attributes : List Attribute) (title : List ℕ) → lines_in (marking attributes title) ≡ title ∷ []
marking_lines attributes title = ap titles (marked_tags attributes title) ∙ ap (λ t. t ∷ []) (ap unescaped (append-nil (escaped title)) ∙ text_back title)

-- a group other than a mark, and its title
pub noted_tags : (title : List ℕ) → tags_of (noting title) ≡ codes "g class=\"r\">" ∷ (codes "title>" ++ (escaped title ++ [])) ∷ codes "/title>\n" ∷ []
noted_tags title =
    ap tags_of (append_assoc (codes "<g class=\"r\">") (text_element tag.Title [] title) (codes "\n"))
    ∙ tags_on (codes "<g class=\"r\">") (text_element tag.Title [] title ++ codes "\n")
    ∙ ap (λ tags. codes "g class=\"r\">" ∷ tags) (titled_tags title)

pub noting_rests : (title : List ℕ) → is_at_rest (tags_of (noting title)) ≡ true
noting_rests title = ap is_at_rest (noted_tags title)

pub noting_lines : (title : List ℕ) → lines_in (noting title) ≡ []
noting_lines title = ap titles (noted_tags title)

-- a group that is moved down
abbrev pub lower_front : ℕ → List ℕ
lower_front by = codes "g transform=\"translate(0," ++ escaped (decimal by) ++ codes ")\""

calm_lower : (by : ℕ) → is_calm (lower_front by) ≡ true
calm_lower by =
    calm-append (codes "g transform=\"translate(0," ++ escaped (decimal by)) (codes ")\"")
    (calm-append (codes "g transform=\"translate(0,") (escaped (decimal by)) refl (calm_escaped (decimal by))) refl

pub lowered_tags : (by : ℕ) → tags_of (lowering by) ≡ (lower_front by ++ codes ">\n") ∷ []
lowered_tags by =
    ap tags_of (ap (λ l. 60 ∷ l) (sym (append_assoc (codes "g transform=\"translate(0," ++ escaped (decimal by)) (codes ")\"") (codes ">\n"))))
    ∙ tag_alone (lower_front by ++ codes ">\n") (none-append (lower_front by) (codes ">\n") (begins_of (lower_front by) (calm_lower by)) refl)

pub inner_lower : (by : ℕ) → inner (lower_front by ++ codes ">\n") ≡ Some (lower_front by)
inner_lower by = inner_found (lower_front by) (codes "\n") (ends_of (lower_front by) (calm_lower by))

pub lowering_rests : (by : ℕ) → is_at_rest (tags_of (lowering by)) ≡ true
lowering_rests by = ap is_at_rest (lowered_tags by) ∙ settled_by (lower_front by ++ codes ">\n") (lower_front by) refl (inner_lower by)

pub lowering_lines : (by : ℕ) → lines_in (lowering by) ≡ []
lowering_lines by = ap titles (lowered_tags by)
