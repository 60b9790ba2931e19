-- The kinds of the tags that are written, and the elements that they leave open.
use Rattle.std.proofs.Common.{◌≡◌, ℕ, ◌==◌, ◌||◌, Bool, true, false, cond, List, [], ◌∷◌, ◌++◌, codes, flat_map, Some, refl, ap, sym, ◌∙◌, append_assoc, append-nil}
use Rattle.std.specs.Fmt.{decimal}
use Rattle.markup.specs.{Attribute, Begins, Ends, Stack, NoContent, Tag, after_kind, after_tags, attribute_text, begun, entering, escaped, group, input_field, is_among, key_name, kind_by, kind_of, last_byte, lowering, marking, meant, noting, opens_in, empty_element, tag_name, text_element, text_names}
use Rattle.markup.specs.declared.names.Tag.TheVariants as tag
use Rattle.markup.proofs.Stacks.{round}
use Rattle.markup.proofs.Tags.{body_of, calm-append, calm_attributes, ends_of, field_tags, front_of, inner_entering, inner_field, inner_found, inner_lower, inner_empty_element, lowered_tags, mark_body, marked_tags, none_body, noted_tags, tag_alone, reported_tags}

-- the last byte of two texts
last_on : (b : ℕ) (xs ys : List ℕ) → last_byte b (xs ++ ys) ≡ last_byte (last_byte b xs) ys
last_on b [] ys = refl
last_on b (x ∷ xs) ys = last_on x xs ys

-- an attribute after its space
abbrev tail_of : Attribute → List ℕ
tail_of a = key_name a.key ++ codes "=\"" ++ escaped (meant a.meaning) ++ codes "\""

-- the last byte of attributes is a quote
last_tail : (a : Attribute) (attributes : List Attribute) → last_byte 34 (flat_map attribute_text attributes) ≡ 34 → last_byte 32 (tail_of a ++ flat_map attribute_text attributes) ≡ 34
last_tail a attributes quote =
    last_on 32 (tail_of a) (flat_map attribute_text attributes)
    ∙ ap (λ b. last_byte b (flat_map attribute_text attributes)) (last_on 32 (key_name a.key ++ codes "=\"" ++ escaped (meant a.meaning)) (codes "\""))
    ∙ quote

quote_last : (attributes : List Attribute) → last_byte 34 (flat_map attribute_text attributes) ≡ 34
quote_last [] = refl
quote_last (a ∷ attributes) = last_tail a attributes (quote_last attributes)

-- a tag with attributes, by its last byte
kind_with : (t : Tag) (rest : List ℕ) → kind_by (Some (tag_name t ++ 32 ∷ rest)) ≡ cond ((last_byte 32 rest == 47) || false) NoContent (Begins (tag_name t))
kind_with tag.Svg rest = refl
kind_with tag.Path rest = refl
kind_with tag.Rect rest = refl
kind_with tag.Circle rest = refl
kind_with tag.Text rest = refl
kind_with tag.Title rest = refl
kind_with tag.Desc rest = refl
kind_with tag.Heading rest = refl
kind_with tag.Item rest = refl

-- a tag without attributes
kind_bare : (t : Tag) → kind_by (Some (tag_name t ++ [])) ≡ Begins (tag_name t)
kind_bare tag.Svg = refl
kind_bare tag.Path = refl
kind_bare tag.Rect = refl
kind_bare tag.Circle = refl
kind_bare tag.Text = refl
kind_bare tag.Title = refl
kind_bare tag.Desc = refl
kind_bare tag.Heading = refl
kind_bare tag.Item = refl

kind_bare_ended : (t : Tag) → kind_by (Some ((tag_name t ++ []) ++ codes "/")) ≡ NoContent
kind_bare_ended tag.Svg = refl
kind_bare_ended tag.Path = refl
kind_bare_ended tag.Rect = refl
kind_bare_ended tag.Circle = refl
kind_bare_ended tag.Text = refl
kind_bare_ended tag.Title = refl
kind_bare_ended tag.Desc = refl
kind_bare_ended tag.Heading = refl
kind_bare_ended tag.Item = refl

kind_front : (t : Tag) (attributes : List Attribute) → kind_by (Some (front_of t attributes)) ≡ Begins (tag_name t)
kind_front t [] = kind_bare t
kind_front t (a ∷ attributes) =
    kind_with t (tail_of a ++ flat_map attribute_text attributes)
    ∙ ap (λ (n : ℕ). cond ((n == 47) || false) NoContent (Begins (tag_name t))) (last_tail a attributes (quote_last attributes))

kind_ended : (t : Tag) (attributes : List Attribute) → kind_by (Some (front_of t attributes ++ codes "/")) ≡ NoContent
kind_ended t [] = kind_bare_ended t
kind_ended t (a ∷ attributes) =
    ap (λ l. kind_by (Some l)) (append_assoc (tag_name t) (flat_map attribute_text (a ∷ attributes)) (codes "/"))
    ∙ kind_with t ((tail_of a ++ flat_map attribute_text attributes) ++ codes "/")
    ∙ ap (λ (n : ℕ). cond ((n == 47) || false) NoContent (Begins (tag_name t))) (last_on 32 (tail_of a ++ flat_map attribute_text attributes) (codes "/"))

-- the tag that ends another
kind_end : (t : Tag) → kind_of (47 ∷ (tag_name t ++ codes ">")) ≡ Ends (tag_name t)
kind_end tag.Svg = refl
kind_end tag.Path = refl
kind_end tag.Rect = refl
kind_end tag.Circle = refl
kind_end tag.Text = refl
kind_end tag.Title = refl
kind_end tag.Desc = refl
kind_end tag.Heading = refl
kind_end tag.Item = refl

-- no tag is of text alone
pub no_text : (t : Tag) → is_among text_names (tag_name t) ≡ false
no_text tag.Svg = refl
no_text tag.Path = refl
no_text tag.Rect = refl
no_text tag.Circle = refl
no_text tag.Text = refl
no_text tag.Title = refl
no_text tag.Desc = refl
no_text tag.Heading = refl
no_text tag.Item = refl

-- the elements that each tag leaves open
pub empty_element_opens : (t : Tag) (attributes : List Attribute) (s : Stack) → opens_in (empty_element t attributes) s ≡ s
empty_element_opens t attributes s =
    ap (λ tags. after_tags tags s) (tag_alone (body_of t attributes (codes "/>\n")) (none_body t attributes (codes "/>\n") refl))
    ∙ ap (λ k. after_kind k s) (ap kind_by (inner_empty_element t attributes) ∙ kind_ended t attributes)

begins_body : (t : Tag) (attributes : List Attribute) (rest : List ℕ) → kind_of (body_of t attributes (codes ">") ++ rest) ≡ Begins (tag_name t)
begins_body t attributes rest = ap kind_by (inner_entering t attributes rest) ∙ kind_front t attributes

pub entering_opens : (t : Tag) (attributes : List Attribute) (s : Stack) → opens_in (entering t attributes) s ≡ begun (tag_name t) s
entering_opens t attributes s =
    ap (λ tags. after_tags tags s) (tag_alone (body_of t attributes (codes ">")) (none_body t attributes (codes ">") refl))
    ∙ ap (λ k. after_kind k s) (ap kind_of (sym (append-nil (body_of t attributes (codes ">")))) ∙ begins_body t attributes [])

pub reporting_opens : (t : Tag) (attributes : List Attribute) (text : List ℕ) (s : Stack) → opens_in (text_element t attributes text) s ≡ s
reporting_opens t attributes text s =
    ap (λ tags. after_tags tags s) (reported_tags t attributes text)
    ∙ (λ i. after_kind (kind_end t i) (after_kind (begins_body t attributes (escaped text ++ []) i) s))
    ∙ round (tag_name t) s (no_text t)

-- a title that follows
titled : (title : List ℕ) (s : Stack) → after_tags ((codes "title>" ++ (escaped title ++ [])) ∷ codes "/title>\n" ∷ []) s ≡ s
titled title s = round (codes "title") s refl

-- a mark
begins_mark : (attributes : List Attribute) → kind_of (mark_body attributes ++ []) ≡ Begins group
begins_mark attributes =
    ap kind_of (append-nil (mark_body attributes) ∙ sym (append_assoc (codes "g class=\"m\" role=\"img\"") (flat_map attribute_text attributes) (codes ">")))
    ∙ ap kind_by (inner_found (codes "g class=\"m\" role=\"img\"" ++ flat_map attribute_text attributes) [] (ends_of (codes "g class=\"m\" role=\"img\"" ++ flat_map attribute_text attributes) (calm-append (codes "g class=\"m\" role=\"img\"") (flat_map attribute_text attributes) refl (calm_attributes attributes))))
    ∙ ap (λ (n : ℕ). cond ((n == 47) || false) NoContent (Begins group)) (quote_last attributes)

pub marking_opens : (attributes : List Attribute) (title : List ℕ) (s : Stack) → opens_in (marking attributes title) s ≡ begun group s
marking_opens attributes title s =
    ap (λ tags. after_tags tags s) (marked_tags attributes title)
    ∙ titled title (after_kind (kind_of (mark_body attributes ++ [])) s)
    ∙ ap (λ k. after_kind k s) (begins_mark attributes)

-- a group other than a mark
pub noting_opens : (title : List ℕ) (s : Stack) → opens_in (noting title) s ≡ begun group s
noting_opens title s = ap (λ tags. after_tags tags s) (noted_tags title) ∙ titled title (begun group s)

-- a group that is moved down
pub lowering_opens : (by : ℕ) (s : Stack) → opens_in (lowering by) s ≡ begun group s
lowering_opens by s =
    ap (λ tags. after_tags tags s) (lowered_tags by)
    ∙ ap (λ k. after_kind k s) (ap kind_by (inner_lower by)
    ∙ ap (λ (n : ℕ). cond ((n == 47) || false) NoContent (Begins group)) (last_on 103 (codes " transform=\"translate(0," ++ escaped (decimal by)) (codes ")\"")))

-- a field for input
either : (c : Bool) → cond (c || true) NoContent (Begins (codes "input")) ≡ NoContent
either true = refl
either false = refl

kind_field : (attributes : List Attribute) → kind_by (Some (codes "input" ++ flat_map attribute_text attributes)) ≡ NoContent
kind_field [] = refl
kind_field (a ∷ attributes) = either (last_byte 105 (codes "nput" ++ flat_map attribute_text (a ∷ attributes)) == 47)

pub field_opens : (attributes : List Attribute) (s : Stack) → opens_in (input_field attributes) s ≡ s
field_opens attributes s =
    ap (λ tags. after_tags tags s) (field_tags attributes)
    ∙ ap (λ k. after_kind k s) (ap kind_by (inner_field attributes) ∙ kind_field attributes)
