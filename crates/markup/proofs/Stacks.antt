-- The open elements, from tag to tag.
use Rattle.std.proofs.Common.{◌≡◌, ℕ, not, Bool, true, false, cond, is_some, List, [], ◌∷◌, ◌++◌, None, Some, refl, ap, sym, ◌∙◌}
use Rattle.std.proofs.lemmas.Bool.{and_parts, true≢false}
use Rattle.std.proofs.lemmas.Slice.Eq.{bytes_eq-Decides}
use Rattle.std.specs.List.{list_all}
use Rattle.std.specs.Str.{bytes_eq}
use Rattle.markup.specs.{Begins, Broken, Ends, Kind, Stack, NoContent, after_kind, after_tags, begun, cut, ended, is_among, is_at_rest, is_closed, is_even, is_no_text, kind_by, kind_of, opens_in, tags_of, text_names}
use Rattle.markup.proofs.Lines.{inner_on, onto_last, tags_on, whole}

-- tags, and then others
after_append : (xs ys : List (List ℕ)) (s : Stack) → after_tags (xs ++ ys) s ≡ after_tags ys (after_tags xs s)
after_append [] ys s = refl
after_append (tag ∷ xs) ys s = after_append xs ys (after_kind (kind_of tag) s)

-- the last tag of those at rest continues
after_onto : (tags : List (List ℕ)) (more : List ℕ) (s : Stack) → is_at_rest tags ≡ true → after_tags (onto_last tags more) s ≡ after_tags tags s
after_onto [] more s rests = refl
after_onto (tag ∷ []) more s rests = ap (λ o. after_kind (kind_by o) s) (inner_on tag more (whole tag rests))
after_onto (tag ∷ next ∷ tags) more s rests = after_onto (next ∷ tags) more (after_kind (kind_of tag) s) rests

-- markup at rest continues
pub opens_on : (old more : List ℕ) (s : Stack) → is_at_rest (tags_of old) ≡ true → opens_in (old ++ more) s ≡ opens_in more (opens_in old s)
opens_on old more s rests =
    ap (λ tags. after_tags tags s) (tags_on old more)
    ∙ after_append (onto_last (tags_of old) (cut more).0) (tags_of more) s
    ∙ ap (after_tags (tags_of more)) (after_onto (tags_of old) (cut more).0 s rests)

-- a name outside a list differs from each name in the list
other_name : (name last : List ℕ) → is_among text_names name ≡ false → is_among text_names last ≡ true → bytes_eq name last ≡ false
other_name name last other text = go (bytes_eq name last) refl
  where
    go : (b : Bool) → bytes_eq name last ≡ b → b ≡ false
    go true same = absurd (true≢false (sym text ∙ ap (is_among text_names) (sym ((bytes_eq-Decides name last).0 same)) ∙ other))
    go false differs = refl

same_name : (name : List ℕ) → bytes_eq name name ≡ true
same_name name = (bytes_eq-Decides name name).1 refl

-- an element that begins and ends
ends_begun : (name last : List ℕ) (others : List (List ℕ)) → is_among text_names name ≡ false → (text : Bool) → is_among text_names last ≡ text → ended name (Some (cond text (last ∷ others) (name ∷ last ∷ others))) ≡ Some (last ∷ others)
ends_begun name last others other true text = λ i. cond (other_name name last other text i) (Some others) (cond (text i) (Some (last ∷ others)) None)
ends_begun name last others other false text = ap (λ (b : Bool). cond b (Some (last ∷ others)) (cond (is_among text_names name) (Some (name ∷ last ∷ others)) None)) (same_name name)

pub round : (name : List ℕ) (s : Stack) → is_among text_names name ≡ false → ended name (begun name s) ≡ s
round name None other = refl
round name (Some []) other = ap (λ (b : Bool). cond b (Some []) (cond (is_among text_names name) (Some (name ∷ [])) None)) (same_name name)
round name (Some (last ∷ others)) other = ends_begun name last others other (is_among text_names last) refl

-- after a tag that did not fit, later tags give no list either
kind_none : (k : Kind) → after_kind k None ≡ None
kind_none (Begins name) = refl
kind_none (Ends name) = refl
kind_none NoContent = refl
kind_none Broken = refl

none_stays : (tags : List (List ℕ)) → after_tags tags None ≡ None
none_stays [] = refl
none_stays (tag ∷ tags) = ap (after_tags tags) (kind_none (kind_of tag)) ∙ none_stays tags

-- inside an element of text alone, other tags change nothing
turned : (b : Bool) → not b ≡ true → b ≡ false
turned true h = sym h
turned false h = refl

kind_stays : (k : Kind) (last : List ℕ) (others : List (List ℕ)) → is_no_text k ≡ true → is_among text_names last ≡ true → after_kind k (Some (last ∷ others)) ≡ Some (last ∷ others)
kind_stays (Begins name) last others other text = ap (λ (b : Bool). Some (cond b (last ∷ others) (name ∷ last ∷ others))) text
kind_stays (Ends name) last others other text = λ i. cond (other_name name last (turned (is_among text_names name) other) text i) (Some others) (cond (text i) (Some (last ∷ others)) None)
kind_stays NoContent last others other text = refl
kind_stays Broken last others other text = absurd (cc)

text_stays : (tags : List (List ℕ)) (last : List ℕ) (others : List (List ℕ)) → list_all (λ tag. is_no_text (kind_of tag)) tags ≡ true → is_among text_names last ≡ true → after_tags tags (Some (last ∷ others)) ≡ Some (last ∷ others)
text_stays [] last others other text = refl
text_stays (tag ∷ tags) last others other text =
    let parts = and_parts (is_no_text (kind_of tag)) (list_all (λ (tag : List ℕ). is_no_text (kind_of tag)) tags) other in
    ap (after_tags tags) (kind_stays (kind_of tag) last others parts.0 text) ∙ text_stays tags last others parts.1 text

-- open elements, and others below them
abbrev on : List (List ℕ) → Stack → Stack
on below None = None
on below (Some names) = Some (names ++ below)

-- the element that began last is not of text alone
abbrev holds_tags : List (List ℕ) → Bool
holds_tags [] = true
holds_tags (last ∷ others) = not (is_among text_names last)

begins_on : (name : List ℕ) (below : List (List ℕ)) → holds_tags below ≡ true → begun name (Some below) ≡ Some (name ∷ below)
begins_on name [] holds = refl
begins_on name (last ∷ others) holds = ap (λ (b : Bool). Some (cond b (last ∷ others) (name ∷ last ∷ others))) (turned (is_among text_names last) holds)

kind_on : (k : Kind) (names below : List (List ℕ)) → holds_tags below ≡ true → is_some (after_kind k (Some names)) ≡ true → after_kind k (Some (names ++ below)) ≡ on below (after_kind k (Some names))
kind_on (Begins name) [] below holds fits = begins_on name below holds
kind_on (Begins name) (last ∷ others) below holds fits = go (is_among text_names last)
  where
    go : (text : Bool) → ◌≡◌ {A = Stack} (Some (cond text (last ∷ (others ++ below)) (name ∷ last ∷ (others ++ below)))) (Some (cond text (last ∷ others) (name ∷ last ∷ others) ++ below))
    go true = refl
    go false = refl
kind_on (Ends name) [] below holds fits = absurd (cc)
kind_on (Ends name) (last ∷ others) below holds fits = go (bytes_eq name last) (is_among text_names last)
  where
    go : (same text : Bool) → ◌≡◌ {A = Stack} (cond same (Some (others ++ below)) (cond text (Some (last ∷ (others ++ below))) None)) (on below (cond same (Some others) (cond text (Some (last ∷ others)) None)))
    go true text = refl
    go false true = refl
    go false false = refl
kind_on NoContent names below holds fits = refl
kind_on Broken [] below holds fits = absurd (cc)
kind_on Broken (last ∷ others) below holds fits = go (is_among text_names last)
  where
    go : (text : Bool) → ◌≡◌ {A = Stack} (cond text (Some (last ∷ (others ++ below))) None) (on below (cond text (Some (last ∷ others)) None))
    go true = refl
    go false = refl

-- tags that fit by themselves fit on others
next_on : (tags : List (List ℕ)) (k : Kind) (names below : List (List ℕ)) → holds_tags below ≡ true →
    ((names : List (List ℕ)) → is_some (after_tags tags (Some names)) ≡ true → after_tags tags (Some (names ++ below)) ≡ on below (after_tags tags (Some names))) →
    (s : Stack) → after_kind k (Some names) ≡ s → is_some (after_tags tags s) ≡ true → after_tags tags (after_kind k (Some (names ++ below))) ≡ on below (after_tags tags s)
next_on tags k names below holds rest None is fits = absurd (true≢false (sym fits ∙ ap is_some (none_stays tags)))
next_on tags k names below holds rest (Some then) is fits = ap (after_tags tags) (kind_on k names below holds (ap is_some is) ∙ ap (on below) is) ∙ rest then fits

tags_fit_on : (tags names below : List (List ℕ)) → holds_tags below ≡ true → is_some (after_tags tags (Some names)) ≡ true → after_tags tags (Some (names ++ below)) ≡ on below (after_tags tags (Some names))
tags_fit_on [] names below holds fits = refl
tags_fit_on (tag ∷ tags) names below holds fits = next_on tags (kind_of tag) names below holds (λ names. tags_fit_on tags names below holds) (after_kind (kind_of tag) (Some names)) refl fits

-- nothing is open
closed_is : (s : Stack) → is_closed s ≡ true → s ≡ Some []
closed_is None closed = absurd (cc)
closed_is (Some []) closed = refl
closed_is (Some (last ∷ others)) closed = absurd (cc)

-- even markup leaves the open elements as they are
pub even_same : (markup : List ℕ) → is_even markup ≡ true → (s : Stack) → opens_in markup s ≡ s
even_same markup even s = by s
  where
    parts : (is_closed (opens_in markup (Some [])) ≡ true) × (list_all (λ tag. is_no_text (kind_of tag)) (tags_of markup) ≡ true)
    parts = and_parts (is_closed (opens_in markup (Some []))) (list_all (λ (tag : List ℕ). is_no_text (kind_of tag)) (tags_of markup)) even

    alone : opens_in markup (Some []) ≡ Some []
    alone = closed_is (opens_in markup (Some [])) parts.0

    on_others : (last : List ℕ) (others : List (List ℕ)) (text : Bool) → is_among text_names last ≡ text → opens_in markup (Some (last ∷ others)) ≡ Some (last ∷ others)
    on_others last others true text = text_stays (tags_of markup) last others parts.1 text
    on_others last others false other = tags_fit_on (tags_of markup) [] (last ∷ others) (ap not other) (ap is_some alone) ∙ ap (on (last ∷ others)) alone

    by : (s : Stack) → opens_in markup s ≡ s
    by None = none_stays (tags_of markup)
    by (Some []) = alone
    by (Some (last ∷ others)) = on_others last others (is_among text_names last) refl
