-- Markup at rest continues, and its lines stay as they are.
use Rattle.std.proofs.Common.{◌≡◌, ℕ, ◌==◌, not, ◌&&◌, Bool, true, false, cond, is_some, List, [], ◌∷◌, ◌++◌, codes, Option, None, Some, refl, ap, sym, ◌∙◌, append_assoc, append-nil}
use Rattle.markup.specs.{behind, cut, cut_at, first_title, inner, is_at_rest, is_mark, is_no_mark, is_settled, lines_in, read_title, tags_of, titles}
use Rattle.std.proofs.lemmas.Bool.{and_parts}
use Rattle.std.specs.Option.{option_map}

-- tags, of which the last continues
abbrev pub onto_last : List (List ℕ) → List ℕ → List (List ℕ)
onto_last [] more = []
onto_last (tag ∷ []) more = (tag ++ more) ∷ []
onto_last (tag ∷ next ∷ tags) more = tag ∷ onto_last (next ∷ tags) more

-- the bytes before the first tag, which continue if no tag follows
abbrev pub front_with : List (List ℕ) → List ℕ → List ℕ → List ℕ
front_with [] front more = front ++ more
front_with (tag ∷ tags) front more = front

-- the parts of markup that continues
abbrev joined : List ℕ × List (List ℕ) → List ℕ × List (List ℕ) → List ℕ × List (List ℕ)
joined parts more = (front_with parts.1 parts.0 more.0, onto_last parts.1 more.0 ++ more.1)

joined_true : (front : List ℕ) (tags : List (List ℕ)) (more : List ℕ × List (List ℕ)) → ([], front_with tags front more.0 ∷ (onto_last tags more.0 ++ more.1)) ≡ joined ([], front ∷ tags) more
joined_true front [] more = refl
joined_true front (tag ∷ tags) more = refl

joined_false : (x : ℕ) (front : List ℕ) (tags : List (List ℕ)) (more : List ℕ × List (List ℕ)) → (x ∷ front_with tags front more.0, onto_last tags more.0 ++ more.1) ≡ joined (x ∷ front, tags) more
joined_false x front [] more = refl
joined_false x front (tag ∷ tags) more = refl

-- one more byte at the start
joined_at : (x : ℕ) (parts more : List ℕ × List (List ℕ)) → cut_at x (joined parts more) ≡ joined (cut_at x parts) more
joined_at x parts more = by (x == 60)
  where
    by : (b : Bool) → cond b ([], (joined parts more).0 ∷ (joined parts more).1) (x ∷ (joined parts more).0, (joined parts more).1) ≡ joined (cond b ([], parts.0 ∷ parts.1) (x ∷ parts.0, parts.1)) more
    by true = joined_true parts.0 parts.1 more
    by false = joined_false x parts.0 parts.1 more

cut_on : (xs ys : List ℕ) → cut (xs ++ ys) ≡ joined (cut xs) (cut ys)
cut_on [] ys = refl
cut_on (x ∷ xs) ys = ap (cut_at x) (cut_on xs ys) ∙ joined_at x (cut xs) (cut ys)

-- the bytes before the first tag, and the tags
pub front_on : (xs ys : List ℕ) → (cut (xs ++ ys)).0 ≡ front_with (tags_of xs) (cut xs).0 (cut ys).0
front_on xs ys = ap (λ parts. parts.0) (cut_on xs ys)

pub tags_on : (xs ys : List ℕ) → tags_of (xs ++ ys) ≡ onto_last (tags_of xs) (cut ys).0 ++ tags_of ys
tags_on xs ys = ap (λ parts. parts.1) (cut_on xs ys)

-- the two tests of such a tag
no_t : (p q : Bool) → (not p && not q) ≡ true → p ≡ false
no_t true q settled = sym settled
no_t false q settled = refl

no_gc : (p q : Bool) → (not p && not q) ≡ true → q ≡ false
no_gc true true settled = sym settled
no_gc true false settled = refl
no_gc false true settled = sym settled
no_gc false false settled = refl

-- the two parts of a settled tag
pub unmarked : (tag : List ℕ) → is_settled tag ≡ true → is_no_mark tag ≡ true
unmarked tag settled = (and_parts (is_no_mark tag) (is_some (inner tag)) settled).0

pub whole : (tag : List ℕ) → is_settled tag ≡ true → is_some (inner tag) ≡ true
whole tag settled = (and_parts (is_no_mark tag) (is_some (inner tag)) settled).1

-- the bytes in a tag up to its `>` stay the same, however the tag continues
kept_option : (b : ℕ) (o : Option (List ℕ)) → is_some (option_map (λ rest. b ∷ rest) o) ≡ true → is_some o ≡ true
kept_option b None has = has
kept_option b (Some text) has = refl

inner_at : (b : ℕ) (tag more : List ℕ) → (is_some (inner tag) ≡ true → inner (tag ++ more) ≡ inner tag) → (c : Bool) → is_some (cond c (Some []) (option_map (λ rest. b ∷ rest) (inner tag))) ≡ true →
    ◌≡◌ {A = Option (List ℕ)} (cond c (Some []) (option_map (λ rest. b ∷ rest) (inner (tag ++ more)))) (cond c (Some []) (option_map (λ rest. b ∷ rest) (inner tag)))
inner_at b tag more below true has = refl
inner_at b tag more below false has = ap (option_map (λ rest. b ∷ rest)) (below (kept_option b (inner tag) has))

pub inner_on : (tag more : List ℕ) → is_some (inner tag) ≡ true → inner (tag ++ more) ≡ inner tag
inner_on [] more has = absurd (cc)
inner_on (b ∷ tag) more has = inner_at b tag more (inner_on tag more) (b == 62) has

-- a tag that fails the test is not a title, however it continues
pub no_title : (tag more : List ℕ) → is_no_mark tag ≡ true → behind (codes "title>") (tag ++ more) ≡ None
no_title [] more settled = absurd (cc)
no_title (a ∷ []) more settled = absurd (cc)
no_title (a ∷ b ∷ []) more settled = absurd (cc)
no_title (a ∷ b ∷ c ∷ tag) more settled = ap (λ t. cond t (behind (codes "itle>") (b ∷ c ∷ (tag ++ more))) None) (no_t (a == 116) ((a == 103) && (c == 99)) settled)

-- such a tag is not the tag of a mark, however it continues
pub no_mark : (tag more : List ℕ) → is_no_mark tag ≡ true → is_mark (tag ++ more) ≡ false
no_mark [] more settled = absurd (cc)
no_mark (a ∷ []) more settled = absurd (cc)
no_mark (a ∷ b ∷ []) more settled = absurd (cc)
no_mark (a ∷ b ∷ c ∷ tag) more settled = by (a == 103) (b == 32) (c == 99) (no_gc (a == 116) ((a == 103) && (c == 99)) settled)
  where
    by : (p q r : Bool) → (p && r) ≡ false → is_some (cond p (cond q (cond r (behind (codes "lass=\"m\"") (tag ++ more)) None) None) None) ≡ false
    by false q r none = refl
    by true false r none = refl
    by true true false none = refl
    by true true true none = absurd (cc)

-- the first title of tags at rest
first_on : (tag : List ℕ) (tags rest : List (List ℕ)) (more : List ℕ) → is_at_rest (tag ∷ tags) ≡ true → first_title (onto_last (tag ∷ tags) more ++ rest) ≡ first_title (tag ∷ tags)
first_on tag [] rest more settled = ap read_title (no_title tag more (unmarked tag settled)) ∙ sym (ap read_title (ap (behind (codes "title>")) (sym (append-nil tag)) ∙ no_title tag [] (unmarked tag settled)))
first_on tag (next ∷ tags) rest more settled = refl

-- no title
abbrev none_at_all : List (List ℕ)
none_at_all = []

-- no title, for each result of a test
pub nothing : (b : Bool) → cond b none_at_all none_at_all ≡ none_at_all
nothing true = refl
nothing false = refl

-- the titles of tags at rest
titles_on : (tags rest : List (List ℕ)) (more : List ℕ) → is_at_rest tags ≡ true → titles (onto_last tags more ++ rest) ≡ titles tags ++ titles rest
titles_on [] rest more settled = refl
titles_on (tag ∷ []) rest more settled = ap (λ b. cond b (first_title rest) [] ++ titles rest) (no_mark tag more (unmarked tag settled)) ∙ sym (ap (λ found. (found ++ []) ++ titles rest) (nothing (is_mark tag)))
titles_on (tag ∷ next ∷ tags) rest more settled =
    (λ i. cond (is_mark tag) (first_on next tags rest more settled i) [] ++ titles_on (next ∷ tags) rest more settled i)
    ∙ sym (append_assoc (cond (is_mark tag) (first_title (next ∷ tags)) []) (titles (next ∷ tags)) (titles rest))

-- a tag with this property keeps it, and a settled tag stays settled
pub no_mark_on : (tag more : List ℕ) → is_no_mark tag ≡ true → is_no_mark (tag ++ more) ≡ true
no_mark_on [] more still = absurd (cc)
no_mark_on (a ∷ []) more still = absurd (cc)
no_mark_on (a ∷ b ∷ []) more still = absurd (cc)
no_mark_on (a ∷ b ∷ c ∷ tag) more still = still

settled_on : (tag more : List ℕ) → is_settled tag ≡ true → is_settled (tag ++ more) ≡ true
settled_on tag more settled = λ i. no_mark_on tag more (unmarked tag settled) i && (ap is_some (inner_on tag more (whole tag settled)) ∙ whole tag settled) i

rests_with : (tags rest : List (List ℕ)) (more : List ℕ) → is_at_rest tags ≡ true → is_at_rest rest ≡ true → is_at_rest (onto_last tags more ++ rest) ≡ true
rests_with [] rest more settled rests = rests
rests_with (tag ∷ []) [] more settled rests = settled_on tag more settled
rests_with (tag ∷ []) (next ∷ rest) more settled rests = rests
rests_with (tag ∷ next ∷ []) rest more settled rests = rests_with (next ∷ []) rest more settled rests
rests_with (tag ∷ next ∷ third ∷ tags) rest more settled rests = rests_with (next ∷ third ∷ tags) rest more settled rests

-- markup at rest that continues with markup at rest is at rest
pub rests_on : (old more : List ℕ) → is_at_rest (tags_of old) ≡ true → is_at_rest (tags_of more) ≡ true → is_at_rest (tags_of (old ++ more)) ≡ true
rests_on old more settled rests = ap is_at_rest (tags_on old more) ∙ rests_with (tags_of old) (tags_of more) (cut more).0 settled rests

-- its lines are those of the first part and those of the second part
pub lines_on : (old more : List ℕ) → is_at_rest (tags_of old) ≡ true → lines_in (old ++ more) ≡ lines_in old ++ lines_in more
lines_on old more settled = ap titles (tags_on old more) ∙ titles_on (tags_of old) (tags_of more) (cut more).0 settled

-- bytes that are known to be two such parts are at rest
pub rests_after : (new old more : List ℕ) → new ≡ old ++ more → is_at_rest (tags_of old) ≡ true → is_at_rest (tags_of more) ≡ true → is_at_rest (tags_of new) ≡ true
rests_after new old more is settled rests = ap (λ b. is_at_rest (tags_of b)) is ∙ rests_on old more settled rests
