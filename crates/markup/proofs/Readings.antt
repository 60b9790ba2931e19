-- Reading markup that grows.
use Rattle.std.proofs.Common.{◌≡◌, ℕ, true, List, [], ◌∷◌, ◌++◌, Result, Ok, Err, OnOk, ap, ◌∙◌, append-nil}
use Rattle.markup.specs.{Attribute, Reading, Stack, Tag, begun, entering, group, input_field, is_at_rest, is_even, is_no_mark, joined, lines_in, lowering, marking, noting, opens_in, reading, empty_element, tag_name, tags_of, text_element, with_mark, with_tags}
use Rattle.markup.proofs.KindsOfTags.{entering_opens, field_opens, lowering_opens, marking_opens, noting_opens, empty_element_opens, reporting_opens}
use Rattle.markup.proofs.Lines.{lines_on}
use Rattle.markup.proofs.Stacks.{even_same, opens_on}
use Rattle.markup.proofs.Tags.{entering_lines, entering_rests, field_lines, field_rests, lowering_lines, lowering_rests, marking_lines, marking_rests, noting_lines, noting_rests, empty_element_lines, empty_element_rests, reporting_lines, reporting_rests}

-- markup at rest continues
pub reading_on : (old more : List ℕ) → is_at_rest (tags_of old) ≡ true → reading (old ++ more) ≡ joined (reading old) (reading more)
reading_on old more rests = λ i. record { lines = lines_on old more rests i; opens = λ stack. opens_on old more stack rests i }

pub reading_after : (new old more : List ℕ) → new ≡ old ++ more → is_at_rest (tags_of old) ≡ true → reading new ≡ joined (reading old) (reading more)
reading_after new old more is rests = ap reading is ∙ reading_on old more rests

-- tags alone, which change the open elements in this way
abbrev pub tags_alone : (Stack → Stack) → Reading
tags_alone change = record { lines = []; opens = change }

-- the lines stay as they are after such tags
pub tags_after : {A E : Type 0} (r : Result A E) (new old more : Reading) (change : Stack → Stack) → OnOk r (new ≡ joined old more) → more ≡ tags_alone change → OnOk r (new ≡ with_tags change old)
tags_after (Ok done) new old more change is same = is ∙ ap (joined old) same ∙ (λ i. record { lines = append-nil old.lines i; opens = λ stack. change (old.opens stack) })
tags_after (Err e) new old more change is same = tt

-- a mark
pub mark_after : {A E : Type 0} (r : Result A E) (new old more : Reading) (line : List ℕ) → OnOk r (new ≡ joined old more) → more ≡ record { lines = line ∷ []; opens = begun group } → OnOk r (new ≡ with_mark line old)
mark_after (Ok done) new old more line is same = is ∙ ap (joined old) same
mark_after (Err e) new old more line is same = tt

-- markup grows by bytes that are known
pub grows : {A E : Type 0} (r : Result A E) (new old bytes more : List ℕ) → OnOk r (new ≡ old ++ bytes) → bytes ≡ more → OnOk r (new ≡ old ++ more)
grows (Ok done) new old bytes more is are = is ∙ ap (λ l. old ++ l) are
grows (Err e) new old bytes more is are = tt

-- bytes that are known to be a written text
module _ (bytes : List ℕ) (t : Tag) (attributes : List Attribute) where
  pub empty_element_settles : bytes ≡ empty_element t attributes → is_no_mark (tag_name t) ≡ true → is_at_rest (tags_of bytes) ≡ true
  empty_element_settles is h = ap (λ b. is_at_rest (tags_of b)) is ∙ empty_element_rests t attributes h

  pub empty_element_read : bytes ≡ empty_element t attributes → reading bytes ≡ tags_alone (λ stack. stack)
  empty_element_read is = ap reading is ∙ (λ i. record { lines = empty_element_lines t attributes i; opens = λ stack. empty_element_opens t attributes stack i })

  pub entering_settles : bytes ≡ entering t attributes → is_no_mark (tag_name t) ≡ true → is_at_rest (tags_of bytes) ≡ true
  entering_settles is h = ap (λ b. is_at_rest (tags_of b)) is ∙ entering_rests t attributes h

  pub entering_read : bytes ≡ entering t attributes → reading bytes ≡ tags_alone (begun (tag_name t))
  entering_read is = ap reading is ∙ (λ i. record { lines = entering_lines t attributes i; opens = λ stack. entering_opens t attributes stack i })

  pub reporting_settles : (text : List ℕ) → bytes ≡ text_element t attributes text → is_at_rest (tags_of bytes) ≡ true
  reporting_settles text is = ap (λ b. is_at_rest (tags_of b)) is ∙ reporting_rests t attributes text

  pub reporting_read : (text : List ℕ) → bytes ≡ text_element t attributes text → reading bytes ≡ tags_alone (λ stack. stack)
  reporting_read text is = ap reading is ∙ (λ i. record { lines = reporting_lines t attributes text i; opens = λ stack. reporting_opens t attributes text stack i })

module _ (bytes : List ℕ) (attributes : List Attribute) where
  pub field_settles : bytes ≡ input_field attributes → is_at_rest (tags_of bytes) ≡ true
  field_settles is = ap (λ b. is_at_rest (tags_of b)) is ∙ field_rests attributes

  pub field_read : bytes ≡ input_field attributes → reading bytes ≡ tags_alone (λ stack. stack)
  field_read is = ap reading is ∙ (λ i. record { lines = field_lines attributes i; opens = λ stack. field_opens attributes stack i })

  pub marking_settles : (title : List ℕ) → bytes ≡ marking attributes title → is_at_rest (tags_of bytes) ≡ true
  marking_settles title is = ap (λ b. is_at_rest (tags_of b)) is ∙ marking_rests attributes title

  pub marking_read : (title : List ℕ) → bytes ≡ marking attributes title → reading bytes ≡ record { lines = title ∷ []; opens = begun group }
  marking_read title is = ap reading is ∙ (λ i. record { lines = marking_lines attributes title i; opens = λ stack. marking_opens attributes title stack i })

module _ (bytes : List ℕ) where
  pub noting_settles : (title : List ℕ) → bytes ≡ noting title → is_at_rest (tags_of bytes) ≡ true
  noting_settles title is = ap (λ b. is_at_rest (tags_of b)) is ∙ noting_rests title

  pub noting_read : (title : List ℕ) → bytes ≡ noting title → reading bytes ≡ tags_alone (begun group)
  noting_read title is = ap reading is ∙ (λ i. record { lines = noting_lines title i; opens = λ stack. noting_opens title stack i })

  pub lowering_settles : (by : ℕ) → bytes ≡ lowering by → is_at_rest (tags_of bytes) ≡ true
  lowering_settles by is = ap (λ b. is_at_rest (tags_of b)) is ∙ lowering_rests by

  pub lowering_read : (by : ℕ) → bytes ≡ lowering by → reading bytes ≡ tags_alone (begun group)
  lowering_read by is = ap reading is ∙ (λ i. record { lines = lowering_lines by i; opens = λ stack. lowering_opens by stack i })

  -- constants
  pub even_read : lines_in bytes ≡ [] → is_even bytes ≡ true → reading bytes ≡ tags_alone (λ stack. stack)
  even_read none even = λ i. record { lines = none i; opens = λ stack. even_same bytes even stack i }

  pub frame_read : lines_in bytes ≡ [] → reading bytes ≡ tags_alone (opens_in bytes)
  frame_read none = λ i. record { lines = none i; opens = opens_in bytes }
