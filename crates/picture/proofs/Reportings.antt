-- The lines of marks, one after the other.
use Rattle.std.proofs.Common.{◌≡◌, ℕ, ◌+◌, ◌<◌, false, Result, Ok, Err, OnOk, List, [], ◌∷◌, ◌++◌, flat_map, length, take, get_or, refl, ap, sym, ◌∙◌, append-nil, append_assoc}
use Rattle.std.proofs.lemmas.Grind.{flat_map-append}
use Rattle.std.proofs.lemmas.List.{map-append, take_more}
use Rattle.markup.specs.{Reading, Stack, group, is_among, lines_in, reading, text_names, with_begun, with_ended, with_lines, with_mark}
use Rattle.markup.proofs.Stacks.{round}
use Rattle.picture_layout.specs.{Column, RunLine, text_of, texts, reported_in}

-- no line yet
pub none_more : (new : Reading) (old : List ℕ) → new ≡ reading old → new ≡ with_lines [] (reading old)
none_more new old is = is ∙ (λ i. record { lines = sym (append-nil (lines_in old)) i; opens = (reading old).opens })

-- a mark that begins and ends
pub mark_ended : (now new : Reading) (line : List ℕ) → new ≡ with_ended group (with_mark line now) → new ≡ with_lines (line ∷ []) now
mark_ended now new line is = is ∙ (λ i. record { lines = now.lines ++ line ∷ []; opens = λ stack. round group (now.opens stack) refl i })

-- the same, where it ends last
pub then_ends : {A E : Type 0} (r : Result A E) (old now new : Reading) (line : List ℕ) → OnOk r (new ≡ with_ended group now) → now ≡ with_mark line old → OnOk r (new ≡ with_lines (line ∷ []) old)
then_ends (Ok done) old now new line is begun = mark_ended old new line (is ∙ ap (with_ended group) begun)
then_ends (Err e) old now new line is begun = tt

-- a group that is no mark
pub group_ended : (old : List ℕ) → with_ended group (with_begun group (reading old)) ≡ reading old
group_ended old = λ i. record { lines = lines_in old; opens = λ stack. round group ((reading old).opens stack) refl i }

-- the last of some calls
pub then_same : {A E : Type 0} (r : Result A E) (new now then : Reading) → OnOk r (new ≡ now) → now ≡ then → OnOk r (new ≡ then)
then_same (Ok done) new now then is same = is ∙ same
then_same (Err e) new now then is same = tt

-- some lines, and then others
pub lines_more : (old now new : Reading) (some more all : List (List ℕ)) → now ≡ with_lines some old → new ≡ with_lines more now → all ≡ some ++ more → new ≡ with_lines all old
lines_more old now new some more all before is are =
    is ∙ ap (with_lines more) before ∙ (λ i. record { lines = append_assoc old.lines some more i; opens = old.opens }) ∙ ap (λ l. with_lines l old) (sym are)

-- a line more
pub line_more : (old now new : Reading) (lines : List RunLine) (k : ℕ) (line : RunLine) → k < length lines → line ≡ get_or lines k line → now ≡ with_lines (texts (take k lines)) old → new ≡ with_lines (text_of line ∷ []) now → new ≡ with_lines (texts (take (k + 1) lines)) old
line_more old now new lines k line within here before is =
    lines_more old now new (texts (take k lines)) (text_of line ∷ []) (texts (take (k + 1) lines)) before is
    (ap texts (take_more lines k line within) ∙ map-append text_of (take k lines) (get_or lines k line ∷ []) ∙ ap (λ (last : RunLine). texts (take k lines) ++ text_of last ∷ []) (sym here))

-- the lines of a column more
pub column_more : (old now new : Reading) (columns : List Column) (k : ℕ) (column : Column) → k < length columns → column ≡ get_or columns k column → now ≡ with_lines (flat_map reported_in (take k columns)) old → new ≡ with_lines (reported_in column) now →
    new ≡ with_lines (flat_map reported_in (take (k + 1) columns)) old
column_more old now new columns k column within here before is =
    lines_more old now new (flat_map reported_in (take k columns)) (reported_in column) (flat_map reported_in (take (k + 1) columns)) before is
    (ap (flat_map reported_in) (take_more columns k column within) ∙ flat_map-append reported_in (take k columns) (get_or columns k column ∷ []) ∙ ap (λ l. flat_map reported_in (take k columns) ++ l) (append-nil (reported_in (get_or columns k column)))
    ∙ ap (λ (last : Column). flat_map reported_in (take k columns) ++ reported_in last) (sym here))

-- a band in its frame
module _ (name : List ℕ) (new drawn begun : Reading) (old : List ℕ) (lines : List (List ℕ)) (ended : new ≡ with_ended name drawn) (are : drawn ≡ with_lines lines begun) (is : begun ≡ with_begun name (reading old)) (none : old ≡ []) where
  framed : new ≡ with_ended name (with_lines lines (with_begun name (reading [])))
  framed = ended ∙ ap (with_ended name) (are ∙ ap (with_lines lines) (is ∙ ap (λ bytes. with_begun name (reading bytes)) none))

  pub framed_lines : new.lines ≡ lines
  framed_lines = ap (λ (r : Reading). r.lines) framed

  pub framed_ends : is_among text_names name ≡ false → (stack : Stack) → new.opens stack ≡ stack
  framed_ends other stack = ap (λ (r : Reading). r.opens stack) framed ∙ round name stack other
