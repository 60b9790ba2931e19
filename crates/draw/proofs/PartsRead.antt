-- The lines and the marks of what parts give.
use Rattle.std.proofs.Common.{◌≡◌, ℕ, List, [], ◌∷◌, ◌++◌, flat_map, length, map, refl, ap, sym, subst, ◌∙◌, append-nil, append_assoc}
use Rattle.model.specs.plain_store.{Setup}
use Rattle.model.specs.{Mark, Past}
use Rattle.picture.specs.picture_layout.{OverlappedRead}
use Rattle.picture.specs.picture_layout.run_lines.{marked_text}
use Rattle.draw.specs.{Gives, Part, PartEntry, PartLine, AccessView, entries_among, given_access_of, given_all, given_last, given_of, lines_given, marks_back, marks_given, marks_says, overlapped_by, parts_texts, reads_since, Says, says_marks, says_text, texts_given}
use Rattle.draw.proofs.AccessItems.{no_marks, no_texts}
use Rattle.draw.proofs.Giving.{marks_append, marks_of_lines, marks_of_says, texts_append, texts_of_lines}

-- What is read of what is given, part by part.
module _ {A : Type 0} (of : List Gives → List A) (none : of [] ≡ []) (both : (gives more : List Gives) → of (gives ++ more) ≡ of gives ++ of more) (view : AccessView) (s : Setup) (so_far : List Part → List A)
    (at : (n : ℕ) (before : List Part) (part : Part) → so_far (part ∷ before) ≡ so_far before ++ of (given_of view s n before part)) where
  pub of_none : (xs : List A) → xs ≡ xs ++ of []
  of_none xs = sym (append-nil xs) ∙ ap (λ l. xs ++ l) (sym none)

  pub of_more : (xs ys zs : List A) (gives more : List Gives) → ys ≡ xs ++ of gives → zs ≡ ys ++ of more → zs ≡ xs ++ of (gives ++ more)
  of_more xs ys zs gives more one two = two ∙ ap (λ l. l ++ of more) one ∙ append_assoc xs (of gives) (of more) ∙ ap (λ l. xs ++ l) (sym (both gives more))

  -- of the last parts
  pub of_last : (n : ℕ) (more before : List Part) → so_far (more ++ before) ≡ so_far before ++ of (given_last view s n (length more) (more ++ before))
  of_last n [] before = of_none (so_far before)
  of_last n (part ∷ more) before = of_more (so_far before) (so_far (more ++ before)) (so_far (part ∷ more ++ before)) (given_last view s n (length more) (more ++ before)) (given_of view s n (more ++ before) part) (of_last n more before) (at n (more ++ before) part)

  -- of all parts
  pub of_all : (n : ℕ) (parts : List Part) → so_far parts ≡ so_far [] ++ of (given_all view s n parts)
  of_all n parts = subst (λ (l : List Part). so_far l ≡ so_far [] ++ of (given_last view s n (length parts) l)) (append-nil parts) (of_last n parts [])

-- The lines.

texts_of_marks : (s : Setup) (at p : ℕ) (before : List (ℕ × Mark)) (marks : List Mark) → map (says_text at) (says_marks s p before marks) ≡ map (marked_text at p) marks
texts_of_marks s at p before [] = refl
texts_of_marks s at p before (m ∷ marks) = ap (λ l. marked_text at p m ∷ l) (texts_of_marks s at p ((p, m) ∷ before) marks)

pub texts_at : (view : AccessView) (s : Setup) (n : ℕ) (before : List Part) (part : Part) → parts_texts (part ∷ before) ≡ parts_texts before ++ texts_given (given_of view s n before part)
texts_at view s n before (PartEntry e) =
    let past : Past = entries_among before in
    let reads : List OverlappedRead = reads_since s before ++ overlapped_by s past e in
    let lines : List Says = says_marks s e.process (marks_back past) e.marks in
    ap (λ l. parts_texts before ++ l) (sym (texts_append (given_access_of view.reads view.limit s past e) (lines_given view.reads n (length past) reads lines)
    ∙ (λ i. no_texts view.reads view.limit s past e i ++ (texts_of_lines view.reads n (length past) reads lines ∙ texts_of_marks s (length past) e.process (marks_back past) e.marks) i)))
texts_at view s n before (PartLine says) = ap (λ l. parts_texts before ++ l) (sym (texts_of_lines view.reads n (length (entries_among before)) (reads_since s before) (says ∷ [])))

-- The marks.

abbrev pub part_marks : Part → List (ℕ × Mark)
part_marks (PartEntry e) = map {B = ℕ × Mark} (λ (mark : Mark). (e.process, mark)) e.marks
part_marks (PartLine says) = flat_map marks_says (says ∷ [])

abbrev pub parts_marks : List Part → List (ℕ × Mark)
parts_marks [] = []
parts_marks (part ∷ before) = parts_marks before ++ part_marks part

pub marks_at : (view : AccessView) (s : Setup) (n : ℕ) (before : List Part) (part : Part) → parts_marks (part ∷ before) ≡ parts_marks before ++ marks_given (given_of view s n before part)
marks_at view s n before (PartEntry e) =
    let past : Past = entries_among before in
    let reads : List OverlappedRead = reads_since s before ++ overlapped_by s past e in
    let lines : List Says = says_marks s e.process (marks_back past) e.marks in
    ap (λ l. parts_marks before ++ l) (sym (marks_append (given_access_of view.reads view.limit s past e) (lines_given view.reads n (length past) reads lines)
    ∙ (λ i. no_marks view.reads view.limit s past e i ++ (marks_of_lines view.reads n (length past) reads lines ∙ marks_of_says s e.process (marks_back past) e.marks) i)))
marks_at view s n before (PartLine says) = ap (λ l. parts_marks before ++ l) (sym (marks_of_lines view.reads n (length (entries_among before)) (reads_since s before) (says ∷ [])))
