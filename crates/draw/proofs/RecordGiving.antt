-- The lines and the marks of what a record gives.
use Rattle.std.proofs.Common.{◌≡◌, ◌+◌, ℕ, List, [], ◌∷◌, ◌++◌, flat_map, length, map, reverse, refl, ap, sym, ◌∙◌, append-nil}
use Rattle.model.specs.plain_store.{Setup}
use Rattle.model.specs.{Mark, Past}
use Rattle.judge.specs.record_file.{Said}
use Rattle.picture.specs.{Item, line_contents}
use Rattle.picture.specs.picture_layout.{marks_in, marks_said}
use Rattle.draw.specs.{Says, SaysEnd, AccessView, entries_among, entry_parts, given, given_all, marks_back, marks_given, parts_texts, reads_since, record_end, record_gives, record_lines, source_of, taken_by, texts_given}
use Rattle.draw.proofs.Ending.{marks_of_end, texts_of_end}
use Rattle.draw.proofs.Giving.{marks_append, marks_of_items, texts_append}
use Rattle.draw.proofs.PartsRead.{marks_at, of_all, parts_marks, texts_at}

-- the entries among its parts are all
pub entries_of_record : (past : Past) → entries_among (entry_parts past) ≡ past
entries_of_record [] = refl
entries_of_record (e ∷ past) = ap (λ (l : Past). e ∷ l) (entries_of_record past)

-- The lines.

pub texts_of_record : (view : AccessView) (said : Said) (reported : List ℕ) → texts_given (record_gives view said reported) ≡ record_lines said reported
texts_of_record view said reported =
    let s : Setup = said.setup in
    let past : Past = reverse said.entries in
    let last : Says = SaysEnd (length past) (taken_by (marks_back past)) 0 in
    texts_append (given_all view s (source_of s) (entry_parts past)) (record_end view s (source_of s) past reported)
    ∙ (λ i. sym (of_all texts_given refl texts_append view s parts_texts (texts_at view s) (source_of s) (entry_parts past)) i
    ++ texts_of_end view.reads (source_of s + 1) (length past) (reads_since s (entry_parts past)) reported last i)

-- The marks.

marks_so_far : (past : Past) → parts_marks (entry_parts past) ≡ marks_in past
marks_so_far [] = refl
marks_so_far (e ∷ past) = ap (λ l. l ++ map {B = ℕ × Mark} (λ (mark : Mark). (e.process, mark)) e.marks) (marks_so_far past)

pub marks_of_record : (view : AccessView) (said : Said) (reported : List ℕ) (items : List Item) → given items ≡ record_gives view said reported → flat_map marks_said (line_contents items) ≡ marks_in (reverse said.entries)
marks_of_record view said reported items are =
    let s : Setup = said.setup in
    let past : Past = reverse said.entries in
    let taken : ℕ = taken_by (marks_back past) in
    sym (marks_of_items items) ∙ ap marks_given are
    ∙ marks_append (given_all view s (source_of s) (entry_parts past)) (record_end view s (source_of s) past reported)
    ∙ (λ i. (sym (of_all marks_given refl marks_append view s parts_marks (marks_at view s) (source_of s) (entry_parts past)) ∙ marks_so_far past) i
    ++ marks_of_end view.reads (source_of s + 1) (length past) (reads_since s (entry_parts past)) reported (SaysEnd (length past) taken 0) refl i)
    ∙ append-nil (marks_in past)
