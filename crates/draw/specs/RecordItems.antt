-- The items of a record's picture: the accesses of its entries or the reads that writes overlapped, as far as they are shown, a line for each mark of its entries, a judge's lines, and a last line.
use Rattle.std.specs.Prelude.{ℕ, ◌+◌, List, [], ◌∷◌, ◌++◌, length, map, reverse}
use Rattle.model.specs.plain_store.{Setup}
use Rattle.model.specs.{Past}
use Rattle.judge.specs.record_file.{Said, head_words}
use Rattle.picture.specs.picture_layout.run_lines.{ended_text}
use Rattle.picture.specs.shown_verdict.{judged_text, report_lines}
use Rattle.draw.specs.Items.{Gives, Part, PartEntry, SaysEnd, end_given, given_all, marks_back, parts_texts, reads_since}
use Rattle.draw.specs.TakenStores.{taken_by}
use Rattle.draw.specs.declared.views.AccessView.{AccessView}

-- the parts of a record
abbrev pub entry_parts : Past → List Part
entry_parts = map PartEntry

-- the last line, and the verdict of a judge, if it reports one
abbrev pub record_end : AccessView → Setup → ℕ → Past → List ℕ → List Gives
record_end view s source past reported =
    end_given view.reads (source + 1) (length past) (reads_since s (entry_parts past)) reported (SaysEnd (length past) (taken_by (marks_back past)) 0)

-- the number of the line for all entries in the page's list, which comes after the headings and the opening pairs
abbrev pub source_of : Setup → ℕ
source_of s = length (head_words s) + 1

-- all items of a record, with this report of a judge
abbrev pub record_gives : AccessView → Said → List ℕ → List Gives
record_gives view said reported = given_all view said.setup (source_of said.setup) (entry_parts (reverse said.entries)) ++ record_end view said.setup (source_of said.setup) (reverse said.entries) reported

-- the lines of a record, without their ends: one for each mark of its entries, in their order, those of a judge, and a last one
abbrev pub record_lines : Said → List ℕ → List (List ℕ)
record_lines said reported = parts_texts (entry_parts (reverse said.entries)) ++ (map judged_text (report_lines reported) ++ ended_text (length (reverse said.entries)) (taken_by (marks_back (reverse said.entries))) 0 ∷ [])
