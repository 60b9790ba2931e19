-- The lines and the marks of what a run gives: the text of the run, and the marks of its record.
use Rattle.std.proofs.Common.{◌≡◌, ℕ, suc, ◌+◌, ◌-◌, List, [], ◌∷◌, ◌++◌, flat_map, length, map, Option, None, Some, refl, ap, sym, ◌∙◌, append-nil, append_assoc, arith}
use Rattle.std.proofs.lemmas.Grind.{flat_map-append}
use Rattle.std.proofs.lemmas.List.{length-append}
use Rattle.model.specs.plain_store.{Setup}
use Rattle.model.specs.{Entry, Mark, Past, Refusal, added, entry_of, process_of, refused}
use Rattle.model.specs.declared.refusals.Refusal.TheVariants.{NoProcess}
use Rattle.scenario.specs.{Line, Script}
use Rattle.scenario_run.specs.{Happening, Lacks, Looks, Run, Tires, Tries, end_line, entry_text, happenings, mark_line, newest_store, newest_words, past_after, refused_line, replayed, run_after, run_at_start, runs, summary_of, text_at, text_of}
use Rattle.scenario_run.specs.run_lines.{marked_text, refused_text, shown_text, tired_text, with_end}
use Rattle.scenario_run.proofs.Grows.{Grows, line_grows}
use Rattle.picture.specs.{Accesses, Item, Judges, Reads, Reports, line_contents, seen_verdict, verdict_titles}
use Rattle.picture.specs.picture_layout.{given_access, marks_in, marks_said}
use Rattle.draw.specs.{Gives, GivesAccess, GivesLine, GivesRead, GivesVerdict, Part, AccessView, ended_lines, entries_among, first_line, given, given_at_end, given_by, given_from, given_last, given_of, lines_reported, marks_given, part_of_event, parts_at, parts_of, parts_texts, reads_since, run_given, says_end, says_of, texts_given}
use Rattle.draw.proofs.Giving.{marks_append, marks_of_items, marks_of_lines, text_of_content, texts_append, texts_of_lines}
use Rattle.draw.proofs.PartsRead.{marks_at, of_last, of_more, of_none, parts_marks, texts_at}

-- The parts of a run.

-- their entries are its record
entries_of_event : (p : ℕ) (o : Option Refusal) (e : Option Entry) (parts : List Part) (past : Past) → entries_among parts ≡ past → entries_among (part_of_event p o e ++ parts) ≡ elim e as (λ _. Past) [ None ↦ past | Some e ↦ e ∷ past ]
entries_of_event p o (Some e) parts past are = ap (λ (l : Past). e ∷ l) are
entries_of_event p (Some r) None parts past are = are
entries_of_event p None None parts past are = are

pub entries_of_run : (s : Setup) (happened : List Happening) → entries_among (parts_of s happened) ≡ past_after s happened
entries_of_run s [] = refl
entries_of_run s (Tries event ∷ before) = entries_of_event (process_of event) (refused s (past_after s before) event) (entry_of s (past_after s before) event) (parts_of s before) (past_after s before) (entries_of_run s before)
entries_of_run s (Lacks p ∷ before) = entries_of_run s before
entries_of_run s (Tires p ∷ before) = entries_of_run s before
entries_of_run s (Looks ∷ before) = entries_of_run s before

-- they grow with what happens
parts_more : (s : Setup) (more before : List Happening) → (parts : List Part) × (parts_of s (more ++ before) ≡ parts ++ parts_of s before)
parts_more s [] before = ([], refl)
parts_more s (this ∷ more) before =
    let rest = parts_more s more before in
    let here : List Part = parts_at s (past_after s (more ++ before)) this in (here ++ rest.0, ap (λ l. here ++ l) rest.1 ∙ sym (append_assoc here rest.0 (parts_of s before)))

-- What is read of what lines of a scenario give.
module _ {A : Type 0} (of : List Gives → List A) (none : of [] ≡ []) (both : (gives more : List Gives) → of (gives ++ more) ≡ of gives ++ of more) (view : AccessView) (s : Setup) (so_far : List Part → List A)
    (at : (n : ℕ) (before : List Part) (part : Part) → so_far (part ∷ before) ≡ so_far before ++ of (given_of view s n before part)) where
  of_line : (n : ℕ) (before after : List Happening) → Grows before after → so_far (parts_of s after) ≡ so_far (parts_of s before) ++ of (given_from view s n (parts_of s before) (parts_of s after))
  of_line n before after grows =
      let more = parts_more s grows.more before in
      let is : parts_of s after ≡ more.0 ++ parts_of s before = ap (parts_of s) grows.is ∙ more.1 in
      let all : length (parts_of s after) ≡ length more.0 + length (parts_of s before) = ap length is ∙ length-append more.0 (parts_of s before) in
      let many : length more.0 ≡ length (parts_of s after) - length (parts_of s before) = omega (arith, all) in
      ap so_far is ∙ of_last of none both view s so_far at n more.0 (parts_of s before) ∙ (λ i. so_far (parts_of s before) ++ of (given_last view s n (many i) (sym is i)))

  pub of_lines : (n : ℕ) (lines : List Line) (run : Run) → so_far (parts_of s (runs s lines run).happened) ≡ so_far (parts_of s run.happened) ++ of (given_by view s n lines run)
  of_lines n [] run = of_none of none both view s so_far at (so_far (parts_of s run.happened))
  of_lines n (line ∷ lines) run =
      let after : Run = run_after s line run in
      of_more of none both view s so_far at (so_far (parts_of s run.happened)) (so_far (parts_of s after.happened)) (so_far (parts_of s (runs s lines after).happened)) (given_from view s n (parts_of s run.happened) (parts_of s after.happened)) (given_by view s (suc n) lines after)
      (of_line n run.happened after.happened (line_grows s line run)) (of_lines (suc n) lines after)

-- The lines.

ended_append : (xs ys : List (List ℕ)) → ended_lines (xs ++ ys) ≡ ended_lines xs ++ ended_lines ys
ended_append xs ys = flat_map-append with_end xs ys

ended_marks : (n p : ℕ) (marks : List Mark) → ended_lines (map (marked_text n p) marks) ≡ flat_map (mark_line n p) marks
ended_marks n p [] = refl
ended_marks n p (m ∷ marks) = ap (λ l. mark_line n p m ++ l) (ended_marks n p marks)

-- the text of parts with one more
module _ (parts : List Part) (past : Past) (are : entries_among parts ≡ past) where
  abbrev so_far : List ℕ
  so_far = ended_lines (parts_texts parts)

  text_of_line : (text : List ℕ) → ended_lines (parts_texts parts ++ text ∷ []) ≡ so_far ++ with_end text
  text_of_line text = ended_append (parts_texts parts) (text ∷ []) ∙ ap (λ l. so_far ++ l) (append-nil (with_end text))

  text_of_event : (p : ℕ) (o : Option Refusal) (e : Option Entry) →
      ended_lines (parts_texts (part_of_event p o (elim o as (λ _. Option Entry) [ Some r ↦ None | None ↦ e ]) ++ parts))
      ≡ so_far ++ elim o as (λ _. List ℕ) [ Some r ↦ refused_line p r | None ↦ elim e as (λ _. List ℕ) [ None ↦ [] | Some e ↦ entry_text (length past) e ] ]
  text_of_event p (Some r) e = text_of_line (refused_text p r)
  text_of_event p None None = sym (append-nil so_far)
  text_of_event p None (Some e) =
      ended_append (parts_texts parts) (map (marked_text (length (entries_among parts)) e.process) e.marks)
      ∙ ap (λ l. so_far ++ l) (ended_marks (length (entries_among parts)) e.process e.marks ∙ ap (λ (l : Past). entry_text (length l) e) are)

  text_more : (s : Setup) (this : Happening) → ended_lines (parts_texts (parts_at s past this ++ parts)) ≡ so_far ++ text_at s past this
  text_more s (Tries event) = text_of_event (process_of event) (refused s past event) (added s past event)
  text_more s (Lacks p) = text_of_line (refused_text p NoProcess)
  text_more s (Tires p) = text_of_line (tired_text p)
  text_more s Looks = text_of_line (shown_text (newest_words (newest_store s past)))

text_so_far : (s : Setup) (happened : List Happening) → ended_lines (parts_texts (parts_of s happened)) ≡ text_of s happened
text_so_far s [] = refl
text_so_far s (this ∷ before) = text_more (parts_of s before) (past_after s before) (entries_of_run s before) s this ∙ ap (λ l. l ++ text_at s (past_after s before) this) (text_so_far s before)

-- of a whole run
pub text_of_run : (view : AccessView) (said : Script) → ended_lines (texts_given (run_given view said)) ≡ replayed said
text_of_run view said =
    let s : Setup = said.setup in
    let all : List Happening = happenings said in
    let front : List Gives = given_by view s (first_line s) said.lines run_at_start in
    ap ended_lines (texts_append front (given_at_end view s (first_line s + length said.lines) all)) ∙ ended_append (texts_given front) (texts_given (given_at_end view s (first_line s + length said.lines) all))
    ∙ (λ i. (ap ended_lines (sym (of_lines texts_given refl texts_append view s parts_texts (texts_at view s) (first_line s) said.lines run_at_start)) ∙ text_so_far s all) i
    ++ (ap ended_lines (texts_of_lines view.reads (first_line s + length said.lines) (length (past_after s all)) (reads_since s (parts_of s all)) (says_end (summary_of s all) ∷ [])) ∙ append-nil (end_line (summary_of s all))) i)

-- the lines among items
texts_of_items : (items : List Item) → lines_reported items ≡ texts_given (given items)
texts_of_items [] = refl
texts_of_items (Reports line ∷ before) =
    (λ i. texts_of_items before i ++ sym (text_of_content line.at line.line_content) i ∷ []) ∙ sym (texts_append (given before) (GivesLine line.source line.at (says_of line.line_content) ∷ []))
texts_of_items (Reads read ∷ before) = texts_of_items before ∙ sym (append-nil (texts_given (given before))) ∙ sym (texts_append (given before) (GivesRead read ∷ []))
texts_of_items (Judges at verdict ∷ before) =
    (λ i. texts_of_items before i ++ sym (append-nil (verdict_titles (seen_verdict verdict))) i) ∙ sym (texts_append (given before) (GivesVerdict at (seen_verdict verdict) ∷ []))
texts_of_items (Accesses access ∷ before) = texts_of_items before ∙ sym (append-nil (texts_given (given before))) ∙ sym (texts_append (given before) (GivesAccess (given_access access) ∷ []))

pub lines_of_run : (view : AccessView) (said : Script) (items : List Item) → given items ≡ run_given view said → ended_lines (lines_reported items) ≡ replayed said
lines_of_run view said items are = ap ended_lines (texts_of_items items ∙ ap texts_given are) ∙ text_of_run view said

-- The marks.

marks_of_event : (parts : List Part) (past : Past) → parts_marks parts ≡ marks_in past → (p : ℕ) (o : Option Refusal) (e : Option Entry) → parts_marks (part_of_event p o e ++ parts) ≡ marks_in (elim e as (λ _. Past) [ None ↦ past | Some e ↦ e ∷ past ])
marks_of_event parts past are p o (Some e) = ap (λ l. l ++ map {B = ℕ × Mark} (λ (mark : Mark). (e.process, mark)) e.marks) are
marks_of_event parts past are p (Some r) None = append-nil (parts_marks parts) ∙ are
marks_of_event parts past are p None None = are

marks_so_far : (s : Setup) (happened : List Happening) → parts_marks (parts_of s happened) ≡ marks_in (past_after s happened)
marks_so_far s [] = refl
marks_so_far s (Tries event ∷ before) = marks_of_event (parts_of s before) (past_after s before) (marks_so_far s before) (process_of event) (refused s (past_after s before) event) (entry_of s (past_after s before) event)
marks_so_far s (Lacks p ∷ before) = append-nil (parts_marks (parts_of s before)) ∙ marks_so_far s before
marks_so_far s (Tires p ∷ before) = append-nil (parts_marks (parts_of s before)) ∙ marks_so_far s before
marks_so_far s (Looks ∷ before) = append-nil (parts_marks (parts_of s before)) ∙ marks_so_far s before

pub marks_of_run : (view : AccessView) (said : Script) (items : List Item) → given items ≡ run_given view said → flat_map marks_said (line_contents items) ≡ marks_in (past_after said.setup (happenings said))
marks_of_run view said items are =
    let s : Setup = said.setup in
    let all : List Happening = happenings said in
    let front : List Gives = given_by view s (first_line s) said.lines run_at_start in
    sym (marks_of_items items) ∙ ap marks_given are ∙ marks_append front (given_at_end view s (first_line s + length said.lines) all)
    ∙ ap (λ l. marks_given front ++ l) (marks_of_lines view.reads (first_line s + length said.lines) (length (past_after s all)) (reads_since s (parts_of s all)) (says_end (summary_of s all) ∷ [])) ∙ append-nil (marks_given front)
    ∙ sym (of_lines marks_given refl marks_append view s parts_marks (marks_at view s) (first_line s) said.lines run_at_start) ∙ marks_so_far s all
