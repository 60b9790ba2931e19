-- The items of a picture, read back: its lines, their texts and their marks, and the reads that come before them.
use Rattle.std.proofs.Common.{◌≡◌, ◌<◌, ℕ, ◌+◌, ◌&&◌, Bool, true, List, [], ◌∷◌, ◌++◌, flat_map, get_or, length, map, take, refl, ap, sym, ◌∙◌, append-nil, append_assoc}
use Rattle.std.proofs.lemmas.Grind.{flat_map-append}
use Rattle.std.proofs.lemmas.List.{map-append, take_more}
use Rattle.picture.specs.{Accesses, Item, Judges, Reads, Reports, Window, all_entries, lines_if, line_contents, seen_verdict, shows_entry, shows_said}
use Rattle.std.proofs.Math.Dec.{leb-zero}
use Rattle.picture.specs.picture_layout.{OverlappedRead, LineContent, given_access, marks_said, content_text}
use Rattle.picture.specs.picture_layout.declared.line_contents.LineContent.TheVariants.{Marked, Refused, Tired, Shown as ShowsStore, Ended, LockMarked, LockEnded}
use Rattle.picture.specs.declared.reads.Reads.{Reads as Mode}
use Rattle.picture.specs.declared.reads.Reads.TheVariants.{All, Hidden, Shown}
use Rattle.model.specs.plain_store.{Setup}
use Rattle.model.specs.{Mark}
use Rattle.draw.specs.{Gives, GivesAccess, GivesLine, GivesRead, GivesVerdict, Says, SaysEnd, SaysLockEnd, SaysLockMark, SaysMark, SaysRefusal, SaysStore, SaysTired, given, lines_given, mark_given, marks_after, marks_given, marks_says, says_marks, says_of, says_text, shown_of, shows_says, text_given, text_shown, texts_given, texts_shown, waiting}

-- one more element of a list under a map
pub map_next : {A : Type 0} {B : Type 0} (f : A → B) (xs : List A) (k : ℕ) (d : A) → k < length xs → map f (take (k + 1) xs) ≡ map f (take k xs) ++ f (get_or xs k d) ∷ []
map_next f xs k d within = ap (map f) (take_more xs k d within) ∙ map-append f (take k xs) (get_or xs k d ∷ [])

-- if there are no reads, none is shown
shown_none : (mode : Mode) → shown_of mode [] ≡ []
shown_none Hidden = refl
shown_none Shown = refl
shown_none All = refl

-- reads wait as long as there is no line
waiting_none : {A : Type 0} (lines : List A) → waiting lines [] ≡ []
waiting_none [] = refl
waiting_none (line ∷ lines) = refl

pub waiting_append : {A : Type 0} (lines more : List A) (reads : List OverlappedRead) → waiting (lines ++ more) reads ≡ waiting more (waiting lines reads)
waiting_append [] more reads = refl
waiting_append (line ∷ lines) more reads = sym (waiting_none more)

-- lines, and then more
module _ (mode : Mode) (source at : ℕ) where
  of_none : (more : List Says) → map (GivesLine source at) more ≡ lines_given mode source at [] more
  of_none [] = refl
  of_none (line ∷ more) = ap (λ (l : List OverlappedRead). map GivesRead l ++ map (GivesLine source at) (line ∷ more)) (sym (shown_none mode))

  pub lines_append : (reads : List OverlappedRead) (lines more : List Says) → lines_given mode source at reads (lines ++ more) ≡ lines_given mode source at reads lines ++ lines_given mode source at (waiting lines reads) more
  lines_append reads [] more = refl
  lines_append reads (line ∷ lines) more =
      let before : List Gives = map GivesRead (shown_of mode reads) in
      let first : List Gives = map (GivesLine source at) (line ∷ lines) in
      ap (λ l. before ++ l) (map-append (GivesLine source at) (line ∷ lines) more) ∙ sym (append_assoc before first (map (GivesLine source at) more)) ∙ ap (λ l. (before ++ first) ++ l) (of_none more)

-- items, and then other items, which come before them in a list
given_append : (more items : List Item) → given (more ++ items) ≡ given items ++ given more
given_append [] items = sym (append-nil (given items))
given_append (Reports line ∷ more) items = ap (λ l. l ++ GivesLine line.source line.at (says_of line.line_content) ∷ []) (given_append more items) ∙ append_assoc (given items) (given more) (GivesLine line.source line.at (says_of line.line_content) ∷ [])
given_append (Reads read ∷ more) items = ap (λ l. l ++ GivesRead read ∷ []) (given_append more items) ∙ append_assoc (given items) (given more) (GivesRead read ∷ [])
given_append (Judges at verdict ∷ more) items =
    ap (λ l. l ++ GivesVerdict at (seen_verdict verdict) ∷ []) (given_append more items) ∙ append_assoc (given items) (given more) (GivesVerdict at (seen_verdict verdict) ∷ [])
given_append (Accesses access ∷ more) items =
    ap (λ l. l ++ GivesAccess (given_access access) ∷ []) (given_append more items) ∙ append_assoc (given items) (given more) (GivesAccess (given_access access) ∷ [])

pub both_given : (more items : List Item) (gives then : List Gives) → given items ≡ gives → given more ≡ then → given (more ++ items) ≡ gives ++ then
both_given more items gives then is next = given_append more items ∙ (λ i. is i ++ next i)

-- The lines.

pub texts_append : (gives more : List Gives) → texts_given (gives ++ more) ≡ texts_given gives ++ texts_given more
texts_append gives more = flat_map-append text_given gives more

pub text_of_content : (at : ℕ) (line_content : LineContent) → says_text at (says_of line_content) ≡ content_text at line_content
text_of_content at (Marked p mark change) = refl
text_of_content at (Refused p refusal) = refl
text_of_content at (Tired p) = refl
text_of_content at (ShowsStore words) = refl
text_of_content at (Ended events taken refused) = refl
text_of_content at (LockMarked p mark) = refl
text_of_content at (LockEnded entries) = refl

pub texts_of_reads : (reads : List OverlappedRead) → texts_given (map GivesRead reads) ≡ []
texts_of_reads [] = refl
texts_of_reads (read ∷ reads) = texts_of_reads reads

pub texts_of_lines : (mode : Mode) (source at : ℕ) (reads : List OverlappedRead) (lines : List Says) → texts_given (lines_given mode source at reads lines) ≡ map (says_text at) lines
texts_of_lines mode source at reads [] = refl
texts_of_lines mode source at reads (line ∷ lines) =
    texts_append (map GivesRead (shown_of mode reads)) (map (GivesLine source at) (line ∷ lines)) ∙ (λ i. texts_of_reads (shown_of mode reads) i ++ each (line ∷ lines) i)
  where
    each : (lines : List Says) → texts_given (map (GivesLine source at) lines) ≡ map (says_text at) lines
    each [] = refl
    each (line ∷ lines) = ap (λ l. says_text at line ∷ l) (each lines)

-- The lines in a window.

module _ (w : Window) where
  pub shown_append : (gives more : List Gives) → texts_shown w (gives ++ more) ≡ texts_shown w gives ++ texts_shown w more
  shown_append gives more = flat_map-append (text_shown w) gives more

  -- a line is shown by what it says
  pub shows_saying : (at : ℕ) (line_content : LineContent) → shows_says w at (says_of line_content) ≡ shows_said w at line_content
  shows_saying at (Marked p mark change) = refl
  shows_saying at (Refused p refusal) = refl
  shows_saying at (Tired p) = refl
  shows_saying at (ShowsStore words) = refl
  shows_saying at (Ended events taken refused) = refl
  shows_saying at (LockMarked p mark) = refl
  shows_saying at (LockEnded entries) = refl

  pub shown_of_reads : (reads : List OverlappedRead) → texts_shown w (map GivesRead reads) ≡ []
  shown_of_reads [] = refl
  shown_of_reads (read ∷ reads) = shown_of_reads reads

-- the window of all entries shows all lines
all_entry : (n : ℕ) → shows_entry all_entries n ≡ true
all_entry n = ap (λ (b : Bool). b && true) (leb-zero n)

all_says : (at : ℕ) (says : Says) → shows_says all_entries at says ≡ true
all_says at (SaysMark p mark change) = all_entry at
all_says at (SaysRefusal p refusal) = all_entry at
all_says at (SaysTired p) = all_entry at
all_says at (SaysStore words) = all_entry at
all_says at (SaysEnd events taken refused) = refl
all_says at (SaysLockMark p mark) = all_entry at
all_says at (SaysLockEnd entries) = refl

one_shown : (give : Gives) → text_shown all_entries give ≡ text_given give
one_shown (GivesLine source at says) = ap (λ b. lines_if b (says_text at says ∷ [])) (all_says at says)
one_shown (GivesRead read) = refl
one_shown (GivesAccess access) = refl
one_shown (GivesVerdict at verdict) = refl

pub shown_all : (gives : List Gives) → texts_shown all_entries gives ≡ texts_given gives
shown_all [] = refl
shown_all (give ∷ gives) = λ i. one_shown give i ++ shown_all gives i

pub shown_in : (w : Window) (gives : List Gives) → w ≡ all_entries → texts_shown w gives ≡ texts_given gives
shown_in w gives all = ap (λ (w : Window). texts_shown w gives) all ∙ shown_all gives

-- The marks.

pub marks_append : (gives more : List Gives) → marks_given (gives ++ more) ≡ marks_given gives ++ marks_given more
marks_append gives more = flat_map-append mark_given gives more

marks_of_content : (line_content : LineContent) → marks_says (says_of line_content) ≡ marks_said line_content
marks_of_content (Marked p mark change) = refl
marks_of_content (Refused p refusal) = refl
marks_of_content (Tired p) = refl
marks_of_content (ShowsStore words) = refl
marks_of_content (Ended events taken refused) = refl
marks_of_content (LockMarked p mark) = refl
marks_of_content (LockEnded entries) = refl

pub marks_of_items : (items : List Item) → marks_given (given items) ≡ flat_map marks_said (line_contents items)
marks_of_items [] = refl
marks_of_items (Reports line ∷ before) =
    marks_append (given before) (GivesLine line.source line.at (says_of line.line_content) ∷ [])
    ∙ (λ i. marks_of_items before i ++ (ap (λ l. l ++ []) (marks_of_content line.line_content)) i)
    ∙ sym (flat_map-append marks_said (line_contents before) (line.line_content ∷ []))
marks_of_items (Reads read ∷ before) = marks_append (given before) (GivesRead read ∷ []) ∙ append-nil (marks_given (given before)) ∙ marks_of_items before
marks_of_items (Judges at verdict ∷ before) = marks_append (given before) (GivesVerdict at (seen_verdict verdict) ∷ []) ∙ append-nil (marks_given (given before)) ∙ marks_of_items before
marks_of_items (Accesses access ∷ before) = marks_append (given before) (GivesAccess (given_access access) ∷ []) ∙ append-nil (marks_given (given before)) ∙ marks_of_items before

pub marks_of_reads : (reads : List OverlappedRead) → marks_given (map GivesRead reads) ≡ []
marks_of_reads [] = refl
marks_of_reads (read ∷ reads) = marks_of_reads reads

pub marks_of_lines : (mode : Mode) (source at : ℕ) (reads : List OverlappedRead) (lines : List Says) → marks_given (lines_given mode source at reads lines) ≡ flat_map marks_says lines
marks_of_lines mode source at reads [] = refl
marks_of_lines mode source at reads (line ∷ lines) =
    marks_append (map GivesRead (shown_of mode reads)) (map (GivesLine source at) (line ∷ lines)) ∙ (λ i. marks_of_reads (shown_of mode reads) i ++ each (line ∷ lines) i)
  where
    each : (lines : List Says) → marks_given (map (GivesLine source at) lines) ≡ flat_map marks_says lines
    each [] = refl
    each (line ∷ lines) = ap (λ l. marks_says line ++ l) (each lines)

-- What the marks of an entry say.

pub marks_after_append : (p : ℕ) (marks more : List Mark) (before : List (ℕ × Mark)) → marks_after p (marks ++ more) before ≡ marks_after p more (marks_after p marks before)
marks_after_append p [] more before = refl
marks_after_append p (m ∷ marks) more before = marks_after_append p marks more ((p, m) ∷ before)

pub says_append : (s : Setup) (p : ℕ) (before : List (ℕ × Mark)) (marks more : List Mark) → says_marks s p before (marks ++ more) ≡ says_marks s p before marks ++ says_marks s p (marks_after p marks before) more
says_append s p before [] more = refl
says_append s p before (m ∷ marks) more = ap (λ l. says_marks s p before (m ∷ []) ++ l) (says_append s p ((p, m) ∷ before) marks more)

-- reads wait as long as there is no mark, and so no line
pub waiting_says : (s : Setup) (p : ℕ) (before : List (ℕ × Mark)) (marks : List Mark) (reads : List OverlappedRead) → waiting (says_marks s p before marks) reads ≡ waiting marks reads
waiting_says s p before [] reads = refl
waiting_says s p before (m ∷ marks) reads = refl

-- they say these marks
pub marks_of_says : (s : Setup) (p : ℕ) (before : List (ℕ × Mark)) (marks : List Mark) → flat_map marks_says (says_marks s p before marks) ≡ map {B = ℕ × Mark} (λ (mark : Mark). (p, mark)) marks
marks_of_says s p before [] = refl
marks_of_says s p before (m ∷ marks) = ap (λ l. (p, m) ∷ l) (marks_of_says s p ((p, m) ∷ before) marks)
