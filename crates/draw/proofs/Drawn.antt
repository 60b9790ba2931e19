-- Markup that is written piece by piece, and what a page holds back.
use Rattle.std.proofs.Common.{◌≡◌, ℕ, Bool, true, false, List, [], ◌∷◌, ◌++◌, Option, Some, None, refl, ap, sym, subst, ◌∙◌, append-nil, append_assoc}
use Rattle.std.specs.Io.KnownBytes.{Appends}
use Rattle.model.specs.{Mark}
use Rattle.picture.specs.markup.{EndsAll, is_at_rest, lines_in, opens_in, tags_of}
use Rattle.picture.proofs.markup.Lines.{lines_on, rests_on}
use Rattle.picture.proofs.markup.Stacks.{opens_on}
use Rattle.picture.specs.{Accesses, GivesRest, GoesOn, Item, Judges, Reads, SeenWindowed, Reports, ShownVerdict, Window, WindowPlan, band_text, bands_reported, full_reported, heights_reported, judged_with, lines_if, lines_of_band, seen_verdict, shows_end, shows_line, titles_if, verdict_titles, windowed}
use Rattle.picture.specs.picture_layout.{OverlappedRead, RunLine, ShownAccess, given_access, text_of}
use Rattle.draw.specs.{Canvas, Draws, DrawsBands, DrawsLines, DrawsMarks, DrawsOn, DrawsRest, Fills, Gives, GivesAccess, GivesLine, GivesRead, IsAfterMarks, IsAround, Kept, ObservesAll, Says, TakenStore, Writes, given, kept, kept_at_first, lines_given, marks_after, says_marks, says_of, text_shown, texts_shown, waiting}
use Rattle.draw.proofs.Giving.{both_given, lines_append, marks_after_append, says_append, shown_append, shows_saying, text_of_content, waiting_append}
use Rattle.draw.proofs.Written.{appends_both, appends_none}

-- bytes that leave the markup at rest
pub writes_bytes : (a b : Option (List ℕ)) (bytes : List ℕ) → is_at_rest (tags_of bytes) ≡ true → Appends a b bytes → Writes a b bytes
writes_bytes a b bytes rests taken = record { rests = rests; taken = taken }

pub draws_bytes : (a b : Option (List ℕ)) (bytes : List ℕ) → is_at_rest (tags_of bytes) ≡ true → Appends a b bytes → EndsAll bytes → Draws a b bytes (lines_in bytes)
draws_bytes a b bytes rests taken ended = record { ended = ended; read_back = refl; writes = writes_bytes a b bytes rests taken }

-- no bytes
draws_none : (a : Option (List ℕ)) → Draws a a [] []
draws_none a = record { ended = λ stack. refl; read_back = refl; writes = writes_bytes a a [] refl (appends_none a) }

pub draws_no_band : (a : Option (List ℕ)) → Unit {0} → Draws a a [] []
draws_no_band a none = draws_none a

-- one piece, and then the next
writes_both : (a b c : Option (List ℕ)) (bytes more : List ℕ) → Writes a b bytes → Writes b c more → Writes a c (bytes ++ more)
writes_both a b c bytes more first next = record { rests = rests_on bytes more first.rests next.rests; taken = appends_both a b c bytes more first.taken next.taken }

pub draws_both : (a b c : Option (List ℕ)) (markup then : List ℕ) (lines more : List (List ℕ)) → Draws a b markup lines → Draws b c then more → Draws a c (markup ++ then) (lines ++ more)
draws_both a b c markup then lines more first next = record {
  ended = λ stack. opens_on markup then stack first.writes.rests ∙ ap (opens_in then) (first.ended stack) ∙ next.ended stack;
  read_back = lines_on markup then first.writes.rests ∙ (λ i. first.read_back i ++ next.read_back i);
  writes = writes_both a b c markup then first.writes next.writes;
}

-- a page takes in nothing, or some items and then others
fills_none : (page : SeenWindowed) → Fills page page [] []
fills_none page = record { items = []; are = refl; goes_on = λ plan before is. (is, sym (append-nil (full_reported plan before))) }

fills_both : (old mid new : SeenWindowed) (markup then : List ℕ) (gives those : List Gives) → Fills old mid markup gives → Fills mid new then those → Fills old new (markup ++ then) (gives ++ those)
fills_both old mid new markup then gives those first next = record {
  items = next.items ++ first.items;
  are = both_given next.items first.items gives those first.are next.are;
  goes_on = λ plan before is.
      let one = first.goes_on plan before is in
      let two = next.goes_on plan (first.items ++ before) one.0 in
      let same : next.items ++ (first.items ++ before) ≡ (next.items ++ first.items) ++ before = sym (append_assoc next.items first.items before) in
      (two.0 ∙ ap (windowed plan) same, ap (full_reported plan) (sym same) ∙ two.1 ∙ ap (λ l. l ++ then) one.1 ∙ append_assoc (full_reported plan before) markup then);
}

-- or one item
fills_one : (item : Item) (old new : SeenWindowed) (band : Option (List ℕ)) → GoesOn item old band new → Fills old new (band_text band) (given (item ∷ []))
fills_one item old new band goes = record { items = item ∷ []; are = refl; goes_on = λ plan before at. goes plan before at }

-- nothing more is drawn, or some items and then others
pub draws_on_none : (has : Kept) (a : Option (List ℕ)) → DrawsOn has has a a []
draws_on_none has a = record { markup = []; drawn = []; draws = draws_none a; window = refl; goes_on = sym (append-nil has.lines); fills = fills_none has.page }

pub draws_on_both : (had has now : Kept) (a b c : Option (List ℕ)) (gives those : List Gives) → DrawsOn had has a b gives → DrawsOn has now b c those → DrawsOn had now a c (gives ++ those)
draws_on_both had has now a b c gives those first next = record {
  markup = first.markup ++ next.markup;
  drawn = first.drawn ++ next.drawn;
  draws = draws_both a b c first.markup next.markup first.drawn next.drawn first.draws next.draws;
  window = next.window ∙ first.window;
  goes_on = append_assoc first.drawn next.drawn now.lines
      ∙ ap (λ l. first.drawn ++ l) (next.goes_on ∙ ap (λ (w : Window). has.lines ++ texts_shown w those) first.window)
      ∙ sym (append_assoc first.drawn has.lines (texts_shown had.window those))
      ∙ ap (λ l. l ++ texts_shown had.window those) first.goes_on
      ∙ append_assoc had.lines (texts_shown had.window gives) (texts_shown had.window those)
      ∙ ap (λ l. had.lines ++ l) (sym (shown_append had.window gives those));
  fills = fills_both had.page has.page now.page first.markup next.markup gives those first.fills next.fills;
}

-- the text of a line, if it is in a window
line_shown : (w : Window) (line : RunLine) → lines_if (shows_line w line) (text_of line ∷ []) ≡ texts_shown w (GivesLine line.source line.at (says_of line.line_content) ∷ [])
line_shown w line =
    (λ i. lines_if (sym (shows_saying w line.at line.line_content) i) (sym (text_of_content line.at line.line_content) i ∷ []))
    ∙ sym (append-nil (text_shown w (GivesLine line.source line.at (says_of line.line_content))))

-- a line is drawn, with the band that is full, if one is
pub draws_on_line : (line : RunLine) (had has : Kept) (band : Option (List ℕ)) (a b : Option (List ℕ)) → has.window ≡ had.window →
    lines_of_band band ++ has.lines ≡ had.lines ++ lines_if (shows_line had.window line) (text_of line ∷ []) → GoesOn (Reports line) had.page band has.page →
    Draws a b (band_text band) (lines_of_band band) → DrawsOn had has a b (GivesLine line.source line.at (says_of line.line_content) ∷ [])
draws_on_line line had has band a b window is goes draws = record {
  markup = band_text band;
  drawn = lines_of_band band;
  draws = draws;
  window = window;
  goes_on = is ∙ ap (λ l. had.lines ++ l) (line_shown had.window line);
  fills = fills_one (Reports line) had.page has.page band goes;
}

-- a read, which is not a line, is drawn
pub draws_on_read : (read : OverlappedRead) (had has : Kept) (band : Option (List ℕ)) (a b : Option (List ℕ)) → has.window ≡ had.window → lines_of_band band ++ has.lines ≡ had.lines → GoesOn (Reads read) had.page band has.page →
    Draws a b (band_text band) (lines_of_band band) → DrawsOn had has a b (GivesRead read ∷ [])
draws_on_read read had has band a b window is goes draws = record {
  markup = band_text band;
  drawn = lines_of_band band;
  draws = draws;
  window = window;
  goes_on = is ∙ sym (append-nil had.lines);
  fills = fills_one (Reads read) had.page has.page band goes;
}

-- the part of an access that an entry makes, which is not a line, is drawn
pub draws_on_access : (access : ShownAccess) (had has : Kept) (band : Option (List ℕ)) (a b : Option (List ℕ)) → has.window ≡ had.window → lines_of_band band ++ has.lines ≡ had.lines → GoesOn (Accesses access) had.page band has.page →
    Draws a b (band_text band) (lines_of_band band) → DrawsOn had has a b (GivesAccess (given_access access) ∷ [])
draws_on_access access had has band a b window is goes draws = record {
  markup = band_text band;
  drawn = lines_of_band band;
  draws = draws;
  window = window;
  goes_on = is ∙ sym (append-nil had.lines);
  fills = fills_one (Accesses access) had.page has.page band goes;
}

-- no lines, whether they are shown or not
no_lines_if : (shows : Bool) → lines_if shows [] ≡ []
no_lines_if true = refl
no_lines_if false = refl

-- the remaining bands, with the verdict, if there is one
pub draws_rest : (at : ℕ) (verdict : Option ShownVerdict) (has : Kept) (new : SeenWindowed) (full : Option (List ℕ)) (last : List ℕ) (a b : Option (List ℕ)) →
    lines_of_band full ++ lines_in last ≡ has.lines ++ lines_if (shows_end has.window at) (titles_if verdict) → GivesRest at verdict has.page full last new →
    Draws a b (band_text full ++ last) (lines_of_band full ++ lines_in last) → DrawsRest has a b (given (judged_with at verdict [])) new.page.height
draws_rest at None has new full last a b are rests draws = record {
  markup = band_text full ++ last;
  draws = subst (λ l. Draws a b (band_text full ++ last) l) (are ∙ ap (λ l. has.lines ++ l) (no_lines_if (shows_end has.window at))) draws;
  items = [];
  are = refl;
  ends = λ plan before is. let two = rests plan before is in (two.0 ∙ append_assoc (full_reported plan before) (band_text full) last, two.1);
}
draws_rest at (Some verdict) has new full last a b are rests draws = record {
  markup = band_text full ++ last;
  draws = subst (λ l. Draws a b (band_text full ++ last) l)
      (are ∙ ap (λ l. has.lines ++ l) (sym (append-nil (lines_if (shows_end has.window at) (verdict_titles (seen_verdict verdict)))))) draws;
  items = Judges at verdict ∷ [];
  are = refl;
  ends = λ plan before is. let two = rests plan before is in (two.0 ∙ append_assoc (full_reported plan before) (band_text full) last, two.1);
}

-- items, and then the remaining bands
pub rest_behind : (had has : Kept) (a b c : Option (List ℕ)) (gives more : List Gives) (height : ℕ) → DrawsOn had has a b gives → DrawsRest has b c more height → DrawsRest had a c (gives ++ more) height
rest_behind had has a b c gives more height on rest = record {
  markup = on.markup ++ rest.markup;
  draws = subst (λ l. Draws a c (on.markup ++ rest.markup) l)
      (ap (λ (w : Window). on.drawn ++ (has.lines ++ texts_shown w more)) on.window
      ∙ sym (append_assoc on.drawn has.lines (texts_shown had.window more))
      ∙ ap (λ l. l ++ texts_shown had.window more) on.goes_on
      ∙ append_assoc had.lines (texts_shown had.window gives) (texts_shown had.window more)
      ∙ ap (λ l. had.lines ++ l) (sym (shown_append had.window gives more)))
      (draws_both a b c on.markup rest.markup on.drawn (has.lines ++ texts_shown has.window more) on.draws rest.draws);
  items = rest.items ++ on.fills.items;
  are = both_given rest.items on.fills.items gives more on.fills.are rest.are;
  ends = λ plan before is.
      let one = on.fills.goes_on plan before is in
      let two = rest.ends plan (on.fills.items ++ before) one.0 in
      let same : (rest.items ++ on.fills.items) ++ before ≡ rest.items ++ (on.fills.items ++ before) = append_assoc rest.items on.fills.items before in
      (ap (bands_reported plan) same ∙ two.0 ∙ ap (λ l. l ++ rest.markup) one.1 ∙ append_assoc (full_reported plan before) on.markup rest.markup, two.1 ∙ ap (heights_reported plan) (sym same));
}

-- all bands, from the start on
pub draws_bands : (plan : WindowPlan) (has : Kept) (a b c : Option (List ℕ)) (gives ends : List Gives) (height : ℕ) → DrawsOn (kept_at_first plan) has a b gives → DrawsRest has b c ends height → DrawsBands plan a c (gives ++ ends) height
draws_bands plan has a b c gives ends height on rest =
    let all = rest_behind (kept_at_first plan) has a b c gives ends height on rest in
    let two = all.ends plan [] refl in
    record {
      items = all.items ++ [];
      are = ap given (append-nil all.items) ∙ all.are;
      draws = subst (λ m. Draws a c m (texts_shown plan.window (gives ++ ends))) (sym two.0) all.draws;
      heights = two.1;
    }

-- no lines
pub draws_no_lines : (canvas : Canvas) (a : Option (List ℕ)) (source at : ℕ) → DrawsLines canvas canvas a a source at []
draws_no_lines canvas a source at = λ mode s past reads waits. (draws_on_none (kept canvas) a, waits)

-- some lines, and then others
pub draws_lines_both : (had has now : Canvas) (a b c : Option (List ℕ)) (source at : ℕ) (lines more : List Says) → DrawsLines had has a b source at lines → DrawsLines has now b c source at more → DrawsLines had now a c source at (lines ++ more)
draws_lines_both had has now a b c source at lines more first next = λ mode s past reads waits.
    let one = first mode s past reads waits in
    let two = next mode s past (waiting lines reads) one.1 in (
      subst (λ l. DrawsOn (kept had) (kept now) a c l) (sym (lines_append mode source at reads lines more))
          (draws_on_both (kept had) (kept has) (kept now) a b c (lines_given mode source at reads lines) (lines_given mode source at (waiting lines reads) more) one.0 two.0),
      subst (λ l. ObservesAll mode s past l now.overlaps) (sym (waiting_append lines more reads)) two.1,
    )

-- marks of a process, and then others
pub draws_no_marks : (canvas : Canvas) (store : TakenStore) (a : Option (List ℕ)) (source at p : ℕ) → DrawsMarks canvas canvas store store a a source at p []
draws_no_marks canvas store a source at p = λ s before is. (draws_no_lines canvas a source at, is)

pub draws_marks_both : (had has now : Canvas) (store stores last : TakenStore) (a b c : Option (List ℕ)) (source at p : ℕ) (marks more : List Mark) → DrawsMarks had has store stores a b source at p marks → DrawsMarks has now stores last b c source at p more → DrawsMarks had now store last a c source at p (marks ++ more)
draws_marks_both had has now store stores last a b c source at p marks more first next = λ s before is.
    let one = first s before is in
    let two = next s (marks_after p marks before) one.1 in (
      subst (DrawsLines had now a c source at) (sym (says_append s p before marks more))
          (draws_lines_both had has now a b c source at (says_marks s p before marks) (says_marks s p (marks_after p marks before) more) one.0 two.0),
      subst (λ l. IsAfterMarks s l last) (sym (marks_after_append p marks more before)) two.1,
    )

-- a whole picture was written: no element is open at its end, and the titles of its marks are these lines, as far as a window shows them
abbrev pub IsWhole : Window → (old new : Option (List ℕ)) → List ℕ → List Gives → Type 0
IsWhole w old new markup gives = (opens_in markup (Some []) ≡ Some []) × (lines_in markup ≡ texts_shown w gives) × Writes old new markup

-- the parts before and after the bands have no lines, and the last part ends the elements that the first part begins
pub framed : (plan : WindowPlan) (a b c d : Option (List ℕ)) (head ending : List ℕ) (names : List (List ℕ)) (gives : List Gives) (height : ℕ) → IsAround names head ending → Writes a b head → (bands : DrawsBands plan b c gives height) → Writes c d ending →
    IsWhole plan.window a d ((head ++ bands_reported plan bands.items) ++ ending) gives
framed plan a b c d head ending names gives height around first bands last =
    let markup : List ℕ = bands_reported plan bands.items in
    let front = writes_both a b c head markup first bands.draws.writes in (
      opens_on (head ++ markup) ending (Some []) front.rests ∙ ap (opens_in ending) (opens_on head markup (Some []) first.rests ∙ ap (opens_in markup) around.begins ∙ bands.draws.ended (Some names)) ∙ around.ends,
      lines_on (head ++ markup) ending front.rests ∙ (λ i. lines_on head markup first.rests i ++ around.no_end i) ∙ append-nil (lines_in head ++ lines_in markup) ∙ ap (λ l. l ++ lines_in markup) around.no_head ∙ bands.draws.read_back,
      writes_both a c d (head ++ markup) ending front last,
    )
