-- A page from item to item.
use Rattle.std.proofs.Common.{◌≡◌, ℕ, ◌+◌, ◌-◌, Bool, true, false, cond, nat_lt, ◌&&◌, length, map, take, drop, List, [], ◌∷◌, ◌++◌, Option, None, Some, unwrap_or, refl, ap, sym, subst, ◌∙◌, append-nil}
use Rattle.std.proofs.lemmas.Grind.{fold-append}
use Rattle.std.proofs.Math.Seq.{take-append_seam}
use Rattle.std.proofs.lemmas.List.{length-map}
use Rattle.markup.specs.{drawings}
use Rattle.model.specs.{Mark}
use Rattle.picture.specs.{Accesses, Bands, BeginsColumn, DrawsBand, GivesLast, Item, Judges, MakesRoom, Passes, Places, Plan, Puts, Reads, SeenPage, SetsOpening, ShownVerdict, TakesItem, Reports, accesses_behind, accesses_in, accesses_left, band_text, bands_drawn, bands_of, begun_by, behind_columns, columns_of, filled, framed, full_bytes, height_with, heights, heights_drawn, heights_of, held_in_64, judged_shapes, judged_with, layout_in, line_by, newest, newest_at, older, opening_by, page_by, page_holding, page_of, placing_before, placing_in, room_by, state_after, verdict_in, whole_bytes, with_line, with_placed, with_put, with_room}
use Rattle.picture.specs.Bandings.{opening_length, opens_with}
use Rattle.picture_layout.specs.{Column, Layout, OverlappedRead, WordEnds, RunLine, LineContent, Seen, SeenAccesses, ShownAccess, State, TakenChange, accesses_after, accesses_at, alone, change_reported, column_of_access, column_of_read, drawn_apart, end_of_words, freed_by, has_room_at, joined, joins, last_of, layout_of, moved_to, place_of, placing_at_first, put_at, seen, state_lock_marked, state_marked, state_reported, stretched_all, widened}
use Rattle.picture_layout.specs.trace.{LockMark}
use Rattle.picture_layout.specs.trace.declared.marks.LockMark.TheVariants as lock
use Rattle.picture_layout.specs.declared.line_contents.LineContent.TheVariants.{Ended, LockEnded, LockMarked, Marked, Refused, Shown, Tired}

-- a column is put behind the others
abbrev pub put_page : Seen → SeenPage → SeenPage
put_page column page = record page { columns = page.columns ++ moved_to column (place_of page.placing column).x ∷ []; placing = put_at page.placing column (place_of page.placing column).x }

put_placing : (opening : List ℕ) (column : Seen) (bands : Bands) → put_at (placing_in opening bands) column (place_of (placing_in opening bands) column).x ≡ placing_in opening (with_put opening column bands)
put_placing opening column bands = sym (fold-append with_placed (placing_before opening bands.full) bands.begun (moved_to column (place_of (placing_in opening bands) column).x ∷ []))

pub puts_column : (column : Seen) (old new : SeenPage) → new ≡ put_page column old → Puts column old new
puts_column column old new is plan state pending last_at bands holds =
    is ∙ ap (put_page column) holds ∙ (λ i. record (page_holding plan state pending last_at (with_put plan.opening column bands)) { placing = put_placing plan.opening column bands i })

pub put_parts : (column placed : Seen) (x : ℕ) (old : SeenPage) (placing : WordEnds) (columns : List Seen) → columns ≡ old.columns ++ placed ∷ [] → placed ≡ moved_to column x → placing ≡ put_at old.placing column x → x ≡ (place_of old.placing column).x →
    Puts column old (record old { columns = columns; placing = placing })
put_parts column placed x old placing columns are moved put at = puts_column column old (record old { columns = columns; placing = placing })
    ((λ i. record old { columns = (are ∙ ap (λ (c : Seen). old.columns ++ c ∷ []) moved) i; placing = put i })
    ∙ ap (λ (x : ℕ). record old { columns = old.columns ++ moved_to column x ∷ []; placing = put_at old.placing column x }) at)

-- the band that is begun is drawn
abbrev pub filled_page : Option ShownVerdict → SeenPage → SeenPage
filled_page verdict page = record page {
  opens = [];
  before = (behind_columns page.columns (page.before, page.before_at)).0;
  before_at = (behind_columns page.columns (page.before, page.before_at)).1;
  placing = placing_at_first 0;
  columns = [];
  accesses = accesses_after (accesses_in page.accesses page.columns) (stretched_all page.columns);
  bands = held_in_64 (page.bands + 1);
  height = held_in_64 (page.height + (height_with verdict (layout_in page.state.processes page.accesses page.columns false).height + 16));
}

abbrev pub drawn_by : Bool → Option ShownVerdict → ℕ → SeenPage → List ℕ
drawn_by is_last verdict processes page =
    framed page.form (held_in_64 (page.bands + 1)) page.height (height_with verdict (layout_in processes page.accesses page.columns is_last).height)
    (drawings (judged_shapes verdict (record {
      columns = stretched_all page.columns;
      before = page.before;
      before_at = page.before_at;
      layout = layout_in processes page.accesses page.columns is_last;
      is_last = is_last;
      opens = page.opens;
      subject = page.subject;
    }) (accesses_in page.accesses page.columns)))

pub draws_begun : (is_last : Bool) (verdict : Option ShownVerdict) (old : SeenPage) (band : List ℕ) (new : SeenPage) → new ≡ filled_page verdict old → band ≡ drawn_by is_last verdict old.state.processes old → DrawsBand is_last verdict old band new
draws_begun is_last verdict old band new is drawn plan state pending last_at bands same holds = (
  is ∙ ap (filled_page verdict) holds
      ∙ (λ i. record (page_holding plan state pending last_at (filled bands)) { height = held_in_64 (heights plan bands.full + (height_with verdict (layout_in (same i) (accesses_behind plan.accesses bands.full) bands.begun false).height + 16)) }),
  drawn ∙ ap (λ (page : SeenPage). drawn_by is_last verdict page.state.processes page) holds ∙ ap (λ (n : ℕ). drawn_by is_last verdict n (page_holding plan state pending last_at bands)) same,
)

-- columns that are drawn apart are as many, and so fill the vector that lent them
apart_length : (b : Bool) (columns : List Seen) (old new : ℕ) → length (elim b as (λ _. List Seen) [ true ↦ map (drawn_apart old new) columns | false ↦ columns ]) ≡ length columns
apart_length true columns old new = length-map columns (drawn_apart old new)
apart_length false columns old new = refl

stretched_length : (columns : List Seen) → length (stretched_all columns) ≡ length columns
stretched_length columns = apart_length (nat_lt 0 (last_of columns - 52) && nat_lt (last_of columns - 52) (widened (last_of columns) (end_of_words columns))) columns (last_of columns - 52) (widened (last_of columns) (end_of_words columns))

pub stretched_within : (len : ℕ) (items now : List Column) → length items ≡ len → map seen now ≡ stretched_all (map seen items) → take len (now ++ drop (length now) items) ≡ now
stretched_within len items now fits is =
    let same : length now ≡ len = sym (length-map now seen) ∙ ap length is ∙ stretched_length (map seen items) ∙ length-map items seen ∙ fits in
    ap (λ n. take n (now ++ drop (length now) items)) (sym same) ∙ take-append_seam now (drop (length now) items)

-- and so by the parts of the page and of the band
pub draws_parts : (is_last : Bool) (verdict : Option ShownVerdict) (old : SeenPage) (opens shown : List ℕ) (behind : State × ℕ) (placing : WordEnds) (columns apart : List Seen) (at left : SeenAccesses) (layout : Layout) (bands height : ℕ) (markup : List ℕ) →
    opens ≡ [] → shown ≡ old.opens → behind ≡ behind_columns old.columns (old.before, old.before_at) → placing ≡ placing_at_first 0 → columns ≡ [] → apart ≡ stretched_all old.columns →
    at ≡ accesses_at old.accesses apart → left ≡ accesses_after at apart → layout ≡ layout_of old.state.processes at apart is_last →
    bands ≡ held_in_64 (old.bands + 1) → height ≡ held_in_64 (old.height + (height_with verdict layout.height + 16)) →
    markup ≡ framed old.form bands old.height (height_with verdict layout.height) (drawings (judged_shapes verdict (record { columns = apart; before = old.before; before_at = old.before_at; layout = layout; is_last = is_last; opens = shown; subject = old.subject }) at)) →
    DrawsBand is_last verdict old markup (record old { opens = opens; before = behind.0; before_at = behind.1; accesses = left; placing = placing; columns = columns; bands = bands; height = height })
draws_parts is_last verdict old opens shown behind placing columns apart at left layout bands height markup none same moved new empty stretched begun passed laid count high drawn =
    let shows : at ≡ accesses_in old.accesses old.columns = begun ∙ ap (accesses_at old.accesses) stretched in
    let leaves : left ≡ accesses_after (accesses_in old.accesses old.columns) (stretched_all old.columns) = passed ∙ (λ i. accesses_after (shows i) (stretched i)) in
    let lies : layout ≡ layout_in old.state.processes old.accesses old.columns is_last = laid ∙ (λ i. layout_of old.state.processes (shows i) (stretched i) is_last) in
    let higher : height ≡ held_in_64 (old.height + (height_with verdict (layout_in old.state.processes old.accesses old.columns is_last).height + 16)) = high ∙ ap (λ (l : Layout). held_in_64 (old.height + (height_with verdict l.height + 16))) lies in
    draws_begun is_last verdict old markup (record old { opens = opens; before = behind.0; before_at = behind.1; accesses = left; placing = placing; columns = columns; bands = bands; height = height })
    (λ i. record old { opens = none i; before = (moved i).0; before_at = (moved i).1; accesses = leaves i; placing = new i; columns = empty i; bands = count i; height = higher i })
    (drawn ∙ (λ i. framed old.form (count i) old.height (height_with verdict (lies i).height) (drawings (judged_shapes verdict (record { columns = stretched i; before = old.before; before_at = old.before_at; layout = lies i; is_last = is_last; opens = same i; subject = old.subject }) (shows i)))))

-- the column has room, or another band begins
abbrev pub has_room_in : Seen → SeenPage → Bool
has_room_in column page = has_room_at page.placing (place_of page.placing column)

pub begins_next : (column : Seen) (old : SeenPage) (band : List ℕ) (new : SeenPage) → has_room_in column old ≡ false → DrawsBand false None old band new → MakesRoom column old (Some band) new
begins_next column old band new room draws plan state pending last_at bands same holds =
    let has : has_room_in column (page_holding plan state pending last_at bands) ≡ false = ap (has_room_in column) (sym holds) ∙ room in
    let drawn = draws plan state pending last_at bands same holds in (
      drawn.0 ∙ ap (λ (b : Bool). page_holding plan state pending last_at (room_by b bands)) (sym has),
      ap (λ (b : Bool). full_bytes plan (room_by b bands).full) has ∙ ap (λ l. full_bytes plan bands.full ++ l) (sym drawn.1),
    )

-- no column is to be placed
none_newest : (column : Seen) (pending : Option Seen) → pending ≡ None → pending ≡ Some column → ⊥
none_newest column pending none some = absurd (cc)

-- one is
abbrev pub without_pending : SeenPage → SeenPage
without_pending page = record page { pending = None }

same_column : (column other : Seen) (pending : Option Seen) → pending ≡ Some column → pending ≡ Some other → column ≡ other
same_column column other pending one is = ap (λ (o : Option Seen). unwrap_or o column) (sym one ∙ is)

pub places_one : (column : Seen) (old taken made new : SeenPage) (full : Option (List ℕ)) → old.pending ≡ Some column → taken ≡ without_pending old → MakesRoom column taken full made → Puts column made new → Places old full new
places_one column old taken made new full one is makes puts plan state last_at [] same holds = absurd (none_newest column old.pending (ap (λ (p : SeenPage). p.pending) holds) one)
places_one column old taken made new full one is makes puts plan state last_at (other ∷ before) same holds =
    let room = makes plan state None last_at (bands_of plan.opening before) same (is ∙ ap without_pending holds) in
    subst (λ (c : Seen). (new ≡ page_holding plan state None last_at (with_put plan.opening c (with_room plan.opening c (bands_of plan.opening before))))
    × (full_bytes plan (with_room plan.opening c (bands_of plan.opening before)).full ≡ full_bytes plan (bands_of plan.opening before).full ++ band_text full))
    (same_column column other old.pending one (ap (λ (p : SeenPage). p.pending) holds))
    (puts plan state None last_at (with_room plan.opening column (bands_of plan.opening before)) room.0, room.1)

-- as many processes as before
marked_processes : (b : Bool) (state : State) (p : ℕ) (mark : Mark) → (let s : State = cond b (state_marked state p mark) state in s.processes) ≡ state.processes
marked_processes true state p mark = refl
marked_processes false state p mark = refl

lock_marked_processes : (b : Bool) (state : State) (p : ℕ) (mark : LockMark) → (let s : State = cond b (state_lock_marked state p mark) state in s.processes) ≡ state.processes
lock_marked_processes false state p mark = refl
lock_marked_processes true state p lock.Wait = refl
lock_marked_processes true state p mark = refl

reported_processes : (state : State) (line_content : LineContent) → (state_reported state line_content).processes ≡ state.processes
reported_processes state (Marked p mark change) = marked_processes (nat_lt p state.processes) state p mark
reported_processes state (Refused p refusal) = refl
reported_processes state (Tired p) = refl
reported_processes state (Shown words) = refl
reported_processes state (Ended events taken refused) = refl
reported_processes state (LockMarked p mark) = lock_marked_processes (nat_lt p state.processes) state p mark
reported_processes state (LockEnded entries) = refl

pub processes_after : (state : State) (items : List Item) → (state_after state items).processes ≡ state.processes
processes_after state [] = refl
processes_after state (Reports line ∷ before) = reported_processes (state_after state before) line.line_content ∙ processes_after state before
processes_after state (Reads read ∷ before) = processes_after state before
processes_after state (Accesses access ∷ before) = processes_after state before
processes_after state (Judges at verdict ∷ before) = processes_after state before

-- a page without a verdict has taken in items of which the newest is none
no_verdict : (old : SeenPage) (plan : Plan) (items : List Item) → old.verdict ≡ None → old ≡ page_of plan items → verdict_in items ≡ None
no_verdict old plan items none holds = sym (ap (λ (p : SeenPage). p.verdict) holds) ∙ none

unjudged : (old : SeenPage) (plan : Plan) (items : List Item) → old.verdict ≡ None → old ≡ page_of plan items → old ≡ page_by plan (state_after plan.state items) (columns_of plan items)
unjudged old plan items none holds = holds ∙ (λ i. record (page_by plan (state_after plan.state items) (columns_of plan items)) { verdict = no_verdict old plan items none holds i })

-- a line joins the column that is not placed yet
abbrev pub joined_page : RunLine → Seen → SeenPage → SeenPage
joined_page line column page = record page { state = state_reported page.state line.line_content; pending = Some (joined column line (freed_by page.state line.line_content) (state_reported page.state line.line_content)) }

-- it does not join one
abbrev pub JoinsNone : RunLine → Option Seen → Type 0
JoinsNone line pending = (column : Seen) → pending ≡ Some column → joins column line ≡ false

-- it does not join a column, or there is none
pub does_not_join : (line : RunLine) (column : Seen) (pending : Option Seen) → pending ≡ Some column → joins column line ≡ false → JoinsNone line pending
does_not_join line column pending one does other is = ap (λ (c : Seen). joins c line) (same_column other column pending is one) ∙ does

pub none_to_join : (line : RunLine) (pending : Option Seen) → pending ≡ None → JoinsNone line pending
none_to_join line pending none column is = absurd (none_newest column pending none is)

-- what a line does to a page with these columns
abbrev OnwardBy : Plan → State → List Seen → RunLine → Option (List ℕ) → SeenPage → Type 0
OnwardBy plan state columns line full new =
    (new ≡ page_by plan (state_reported state line.line_content) (with_line plan.at line (freed_by state line.line_content) (state_reported state line.line_content) columns))
    × (full_bytes plan (bands_of plan.opening (older (with_line plan.at line (freed_by state line.line_content) (state_reported state line.line_content) columns))).full ≡ full_bytes plan (bands_of plan.opening (older columns)).full ++ band_text full)

joins_by : (line : RunLine) (column : Seen) (old new : SeenPage) (plan : Plan) (state : State) (columns : List Seen) → old.pending ≡ Some column → joins column line ≡ true → new ≡ joined_page line column old → old ≡ page_by plan state columns → OnwardBy plan state columns line None new
joins_by line column old new plan state [] one joins is holds = absurd (none_newest column old.pending (ap (λ (p : SeenPage). p.pending) holds) one)
joins_by line column old new plan state (other ∷ before) one does is holds =
    let same : column ≡ other = same_column column other old.pending one (ap (λ (p : SeenPage). p.pending) holds) in
    let has : joins other line ≡ true = ap (λ (c : Seen). joins c line) (sym same) ∙ does in (
      is ∙ (λ i. joined_page line (same i) (holds i))
          ∙ ap (λ (b : Bool). page_by plan (state_reported state line.line_content) (line_by b plan.at line (freed_by state line.line_content) (state_reported state line.line_content) other before)) (sym has),
      ap (λ (b : Bool). full_bytes plan (bands_of plan.opening (older (line_by b plan.at line (freed_by state line.line_content) (state_reported state line.line_content) other before))).full) has
          ∙ sym (append-nil (full_bytes plan (bands_of plan.opening before).full)),
    )

pub joins_pending : (line : RunLine) (column : Seen) (old new : SeenPage) → old.verdict ≡ None → old.pending ≡ Some column → joins column line ≡ true → new ≡ joined_page line column old → TakesItem (Reports line) old None new
joins_pending line column old new none one does is plan items holds = joins_by line column old new plan (state_after plan.state items) (columns_of plan items) one does is (unjudged old plan items none holds)

-- or has a column of its own
abbrev pub reported_page : RunLine → SeenPage → SeenPage
reported_page line page = record page { state = state_reported page.state line.line_content }

abbrev pub begun_page : RunLine → Option ℕ → State → SeenPage → SeenPage
begun_page line frees after placed = record placed { pending = Some (alone line (line.at - placed.last_at) frees after); last_at = line.at }

begins_line : (at : ℕ) (line : RunLine) (frees : Option ℕ) (after : State) (columns : List Seen) → JoinsNone line (newest columns) → begun_by at line frees after columns ≡ with_line at line frees after columns
begins_line at line frees after [] other = refl
begins_line at line frees after (column ∷ before) other = ap (λ (b : Bool). line_by b at line frees after column before) (sym (other column refl))

pub begins_alone : (line : RunLine) (old reported new : SeenPage) (frees : Option ℕ) (full : Option (List ℕ)) → old.verdict ≡ None → JoinsNone line old.pending → reported ≡ reported_page line old → frees ≡ freed_by old.state line.line_content → BeginsColumn line frees reported full new → TakesItem (Reports line) old full new
begins_alone line old reported new frees full none other says free begun plan items is =
    let holds : old ≡ page_by plan (state_after plan.state items) (columns_of plan items) = unjudged old plan items none is in
    let before : State = state_after plan.state items in
    let state : State = state_reported before line.line_content in
    let freed : Option ℕ = freed_by before line.line_content in
    let columns : List Seen = columns_of plan items in
    let put = begun.places plan state (newest_at plan.at columns) columns (reported_processes before line.line_content ∙ processes_after plan.state items) (says ∙ ap (reported_page line) holds) in
    let begins : begun_by plan.at line freed state columns ≡ with_line plan.at line freed state columns = begins_line plan.at line freed state columns (subst (λ (p : SeenPage). JoinsNone line p.pending) holds other) in (
      begun.is ∙ (λ i. begun_page line (free i) (says i).state begun.placed) ∙ (λ i. begun_page line (freed_by (holds i).state line.line_content) (state_reported (holds i).state line.line_content) (put.0 i)) ∙ ap (page_by plan state) begins,
      ap (λ (l : List Seen). full_bytes plan (bands_of plan.opening (older l)).full) (sym begins) ∙ put.1,
    )

pub begun_is : (line : RunLine) (placed : SeenPage) (column : Seen) (gap : ℕ) (frees : Option ℕ) (state after : State) → column ≡ alone line gap frees state → gap ≡ line.at - placed.last_at → state ≡ after →
    (let page : SeenPage = record placed { pending = Some column; last_at = line.at } in page) ≡ begun_page line frees after placed
begun_is line placed column gap frees state after is far same =
    ap (λ (c : Seen). (let page : SeenPage = record placed { pending = Some c; last_at = line.at } in page)) (is ∙ (λ i. alone line (far i) frees (same i)))

-- a read has one
abbrev pub read_page : OverlappedRead → SeenPage → SeenPage
read_page read placed = record placed { pending = Some (column_of_read read (read.end - placed.last_at) placed.state); last_at = read.end }

pub read_is : (read : OverlappedRead) (placed : SeenPage) (column : Seen) (gap : ℕ) → column ≡ column_of_read read gap placed.state → gap ≡ read.end - placed.last_at →
    (let page : SeenPage = record placed { pending = Some column; last_at = read.end } in page) ≡ read_page read placed
read_is read placed column gap is far = ap (λ (c : Seen). (let page : SeenPage = record placed { pending = Some c; last_at = read.end } in page)) (is ∙ ap (λ (g : ℕ). column_of_read read g placed.state) far)

pub begins_read : (read : OverlappedRead) (old placed new : SeenPage) (full : Option (List ℕ)) → old.verdict ≡ None → Places old full placed → new ≡ read_page read placed → TakesItem (Reads read) old full new
begins_read read old placed new full none places is plan items holds =
    let columns : List Seen = columns_of plan items in
    let put = places plan (state_after plan.state items) (newest_at plan.at columns) columns (processes_after plan.state items) (unjudged old plan items none holds) in
    (is ∙ ap (read_page read) put.0, put.1)

-- and so has an access
abbrev pub access_page : ShownAccess → SeenPage → SeenPage
access_page access placed = record placed { pending = Some (column_of_access access (access.event - placed.last_at) placed.state); last_at = access.event }

pub access_is : (access : ShownAccess) (placed : SeenPage) (column : Seen) (gap : ℕ) → column ≡ column_of_access access gap placed.state → gap ≡ access.event - placed.last_at →
    (let page : SeenPage = record placed { pending = Some column; last_at = access.event } in page) ≡ access_page access placed
access_is access placed column gap is far = ap (λ (c : Seen). (let page : SeenPage = record placed { pending = Some c; last_at = access.event } in page)) (is ∙ ap (λ (g : ℕ). column_of_access access g placed.state) far)

pub begins_access : (access : ShownAccess) (old placed new : SeenPage) (full : Option (List ℕ)) → old.verdict ≡ None → Places old full placed → new ≡ access_page access placed → TakesItem (Accesses access) old full new
begins_access access old placed new full none places is plan items holds =
    let columns : List Seen = columns_of plan items in
    let put = places plan (state_after plan.state items) (newest_at plan.at columns) columns (processes_after plan.state items) (unjudged old plan items none holds) in
    (is ∙ ap (access_page access) put.0, put.1)

-- items with a verdict: their state and their columns are as before, and the verdict is the newest
abbrev pub whole_with : Plan → Option ShownVerdict → List Item → List ℕ
whole_with plan verdict items = whole_bytes plan verdict (bands_of plan.opening (columns_of plan items))

abbrev pub heights_with : Plan → Option ShownVerdict → List Item → ℕ
heights_with plan verdict items = heights_of plan verdict (bands_of plan.opening (columns_of plan items))

judged_bytes : (plan : Plan) (verdict : Option ShownVerdict) (items : List Item) (at : ℕ) → verdict_in items ≡ None → whole_with plan verdict items ≡ bands_drawn plan (judged_with at verdict items)
judged_bytes plan None items at none = ap (λ (v : Option ShownVerdict). whole_with plan v items) (sym none)
judged_bytes plan (Some verdict) items at none = refl

judged_heights : (plan : Plan) (verdict : Option ShownVerdict) (items : List Item) (at : ℕ) → verdict_in items ≡ None → heights_with plan verdict items ≡ heights_drawn plan (judged_with at verdict items)
judged_heights plan None items at none = ap (λ (v : Option ShownVerdict). heights_with plan v items) (sym none)
judged_heights plan (Some verdict) items at none = refl

-- the last bands
pub gives_rest : (verdict : Option ShownVerdict) (old placed new : SeenPage) (full : Option (List ℕ)) (last : List ℕ) → old.verdict ≡ None → Places old full placed → DrawsBand true verdict placed last new → GivesLast verdict old full last new
gives_rest verdict old placed new full last none places draws plan items at holds =
    let state : State = state_after plan.state items in
    let columns : List Seen = columns_of plan items in
    let same : state.processes ≡ plan.state.processes = processes_after plan.state items in
    let unread : verdict_in items ≡ None = no_verdict old plan items none holds in
    let put = places plan state (newest_at plan.at columns) columns same (unjudged old plan items none holds) in
    let drawn = draws plan state None (newest_at plan.at columns) (bands_of plan.opening columns) same put.0 in (
      sym (judged_bytes plan verdict items at unread) ∙ (λ i. put.1 i ++ sym drawn.1 i),
      ap (λ (p : SeenPage). p.height) drawn.0 ∙ judged_heights plan verdict items at unread,
    )

-- a page without items, whose picture begins after an item: a line
abbrev pub at_edge : State → SeenPage → SeenPage
at_edge state page = record page { state = state; before = state }

-- the plan after a line that changes the store, or does not
abbrev pub plan_after : Plan → LineContent → Option TakenChange → Plan
plan_after plan line_content change = record plan { state = state_reported plan.state line_content; opening = opening_by plan.opening change }

edge_after : (line : RunLine) (old new : SeenPage) (state : State) (plan : Plan) → state ≡ state_reported old.state line.line_content → new ≡ at_edge state old → old ≡ page_of plan [] → new ≡ page_of (plan_after plan line.line_content None) []
edge_after line old new state plan reported is holds = is ∙ ap (λ (s : State). at_edge s old) reported ∙ ap (λ (p : SeenPage). at_edge (state_reported p.state line.line_content) p) holds

pub passes_line : (line : RunLine) (old new : SeenPage) (state : State) → change_reported line.line_content ≡ None → state ≡ state_reported old.state line.line_content → new ≡ at_edge state old → Passes (Reports line) old new
passes_line line old new state none reported is plan holds =
    edge_after line old new state plan reported is holds
    ∙ ap (λ (c : Option TakenChange). page_of (plan_after plan line.line_content c) []) (sym none)

pub passes_change : (line : RunLine) (change : TakenChange) (words : List ℕ) (old at new : SeenPage) (state : State) → change_reported line.line_content ≡ Some change → words ≡ change.store.items → state ≡ state_reported old.state line.line_content → at ≡ at_edge state old → SetsOpening words at new → Passes (Reports line) old new
passes_change line change words old at new state some are reported is sets plan holds =
    sets (plan_after plan line.line_content None) (edge_after line old at state plan reported is holds)
    ∙ ap (λ (w : List ℕ). page_of (record (plan_after plan line.line_content None) { opening = w }) []) are
    ∙ ap (λ (c : Option TakenChange). page_of (plan_after plan line.line_content c) []) (sym some)

-- an access
abbrev pub after_access : ShownAccess → SeenPage → SeenPage
after_access access page = record page { accesses = accesses_left page.accesses access page.state }

pub passes_access : (access : ShownAccess) (old new : SeenPage) → new ≡ after_access access old → Passes (Accesses access) old new
passes_access access old new is plan holds = is ∙ ap (after_access access) holds

pub access_left : (access : ShownAccess) (state : State) (columns : List Seen) (before at left : SeenAccesses) → columns ≡ column_of_access access 0 state ∷ [] → at ≡ accesses_at before columns → left ≡ accesses_after at columns → left ≡ accesses_left before access state
access_left access state columns before at left are begun passed =
    passed ∙ (λ i. accesses_after (begun i) columns) ∙ (λ i. accesses_after (accesses_at before (are i)) (are i))

-- the words of the store
abbrev pub opening_set : List ℕ → SeenPage → SeenPage
opening_set words page = record page { opens = opens_with words; placing = placing_at_first (opening_length words) }

pub sets_words : (words opens : List ℕ) (placing : WordEnds) (old : SeenPage) → opens ≡ opens_with words → placing ≡ placing_at_first (opening_length words) →
    SetsOpening words old (record old { opens = opens; placing = placing })
sets_words words opens placing old says placed plan holds =
    (λ i. record old { opens = says i; placing = placed i }) ∙ ap (opening_set words) holds
