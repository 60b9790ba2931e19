-- What is read of a whole file, line by line, and how that ends.
use Rattle.std.proofs.Common.{◌≡◌, ℕ, ◌+◌, ◌≤◌, Bool, false, List, [], ◌++◌, length, reverse, Option, Some, None, Result, Ok, Err, IfOk, OnOk, IsErrAnd, IfSome, IsSome, refl, ap, sym, subst, ◌∙◌, arith}
use Rattle.std.proofs.lemmas.List.{length-append, length-reverse, reverse-reverse}
use Rattle.std.specs.Io.KnownBytes.{IsAtEnd, prepend_known}
use Rattle.scenario.specs.files.{Fault, FaultKind, Given, GoesToNext, IsTooLong, LineFault, LineState, TakesLine, TakesNext, Reported, UnlessMemory, coming, failed_reading, lines, unless_ended}
use Rattle.scenario.specs.files.declared.faults.Fault.TheVariants as fault
use Rattle.scenario.specs.files.declared.faults.FaultKind.TheVariants.{NotFirst, TooLong}
use Rattle.picture.specs.{Form}
use Rattle.picture.specs.declared.reads.PictureOptions.{PictureOptions}
use Rattle.model.specs.{Entry, Past}
use Rattle.judge.specs.record_file.{Progress, cleared, entry_in, line_read, record_of, rest_read}
use Rattle.draw.specs.{failed_write}
use Rattle.draw.specs.{AreReadBy, DrawnEntry, DrawsAllBands, EndsAsked, GoesOn, IsDrawFault, LineStops, RecordDrawing, RecordPicture, Corresponds, count_by, entries_of, long_view}
use Rattle.judge.proofs.Ends.{at_end, line_fault, line_then, of_input, reported_on}
use Rattle.judge.proofs.Lines.{few_in, long_read}
use Rattle.judge.proofs.Trials.{unless_then}
use Rattle.draw.proofs.Lines.{reverse_in}
use Rattle.draw.proofs.Sheeted.{drawn_as_many}

-- All lines so far.

-- reading what is left, behind so many lines, gives what reading all gives
abbrev pub GoesOnTo : Option Progress → List Entry → ℕ → List ℕ → List ℕ → Type 0
GoesOnTo before entries taken text remaining = rest_read (taken + 1) remaining before entries ≡ record_of text

-- what was read and drawn, and that reading the rest gives what reading all gives
pub record Onwards (to_come rest : Option (List ℕ)) (taken : ℕ) (t : RecordPicture) (old new : Option (List ℕ)) : Type 0 where
  pub before : Option Progress
  pub past : Past
  pub corresponds : Corresponds t before past old new
  pub few : length past ≤ taken
  pub goes_on : Reported to_come rest (GoesOnTo before (reverse past) taken)

-- as many entries were stored or drawn as were said
pub drawn_count : (asked : PictureOptions) (form : Form) (d : Option RecordDrawing) (stored : List Entry) (before : Option Progress) (past : Past) (old new : Option (List ℕ)) → AreReadBy d stored asked form before past old new → count_by d stored ≡ length past
drawn_count asked form None stored before past old new drawn = ap length drawn.are ∙ length-reverse past
drawn_count asked form (Some d) stored None past old new drawn = absurd drawn
drawn_count asked form (Some d) stored (Some p) past old new drawn = drawn_as_many (long_view asked) form p.head.setup past d old new drawn.1.drawn

pub onwards_few : (to_come rest : Option (List ℕ)) (taken : ℕ) (t : RecordPicture) (old new : Option (List ℕ)) → Onwards to_come rest taken t old new → entries_of t.entries ≤ taken
onwards_few to_come rest taken t old new u =
    let few : length u.past ≤ taken = u.few in let count = drawn_count t.options t.form t.entries.drawing t.entries.stored.items u.before u.past old new u.corresponds.draws in omega (arith, few, count)

-- before the first line, where no bytes have come yet
pub onwards_start : (to_come : Option (List ℕ)) (ahead : Given) (taken : ℕ) (t : RecordPicture) (old : Option (List ℕ)) → ahead.bytes ≡ [] → ahead.ended ≡ false → taken ≡ 0 → Corresponds t None [] old old → Onwards to_come (coming ahead to_come) taken t old old
onwards_start to_come ahead taken t old fresh open_yet none corresponds =
    subst (λ (l : List ℕ). Onwards to_come (prepend_known l (unless_ended ahead.ended to_come)) taken t old old) (sym fresh)
    (subst (λ (b : Bool). Onwards to_come (prepend_known [] (unless_ended b to_come)) taken t old old) (sym open_yet)
    (record { before = None; past = []; corresponds = corresponds; few = omega arith; goes_on = by to_come }))
  where
    by : (to_come : Option (List ℕ)) → Reported to_come (prepend_known [] to_come) (GoesOnTo None [] taken)
    by None = tt
    by (Some text) = ap (λ n. rest_read (n + 1) text None []) none

-- a line more
pub onwards_on : (to_come mid rest : Option (List ℕ)) (l l' : LineState) (line : List ℕ) (t t' : RecordPicture) (old new then : Option (List ℕ)) (u : Onwards to_come mid l.taken t old new) → TakesNext l l' mid rest → line ≡ l'.line →
    ((before : Option Progress) (past : Past) (first : Option (List ℕ)) → Corresponds t before past first new → GoesOn (line_read line before) t' past first then) → Onwards to_come rest l'.taken t' old then
onwards_on to_come mid rest l l' line t t' old new then u takes is draws =
    let on = subst (λ (line : List ℕ). GoesOn (line_read line u.before) t' u.past old then) is (draws u.before u.past old u.corresponds) in
    record {
      before = cleared on.now;
      past = entry_in on.now ++ u.past;
      corresponds = on.corresponds;
      few = let had : length u.past ≤ l.taken = u.few in let one = few_in on.now in let taken : l'.taken ≡ l.taken + 1 = takes.taken in omega (arith, had, one, taken, length-append (entry_in on.now) u.past);
      goes_on = reported_on to_come mid rest (GoesOnTo u.before (reverse u.past) l.taken) (λ text remaining. TakesLine text l'.line remaining) (GoesOnTo (cleared on.now) (reverse (entry_in on.now ++ u.past)) l'.taken)
          (λ x y z before takes_line. ap (rest_read (l'.taken + 1) z (cleared on.now)) (reverse_in on.now u.past) ∙ ap (λ n. rest_read (n + 1) z (cleared on.now) (reverse u.past ++ entry_in on.now)) takes.taken ∙ sym (line_then (l.taken + 1) y l'.line z u.before on.now (reverse u.past) takes_line on.says) ∙ before) u.goes_on takes.line;
    }

-- The end.

-- a line with a fault
pub onwards_fault : (to_come mid rest : Option (List ℕ)) (l l' : LineState) (n : ℕ) (line : List ℕ) (t : RecordPicture) (old new : Option (List ℕ)) (e : Fault) → Onwards to_come mid l.taken t old new → TakesNext l l' mid rest → n ≡ l'.taken → line ≡ l'.line →
    LineStops e n (λ kind. (before : Option Progress) → t.reader ≡ before → line_read line before ≡ Err kind) → IsDrawFault e to_come
onwards_fault to_come mid rest l l' n line t old new fault.Read u takes number same stops = tt
onwards_fault to_come mid rest l l' n line t old new fault.Write u takes number same stops = tt
onwards_fault to_come mid rest l l' n line t old new fault.Memory u takes number same stops = tt
onwards_fault to_come mid rest l l' n line t old new (fault.Line f) u takes number same stops =
    of_input to_come mid (GoesOnTo u.before (reverse u.past) l.taken) (λ y. (z : List ℕ) × TakesLine y l'.line z) (λ text. UnlessMemory f.kind (record_of text ≡ Err f)) (λ x y before next. unless_then f.kind
    (λ (is : (before : Option Progress) → t.reader ≡ before → line_read line before ≡ Err f.kind). sym before ∙ line_fault (l.taken + 1) y l'.line (lines next.0) u.before (reverse u.past) f.kind next.1 (ap (λ (line : List ℕ). line_read line u.before) (sym same) ∙ is u.before u.corresponds.reader) ∙ ap (λ n. Err (record { line = n; kind = f.kind })) (sym takes.taken ∙ sym number ∙ sym stops.0)) stops.1)
    u.goes_on (some_rest mid rest takes.line)
  where
    some_rest : (mid rest : Option (List ℕ)) → Reported mid rest (λ text remaining. TakesLine text l'.line remaining) → IfSome mid (λ y. (z : List ℕ) × TakesLine y l'.line z)
    some_rest None rest reported = tt
    some_rest (Some y) None reported = absurd reported
    some_rest (Some y) (Some z) reported = (z, reported)

-- a line that is too long
pub onwards_long : (to_come mid : Option (List ℕ)) (taken : ℕ) (t : RecordPicture) (old new : Option (List ℕ)) (u : Onwards to_come mid taken t old new) → IfSome mid IsTooLong → IfSome to_come (λ text. record_of text ≡ Err (record { line = taken + 1; kind = TooLong }))
onwards_long to_come mid taken t old new u long =
    of_input to_come mid (GoesOnTo u.before (reverse u.past) taken) IsTooLong (λ text. record_of text ≡ Err (record { line = taken + 1; kind = TooLong })) (λ x y before is. sym before ∙ line_fault (taken + 1) y is.line is.others u.before (reverse u.past) TooLong is.is (long_read is.line u.before is.long)) u.goes_on long

-- all lines were skipped
pub onwards_none : (to_come mid : Option (List ℕ)) (taken : ℕ) (t : RecordPicture) (old new : Option (List ℕ)) (u : Onwards to_come mid taken t old new) → t.reader ≡ None → IsAtEnd mid → IfSome to_come (λ text. record_of text ≡ Err (record { line = taken + 1; kind = NotFirst }))
onwards_none to_come mid taken t old new u none end =
    of_input to_come mid (GoesOnTo u.before (reverse u.past) taken) (λ y. y ≡ []) (λ text. record_of text ≡ Err (record { line = taken + 1; kind = NotFirst })) (λ x y before is. sym before ∙ ap (λ (l : List ℕ). rest_read (taken + 1) l u.before (reverse u.past)) is ∙ ap (λ b. rest_read (taken + 1) [] b (reverse u.past)) (sym u.corresponds.reader ∙ none) ∙ ap (λ n. Err (record { line = n; kind = NotFirst })) {y = taken + 1} (omega arith)) u.goes_on (at_end mid end)

-- the picture of the whole
pub onwards_drawn : (to_come mid : Option (List ℕ)) (taken : ℕ) (t : RecordPicture) (old new then : Option (List ℕ)) (u : Onwards to_come mid taken t old new) (p : Progress) (drawn : DrawnEntry) → t.reader ≡ Some p → IsAtEnd mid →
    ((p : Progress) (past : Past) (first : Option (List ℕ)) → t.reader ≡ Some p → Corresponds t (Some p) past first new → (drawn.setup ≡ p.head.setup) × EndsAsked t.options t.form p.head.setup past [] drawn.shows drawn.opening.items drawn.height first then) →
    IfSome to_come (DrawsAllBands t.options t.form drawn old then)
onwards_drawn to_come mid taken t old new then u p drawn some end ends =
    of_input to_come mid (GoesOnTo u.before (reverse u.past) taken) (λ y. y ≡ []) (DrawsAllBands t.options t.form drawn old then) (λ x y before is. record {
      said = record { setup = p.head.setup; entries = reverse u.past };
      says = sym before ∙ ap (λ (l : List ℕ). rest_read (taken + 1) l u.before (reverse u.past)) is ∙ ap (λ b. rest_read (taken + 1) [] b (reverse u.past)) (sym u.corresponds.reader ∙ some);
      holds = record { setup = both.0; ends = subst (λ (past : Past). EndsAsked t.options t.form p.head.setup past [] drawn.shows drawn.opening.items drawn.height old then) (sym (reverse-reverse u.past)) both.1 };
    }) u.goes_on (at_end mid end)
  where
    both : (drawn.setup ≡ p.head.setup) × EndsAsked t.options t.form p.head.setup u.past [] drawn.shows drawn.opening.items drawn.height old then
    both = ends p u.past old some (subst (λ (o : Option Progress). Corresponds t o u.past old new) (sym u.corresponds.reader ∙ some) u.corresponds)

-- what was read, where something was
pub read_some : (o : Option Progress) → IsSome o → (p : Progress) × (o ≡ Some p)
read_some None some = absurd (cc)
read_some (Some p) some = (p, refl)

-- no next line
pub onwards_stop : (to_come mid rest : Option (List ℕ)) (l l' : LineState) (t : RecordPicture) (old new : Option (List ℕ)) (e : Fault) (u : Onwards to_come mid l.taken t old new) → GoesToNext (Err e) l l' mid rest → IsDrawFault e to_come
onwards_stop to_come mid rest l l' t old new fault.Read u next = tt
onwards_stop to_come mid rest l l' t old new fault.Memory u next = tt
onwards_stop to_come mid rest l l' t old new fault.Write u next = absurd next
onwards_stop to_come mid rest l l' t old new (fault.Line f) u next =
    subst (λ (f : LineFault). IfSome to_come (λ text. UnlessMemory f.kind (record_of text ≡ Err f))) (sym next.0) (onwards_long to_come mid l.taken t old new u next.1)

-- where a fault is handed on nothing ends well
pub not_ok : {A E : Type 0} (r : Result A E) (e : E) (P : Type 0) → IsErrAnd r (λ x. x ≡ e) → OnOk r P
not_ok (Ok done) e P same = absurd same
not_ok (Err x) e P same = tt

pub no_value : {A E : Type 0} (r : Result A E) (e : E) (P : A → Type 0) → IsErrAnd r (λ x. x ≡ e) → IfOk r P
no_value (Ok done) e P same = absurd same
no_value (Err x) e P same = tt

-- it counts as it did
pub reading_same : {A : Type 0} (r : Result A Fault) (e : Fault) → IsErrAnd r (λ x. x ≡ e) → failed_reading r ≡ failed_reading {A = Unit {0}} (Err e)
reading_same (Ok done) e same = absurd same
reading_same {A} (Err f) e same = kind f ∙ ap (λ f. failed_reading {A = Unit {0}} (Err f)) same
  where
    kind : (f : Fault) → failed_reading {A = A} (Err f) ≡ failed_reading {A = Unit {0}} (Err f)
    kind (fault.Line f) = refl
    kind f = refl

-- a call that takes the next line fails by no write, and one that draws a line by no read
pub next_wrote : (e : Fault) (l l' : LineState) (mid rest : Option (List ℕ)) → GoesToNext (Err e) l l' mid rest → failed_write {A = Unit {0}} (Err e) ≡ 0
next_wrote fault.Write l l' mid rest next = absurd next
next_wrote e l l' mid rest next = refl

pub drawing_read : (e : Fault) (n : ℕ) (P : FaultKind → Type 0) → LineStops e n P → failed_reading {A = Unit {0}} (Err e) ≡ 0
drawing_read fault.Read n P why = absurd why
drawing_read e n P why = refl
