-- A record file that a judge observes and that is drawn up to the first entry that breaks a law.
use Rattle.std.proofs.Common.{◌≡◌, ℕ, ◌+◌, ◌≤◌, nat_lt, Bool, true, false, if◌then◌else◌, List, [], ◌∷◌, ◌++◌, length, reverse, Option, Some, None, Result, Ok, Err, IfSome, refl, ap, sym, subst, ◌∙◌, append-nil, append_assoc, arith}
use Rattle.std.proofs.lemmas.List.{length-reverse, reverse-append}
use Rattle.std.specs.Option.{option_to_list}
use Rattle.model.specs.plain_store.{Setup}
use Rattle.std.specs.Io.KnownBytes.{IsAtEnd, prepend_known}
use Rattle.scenario.specs.files.{Fault, FaultKind, Given, LineState, TakesNext, UnlessMemory, coming, unless_ended, words_of, words_read}
use Rattle.scenario.specs.files.declared.faults.Fault.TheVariants as fault
use Rattle.scenario.specs.files.declared.faults.FaultKind.TheVariants.{NotFirst, TooLong}
use Rattle.model.specs.{Entry, Past}
use Rattle.judge.specs.record_file.{Progress, cleared, entry_in, line_read, record_grammar, record_of}
use Rattle.judge.specs.record_file.scenario.{Progress as Head}
use Rattle.judge.specs.{IsInputFault, IsOfRecord, Reporting, number_in, say_entry}
use Rattle.judge.specs.Trials.{ObservesAt, good_in}
use Rattle.judge.specs.Trials.{GoesOn as ObservesOn}
use Rattle.judge.specs.Trials.{Corresponds as ObserverCorresponds}
use Rattle.judge.proofs.Ends.{GoesOnTo, Onwards, at_end, goes_on_at_first, of_input, onwards_fault, onwards_on}
use Rattle.judge.proofs.Trials.{unless_then}
use Rattle.judge.proofs.Lines.{later_remaining}
use Rattle.draw.specs.{All, DrawnEntry, DrawsBandsOf, EndsAsked, GoesOn, HasRead, HasStopped, IsDrawFault, IsJudged, IsShown, LineStops, SaysAll, RecordPicture, Corresponds, ReportsOfLines, UpTo, entries_of}
use Rattle.draw.proofs.RecordEnds.{drawn_count}
use Rattle.draw.proofs.Lines.{head_stays}
use Rattle.draw.proofs.Whole.{if_some}

-- the entries so far, the newest first
newest_first : (entries : List Entry) (now : Option Progress) → entry_in now ++ reverse entries ≡ reverse (entries ++ entry_in now)
newest_first entries None = ap reverse (sym (append-nil entries))
newest_first entries (Some p) = by p.entry
  where
    by : (o : Option Entry) → option_to_list o ++ reverse entries ≡ reverse (entries ++ option_to_list o)
    by None = ap reverse (sym (append-nil entries))
    by (Some e) = sym (reverse-append entries (e ∷ []))

-- a line that was read is not too long
read_words : (line : List ℕ) (before now : Option Progress) → line_read line before ≡ Ok now → words_read record_grammar (words_of line) before ≡ Ok now
read_words line before now read = by (nat_lt 128 (length line)) read
  where
    by : (b : Bool) → (if b then Err TooLong else words_read record_grammar (words_of line) before) ≡ Ok now → words_read record_grammar (words_of line) before ≡ Ok now
    by true read = absurd (cc)
    by false read = read

-- after an entry, a line does not change the setup
setup_stays : (line : List ℕ) (p : Progress) (now : Option Progress) → line_read line (Some p) ≡ Ok now → p.ended ≡ true → (next : Progress) × (cleared now ≡ Some next) × (next.ended ≡ true) × (next.head.setup ≡ p.head.setup)
setup_stays line p now read ended =
    let remaining = later_remaining (words_of line) p now (read_words line (Some p) now read) in
    let next : Progress = remaining.0 in
    let stays = head_stays (say_entry (words_of line)) p next ended remaining.2 in
    (record next { entry = None }, ap cleared remaining.1, stays.0, ap (λ (h : Head). h.setup) stays.1)

-- if nothing remains of a text, what was read is all that it says
says_all : (before : Option Progress) (entries : List Entry) (numbers : List ℕ) (taken : ℕ) (x y : List ℕ) → GoesOnTo before entries numbers taken x y → y ≡ [] → SaysAll before entries numbers taken x
says_all before entries numbers taken x y so_far none = by before (subst (λ y. GoesOnTo before entries numbers taken x y) none so_far)
  where
    by : (before : Option Progress) → GoesOnTo before entries numbers taken x [] → SaysAll before entries numbers taken x
    by None to = sym to.reads ∙ ap (λ n. Err (record { line = n; kind = NotFirst })) {y = taken + 1} (omega arith)
    by (Some p) to = (sym to.reads, sym (append-nil numbers) ∙ to.counts)

-- Reading the rest leads to what reading the whole text gives. The judge has observed each entry so far, and each is drawn as far as it is shown.
pub record Judged {H : Type 0} (HasObserved : H → Setup → List Entry → List ℕ → Type 0) (Keeps : Setup → List Entry → Type 0) (finds_good : H → Bool) (to_come rest : Option (List ℕ)) (taken : ℕ) (reader : Option Progress) (j : Option H) (shows : Bool) (t : RecordPicture) (first now : Option (List ℕ)) : Type 0 where
  pub onwards : Onwards HasObserved to_come rest taken reader j
  pub shown : IsShown Keeps finds_good shows j t onwards.before onwards.entries first now

module _ {H : Type 0} (HasObserved : H → Setup → List Entry → List ℕ → Type 0) (Keeps : Setup → List Entry → Type 0) (finds_good : H → Bool) where
  -- if something of the file was read, the picture has read something, too
  shown_read : (shows : Bool) (j : Option H) (t : RecordPicture) (before : Option Progress) (entries : List Entry) (first now : Option (List ℕ)) (p : Progress) → before ≡ Some p → IsShown Keeps finds_good shows j t before entries first now → t.reader ≡ None → ⊥
  shown_read true j t before entries first now p is shown none = let no : None ≡ Some p = sym none ∙ shown.1.reader ∙ is in cc
  shown_read false j t before entries first now p is shown none = let no : None ≡ Some shown.drawn = sym none ∙ shown.corresponds.reader in cc

  -- all entries so far are shown
  all_shown : (j : Option H) (t : RecordPicture) (before : Option Progress) (entries : List Entry) (first now : Option (List ℕ)) (b : Bool) → b ≡ true → IsShown Keeps finds_good b j t before entries first now → Corresponds t before (reverse entries) first now
  all_shown j t before entries first now true shows shown = shown.1
  all_shown j t before entries first now false shows shown = absurd (cc)

  -- at most as many entries are drawn as lines were taken
  pub shown_few : (to_come rest : Option (List ℕ)) (taken : ℕ) (reader : Option Progress) (j : Option H) (t : RecordPicture) (first now : Option (List ℕ)) (b : Bool) → b ≡ true → Judged HasObserved Keeps finds_good to_come rest taken reader j b t first now → entries_of t.entries ≤ taken
  shown_few to_come rest taken reader j t first now b shows u =
      let v = u.onwards in
      let corresponds = all_shown j t v.before v.entries first now b shows u.shown in
      let few : length v.entries ≤ taken = v.few in
      let count = drawn_count t.options t.form t.entries.drawing t.entries.stored.items v.before (reverse v.entries) first now corresponds.draws in
      omega (arith, few, count, length-reverse v.entries)

  -- before the first line, when no bytes have come yet
  pub judged_start : (to_come : Option (List ℕ)) (ahead : Given) (taken : ℕ) (reader : Option Progress) (j : Option H) (t : RecordPicture) (first : Option (List ℕ)) → ahead.bytes ≡ [] → ahead.ended ≡ false → taken ≡ 0 → ObserverCorresponds HasObserved reader j None [] [] → Corresponds t None [] first first →
      Judged HasObserved Keeps finds_good to_come (coming ahead to_come) taken reader j true t first first
  judged_start to_come ahead taken reader j t first fresh open_yet none corresponds begun =
      subst (λ (l : List ℕ). Judged HasObserved Keeps finds_good to_come (prepend_known l (unless_ended ahead.ended to_come)) taken reader j true t first first) (sym fresh)
      (subst (λ (b : Bool). Judged HasObserved Keeps finds_good to_come (prepend_known [] (unless_ended b to_come)) taken reader j true t first first) (sym open_yet)
      (record { onwards = record { before = None; entries = []; numbers = []; corresponds = corresponds; few = omega arith; goes_on = goes_on_at_first to_come taken none }; shown = (nobody j corresponds.observed, begun) }))
    where
      nobody : (j : Option H) → ObservesAt HasObserved j None [] [] → good_in finds_good j ≡ true
      nobody None observed = refl
      nobody (Some h) observed = absurd observed

  -- One more line.

  -- a line, as it was taken
  observed_at : (n : ℕ) (line : List ℕ) (l : LineState) (before reader : Option Progress) (j : Option H) (entries : List Entry) (numbers : List ℕ) → n ≡ l.taken → line ≡ l.line → ObservesOn HasObserved n line before reader j entries numbers → ObservesOn HasObserved l.taken l.line before reader j entries numbers
  observed_at n line l before reader j entries numbers number is on = subst (λ n. ObservesOn HasObserved n l.line before reader j entries numbers) number (subst (λ (line : List ℕ). ObservesOn HasObserved n line before reader j entries numbers) is on)

  -- a line that the judge observes after the first entry that breaks a law
  stopped_on : (n : ℕ) (line : List ℕ) (j j' : Option H) (t : RecordPicture) (before reader : Option Progress) (entries : List Entry) (numbers : List ℕ) (first now : Option (List ℕ)) → IsShown Keeps finds_good false j t before entries first now → (on : ObservesOn HasObserved n line before reader j' entries numbers) → IsShown Keeps finds_good false j' t (cleared on.now) (entries ++ entry_in on.now) first now
  stopped_on n line j j' t before reader entries numbers first now shown on =
      let stays = setup_stays line shown.last on.now (ap (line_read line) (sym shown.read) ∙ on.says) shown.ended in
      record {
        last = stays.0;
        read = stays.1;
        ended = stays.2;
        drawn = shown.drawn;
        setup = shown.setup ∙ sym stays.3;
        front = shown.front;
        entry = shown.entry;
        later = shown.later ++ entry_in on.now;
        corresponds = shown.corresponds;
        splits = ap (λ l. l ++ entry_in on.now) shown.splits ∙ append_assoc (shown.front ++ shown.entry ∷ []) shown.later (entry_in on.now);
        keeps = shown.keeps;
        breaks = shown.breaks;
      }

  -- or a line that the judge observes and that is not drawn
  pub judged_observed : (to_come mid rest : Option (List ℕ)) (l l' : LineState) (n : ℕ) (line : List ℕ) (reader reader' : Option Progress) (j j' : Option H) (t : RecordPicture) (first now : Option (List ℕ)) (b : Bool) → b ≡ false → (u : Judged HasObserved Keeps finds_good to_come mid l.taken reader j b t first now) → TakesNext l l' mid rest → n ≡ l'.taken → line ≡ l'.line →
      ((before : Option Progress) (entries : List Entry) (numbers : List ℕ) → ObserverCorresponds HasObserved reader j before entries numbers → ObservesOn HasObserved n line before reader' j' entries numbers) → Judged HasObserved Keeps finds_good to_come rest l'.taken reader' j' b t first now
  judged_observed to_come mid rest l l' n line reader reader' j j' t first now b stopped u takes number is observes =
      let v = u.onwards in
      let on = observed_at n line l' v.before reader' j' v.entries v.numbers number is (observes v.before v.entries v.numbers v.corresponds) in
      record {
        onwards = onwards_on HasObserved to_come mid rest l l' reader reader' j j' v takes on;
        shown = subst (λ b. IsShown Keeps finds_good b j' t (cleared on.now) (v.entries ++ entry_in on.now) first now) (sym stopped)
            (stopped_on l'.taken l'.line j j' t v.before reader' v.entries v.numbers first now (subst (λ b. IsShown Keeps finds_good b j t v.before v.entries first now) stopped u.shown) on);
      }

  -- a line with a fault, which is found when the line is drawn
  pub read_fault : (to_come mid rest : Option (List ℕ)) (l l' : LineState) (n : ℕ) (line : List ℕ) (reader : Option Progress) (j : Option H) (t : RecordPicture) (first now : Option (List ℕ)) (b : Bool) (e : Fault) → b ≡ true → Judged HasObserved Keeps finds_good to_come mid l.taken reader j b t first now → TakesNext l l' mid rest → n ≡ l'.taken → line ≡ l'.line →
      LineStops e n (λ kind. (before : Option Progress) → t.reader ≡ before → line_read line before ≡ Err kind) → IsDrawFault e to_come
  read_fault to_come mid rest l l' n line reader j t first now b (fault.Line f) shows u takes number is why =
      let v = u.onwards in
      let corresponds = all_shown j t v.before v.entries first now b shows u.shown in
      subst (λ (n : ℕ). IfSome to_come (λ text. UnlessMemory f.kind (record_of text ≡ Err (record { line = n; kind = f.kind })))) (sym (why.0 ∙ number))
      (onwards_fault HasObserved to_come mid rest l l' reader j f.kind v takes (unless_then f.kind (λ (is_so : (before : Option Progress) → t.reader ≡ before → line_read line before ≡ Err f.kind). ap (λ (line : List ℕ). line_read line v.before) (sym is) ∙ is_so v.before corresponds.reader) why.1))
  read_fault to_come mid rest l l' n line reader j t first now b e shows u takes number is why = tt

  -- The end.

  -- all lines were read
  pub judged_read : (to_come mid : Option (List ℕ)) (taken n : ℕ) (reader : Option Progress) (j : Option H) (b : Bool) (t : RecordPicture) (first now : Option (List ℕ)) → Judged HasObserved Keeps finds_good to_come mid taken reader j b t first now → IsAtEnd mid → n ≡ taken → HasRead HasObserved Keeps finds_good to_come n reader j t first now
  judged_read to_come mid taken n reader j b t first now u end same =
      let v = u.onwards in
      record {
        before = v.before;
        entries = v.entries;
        numbers = v.numbers;
        says = subst (λ n. IfSome to_come (SaysAll v.before v.entries v.numbers n)) (sym same) (of_input to_come mid (GoesOnTo v.before v.entries v.numbers taken) (λ y. y ≡ []) (SaysAll v.before v.entries v.numbers taken) (says_all v.before v.entries v.numbers taken) v.goes_on (at_end mid end));
        corresponds = v.corresponds;
        shows = b;
        shown = u.shown;
      }

  module _ (to_come : Option (List ℕ)) (taken : ℕ) (reader : Option Progress) (j : Option H) (t : RecordPicture) (first now : Option (List ℕ)) (u : HasRead HasObserved Keeps finds_good to_come taken reader j t first now) where
    -- all lines were skipped
    pub read_none : u.before ≡ None → IfSome to_come (λ text. record_of text ≡ Err (record { line = taken + 1; kind = NotFirst }))
    read_none none = subst (λ (o : Option Progress). IfSome to_come (SaysAll o u.entries u.numbers taken)) none u.says

    -- something was read
    pub read_some : (Reports : Setup → List Entry → List ℕ → List ℕ → ℕ → Type 0) (reported : Reporting) → ReportsOfLines Reports (Some reported) u.before u.entries u.numbers → t.reader ≡ None → ⊥
    read_some Reports reported is = shown_read u.shows j t u.before u.entries first now is.0 is.1 u.shown

-- The findings of a judge are right.

module _ {H : Type 0} (HasObserved : H → Setup → List Entry → List ℕ → Type 0) (Keeps : Setup → List Entry → Type 0) (finds_good : H → Bool) (begins : (s : Setup) → Keeps s [])
    (good : (h : H) (s : Setup) (entries : List Entry) (numbers : List ℕ) → HasObserved h s entries numbers → finds_good h ≡ true → Keeps s entries)
    (bad : (h : H) (s : Setup) (entries : List Entry) (numbers : List ℕ) → HasObserved h s entries numbers → finds_good h ≡ false → Keeps s entries → ⊥) where
  -- what a judge finds good keeps all laws
  keeps_at : (j : Option H) (p : Progress) (entries : List Entry) (numbers : List ℕ) → ObservesAt HasObserved j (Some p) entries numbers → good_in finds_good j ≡ true → Keeps p.head.setup entries
  keeps_at None p entries numbers observed found = subst (λ (l : List Entry). Keeps p.head.setup l) (sym observed.0) (begins p.head.setup)
  keeps_at (Some h) p entries numbers observed found = good h p.head.setup entries numbers observed.1 found

  -- One more line, which is shown.

  -- what the judge found good before a line keeps all laws
  kept_before : (line : List ℕ) (j : Option H) (before now : Option Progress) (entries : List Entry) (numbers : List ℕ) (p : Progress) → line_read line before ≡ Ok now → good_in finds_good j ≡ true → ObservesAt HasObserved j before entries numbers → cleared now ≡ Some p → Keeps p.head.setup entries
  kept_before line None before now entries numbers p read found observed is = subst (λ (l : List Entry). Keeps p.head.setup l) (sym observed.0) (begins p.head.setup)
  kept_before line (Some i) None now entries numbers p read found observed is = absurd observed
  kept_before line (Some i) (Some q) now entries numbers p read found observed is =
      let stays = setup_stays line q now read observed.0 in
      let next : Progress = stays.0 in
      let both : Some next ≡ Some p = sym stays.1 ∙ is in
      let same : next ≡ p = cc in
      subst (λ s. Keeps s entries) (sym stays.3 ∙ ap (λ (p : Progress). p.head.setup) same) (good i q.head.setup entries numbers observed.1 found)

  -- the first entry that breaks a law was drawn
  stops : (t : RecordPicture) (before : Option Progress) (entries : List Entry) (o : Option Entry) (first after : Option (List ℕ)) (p : Progress) → before ≡ Some p → p.ended ≡ true → Keeps p.head.setup entries → (Keeps p.head.setup (entries ++ option_to_list o) → ⊥) → Corresponds t (Some p) (reverse (entries ++ option_to_list o)) first after →
      HasStopped Keeps t before (entries ++ option_to_list o) first after
  stops t before entries None first after p is ended keeps breaks corresponds = absurd (breaks (subst (λ (l : List Entry). Keeps p.head.setup l) (sym (append-nil entries)) keeps))
  stops t before entries (Some e) first after p is ended keeps breaks corresponds = record {
    last = p;
    read = is;
    ended = ended;
    drawn = p;
    setup = refl;
    front = entries;
    entry = e;
    later = [];
    corresponds = corresponds;
    splits = sym (append-nil (entries ++ e ∷ []));
    keeps = keeps;
    breaks = breaks;
  }

  stops_at : (t : RecordPicture) (before now : Option Progress) (entries : List Entry) (first after : Option (List ℕ)) (p : Progress) → before ≡ Some p → p.ended ≡ true → Keeps p.head.setup entries → (Keeps p.head.setup (entries ++ entry_in now) → ⊥) → Corresponds t (Some p) (reverse (entries ++ entry_in now)) first after →
      HasStopped Keeps t before (entries ++ entry_in now) first after
  stops_at t before None entries first after p is ended keeps breaks corresponds = stops t before entries None first after p is ended keeps breaks corresponds
  stops_at t before (Some q) entries first after p is ended keeps breaks corresponds = stops t before entries q.entry first after p is ended keeps breaks corresponds

  -- a line that the judge observed and that was drawn
  shown_on : (n : ℕ) (line : List ℕ) (j j' : Option H) (t t' : RecordPicture) (before reader : Option Progress) (entries : List Entry) (numbers : List ℕ) (first now after : Option (List ℕ)) → IsShown Keeps finds_good true j t before entries first now → ObservesAt HasObserved j before entries numbers →
      (on : ObservesOn HasObserved n line before reader j' entries numbers) → GoesOn (line_read line before) t' (reverse entries) first after → (b : Bool) → b ≡ good_in finds_good j' → IsShown Keeps finds_good b j' t' (cleared on.now) (entries ++ entry_in on.now) first after
  shown_on n line j j' t t' before reader entries numbers first now after shown observed on drawn b is = by b j' on.corresponds.observed is
    where
      same : drawn.now ≡ on.now
      same = let both : (let r : Result (Option Progress) FaultKind = Ok drawn.now in r) ≡ Ok on.now = sym drawn.says ∙ on.says in cc

      corresponds : Corresponds t' (cleared on.now) (reverse (entries ++ entry_in on.now)) first after
      corresponds = subst (λ (l : List Entry). Corresponds t' (cleared on.now) l first after) (newest_first entries on.now)
          (subst (λ (o : Option Progress). Corresponds t' (cleared o) (entry_in o ++ reverse entries) first after) same drawn.corresponds)

      found : (h : H) (o : Option Progress) → cleared on.now ≡ o → ObservesAt HasObserved (Some h) o (entries ++ entry_in on.now) (numbers ++ number_in n line) → finds_good h ≡ false → HasStopped Keeps t' (cleared on.now) (entries ++ entry_in on.now) first after
      found h None is observed' broken = absurd observed'
      found h (Some p) is observed' broken =
          stops_at t' (cleared on.now) on.now entries first after p is observed'.0 (kept_before line j before on.now entries numbers p on.says shown.0 observed is)
          (bad h p.head.setup (entries ++ entry_in on.now) (numbers ++ number_in n line) observed'.1 broken)
          (subst (λ (o : Option Progress). Corresponds t' o (reverse (entries ++ entry_in on.now)) first after) is corresponds)

      by : (b : Bool) (j' : Option H) → ObservesAt HasObserved j' (cleared on.now) (entries ++ entry_in on.now) (numbers ++ number_in n line) → b ≡ good_in finds_good j' → IsShown Keeps finds_good b j' t' (cleared on.now) (entries ++ entry_in on.now) first after
      by true j' observed' is = (sym is, corresponds)
      by false None observed' is = absurd (cc)
      by false (Some h) observed' is = found h (cleared on.now) refl observed' (sym is)

  -- one more line, which is shown
  pub judged_shown : (to_come mid rest : Option (List ℕ)) (l l' : LineState) (n : ℕ) (line : List ℕ) (reader reader' : Option Progress) (j j' : Option H) (t t' : RecordPicture) (first now after : Option (List ℕ)) (b b' : Bool) → b ≡ true → (u : Judged HasObserved Keeps finds_good to_come mid l.taken reader j b t first now) → TakesNext l l' mid rest → n ≡ l'.taken → line ≡ l'.line →
      ((before : Option Progress) (entries : List Entry) (numbers : List ℕ) → ObserverCorresponds HasObserved reader j before entries numbers → ObservesOn HasObserved n line before reader' j' entries numbers) →
      ((before : Option Progress) (past : Past) (first : Option (List ℕ)) → Corresponds t before past first now → GoesOn (line_read line before) t' past first after) → b' ≡ good_in finds_good j' → Judged HasObserved Keeps finds_good to_come rest l'.taken reader' j' b' t' first after
  judged_shown to_come mid rest l l' n line reader reader' j j' t t' first now after b b' shows u takes number is observes draws good =
      let v = u.onwards in
      let shown : IsShown Keeps finds_good true j t v.before v.entries first now = subst (λ b. IsShown Keeps finds_good b j t v.before v.entries first now) shows u.shown in
      let on = observed_at HasObserved Keeps finds_good n line l' v.before reader' j' v.entries v.numbers number is (observes v.before v.entries v.numbers v.corresponds) in
      record {
        onwards = onwards_on HasObserved to_come mid rest l l' reader reader' j j' v takes on;
        shown = shown_on l'.taken l'.line j j' t t' v.before reader' v.entries v.numbers first now after shown v.corresponds.observed on (subst (λ (line : List ℕ). GoesOn (line_read line v.before) t' (reverse v.entries) first after) is (draws v.before (reverse v.entries) first shown.1)) b' good;
      }

  -- The end.

  -- the entries that are shown, and the report of the judge
  judged_bands : (Reports : Setup → List Entry → List ℕ → List ℕ → ℕ → Type 0) (shows : Bool) (j : Option H) (t : RecordPicture) (before : Option Progress) (entries : List Entry) (numbers : List ℕ) (first now after : Option (List ℕ)) (p : Progress) (drawn : DrawnEntry) (reported : List ℕ) (status : ℕ) →
      before ≡ Some p → ObservesAt HasObserved j before entries numbers → IsShown Keeps finds_good shows j t before entries first now → Reports p.head.setup entries numbers reported status →
      ((p : Progress) (past : Past) (first : Option (List ℕ)) → t.reader ≡ Some p → Corresponds t (Some p) past first now → (drawn.setup ≡ p.head.setup) × EndsAsked t.options t.form p.head.setup past reported drawn.shows drawn.opening.items drawn.height first after) →
      IsJudged Keeps Reports status (DrawsBandsOf t.options t.form drawn first after) p.head.setup entries numbers
  judged_bands Reports true j t before entries numbers first now after p drawn reported status is observed shown reports ends =
      let both = ends p (reverse entries) first (shown.1.reader ∙ is) (subst (λ (o : Option Progress). Corresponds t o (reverse entries) first now) is shown.1) in
      record {
        reported = reported;
        reports = reports;
        shown = entries;
        shows = All refl (keeps_at j p entries numbers (subst (λ (o : Option Progress). ObservesAt HasObserved j o entries numbers) is observed) shown.0);
        is = record { setup = both.0; ends = both.1 };
      }
  judged_bands Reports false j t before entries numbers first now after p drawn reported status is observed shown reports ends =
      let q : Progress = shown.drawn in
      let entries' : List Entry = shown.front ++ shown.entry ∷ [] in
      let both = ends q (reverse entries') first shown.corresponds.reader shown.corresponds in
      let last : Progress = shown.last in
      let two : Some last ≡ Some p = sym shown.read ∙ is in
      let same : last ≡ p = cc in
      let setup : q.head.setup ≡ p.head.setup = shown.setup ∙ ap (λ (p : Progress). p.head.setup) same in
      subst (λ (s : Setup). IsJudged Keeps Reports status (DrawsBandsOf t.options t.form drawn first after) s entries numbers) setup (record {
        reported = reported;
        reports = subst (λ (s : Setup). Reports s entries numbers reported status) (sym setup) reports;
        shown = entries';
        shows = UpTo shown.front shown.entry shown.later refl shown.splits shown.keeps shown.breaks;
        is = record { setup = both.0; ends = both.1 };
      })

  -- all that a text says was read
  pub read_judged : (to_come : Option (List ℕ)) (taken : ℕ) (reader : Option Progress) (j : Option H) (t : RecordPicture) (first now : Option (List ℕ)) (u : HasRead HasObserved Keeps finds_good to_come taken reader j t first now) (Reports : Setup → List Entry → List ℕ → List ℕ → ℕ → Type 0) (reported : Reporting) (drawn : DrawnEntry) (after : Option (List ℕ)) → ReportsOfLines Reports (Some reported) u.before u.entries u.numbers →
      ((p : Progress) (past : Past) (first : Option (List ℕ)) → t.reader ≡ Some p → Corresponds t (Some p) past first now → (drawn.setup ≡ p.head.setup) × EndsAsked t.options t.form p.head.setup past reported.text.items drawn.shows drawn.opening.items drawn.height first after) →
      IfSome to_come (IsOfRecord (IsJudged Keeps Reports reported.status (DrawsBandsOf t.options t.form drawn first after)))
  read_judged to_come taken reader j t first now u Reports reported drawn after is ends =
      let p : Progress = is.0 in
      let judged = judged_bands Reports u.shows j t u.before u.entries u.numbers first now after p drawn reported.text.items reported.status is.1 u.corresponds.observed u.shown is.2 ends in
      if_some to_come (SaysAll (Some p) u.entries u.numbers taken) (IsOfRecord (IsJudged Keeps Reports reported.status (DrawsBandsOf t.options t.form drawn first after)))
      (λ text says. record {
        said = record { setup = p.head.setup; entries = u.entries };
        says = says.0;
        holds = subst (λ (l : List ℕ). IsJudged Keeps Reports reported.status (DrawsBandsOf t.options t.form drawn first after) p.head.setup u.entries l) says.1 judged;
      }) (subst (λ (o : Option Progress). IfSome to_come (SaysAll o u.entries u.numbers taken)) is.1 u.says)

-- a fault of the input
pub input_fault : (e : Fault) (to_come : Option (List ℕ)) → IsInputFault e to_come → IsDrawFault e to_come
input_fault (fault.Line f) to_come is = is
input_fault e to_come is = tt
