-- A picture is drawn part by part.
use Rattle.std.proofs.Common.{◌≡◌, ◌+◌, inr, refl, ℕ, false, suc, List, [], ◌∷◌, ◌++◌, is_some, length, Option, None, Some, ap, sym, subst, arith, true≢false}
use Rattle.model.specs.plain_store.{Setup}
use Rattle.model.specs.{Access, Entry, Mark, Past}
use Rattle.record_accesses.specs.{MonitorState, entry_with}
use Rattle.judge.specs.safe_monitor.{entry_by}
use Rattle.picture.specs.picture_layout.{OverlappedRead}
use Rattle.picture.specs.declared.reads.Reads.{Reads as Mode}
use Rattle.draw.specs.{Canvas, Drawing, DrawsMarks, DrawsOn, DrawsPart, Gives, HasDrawn, IsAfterMarks, IsStoreBefore, Kept, ObservesAll, OverlapsObserved, Part, PartEntry, Recalls, AccessView, MonitorsAccesses, entries_among, given_access_of, given_last, given_of, kept, lines_given, marks_back, observes, overlapped_by, reads_since, says_marks}
use Rattle.draw.proofs.AccessItems.{neither, none_given, still_monitors}
use Rattle.draw.proofs.Drawn.{draws_on_both, draws_on_none}
use Rattle.draw.proofs.Giving.{waiting_says}
use Rattle.draw.proofs.ObservedReads.{observes_all_nothing}
use Rattle.draw.proofs.StoresBefore.{before_on}

-- One part.

-- an entry, once its access is observed, and drawn if it is shown, and its marks are drawn
pub entry_drawn : (view : AccessView) (s : Setup) (parts : List Part) (e : Entry) (d mid d' : Drawing) (seen : Canvas) (a m b : Option (List ℕ)) (p : ℕ) (access : Option Access) (marks : List Mark) → e.process ≡ p → e.access ≡ access → e.marks ≡ marks → kept seen ≡ kept d.canvas → Recalls view s parts d →
    ObservesAll view.reads s (e ∷ entries_among parts) (reads_since s parts ++ overlapped_by s (entries_among parts) e) seen.overlaps →
    DrawsOn (kept seen) (kept mid.canvas) a m (given_access_of view.reads view.limit s (entries_among parts) (entry_with p access marks)) × MonitorsAccesses view.reads view.limit s (entry_with p access marks ∷ entries_among parts) mid.accesses →
    mid.canvas.overlaps ≡ seen.overlaps → mid.store ≡ d.store → mid.source ≡ d.source →
    DrawsMarks mid.canvas d'.canvas mid.store d'.store m b mid.source d.entries p marks → d'.accesses ≡ mid.accesses → d'.entries ≡ d.entries + 1 → IsStoreBefore view.window s (e ∷ entries_among parts) d'.before → DrawsPart view s parts (PartEntry e) d d' a b
entry_drawn view s parts e d mid d' seen a m b p access marks process reached are same recalls waits shown overlaps store source drew accesses entries before =
    let past : Past = entries_among parts in
    let all : List OverlappedRead = reads_since s parts ++ overlapped_by s past e in
    let is : entry_with p access marks ≡ e = λ i. record { process = sym process i; access = sym reached i; marks = sym are i } in
    let its = (subst (λ (l : List Mark). DrawsMarks mid.canvas d'.canvas mid.store d'.store m b mid.source d.entries e.process l) (sym are) (subst (λ (q : ℕ). DrawsMarks mid.canvas d'.canvas mid.store d'.store m b mid.source d.entries q marks) (sym process) drew)) s (marks_back past) (subst (IsAfterMarks s (marks_back past)) (sym store) recalls.store) in
    let drawn = its.0 view.reads s (e ∷ past) all (subst (ObservesAll view.reads s (e ∷ past) all) (sym overlaps) waits) in
    let lines = subst (λ (n : ℕ). DrawsOn (kept mid.canvas) (kept d'.canvas) m b (lines_given view.reads d.source n all (says_marks s e.process (marks_back past) e.marks))) recalls.entries
    (subst (λ (n : ℕ). DrawsOn (kept mid.canvas) (kept d'.canvas) m b (lines_given view.reads n d.entries all (says_marks s e.process (marks_back past) e.marks))) source drawn.0) in
    let first = subst (λ (k : Kept). DrawsOn k (kept mid.canvas) a m (given_access_of view.reads view.limit s past e)) same
    (subst (λ (x : Entry). DrawsOn (kept seen) (kept mid.canvas) a m (given_access_of view.reads view.limit s past x)) is shown.0) in (
      draws_on_both (kept d.canvas) (kept mid.canvas) (kept d'.canvas) a m b (given_access_of view.reads view.limit s past e) (lines_given view.reads d.source (length past) all (says_marks s e.process (marks_back past) e.marks)) first lines,
      record {
        entries = let n : d.entries ≡ length past = recalls.entries in omega (arith, entries, n);
        store = its.1;
        waits = subst (λ (l : List OverlappedRead). ObservesAll view.reads s (e ∷ past) l d'.canvas.overlaps) (waiting_says s e.process (marks_back past) e.marks all) drawn.1;
        accesses = subst (λ (o : Option MonitorState). MonitorsAccesses view.reads view.limit s (e ∷ past) o) (sym accesses)
            (subst (λ (x : Entry). MonitorsAccesses view.reads view.limit s (x ∷ past) mid.accesses) is shown.1);
        before = before;
      },
    )

-- Entries without a mark, where no access is observed.

still_waits : (mode : Mode) (s : Setup) (past then : Past) (reads more : List OverlappedRead) (overlaps : Option OverlapsObserved) → is_some overlaps ≡ false → ObservesAll mode s past reads overlaps → ObservesAll mode s then more overlaps
still_waits mode s past then reads more None none waits = observes_all_nothing mode s past then reads more waits
still_waits mode s past then reads more (Some overlaps) none waits = absurd (true≢false none)

pub recalls_passed : (view : AccessView) (s : Setup) (parts : List Part) (p : ℕ) (access : Option Access) (d : Drawing) → observes d ≡ false → Recalls view s parts d →
    Recalls view s (PartEntry (entry_by p access []) ∷ parts) (record d { entries = d.entries + 1 })
recalls_passed view s parts p access d none recalls =
    let both = neither (is_some d.canvas.overlaps) (is_some d.accesses) none in
    record {
      entries = let n : d.entries ≡ length (entries_among parts) = recalls.entries in omega (arith, n);
      store = recalls.store;
      waits = still_waits view.reads s (entries_among parts) (entry_by p access [] ∷ entries_among parts) (reads_since s parts) (reads_since s (PartEntry (entry_by p access []) ∷ parts)) d.canvas.overlaps both.0 recalls.waits;
      accesses = still_monitors view.reads view.limit s (entries_among parts) (entry_by p access [] ∷ entries_among parts) d.accesses both.1 recalls.accesses;
      before = before_on view.window s (entries_among parts) (entry_by p access []) d.before (inr refl) recalls.before;
    }

-- a drawing recalls the same parts whichever line of the list comes next
pub recalls_at : (view : AccessView) (s : Setup) (parts : List Part) (d : Drawing) (source : ℕ) → Recalls view s parts d → Recalls view s parts (record d { source = source })
recalls_at view s parts d source recalls = record { entries = recalls.entries; store = recalls.store; waits = recalls.waits; accesses = recalls.accesses; before = recalls.before }

-- All parts since a start.

-- none
pub drawn_none : (view : AccessView) (s : Setup) (parts : List Part) (d : Drawing) (a : Option (List ℕ)) → Recalls view s parts d → HasDrawn view s parts (kept d.canvas) a parts d a
drawn_none view s parts d a recalls = record { recalls = recalls; more = 0; long = omega arith; draws = draws_on_none (kept d.canvas) a }

module _ (view : AccessView) (s : Setup) (start : List Part) (had : Kept) (old : Option (List ℕ)) where
  -- one more
  pub drawn_more : (parts : List Part) (part : Part) (d d' : Drawing) (mid new : Option (List ℕ)) → DrawsPart view s parts part d d' mid new → d'.source ≡ d.source →
      HasDrawn view s start had old parts d mid → HasDrawn view s start had old (part ∷ parts) d' new
  drawn_more parts part d d' mid new drew source h = record {
    recalls = drew.1;
    more = suc h.more;
    long = let long = h.long in omega (arith, long);
    draws = subst (λ n. DrawsOn had (kept d'.canvas) old new (given_last view s n (suc h.more) (part ∷ parts))) (sym source)
        (draws_on_both had (kept d.canvas) (kept d'.canvas) old mid new (given_last view s d.source h.more parts) (given_of view s d.source parts part) h.draws drew.0);
  }

  -- an entry without a mark, where no access is observed, so that nothing is drawn of it
  pub drawn_quiet : (parts : List Part) (p : ℕ) (access : Option Access) (d d' : Drawing) (new : Option (List ℕ)) → observes d ≡ false → kept d'.canvas ≡ kept d.canvas → d'.source ≡ d.source → Recalls view s (PartEntry (entry_by p access []) ∷ parts) d' →
      HasDrawn view s start had old parts d new → HasDrawn view s start had old (PartEntry (entry_by p access []) ∷ parts) d' new
  drawn_quiet parts p access d d' new none same source recalls h =
      let e : Entry = entry_by p access [] in
      let both = neither (is_some d.canvas.overlaps) (is_some d.accesses) none in
      let gives : [] ≡ given_of view s d.source parts (PartEntry e) = ap (λ (l : List Gives). l ++ []) (sym (none_given view.reads view.limit s (entries_among parts) e d.accesses both.1 h.recalls.accesses)) in
      let nothing = subst (λ (l : List Gives). DrawsOn (kept d.canvas) (kept d.canvas) new new l) gives (draws_on_none (kept d.canvas) new) in
      drawn_more parts (PartEntry e) d d' new new (subst (λ (k : Kept). DrawsOn (kept d.canvas) k new new (given_of view s d.source parts (PartEntry e))) (sym same) nothing, recalls) source h
