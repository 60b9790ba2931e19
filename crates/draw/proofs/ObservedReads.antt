-- What is observed of a record whose overlapped reads are shown, and of one whose overlapped reads are not shown.
use Rattle.std.proofs.Common.{◌≡◌, ℕ, ◌<◌, ◌==◌, ◌&&◌, Bool, true, false, cond, get_or, List, [], ◌∷◌, ◌++◌, is_some, length, Option, None, Some, IfSome, Ok, true≢false, refl, ap, sym, subst, ◌∙◌, append-nil, arith, inl, inr}
use Rattle.std.proofs.lemmas.Bool.{cases_lt}
use Rattle.std.proofs.lemmas.Bool.Decides.{nat_tests}
use Rattle.model.specs.{Access, Entry, Past, begins_read, moves_of, same_bit}
use Rattle.model.specs.safe_bit.{Move, is_begin_of_read}
use Rattle.model.specs.safe_bit.declared.Move.TheVariants.{BeginRead}
use Rattle.model.specs.plain_store.declared.setups.Setup.{Setup as Given}
use Rattle.model.specs.plain_store.{checked}
use Rattle.record_accesses.proofs.plain_store.GoodSetups.{few-processes}
use Rattle.judge.specs.safe_monitor.{HasObserved, MonitorState, ends_overlapped}
use Rattle.judge.specs.safe_monitor.laws.{IsThere}
use Rattle.judge.proofs.safe_monitor.Observes.{observed_none}
use Rattle.picture.specs.picture_layout.{OverlappedRead}
use Rattle.picture.specs.declared.reads.Reads.{Reads as Mode}
use Rattle.picture.specs.declared.reads.Reads.TheVariants.{All, Hidden, Shown}
use Rattle.draw.specs.{BegunRead, Observes, ObservesAll, OverlapsObserved, ReportsEnd, ReportsOver, Monitors, begun_with, ended_of, first_three, is_there, overlapped_by, overlapped_with, read_begun, read_ended}

-- a state that has observed entries observes one more
pub observes_on : (s : Given) (past : Past) (reads : List OverlappedRead) (e : Entry) (old new : OverlapsObserved) → new.setup ≡ old.setup →
    ((p : ℕ) → p < 16 → get_or new.begun p None ≡ read_begun p (e ∷ past)) → length new.begun ≡ 16 →
    new.ended.items ≡ first_three (reads ++ overlapped_by s past e) → Observes s past reads old → Observes s (e ∷ past) (reads ++ overlapped_by s past e) new
observes_on s past reads e old new setup begun room ended h = record {
  good = h.good;
  setup = setup ∙ h.setup;
  begun = begun;
  room = room;
  ended = ended;
}

-- an entry without an access does not change it
pub observes_none : (s : Given) (past : Past) (reads : List OverlappedRead) (e : Entry) (o : OverlapsObserved) → e.access ≡ None → Observes s past reads o → Observes s (e ∷ past) (reads ++ overlapped_by s past e) o
observes_none s past reads e o none h = record {
  good = h.good;
  setup = h.setup;
  begun = λ p below. h.begun p below ∙ sym (ap (λ (access : Option Access). begun_with p (length past) access (read_begun p past)) none);
  room = h.room;
  ended = h.ended ∙ ap first_three (sym (append-nil reads)) ∙ ap (λ (access : Option Access). first_three (reads ++ overlapped_with s past access)) (sym none);
}

-- The reads that have begun.

-- an access that begins no read
begun_still : (p n : ℕ) (a : Access) (before : Option BegunRead) → is_begin_of_read a.how ≡ false → begun_with p n (Some a) before ≡ before
begun_still p n a before none = by (a.reader == p)
  where
    by : (b : Bool) → cond (b && is_begin_of_read a.how) (Some (record { entry = n; access = a })) before ≡ before
    by true = ap (λ i. cond i (Some (record { entry = n; access = a })) before) none
    by false = refl

-- a move after others
begins_on : (m : Move) (moves : List Move) → begins_read moves ≡ true → begins_read (m ∷ moves) ≡ true
begins_on BeginRead moves is = refl
begins_on m moves is = is

begins_here : (m : Move) (moves : List Move) → is_begin_of_read m ≡ true → begins_read (m ∷ moves) ≡ true
begins_here BeginRead moves is = refl
begins_here m moves is = absurd (true≢false (sym is))

-- if the last read that a process has begun is of a bit, a read of that bit has begun
begun_onwards : (x : Access) (c : Bool) (moves : List Move) → begins_read moves ≡ true → begins_read (cond c (x.how ∷ []) [] ++ moves) ≡ true
begun_onwards x true moves more = begins_on x.how moves more
begun_onwards x false moves more = more

begun_here : (a x : Access) (moves : List Move) → is_begin_of_read x.how ≡ true → same_bit a x ≡ true → begins_read (cond (same_bit a x) (x.how ∷ []) [] ++ moves) ≡ true
begun_here a x moves begins is_same = ap (λ c. begins_read (cond c (x.how ∷ []) [] ++ moves)) is_same ∙ begins_here x.how moves begins

begun_cases : (a x : Access) (n : ℕ) (before : Option BegunRead) (moves : List Move) (b : BegunRead) (r i : Bool) → same_bit a b.access ≡ true → (before ≡ Some b → begins_read moves ≡ true) → is_begin_of_read x.how ≡ i → cond (r && i) (Some (record { entry = n; access = x })) before ≡ Some b → begins_read (cond (same_bit a x) (x.how ∷ []) [] ++ moves) ≡ true
begun_cases a x n before moves b true true same more begins at =
    let is_it : (let c : BegunRead = record { entry = n; access = x } in c) ≡ b = cc in
    begun_here a x moves begins (ap (λ (c : BegunRead). same_bit a c.access) is_it ∙ same)
begun_cases a x n before moves b true false same more begins at = begun_onwards x (same_bit a x) moves (more at)
begun_cases a x n before moves b false i same more begins at = begun_onwards x (same_bit a x) moves (more at)

begun_by_access : (a : Access) (n : ℕ) (before : Option BegunRead) (moves : List Move) (b : BegunRead) (o : Option Access) → same_bit a b.access ≡ true → (before ≡ Some b → begins_read moves ≡ true) → begun_with a.reader n o before ≡ Some b →
    begins_read (elim o as (λ _. List Move) [ None ↦ [] | Some x ↦ cond (same_bit a x) (x.how ∷ []) [] ] ++ moves) ≡ true
begun_by_access a n before moves b None same more at = more at
begun_by_access a n before moves b (Some x) same more at = begun_cases a x n before moves b (x.reader == a.reader) (is_begin_of_read x.how) same more refl at

begun_reads : (a : Access) (past : Past) (b : BegunRead) → read_begun a.reader past ≡ Some b → same_bit a b.access ≡ true → begins_read (moves_of a past) ≡ true
begun_reads a [] b is same = absurd (cc)
begun_reads a (e ∷ past) b is same = begun_by_access a (length past) (read_begun a.reader past) (moves_of a past) b e.access same (λ at. begun_reads a past b at same) is

-- so if no read of the bit has begun, the access ends none
ends_none : (s : Given) (n : ℕ) (a : Access) (past : Past) → begins_read (moves_of a past) ≡ false → ended_of s n a (read_begun a.reader past) ≡ []
ends_none s n a past none = by (read_begun a.reader past) refl
  where
    inner : (b : BegunRead) (same : Bool) → same_bit a b.access ≡ same → read_begun a.reader past ≡ Some b → ended_of s n a (Some b) ≡ []
    inner b true is at = absurd (true≢false (sym (begun_reads a past b at is) ∙ none))
    inner b false is at = ap (λ c. cond c (read_ended s b.entry n a ∷ []) []) is

    by : (o : Option BegunRead) → read_begun a.reader past ≡ o → ended_of s n a o ≡ []
    by None at = refl
    by (Some b) at = inner b (same_bit a b.access) refl at

both_none : {A : Type 0} (b : Bool) (xs : List A) → xs ≡ [] → cond b xs [] ≡ []
both_none true xs none = none
both_none false xs none = refl

-- whether a bit is there
there_is : (s : Given) (a : Access) → is_there s a ≡ true → IsThere s a
there_is s a is = record { owner = grind (arith, nat_tests, is); reader = grind (arith, nat_tests, is); bit = grind (arith, nat_tests, is) }

not_there : (s : Given) (a : Access) → is_there s a ≡ false → IsThere s a → ⊥
not_there s a is there =
    let owner = there.owner in let reader = there.reader in let bit = there.bit in
    let yes : is_there s a ≡ true = grind (arith, nat_tests, owner, reader, bit) in true≢false (sym yes ∙ is)

-- so the report determines which read is overlapped
reported_by : (s : Given) (past : Past) (a : Access) (over : Bool) → ReportsOver s past a over →
    cond over (ended_of s (length past) a (read_begun a.reader past)) [] ≡ overlapped_with s past (Some a)
reported_by s past a over reports = by (is_there s a) refl (begins_read (moves_of a past)) refl
  where
    reads : List OverlappedRead
    reads = ended_of s (length past) a (read_begun a.reader past)

    by : (t : Bool) → is_there s a ≡ t → (b : Bool) → begins_read (moves_of a past) ≡ b → cond over reads [] ≡ cond (is_there s a && ends_overlapped (moves_of a past) a.how) reads []
    by false is b begins = ap (λ c. cond c reads []) (reports.stray (not_there s a is)) ∙ ap (λ t. cond (t && ends_overlapped (moves_of a past) a.how) reads []) (sym is)
    by true is true begins = ap (λ c. cond c reads []) (reports.there (there_is s a is) begins) ∙ ap (λ t. cond (t && ends_overlapped (moves_of a past) a.how) reads []) (sym is)
    by true is false begins =
        let none : reads ≡ [] = ends_none s (length past) a past begins in
        both_none over reads none ∙ sym (both_none (is_there s a && ends_overlapped (moves_of a past) a.how) reads none)

-- an access that ends no read
pub ends_no_read : (s : Given) (past : Past) (a : Access) → ((moves : List Move) → ends_overlapped moves a.how ≡ false) → overlapped_with s past (Some a) ≡ []
ends_no_read s past a none = by (is_there s a)
  where
    by : (t : Bool) → cond (t && ends_overlapped (moves_of a past) a.how) (ended_of s (length past) a (read_begun a.reader past)) [] ≡ []
    by true = ap (λ c. cond c (ended_of s (length past) a (read_begun a.reader past)) []) (none (moves_of a past))
    by false = refl

-- a move that neither begins a read nor ends one
abbrev pub IsQuiet : Move → Type 0
IsQuiet m = (is_begin_of_read m ≡ false) × ((moves : List Move) → ends_overlapped moves m ≡ false)

-- an access that begins no read, or that ends no overlapped read, does not change what is stored
module _ (s : Given) (past : Past) (reads : List OverlappedRead) (e : Entry) (a : Access) (o : OverlapsObserved) (is : e.access ≡ Some a) (h : Observes s past reads o) where
  pub still_begun : is_begin_of_read a.how ≡ false → (p : ℕ) → p < 16 → get_or o.begun p None ≡ read_begun p (e ∷ past)
  still_begun none p below = h.begun p below ∙ sym (begun_still p (length past) a (read_begun p past) none) ∙ sym (ap (λ (access : Option Access). begun_with p (length past) access (read_begun p past)) is)

  pub still_ended : overlapped_with s past (Some a) ≡ [] → o.ended.items ≡ first_three (reads ++ overlapped_by s past e)
  still_ended none = h.ended ∙ ap first_three (sym (append-nil reads)) ∙ ap (λ (l : List OverlappedRead). first_three (reads ++ l)) (sym none ∙ ap (overlapped_with s past) (sym is))

-- Modes.

-- where reads are shown
pub observes_all_on : (mode : Mode) (s : Given) (past then : Past) (reads more : List OverlappedRead) (access : Option Access) (over : Bool) (old new : OverlapsObserved) → (Observes s past reads old → IfSome access (λ a. ReportsOver s past a over) → Observes s then more new) →
    ReportsEnd mode s past access over → ObservesAll mode s past reads (Some old) → ObservesAll mode s then more (Some new)
observes_all_on Hidden s past then reads more access over old new on reports h = absurd h
observes_all_on Shown s past then reads more access over old new on reports h = on h reports
observes_all_on All s past then reads more access over old new on reports h = absurd h

-- where they are hidden
pub observes_all_nothing : (mode : Mode) (s : Given) (past then : Past) (reads more : List OverlappedRead) → ObservesAll mode s past reads None → ObservesAll mode s then more None
observes_all_nothing Hidden s past then reads more h = tt
observes_all_nothing Shown s past then reads more h = absurd h
observes_all_nothing All s past then reads more h = tt

-- the report for the state that is stored
reported_at : (s : Given) (past : Past) (reads : List OverlappedRead) (o : OverlapsObserved) (a : Access) (n : ℕ) (over : Bool) → Observes s past reads o → n ≡ length past → ReportsOver s past a over →
    cond over (ended_of o.setup n a (get_or o.begun a.reader None)) [] ≡ overlapped_with s past (Some a)
reported_at s past reads o a n over h number reports =
    (λ i. cond over (ended_of (h.setup i) (number i) a (get_or o.begun a.reader None)) []) ∙ elim (cases_lt a.reader 16) [
      | inl below ↦ ap (λ b. cond over (ended_of s (length past) a b) []) (h.begun a.reader below) ∙ reported_by s past a over reports
      | inr out ↦
          let no : over ≡ false = reports.stray (λ is. let few = few-processes s h.good in let reader : a.reader < s.processes = is.reader in absurd (omega (arith, out, few, reader))) in
          ap (λ c. cond c (ended_of s (length past) a (get_or o.begun a.reader None)) []) no ∙ ap (λ c. cond c (ended_of s (length past) a (read_begun a.reader past)) []) (sym no) ∙ reported_by s past a over reports
    ]

pub reported_ended : (s : Given) (past : Past) (reads : List OverlappedRead) (o : OverlapsObserved) (a : Access) (n : ℕ) (over : Bool) (ended : List OverlappedRead) → Observes s past reads o → n ≡ length past → ReportsOver s past a over →
    (checked o.setup ≡ Ok tt → ended ≡ cond over (ended_of o.setup n a (get_or o.begun a.reader None)) []) → ended ≡ overlapped_with s past (Some a)
reported_ended s past reads o a n over ended h number reports is = is (subst (λ (t : Given). checked t ≡ Ok tt) (sym h.setup) h.good) ∙ reported_at s past reads o a n over h number reports

-- A monitor that observes the same entries.

-- if reads are shown, the monitor reports which access ends an overlapped read
pub monitors_on : (mode : Mode) (s : Given) (past : Past) (e : Entry) (a : Access) (over : Bool) (old new : MonitorState) → e.access ≡ Some a → new.setup ≡ old.setup → (HasObserved old past → HasObserved new (e ∷ past)) →
    (HasObserved old past → IsThere old.setup a → begins_read (moves_of a past) ≡ true → over ≡ ends_overlapped (moves_of a past) a.how) → ((IsThere old.setup a → ⊥) → over ≡ false) →
    Monitors mode s past (Some old) → ReportsEnd mode s past (Some a) over × Monitors mode s (e ∷ past) (Some new)
monitors_on Hidden s past e a over old new is setup observed there stray monitors = absurd monitors
monitors_on Shown s past e a over old new is setup observed there stray monitors = (
  record {
    there = subst (λ (t : Given). IsThere t a → begins_read (moves_of a past) ≡ true → over ≡ ends_overlapped (moves_of a past) a.how) monitors.0 (there monitors.1);
    stray = subst (λ (t : Given). (IsThere t a → ⊥) → over ≡ false) monitors.0 stray;
  },
  (setup ∙ monitors.0, observed monitors.1),
)
monitors_on All s past e a over old new is setup observed there stray monitors = absurd monitors

-- for an entry without an access, there is nothing to report
pub monitors_still : (mode : Mode) (s : Given) (past : Past) (e : Entry) (over : Bool) (monitor : MonitorState) → e.access ≡ None → Monitors mode s past (Some monitor) → ReportsEnd mode s past None over × Monitors mode s (e ∷ past) (Some monitor)
monitors_still Hidden s past e over monitor none monitors = absurd monitors
monitors_still Shown s past e over monitor none monitors = (tt, (monitors.0, observed_none monitor past e none monitors.1))
monitors_still All s past e over monitor none monitors = absurd monitors

-- if reads are hidden, there is no monitor
pub monitors_nothing : (mode : Mode) (s : Given) (past : Past) (e : Entry) (access : Option Access) (over : Bool) → Monitors mode s past None → ReportsEnd mode s past access over × Monitors mode s (e ∷ past) None
monitors_nothing Hidden s past e access over monitors = (tt, tt)
monitors_nothing Shown s past e access over monitors = absurd monitors
monitors_nothing All s past e access over monitors = (tt, tt)

-- if no reads are shown, the monitor is not asked
pub monitors_hidden : (mode : Mode) (s : Given) (past : Past) (reads : List OverlappedRead) (e : Entry) (access : Option Access) (overlaps : Option OverlapsObserved) (monitor : Option MonitorState) → is_some overlaps ≡ false → ObservesAll mode s past reads overlaps → Monitors mode s past monitor →
    ReportsEnd mode s past access false × Monitors mode s (e ∷ past) monitor
monitors_hidden Hidden s past reads e access None None hidden waits monitors = (tt, tt)
monitors_hidden Hidden s past reads e access None (Some monitor) hidden waits monitors = absurd monitors
monitors_hidden Shown s past reads e access None monitor hidden waits monitors = absurd waits
monitors_hidden All s past reads e access None None hidden waits monitors = (tt, tt)
monitors_hidden All s past reads e access None (Some monitor) hidden waits monitors = absurd monitors
monitors_hidden mode s past reads e access (Some overlaps) monitor hidden waits monitors = absurd (true≢false hidden)
