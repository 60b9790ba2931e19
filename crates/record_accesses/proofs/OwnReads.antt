-- In the record of each list of events a process that begins a read reads its own copy, and has no write open.
use Rattle.std.proofs.Common.{◌≡◌, ℕ, ◌<◌, Bool, true, false, ◌&&◌, cond, List, [], ◌∷◌, Option, None, Some, is_some, refl, sym, ap, ◌∙◌, subst, true≢false}
use Rattle.std.proofs.lemmas.Bool.{lt-ltb}
use Rattle.laws.specs.{IsThere, Runs, call, doing}
use Rattle.laws.proofs.Doings.{Step, calls, withdraws, fails, restarts, steps, closes_on}
use Rattle.laws.proofs.Frame.{Does, at_rest, lying, running, leaving, settling}
use Rattle.laws.proofs.FrameCells.{EntryBy, marks_only, makes}
use Rattle.laws.proofs.FrameEvents.{does_all}
use Rattle.laws.proofs.FrameSteps.{closing-writes, entry-by, step_of, valued-write}
use Rattle.laws.proofs.HeldReads.{place-writes}
use Rattle.laws.proofs.HeldThere.{access_there}
use Rattle.plain_store.specs.{Command, Setup}
use Rattle.model.specs.safe_bit.{Move, is_of_write, is_overlapped, is_write_open, read_value}
use Rattle.model.specs.safe_bit.declared.Move.TheVariants.{BeginWrite, EndWrite, BeginRead, EndRead, Settle}
use Rattle.model.specs.{Access, Call, Entry, Event, Past, Place, Reading, Run, Writing, access_at, ended_with, entry_of, last_call, last_start, moves_of, open_run, opening_bit, own, past_of, same_bit, stage, valued, width}
use Rattle.model.specs.Parts.{Part}
use Rattle.model.specs.declared.marks.Mark.TheVariants.{Called}
use Rattle.model.proofs.OpenSteps.{Opens, closed, leaves, place_at, runs_at, settles}
use Rattle.model.proofs.TurnRecords.{opens_all}
use Rattle.model.proofs.Width.{IsGood, is_good}
use Rattle.model.proofs.Writer.{EachOwn, each_own, open-own}
use Rattle.record_accesses.specs.{AreOwnReads, IsOwnRead, MarksOverlappedReadsOfRuns, opened, possible_access, possible_past, writer_of, writer_with}
use Rattle.record_accesses.proofs.BitFacts.{writer-open}
use Rattle.record_accesses.proofs.MarkFacts.{marked, marks-overlapped}
use Rattle.record_accesses.proofs.SameBits.{same-bare}

-- A process that runs is at its place.

at-place : (s : Setup) (p : ℕ) (past : Past) (command : Command) (number : ℕ) (at : Place) → Does s p (own p past) (stage p past) (doing s p past) → doing s p past ≡ Runs command number at →
    (c : Command) × (last_start (own p past) ≡ Some (Called c)) × (place_at s p (own p past) ≡ at)
at-place s p past command number at (at_rest i k) was = absurd (cc)
at-place s p past command number at (lying i k) was = absurd (cc)
at-place s p past command number at (leaving b i k) was = absurd (cc)
at-place s p past command number at (settling b i k) was = absurd (cc)
at-place s p past command number at (running c b r k) was = (c, b, cc)

-- one that reads there has no write open, whatever its call is
reads-quiet : (c k : Call) (part : Part) (run : Run) (v : Bool) (a : Access) → a ≡ ended_with v (access_at c part run) → a.how ≡ BeginRead → (b : Access) → open_run k part run b ≡ false
reads-quiet c k part (Reading bits begun) v a is how b = refl
reads-quiet c k part (Writing w) v a is how b = absurd (true≢false (sym (place-writes c part w v) ∙ ap (λ (x : Access). is_of_write x.how) (sym is) ∙ ap is_of_write how))

quiet-at : (s : Setup) (p : ℕ) (past : Past) (at : Place) (c : Command) → Opens s p (own p past) (stage p past) → last_start (own p past) ≡ Some (Called c) → place_at s p (own p past) ≡ at →
    ((k : Call) (b : Access) → open_run k at.part at.run b ≡ false) → (b : Access) → is_write_open (moves_of b (own p past)) ≡ false
quiet-at s p past at c (closed i all torn) start is quiet b = all b
quiet-at s p past at c (runs_at command b' r opens cuts) start is quiet b =
    opens b ∙ ap (λ (x : Place). open_run (last_call s p (own p past)) x.part x.run b) is ∙ quiet (last_call s p (own p past)) b
quiet-at s p past at c (leaves b' i opens cuts) start is quiet b = absurd (cc)
quiet-at s p past at c (settles b' i opens r late) start is quiet b = absurd (cc)

-- so has one that begins a read
quiet-reader : (s : Setup) → IsGood s → (events : List Event) (what : Event) (e : Entry) (a : Access) → entry_of s (past_of s events) what ≡ Some e → e.access ≡ Some a → a.how ≡ BeginRead →
    (b : Access) → is_write_open (moves_of b (own e.process (past_of s events))) ≡ false
quiet-reader s g events what e a h access how b = go (step_of s g events what e h).2
  where
    past : Past
    past = past_of s events

    p : ℕ
    p = e.process

    go : Step s past p e (doing s p past) (doing s p (e ∷ past)) → is_write_open (moves_of b (own p past)) ≡ false
    go (calls command number d none d') = absurd (cc)
    go (withdraws command number t w ws run d none d') = absurd (cc)
    go (fails command number cl cut none d') = absurd (cc)
    go (restarts d none d') = absurd (cc)
    go (closes_on command number at flick n d next made d') =
        let writes = (closing-writes (call s p command number) at flick n next).0 in
        let is : a ≡ n.access = (let same : valued s past flick n.access ≡ a = cc in sym same ∙ valued-write s past flick n.access writes) in
        absurd (true≢false (sym writes ∙ ap (λ (x : Access). is_of_write x.how) (sym is) ∙ ap is_of_write how))
    go (steps command number at x flick d over made is d') =
        let same : a ≡ x = cc in
        let there = at-place s p past command number at (does_all s g events p) d in
        let y = access_at (call s p command number) at.part at.run in
        quiet-at s p past at there.0 (opens_all s g events p) there.1 there.2
        (λ k b. reads-quiet (call s p command number) k at.part at.run (read_value (opening_bit s y) (moves_of y past) flick) a (same ∙ is) how b) b

-- The process whose write of a bit is open is its owner.

writer-owner : (b : Access) (past : Past) (p : ℕ) → EachOwn past → writer_of b past ≡ Some p → b.owner ≡ p
writer-owner b [] p own h = absurd (cc)
writer-owner b (e ∷ past) p own h = by e.access (λ x. own.0 x) h (writer-owner b past p own.1)
  where
    by : (o : Option Access) → ((x : Access) → o ≡ Some x → is_of_write x.how ≡ true → x.owner ≡ e.process) → writer_with e.process (elim o as (λ _. List Move) [ None ↦ [] | Some x ↦ cond (same_bit b x) (x.how ∷ []) [] ]) (writer_of b past) ≡ Some p →
        (writer_of b past ≡ Some p → b.owner ≡ p) → b.owner ≡ p
    by None owns h rest = rest h
    by (Some x) owns h rest = at (same_bit b x) refl x.how refl h
      where
        at : (t : Bool) → same_bit b x ≡ t → (m : Move) → x.how ≡ m → writer_with e.process (cond t (m ∷ []) []) (writer_of b past) ≡ Some p → b.owner ≡ p
        at false same m is h = rest h
        at true same (BeginWrite v) is h = ap (λ (a : Access). a.owner) (same-bare b x same) ∙ owns x refl (ap is_of_write is) ∙ (let e : e.process ≡ p = cc in e)
        at true same EndWrite is h = absurd (cc)
        at true same BeginRead is h = rest h
        at true same (EndRead v) is h = rest h
        at true same (Settle v) is h = absurd (cc)

-- A read that an entry begins.

read-own : (s : Setup) → IsGood s → (events : List Event) (what : Event) (e : Entry) (a : Access) → entry_of s (past_of s events) what ≡ Some e → e.access ≡ Some a → a.how ≡ BeginRead → IsOwnRead (past_of s events) e.process a
read-own s g events what e a h access how = record { own = reader (entry-by s g events what e h); calm = calm }
  where
    reader : EntryBy e.process e → a.reader ≡ e.process
    reader (marks_only none) = absurd (cc)
    reader (makes x is by) = let same : x ≡ a = cc in ap (λ (x : Access). x.reader) (sym same) ∙ by.reads (ap (λ (x : Access). is_of_write x.how) same ∙ ap is_of_write how)

    calm : (b : Access) → writer_of b (past_of s events) ≡ Some e.process → ⊥
    calm b writes =
        let owner = writer-owner b (past_of s events) e.process (each_own s g events) writes in
        true≢false (ap (λ (w : Option ℕ). is_some w) (sym writes)
        ∙ writer-open b (past_of s events)
        ∙ open-own b (past_of s events) (each_own s g events)
        ∙ ap (λ p. is_write_open (moves_of b (own p (past_of s events)))) owner
        ∙ quiet-reader s g events what e a h access how b)

-- All entries.

own-all : (s : Setup) → IsGood s → (events : List Event) → AreOwnReads (past_of s events)
own-all s g [] = tt
own-all s g (what ∷ events) = go (entry_of s (past_of s events) what) refl (own-all s g events)
  where
    go : (x : Option Entry) → entry_of s (past_of s events) what ≡ x → AreOwnReads (past_of s events) → AreOwnReads (elim x as (λ _. Past) [ None ↦ past_of s events | Some e ↦ e ∷ past_of s events ])
    go None h rest = rest
    go (Some e) h rest = (λ a access how. read-own s g events what e a h access how, rest)

possible-access : (s : Setup) (p : ℕ) (o : Option Access) → p < s.processes → ((a : Access) → o ≡ Some a → IsThere s a) → possible_access s p o ≡ o
possible-access s p None exists there = refl
possible-access s p (Some a) exists there =
    let at = there a refl in
    λ i. cond (lt-ltb p s.processes exists i && (lt-ltb a.owner s.processes at.owner i && (lt-ltb a.reader s.processes at.reader i && lt-ltb a.bit (width s a.field) at.bit i))) (Some a) None

all-possible : (s : Setup) → IsGood s → (events : List Event) → possible_past s (past_of s events) ≡ past_of s events
all-possible s g [] = refl
all-possible s g (what ∷ events) = go (entry_of s (past_of s events) what) refl (all-possible s g events)
  where
    go : (x : Option Entry) → entry_of s (past_of s events) what ≡ x → possible_past s (past_of s events) ≡ past_of s events →
        possible_past s (elim x as (λ _. Past) [ None ↦ past_of s events | Some e ↦ e ∷ past_of s events ]) ≡ elim x as (λ _. Past) [ None ↦ past_of s events | Some e ↦ e ∷ past_of s events ]
    go None h rest = rest
    go (Some e) h rest =
        let exists = (step_of s g events what e h).1 in
        let access = possible-access s e.process e.access exists (λ a is. access_there s g events what e h a is) in
        λ i. record { process = e.process; access = access i; marks = e.marks } ∷ rest i

pub runs-marked : MarksOverlappedReadsOfRuns
runs-marked s good events limit shown are p exists o h read =
    let g = is_good s good in
    let same = all-possible s g events in
    marks-overlapped s good limit (past_of s events) shown are (subst (λ (past : Past). AreOwnReads past) (sym same) (own-all s g events)) p exists o (ap (opened p) same ∙ h) read
    ∙ ap (λ (past : Past). Some (marked (is_overlapped (moves_of o.access past)))) same
