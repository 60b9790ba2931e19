-- How many entries at once change the state of a process.
use Rattle.std.proofs.Common.{◌≡◌, ℕ, zero, suc, ◌+◌, ◌≤◌, ◌==◌, Bool, true, false, ◌&&◌, cond, ◌∷◌, Option, None, Some, is_none, length, refl, sym, ap, subst, ◌∙◌, arith}
use Rattle.plain_store.specs.{Setup}
use Rattle.model.specs.safe_bit.{Move, is_begin_of_read, is_begin_of_write, is_of_read}
use Rattle.model.specs.safe_bit.declared.Move.TheVariants.{BeginWrite, EndWrite, BeginRead, EndRead, Settle}
use Rattle.model.specs.{Access, Past, first_of, width}
use Rattle.calls.specs.{Accesses, CallState, EntryFacts, HasNotFailed, IsKnown, Passes, begun_among, ends_number, first_if, follows, more_if, passed, quiet_entry, reads_begun, call_state, with_access, with_passed, writes_begun}
use Rattle.world.specs.{ends_overlapped_read}
use Rattle.calls.proofs.Steps.{call_state-observed, call_state-other}

-- The first access.

first-again : (o : Option ℕ) (a b : ℕ) → first_of (first_of o (Some a)) (Some b) ≡ first_of o (Some a)
first-again (Some x) a b = refl
first-again None a b = refl

-- How many of them begin.

-- with one more, after another
begun-more : (n : ℕ) (before how : Move) (k m : ℕ) → follows before how ≡ true →
    (more_if (is_begin_of_read how && true) (k + reads_begun (suc n) before) ≡ k + reads_begun (suc (suc n)) how) × (more_if (is_begin_of_write how && true) (m + writes_begun (suc n) before) ≡ m + writes_begun (suc (suc n)) how)
begun-more n BeginRead (EndRead v) k m is = (omega arith, omega arith)
begun-more n (EndRead u) BeginRead k m is = (omega arith, omega arith)
begun-more n (BeginWrite u) EndWrite k m is = (omega arith, omega arith)
begun-more n EndWrite (BeginWrite v) k m is = (omega arith, omega arith)
begun-more n BeginRead BeginRead k m is = absurd (cc)
begun-more n BeginRead (BeginWrite v) k m is = absurd (cc)
begun-more n BeginRead EndWrite k m is = absurd (cc)
begun-more n BeginRead (Settle v) k m is = absurd (cc)
begun-more n (EndRead u) (EndRead v) k m is = absurd (cc)
begun-more n (EndRead u) (BeginWrite v) k m is = absurd (cc)
begun-more n (EndRead u) EndWrite k m is = absurd (cc)
begun-more n (EndRead u) (Settle v) k m is = absurd (cc)
begun-more n (BeginWrite u) BeginRead k m is = absurd (cc)
begun-more n (BeginWrite u) (EndRead v) k m is = absurd (cc)
begun-more n (BeginWrite u) (BeginWrite v) k m is = absurd (cc)
begun-more n (BeginWrite u) (Settle v) k m is = absurd (cc)
begun-more n EndWrite BeginRead k m is = absurd (cc)
begun-more n EndWrite (EndRead v) k m is = absurd (cc)
begun-more n EndWrite EndWrite k m is = absurd (cc)
begun-more n EndWrite (Settle v) k m is = absurd (cc)
begun-more n (Settle u) how k m is = absurd (cc)

-- the first of them
begun-one : (how : Move) (k m : ℕ) → (more_if (is_begin_of_read how && true) k ≡ k + reads_begun 1 how) × (more_if (is_begin_of_write how && true) m ≡ m + writes_begun 1 how)
begun-one BeginRead k m = (omega arith, omega arith)
begun-one (EndRead v) k m = (omega arith, omega arith)
begun-one (BeginWrite v) k m = (omega arith, omega arith)
begun-one EndWrite k m = (omega arith, omega arith)
begun-one (Settle v) k m = (omega arith, omega arith)

-- Reads that a write overlapped.

more-again : (b : Bool) (k n : ℕ) → more_if b (k + n) ≡ k + more_if b n
more-again true k n = omega arith
more-again false k n = refl

more-one : (b : Bool) (k n : ℕ) → n ≡ 0 → more_if b k ≡ k + more_if b n
more-one true k n none = omega (arith, none)
more-one false k n none = omega (arith, none)

more-few : (b : Bool) (n m : ℕ) → n ≤ m → more_if b n ≤ suc m
more-few true n m few = omega (arith, few)
more-few false n m few = omega (arith, few)

-- The counts after a number of accesses, of which the first has this number and the newest makes this move.

abbrev pub passed_by : ℕ → ℕ → Move → ℕ → CallState → CallState
passed_by number n how overlapped k = passed number (reads_begun n how) (writes_begun n how) overlapped k

-- no more begin than there are
pub reads_few : (n : ℕ) (how : Move) → reads_begun n how ≤ n
reads_few n BeginRead = omega arith
reads_few n (EndRead v) = omega arith
reads_few n (BeginWrite v) = omega arith
reads_few n EndWrite = omega arith
reads_few n (Settle v) = omega arith

pub writes_few : (n : ℕ) (how : Move) → writes_begun n how ≤ n
writes_few n BeginRead = omega arith
writes_few n (EndRead v) = omega arith
writes_few n (BeginWrite v) = omega arith
writes_few n EndWrite = omega arith
writes_few n (Settle v) = omega arith

-- the accesses of a read begin no write
pub reads_alone : (n : ℕ) (how : Move) → is_of_read how ≡ true → writes_begun n how ≡ 0
reads_alone n BeginRead is = refl
reads_alone n (EndRead v) is = refl
reads_alone n (BeginWrite v) is = absurd (cc)
reads_alone n EndWrite is = absurd (cc)
reads_alone n (Settle v) is = absurd (cc)

pub others_alone : (n : ℕ) (how : Move) → is_of_read how ≡ false → reads_begun n how ≡ 0
others_alone n how is = ap (λ b. cond b (begun_among n (is_begin_of_read how)) 0) is

-- One entry.

accesses_by : (x y : Accesses) → x.doorway ≡ y.doorway → x.reads ≡ y.reads → x.writes ≡ y.writes → x.overlapped ≡ y.overlapped → x.waited_for ≡ y.waited_for → x ≡ y
accesses_by x y a b c d e = λ i. record { doorway = a i; reads = b i; writes = c i; overlapped = d i; waited_for = e i }

-- the state with these accesses
abbrev with_accesses : CallState → Accesses → CallState
with_accesses k x = record k { last = record k.last { accesses = x } }

module _ (s : Setup) (p : ℕ) (a : Access) (past : Past) where
  abbrev known : EntryFacts
  known = record { overlapped = ends_overlapped_read past (quiet_entry p a); read = None }

  turn : ends_number (width s a.field) a.bit a.how ≡ false → IsKnown s past (quiet_entry p a) known
  turn ends = record { overlapped = refl; read = λ b some. subst (λ (b : Access). ends_number (width s b.field) b.bit b.how ≡ false) (let same : a ≡ b = cc in same) ends }

  abbrev after_one : CallState → CallState
  after_one k = with_accesses k (with_access s p (length past) known k.last.marks a k.last.accesses)

  -- a process that has not failed makes them itself
  itself : (test : Move → Bool) (k : CallState) → k.last.marks.failed ≡ None → (n : ℕ) → more_if (test a.how && is_none k.last.marks.failed) n ≡ more_if (test a.how && true) n
  itself test k none n = ap (λ (o : Option ℕ). more_if (test a.how && is_none o) n) none

  -- and the first of them begins its doorway
  begins : (k : CallState) → k.last.marks.failed ≡ None → (first : Option ℕ) → first_if (is_none k.last.marks.failed) (length past) first ≡ first_of first (Some (length past))
  begins k none first = ap (λ (o : Option ℕ). first_if (is_none o) (length past) first) none

  quiet-observed : ends_number (width s a.field) a.bit a.how ≡ false → call_state s p (quiet_entry p a ∷ past) ≡ after_one (call_state s p past)
  quiet-observed ends = call_state-observed s (quiet_entry p a) past known (turn ends)

  once : (overlapped : ℕ) → HasNotFailed p past → ends_number (width s a.field) a.bit a.how ≡ false → overlapped ≡ more_if known.overlapped 0 → call_state s p (quiet_entry p a ∷ past) ≡ passed_by (length past) 1 a.how overlapped (call_state s p past)
  once overlapped none ends is =
      let k : CallState = call_state s p past in
      let was : Accesses = k.last.accesses in
      quiet-observed ends ∙ ap (with_accesses k) (accesses_by (with_access s p (length past) known k.last.marks a was) (with_passed (length past) (reads_begun 1 a.how) (writes_begun 1 a.how) overlapped was)
      (begins k none was.doorway) (itself is_begin_of_read k none was.reads ∙ (begun-one a.how was.reads was.writes).0) (itself is_begin_of_write k none was.writes ∙ (begun-one a.how was.reads was.writes).1) (more-one known.overlapped was.overlapped 0 refl ∙ ap (λ n. was.overlapped + n) (sym is)) refl)

  again : (n number : ℕ) (before : Move) (count overlapped : ℕ) (first : CallState) → first.last.marks.failed ≡ None → call_state s p past ≡ passed_by number (suc n) before count first → follows before a.how ≡ true → ends_number (width s a.field) a.bit a.how ≡ false →
      overlapped ≡ more_if known.overlapped count → call_state s p (quiet_entry p a ∷ past) ≡ passed_by number (suc (suc n)) a.how overlapped first
  again n number before count overlapped first none at follow ends is =
      let was : Accesses = first.last.accesses in
      let mid : Accesses = with_passed number (reads_begun (suc n) before) (writes_begun (suc n) before) count was in
      quiet-observed ends ∙ ap after_one at
      ∙ ap (with_accesses first) (accesses_by (with_access s p (length past) known first.last.marks a mid) (with_passed number (reads_begun (suc (suc n)) a.how) (writes_begun (suc (suc n)) a.how) overlapped was)
      (begins first none mid.doorway ∙ first-again was.doorway number (length past)) (itself is_begin_of_read first none mid.reads ∙ (begun-more n before a.how was.reads was.writes follow).0) (itself is_begin_of_write first none mid.writes ∙ (begun-more n before a.how was.reads was.writes follow).1)
      (more-again known.overlapped was.overlapped count ∙ ap (λ n. was.overlapped + n) (sym is)) refl)

-- Many entries.

-- the state of p after them, the number of entries then, and a bound: no more reads ended than there were accesses
pub record HasPassed (s : Setup) (p n : ℕ) (newest : Access) (overlapped : ℕ) (past after : Past) : Type 0 where
  pub call_state_is : call_state s p after ≡ passed_by (length past) n newest.how overlapped (call_state s p past)
  pub long : length after ≡ length past + n
  pub few : overlapped ≤ n
  pub others : (q : ℕ) → (p == q) ≡ false → call_state s q after ≡ call_state s q past

pub passes : (n : ℕ) (s : Setup) (p : ℕ) (newest : Access) (overlapped : ℕ) (past after : Past) → HasNotFailed p past → Passes s p (suc n) newest overlapped past after → HasPassed s p (suc n) newest overlapped past after
passes zero s p newest overlapped past after failed (mid, before, count, (same, none), follow, ends, is, counts) =
    let all : overlapped ≡ more_if (ends_overlapped_read past (quiet_entry p newest)) 0 = counts ∙ (λ i. more_if (ends_overlapped_read (same i) (quiet_entry p newest)) (none i)) in
    subst (λ (after : Past). HasPassed s p 1 newest overlapped past after) (sym (is ∙ ap (λ (mid : Past). quiet_entry p newest ∷ mid) same)) (record {
      call_state_is = once s p newest past overlapped failed ends all;
      long = omega arith;
      few = let few = more-few (ends_overlapped_read past (quiet_entry p newest)) 0 0 (omega arith) in omega (arith, all, few);
      others = λ q apart. call_state-other s q (quiet_entry p newest) past apart;
    })
passes (suc n) s p newest overlapped past after failed (mid, before, count, more, follow, ends, is, counts) =
    let h : HasPassed s p (suc n) before count past mid = passes n s p before count past mid failed more in
    subst (λ (after : Past). HasPassed s p (suc (suc n)) newest overlapped past after) (sym is) (record {
      call_state_is = again s p newest mid n (length past) before.how count overlapped (call_state s p past) failed h.call_state_is (follow (omega arith)) ends counts;
      long = let long = h.long in omega (arith, long);
      few = let few = more-few (ends_overlapped_read mid (quiet_entry p newest)) count (suc n) h.few in omega (arith, counts, few);
      others = λ q apart. call_state-other s q (quiet_entry p newest) mid apart ∙ h.others q apart;
    })
