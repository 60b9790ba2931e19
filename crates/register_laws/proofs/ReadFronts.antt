-- The interval of a read: its last entries, and the past in which it began.
use Rattle.std.proofs.Common.{◌≡◌, ◌≢◌, ℕ, suc, ◌+◌, ◌*◌, ◌==◌, ◌||◌, ◌⊎◌, Bool, true, false, not, cond, List, [], ◌∷◌, ◌++◌, length, Option, None, Some, is_none, refl, sym, ap, ◌∙◌, subst, arith, inl, inr, eq-eqb, ne_eqb, eqb-true, length-append}
use Rattle.std.specs.Prelude.{nat_lt}
use Rattle.std.specs.List.{list_any}
use Rattle.model.specs.safe_bit.Cell.{Cell}
use Rattle.reader_copies.specs.{IsAt, IsWritten, cut_values}
use Rattle.reader_copies.specs.Row as rows
use Rattle.reader_copies.specs.Runs as copies
use Rattle.model.specs.plain_store.{Setup}
use Rattle.model.specs.{Entry, Past, is_unwritten}
use Rattle.laws.proofs.Theorems.{less}
use Rattle.registers.specs.{RegisterName}
use Rattle.register_laws.specs.NumbersHeld.{HoldsNumber, InSettling, InWrite, Progress, Quiet, bit_of, progress_at}
use Rattle.register_laws.specs.RegisterLaws.{IsUnoverlapped, RegisterRead, accesses_of_read, before_own, before_read, has_begun, since_own}
use Rattle.register_laws.specs.WorldRows.{writes_on}
use Rattle.register_laws.proofs.NumberSteps.{cut-between}
use Rattle.register_laws.proofs.WorldChanges.{both}

-- NO WRITE IN PROGRESS

is-none : (o : Option copies.Writing) → is_none o ≡ true → o ≡ None
is-none None h = refl
is-none (Some x) h = absurd (let f : false ≡ true = h in cc)

not-less : (k b : ℕ) → b ≡ 0 → nat_lt k b ≡ false
not-less k b none = go (nat_lt k b) refl
  where
    go : (x : Bool) → nat_lt k b ≡ x → nat_lt k b ≡ false
    go true is = absurd (omega (arith, less k b is, none))
    go false is = is

unwritten : (b : Bool) → not b ≡ false → b ≡ true
unwritten true h = refl
unwritten false h = absurd (let f : true ≡ false = h in cc)

-- the row holds its number
pub quiet-written : (row : List (List Cell)) (number : ℕ → Bool) (x : Progress) → has_begun x ≡ false → HoldsNumber row number x → IsWritten row number
quiet-written row number Quiet h holds = holds
quiet-written row number (InWrite bits w) h holds =
    let two = both (w.bit == 0) (is_none w.run) (unwritten (is_unwritten w) h) in
    let written : IsWritten row (cut_values number (bit_of bits) w.bit) = cut-between row number bits w (is-none w.run two.1) holds in
    record {
      copies = λ k reader has. subst (IsAt (rows.cell_at row k reader)) (ap (λ b. cond b (bit_of bits k) (number k)) (not-less k w.bit (eqb-true w.bit 0 two.0))) (written.copies k reader has);
    }
quiet-written row number (InSettling bit t) h holds = absurd (let f : true ≡ false = h in cc)

-- THE LAST ENTRIES

before-step : (p k : ℕ) (e : Entry) (past : Past) → e.process ≡ p → before_own p (suc k) (e ∷ past) ≡ before_own p k past
before-step p k e past same = ap (λ b. before_own p (cond b k (suc k)) past) (eq-eqb e.process p same)

before-other : (p k : ℕ) (e : Entry) (past : Past) → e.process ≢ p → before_own p (suc k) (e ∷ past) ≡ before_own p (suc k) past
before-other p k e past apart = ap (λ b. before_own p (cond b k (suc k)) past) (ne_eqb e.process p apart)

since-step : (p k : ℕ) (e : Entry) (past : Past) → e.process ≡ p → since_own p (suc k) (e ∷ past) ≡ e ∷ since_own p k past
since-step p k e past same = ap (λ b. e ∷ since_own p (cond b k (suc k)) past) (eq-eqb e.process p same)

since-other : (p k : ℕ) (e : Entry) (past : Past) → e.process ≢ p → since_own p (suc k) (e ∷ past) ≡ e ∷ since_own p (suc k) past
since-other p k e past apart = ap (λ b. e ∷ since_own p (cond b k (suc k)) past) (ne_eqb e.process p apart)

either-false : (a b : Bool) → (a || b) ≡ false → (a ≡ false) × (b ≡ false)
either-false true b h = absurd (let f : true ≡ false = h in cc)
either-false false b h = (refl, h)

-- THE READ BEFORE AN ENTRY

-- the read before an entry of the reader
pub record Earlier (s : Setup) (past : Past) (p : ℕ) (read later : RegisterRead) (e : Entry) : Type 0 where
  pub before : before_read p later (e ∷ past) ≡ before_read p read past
  pub quiet : writes_on read.register e ≡ false
  pub unoverlapped : IsUnoverlapped s past p read

-- the access of the reader is one more of the read
pub own-earlier : (s : Setup) (past : Past) (p : ℕ) (read later : RegisterRead) (e : Entry) → e.process ≡ p → later.register ≡ read.register → accesses_of_read later ≡ suc (accesses_of_read read) → IsUnoverlapped s (e ∷ past) p later →
    Earlier s past p read later e
own-earlier s past p read later e same register one u =
    let k : ℕ = accesses_of_read read in
    let before : before_read p later (e ∷ past) ≡ before_read p read past = ap (λ n. before_own p n (e ∷ past)) one ∙ before-step p k e past same in
    let during : list_any (writes_on read.register) (e ∷ since_own p k past) ≡ false =
    ap (list_any (writes_on read.register)) (sym (since-step p k e past same)) ∙ ap (λ n. list_any (writes_on read.register) (since_own p n (e ∷ past))) (sym one)
    ∙ ap (λ q. list_any (writes_on q) (since_own p (accesses_of_read later) (e ∷ past))) (sym register) ∙ u.during in
    let two = either-false (writes_on read.register e) (list_any (writes_on read.register) (since_own p k past)) during in
    record {
      before = before;
      quiet = two.0;
      unoverlapped = record { before = (λ i. has_begun (progress_at s (sym before i) (sym register i))) ∙ u.before; during = two.1 };
    }

-- an entry of another process is during the read
pub other-earlier : (s : Setup) (past : Past) (p m : ℕ) (read : RegisterRead) (e : Entry) → e.process ≢ p → accesses_of_read read ≡ suc m → IsUnoverlapped s (e ∷ past) p read → Earlier s past p read read e
other-earlier s past p m read e apart some u =
    let before : before_read p read (e ∷ past) ≡ before_read p read past =
    ap (λ n. before_own p n (e ∷ past)) some ∙ before-other p m e past apart ∙ ap (λ n. before_own p n past) (sym some) in
    let since : since_own p (accesses_of_read read) (e ∷ past) ≡ e ∷ since_own p (accesses_of_read read) past =
    ap (λ n. since_own p n (e ∷ past)) some ∙ since-other p m e past apart ∙ ap (λ n. e ∷ since_own p n past) (sym some) in
    let two = either-false (writes_on read.register e) (list_any (writes_on read.register) (since_own p (accesses_of_read read) past)) (ap (list_any (writes_on read.register)) (sym since) ∙ u.during) in
    record {
      before = before;
      quiet = two.0;
      unoverlapped = record { before = ap (λ x. has_begun (progress_at s x read.register)) (sym before) ∙ u.before; during = two.1 };
    }

-- A NEW READ

abbrev pub new_at : RegisterName → RegisterRead
new_at r = record { register = r; bits = []; begun = false }

pub new-or : (read : RegisterRead) → (read ≡ new_at read.register) ⊎ ((m : ℕ) × (accesses_of_read read ≡ suc m))
new-or read = go read.bits refl read.begun refl
  where
    go : (bits : List Bool) → read.bits ≡ bits → (begun : Bool) → read.begun ≡ begun → (read ≡ new_at read.register) ⊎ ((m : ℕ) × (accesses_of_read read ≡ suc m))
    go [] none false fresh = inl (λ i. record { register = read.register; bits = none i; begun = fresh i })
    go bits some true begun = inr (2 * length read.bits, ap (λ b. 2 * length read.bits + cond b 1 0) begun ∙ (let e : 2 * length read.bits + 1 ≡ suc (2 * length read.bits) = omega arith in e))
    go (b ∷ bits) some false fresh =
        inr (
          2 * length bits + 1,
          (λ i. 2 * length (some i) + cond (fresh i) 1 0) ∙ (let e : 2 * suc (length bits) + 0 ≡ suc (2 * length bits + 1) = omega arith in e),
        )

-- one more access of a read
pub one-more : (bits : List Bool) (begun v : Bool) → 2 * length (cond begun (bits ++ v ∷ []) bits) + cond (cond begun false true) 1 0 ≡ suc (2 * length bits + cond begun 1 0)
one-more bits true v = omega (arith, length-append bits (v ∷ []))
one-more bits false v = omega arith
