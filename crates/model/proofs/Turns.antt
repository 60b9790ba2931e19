-- Writes come in their turn: which copies a process has open, by its place.
use Rattle.std.proofs.Common.{◌≡◌, ◌≢◌, ℕ, ◌+◌, ◌*◌, ◌/◌, ◌%◌, ◌<◌, ◌≤◌, ◌==◌, ◌&&◌, ◌||◌, Bool, true, false, cond, not, List, Option, Some, None, nat_le, refl, sym, ap, subst, ◌∙◌, arith, inl, inr}
use Rattle.std.proofs.lemmas.Bool.{cases_eq, eqb-true, eqb-false, ne_eqb, eq-eqb}
use Rattle.std.proofs.lemmas.Bool.Decides.{nat_tests}
use Rattle.safe_bit.specs.{Move}
use Rattle.safe_bit.specs.declared.Move.TheVariants.{BeginWrite, EndWrite, Settle}
use Rattle.reader_copies.specs.Runs as copies
use Rattle.model.specs.{Access, Field, Leads, Turn, access_of, bit_written, field_number, next_written, open_after, open_copy, open_settled, open_written, same_bit, write_moved}
use Rattle.safe_number.specs.{NumberWrite, new_write}
use Rattle.model.proofs.Cursors.{Goes}

pub and_false : (b : Bool) → (b && false) ≡ false
and_false true = refl
and_false false = refl

pub and_true : (b : Bool) → (b && true) ≡ b
and_true true = refl
and_true false = refl

-- nothing is open before a write
pub new-closed : (p : ℕ) (f : Field) (bits : List Bool) (width : ℕ) (a : Access) → open_written p f bits (new_write width) a ≡ false
new-closed p f bits width a = and_false (same_bit a (access_of p f (next_written bits (new_write width))))

write_turn : (same even : Bool) (v : Bool) → same ≡ true → Turn (same && not even) (cond even (BeginWrite v) EndWrite)
write_turn true true v h = refl
write_turn true false v h = refl
write_turn false even v h = cc

write_after_move : (same even : Bool) (v : Bool) → open_after (same && not even) same (cond even (BeginWrite v) EndWrite) ≡ cond even same false
write_after_move true true v = refl
write_after_move true false v = refl
write_after_move false true v = refl
write_after_move false false v = refl

pub parity : (m : ℕ) → (m % 2 == 1) ≡ not (m % 2 == 0)
parity m = elim (cases_eq (m % 2) 0) [
  | inl even ↦ let odd : m % 2 ≢ 1 = λ u. omega (arith, u, even) in ne_eqb (m % 2) 1 odd ∙ sym (ap not (eq-eqb (m % 2) 0 even))
  | inr other ↦ let odd : m % 2 ≡ 1 = omega (arith, other) in eq-eqb (m % 2) 1 odd ∙ sym (ap not (ne_eqb (m % 2) 0 other))
]

-- the write after an access, by whether its bit is done
abbrev moved_write : ℕ → ℕ → Bool → ℕ → Bool → NumberWrite
moved_write width bit v made done = cond done (record { width = width; bit = bit + 1; run = None }) (record { width = width; bit = bit; run = Some (let r : copies.Writing = record { value = v; made = made; ended = done } in r) })

moved_open : (p : ℕ) (f : Field) (bits : List Bool) (width bit : ℕ) (v : Bool) (m n : ℕ) (a : Access) (done : Bool) → (m + 1 == 2 * n) ≡ done → m < 2 * n → (even : Bool) → (m % 2 == 0) ≡ even →
    open_written p f bits (moved_write width bit v (m + 1) done) a ≡ cond even (same_bit a (access_of p f (bit, copies.next_write (let r : copies.Writing = record { value = v; made = m; ended = false } in r)))) false
moved_open p f bits width bit v m n a true d l true e =
    let whole : m + 1 ≡ 2 * n = eqb-true (m + 1) (2 * n) d in
    let even : m % 2 ≡ 0 = eqb-true (m % 2) 0 e in
    absurd (omega arith)
moved_open p f bits width bit v m n a true d l false e = and_false (same_bit a (access_of p f (next_written bits (record { width = width; bit = bit + 1; run = None }))))
moved_open p f bits width bit v m n a false d l true e =
    let even : m % 2 ≡ 0 = eqb-true (m % 2) 0 e in
    let odd : (m + 1) % 2 ≡ 1 = omega arith in
    let half : (m + 1) / 2 ≡ m / 2 = omega arith in
    (λ i. ((a.bit == bit) && (a.reader == half i) && (a.owner == p) && (field_number a.field == field_number f)) && (odd i == 1))
    ∙ and_true ((a.bit == bit) && (a.reader == m / 2) && (a.owner == p) && (field_number a.field == field_number f))
moved_open p f bits width bit v m n a false d l false e =
    let other : m % 2 ≢ 0 = eqb-false (m % 2) 0 e in
    let even : (m + 1) % 2 ≡ 0 = omega (arith, other) in
    (λ i. ((a.bit == bit) && (a.reader == (m + 1) / 2) && (a.owner == p) && (field_number a.field == field_number f)) && (even i == 1))
    ∙ and_false ((a.bit == bit) && (a.reader == (m + 1) / 2) && (a.owner == p) && (field_number a.field == field_number f))

-- a write goes on in its turn
pub write-leads : (n p : ℕ) (f : Field) (bits : List Bool) (w : NumberWrite) → Goes n bits w → Leads (open_written p f bits w) (access_of p f (next_written bits w)) (open_written p f bits (write_moved n bits w))
write-leads n p f bits w on = record {
  turn = λ a same. subst (λ b. Turn (same_bit a (access_of p f (next_written bits w)) && b) (cond (run.made % 2 == 0) (BeginWrite run.value) EndWrite)) (sym (parity run.made))
      (write_turn (same_bit a (access_of p f (next_written bits w))) (run.made % 2 == 0) run.value same);
  after = λ a.
      moved_open p f bits w.width w.bit run.value run.made n a (run.made + 1 == 2 * n) refl on.going (run.made % 2 == 0) refl
      ∙ sym (ap (λ b. open_after (same_bit a (access_of p f (next_written bits w)) && b) (same_bit a (access_of p f (next_written bits w))) (cond (run.made % 2 == 0) (BeginWrite run.value) EndWrite)) (parity run.made)
      ∙ write_after_move (same_bit a (access_of p f (next_written bits w))) (run.made % 2 == 0) run.value);
}
  where
    run : copies.Writing
    run = bit_written bits w

-- nothing is open once a write is done
pub done-closed : (n p : ℕ) (f : Field) (bits : List Bool) (w : NumberWrite) (a : Access) → Goes n bits w → ((write_moved n bits w).bit == w.width) ≡ true → open_written p f bits (write_moved n bits w) a ≡ false
done-closed n p f bits w a on done = go (run.made + 1 == 2 * n) done
  where
    run : copies.Writing
    run = bit_written bits w

    go : (b : Bool) → ((moved_write w.width w.bit run.value (run.made + 1) b).bit == w.width) ≡ true → open_written p f bits (moved_write w.width w.bit run.value (run.made + 1) b) a ≡ false
    go true l = and_false (same_bit a (access_of p f (next_written bits (record { width = w.width; bit = w.bit + 1; run = None }))))
    go false l = let all : w.bit ≡ w.width = eqb-true w.bit w.width l in absurd (omega (arith, on.inside))

settled_turn : (b r o f was : Bool) (m : Move) → (r ≡ true → Turn was m) → (b && r && o && f) ≡ true → Turn ((b && o && f) && was) m
settled_turn true true true true was m h e = h refl
settled_turn _ _ _ _ was m h e = cc

settled_after : (b r o f was then : Bool) (m : Move) → (r ≡ true → then ≡ open_after was true m) → (r ≡ false → then ≡ was) → ((b && o && f) && then) ≡ open_after ((b && o && f) && was) (b && r && o && f) m
settled_after true true true true was then m h k = h refl
settled_after true true true false was then m h k = refl
settled_after true true false f was then m h k = refl
settled_after true false true true was then m h k = k refl
settled_after _ _ _ _ was then m h k = refl

-- the effect of a settling on the copy of its reader, and on the others
record CopiesBy (t : copies.Settling) (m : Move) (to : copies.Settling) : Type 0 where
  turn : (r : ℕ) → (r == t.reader) ≡ true → Turn (open_copy t r) m
  here : (r : ℕ) → (r == t.reader) ≡ true → open_copy to r ≡ open_after (open_copy t r) true m
  there : (r : ℕ) → (r == t.reader) ≡ false → open_copy to r ≡ open_copy t r

abbrev Copies : copies.Settling → Bool → Type 0
Copies t v = CopiesBy t (copies.next_settle t v).how (copies.settle_after t v)

not_past : (r s : ℕ) → r ≡ s → nat_le (s + 1) r ≡ false
not_past r s e = grind (arith, nat_tests)

at_least : (r s : ℕ) → r ≡ s → nat_le s r ≡ true
at_least r s e = grind (arith, nat_tests)

same_past : (r s : ℕ) → r ≢ s → nat_le (s + 1) r ≡ nat_le s r
same_past r s e = go (nat_le s r) refl
  where
    go : (b : Bool) → nat_le s r ≡ b → nat_le (s + 1) r ≡ b
    go true h = let l : s ≤ r = grind (arith, nat_tests) in let m : s + 1 ≤ r = omega (arith, e) in grind (arith, nat_tests)
    go false h = let l : r < s = grind (arith, nat_tests) in grind (arith, nat_tests)

copies_on : (made reader : ℕ) (begun : Bool) (value : Option Bool) (v o : Bool) → copies.is_open_at made reader ≡ o → Copies (record { made = made; reader = reader; begun = begun; value = value }) v
copies_on made reader true value v o h = record {
  turn = λ r e. ap (λ b. cond (b && true) true (nat_le reader r && copies.is_open_at made r)) e;
  here = λ r e. ap (λ b. cond b true (nat_le (reader + 1) r && copies.is_open_at made r)) (and_false (r == reader + 1)) ∙ ap (λ b. b && copies.is_open_at made r) (not_past r reader (eqb-true r reader e));
  there = λ r e. ap (λ b. cond b true (nat_le (reader + 1) r && copies.is_open_at made r)) (and_false (r == reader + 1))
      ∙ ap (λ b. b && copies.is_open_at made r) (same_past r reader (eqb-false r reader e))
      ∙ sym (ap (λ b. cond (b && true) true (nat_le reader r && copies.is_open_at made r)) e);
}
copies_on made reader false value v true h = subst (λ q. OneCopy q) (sym h) (record {
  turn = λ r e. ap (λ b. cond b true (nat_le reader r && copies.is_open_at made r)) (and_false (r == reader))
      ∙ ap (λ b. b && copies.is_open_at made r) (at_least r reader (eqb-true r reader e))
      ∙ ap (copies.is_open_at made) (eqb-true r reader e) ∙ h;
  here = λ r e. ap (λ b. cond b true (nat_le (reader + 1) r && copies.is_open_at made r)) (and_false (r == reader + 1)) ∙ ap (λ b. b && copies.is_open_at made r) (not_past r reader (eqb-true r reader e));
  there = λ r e. ap (λ b. cond b true (nat_le (reader + 1) r && copies.is_open_at made r)) (and_false (r == reader + 1))
      ∙ ap (λ b. b && copies.is_open_at made r) (same_past r reader (eqb-false r reader e))
      ∙ sym (ap (λ b. cond b true (nat_le reader r && copies.is_open_at made r)) (and_false (r == reader)));
})
  where
    after : Bool → copies.Settling
    after q = cond (false || q) (record { made = made; reader = reader + 1; begun = false; value = Some v }) (record { made = made; reader = reader; begun = true; value = Some v })

    OneCopy : Bool → Type 0
    OneCopy q = CopiesBy (record { made = made; reader = reader; begun = false; value = value }) (cond q (Settle v) (BeginWrite v)) (after q)
copies_on made reader false value v false h = subst (λ q. OneCopy q) (sym h) (record {
  turn = λ r e. ap (λ b. cond b true (nat_le reader r && copies.is_open_at made r)) (and_false (r == reader))
      ∙ ap (λ b. nat_le reader r && b) (ap (copies.is_open_at made) (eqb-true r reader e) ∙ h) ∙ and_false (nat_le reader r);
  here = λ r e. ap (λ b. cond (b && true) true (nat_le reader r && copies.is_open_at made r)) e;
  there = λ r e. ap (λ b. cond (b && true) true (nat_le reader r && copies.is_open_at made r)) e
      ∙ sym (ap (λ b. cond b true (nat_le reader r && copies.is_open_at made r)) (and_false (r == reader)));
})
  where
    after : Bool → copies.Settling
    after q = cond (false || q) (record { made = made; reader = reader + 1; begun = false; value = Some v }) (record { made = made; reader = reader; begun = true; value = Some v })

    OneCopy : Bool → Type 0
    OneCopy q = CopiesBy (record { made = made; reader = reader; begun = false; value = value }) (cond q (Settle v) (BeginWrite v)) (after q)

-- a settling goes on in its turn
pub settle-leads : (p : ℕ) (f : Field) (bit : ℕ) (t : copies.Settling) (v : Bool) → Leads (open_settled p f bit t) (access_of p f (bit, copies.next_settle t v)) (open_settled p f bit (copies.settle_after t v))
settle-leads p f bit t v = record {
  turn = λ a same. settled_turn (a.bit == bit) (a.reader == t.reader) (a.owner == p) (field_number a.field == field_number f) (open_copy t a.reader) (copies.next_settle t v).how (on.turn a.reader) same;
  after = λ a. settled_after (a.bit == bit) (a.reader == t.reader) (a.owner == p) (field_number a.field == field_number f) (open_copy t a.reader) (open_copy (copies.settle_after t v) a.reader) (copies.next_settle t v).how (on.here a.reader) (on.there a.reader);
}
  where
    on : Copies t v
    on = copies_on t.made t.reader t.begun t.value v (copies.is_open_at t.made t.reader) refl
