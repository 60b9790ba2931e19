-- A place and a closing make their accesses in their turn.
use Rattle.std.proofs.Common.{◌≡◌, ℕ, ◌+◌, ◌*◌, ◌%◌, ◌<◌, ◌≤◌, ◌==◌, ◌&&◌, Bool, true, false, cond, not, List, [], ◌∷◌, Option, Some, None, nat_le, refl, sym, ap, subst, ◌∙◌, arith, true≢false}
use Rattle.std.proofs.lemmas.Bool.{eqb-true, eqb-false, ne_eqb}
use Rattle.std.proofs.lemmas.Bool.Decides.{nat_tests}
use Rattle.safe_bit.specs.declared.Move.TheVariants.{BeginWrite, EndWrite, BeginRead, EndRead}
use Rattle.reader_copies.specs.Runs as copies
use Rattle.model.specs.{Access, Call, Field, IsFollowed, Leads, Next, Part, Past, Reading, Run, Turn, Writing, access_at, access_of, bit_written, bits_with, ended, ended_with, enter, is_begin_of_write, is_last, is_over, is_read, last_write, next_written, open_after, open_closing, open_copy, open_place, open_run, open_settled, open_written, part_after, place_after, place_of, run_after, same_bit, unfinished, width, write_moved, written_at}
use Rattle.model.specs.declared.access.Field.TheVariants.{Choosing, Ticket}
use Rattle.safe_number.specs.{NumberWrite, new_write}
use Rattle.plain_store.specs.{Reply}
use Rattle.model.specs.Closings.{closing_of, failing, settling_from, withdrawing, Closing, Withdraws, Settles, Frees, Lowers, Quit, Ended, no_ticket, is_last_written, is_last_settled, freeing, closing_next, closing_after}
use Rattle.model.proofs.Closing.{Fit}
use Rattle.model.proofs.ClosingScripts.{withdrawal-stays, unit-stays}
use Rattle.model.proofs.Follow.{spot_of}
use Rattle.model.proofs.Width.{IsGood}
use Rattle.model.proofs.Cursors.{Goes}
use Rattle.model.proofs.Ties.{follows-tied, Tie, over, writes, reads}
use Rattle.model.proofs.Turns.{new-closed, done-closed, write-leads, settle-leads}

pub enter-closed : (c : Call) (part : Part) (a : Access) → open_place c (enter c part) a ≡ false
enter-closed c part a = go (is_read part)
  where
    go : (b : Bool) → open_run c part (cond b (Reading [] false) (Writing (new_write (width c.setup (written_at c part).0)))) a ≡ false
    go true = refl
    go false = new-closed c.process (written_at c part).0 (written_at c part).1 (width c.setup (written_at c part).0) a

-- a write's access is not a read's end
pub same-write : (v : Bool) (p : ℕ) (f : Field) (bit : ℕ) (w : copies.Writing) → ended_with v (access_of p f (bit, copies.next_write w)) ≡ access_of p f (bit, copies.next_write w)
same-write v p f bit w = go (w.made % 2 == 0)
  where
    go : (b : Bool) → (let x : Access = record { owner = p; field = f; bit = bit; reader = Prim.Native.Nat.◌/◌ w.made 2; how = ended v (cond b (BeginWrite w.value) EndWrite) } in x)
        ≡ (let x : Access = record { owner = p; field = f; bit = bit; reader = Prim.Native.Nat.◌/◌ w.made 2; how = cond b (BeginWrite w.value) EndWrite } in x)
    go true = refl
    go false = refl

place-writes : (c : Call) (part : Part) (w : NumberWrite) (v : Bool) → Goes c.setup.processes (written_at c part).1 w →
    Leads (open_run c part (Writing w)) (ended_with v (access_at c part (Writing w))) (open_place c (place_after c (record { part = part; run = Writing w }) v))
place-writes c part w v on = subst (λ x. Leads (open_run c part (Writing w)) x (open_place c (place_after c (record { part = part; run = Writing w }) v))) (sym (same-write v p f w.bit (bit_written bits w))) (record {
  turn = lead.turn;
  after = λ a. go a (is_last c part (Writing w)) refl ∙ lead.after a;
})
  where
    p : ℕ
    p = c.process

    f : Field
    f = (written_at c part).0

    bits : List Bool
    bits = (written_at c part).1

    lead : Leads (open_written p f bits w) (access_of p f (next_written bits w)) (open_written p f bits (write_moved c.setup.processes bits w))
    lead = write-leads c.setup.processes p f bits w on

    go : (a : Access) (b : Bool) → is_last c part (Writing w) ≡ b →
        open_place c (cond b (enter c (part_after c part [])) (record { part = part; run = Writing (write_moved c.setup.processes bits w) })) a ≡ open_written p f bits (write_moved c.setup.processes bits w) a
    go a true l = enter-closed c (part_after c part []) a ∙ sym (done-closed c.setup.processes p f bits w a on l)
    go a false l = refl

place-reads : (c : Call) (part : Part) (bits : List Bool) (begun : Bool) (v : Bool) →
    Leads (open_run c part (Reading bits begun)) (ended_with v (access_at c part (Reading bits begun))) (open_place c (place_after c (record { part = part; run = Reading bits begun }) v))
place-reads c part bits begun v = record { turn = λ a same. turn begun; after = λ a. shut a (is_last c part (Reading bits begun)) ∙ sym (still begun (same_bit a (ended_with v (access_at c part (Reading bits begun))))) }
  where
    turn : (b : Bool) → Turn false (ended v (cond b (EndRead false) BeginRead))
    turn true = tt
    turn false = tt

    still : (b same : Bool) → open_after false same (ended v (cond b (EndRead false) BeginRead)) ≡ false
    still true true = refl
    still true false = refl
    still false true = refl
    still false false = refl

    shut : (a : Access) (b : Bool) → open_place c (cond b (enter c (part_after c part (bits_with (Reading bits begun) v))) (record { part = part; run = run_after c part (Reading bits begun) v })) a ≡ false
    shut a true = enter-closed c (part_after c part (bits_with (Reading bits begun) v)) a
    shut a false = refl

-- a place goes on in its turn
pub place-leads : (c : Call) (part : Part) (run : Run) (made : ℕ) (bits : List Bool) (v : Bool) → is_over part ≡ false → Tie c part run made bits →
    Leads (open_run c part run) (ended_with v (access_at c part run)) (open_place c (place_after c (record { part = part; run = run }) v))
place-leads c part run made bits v o (over h) = absurd (true≢false (sym h ∙ o))
place-leads c part (Writing w) made bits v o (writes r e t) = place-writes c part w v t.goes
place-leads c part (Reading bits begun) made bits' v o (reads r t) = place-reads c part bits begun v

-- a bit that is settled was not written on all copies
abbrev pub InReach : Call → Closing → Type 0
InReach c (Settles field bit begun taken is t) = t.made < 2 * c.setup.processes
InReach c _ = Unit {0}

abbrev pub access_in : Option Next → Access
access_in None = record { owner = 0; field = Choosing; bit = 0; reader = 0; how = BeginRead }
access_in (Some n) = n.access

-- past the last copy nothing is open
settled-closed : (n p : ℕ) (f : Field) (bit : ℕ) (t : copies.Settling) (a : Access) → t.made < 2 * n → t.reader ≡ n → t.begun ≡ false → open_settled p f bit t a ≡ false
settled-closed n p f bit t a reach end closed = ap (λ b. ((a.bit == bit) && (a.owner == p) && (Rattle.model.specs.Moves.field_number a.field == Rattle.model.specs.Moves.field_number f)) && b) (none a.reader) ∙ shut ((a.bit == bit) && (a.owner == p) && (Rattle.model.specs.Moves.field_number a.field == Rattle.model.specs.Moves.field_number f))
  where
    shut : (b : Bool) → (b && false) ≡ false
    shut true = refl
    shut false = refl

    late : (r : ℕ) (b : Bool) → nat_le t.reader r ≡ b → (b && copies.is_open_at t.made r) ≡ false
    late r true l = let past : t.reader ≤ r = grind (arith, nat_tests) in ne_eqb t.made (2 * r + 1) (λ u. omega (arith, u, reach, end, past))
    late r false l = refl

    none : (r : ℕ) → open_copy t r ≡ false
    none r = ap (λ b. cond ((r == t.reader) && b) true (nat_le t.reader r && copies.is_open_at t.made r)) closed
        ∙ ap (λ b. cond b true (nat_le t.reader r && copies.is_open_at t.made r)) (shut (r == t.reader)) ∙ late r (nat_le t.reader r) refl

-- a settling that comes to its last copy has closed it
last-closed : (n m r : ℕ) (v b : Bool) → r < n
    → let t : copies.Settling = cond b (record { made = m; reader = r + 1; begun = false; value = Some v }) (record { made = m; reader = r; begun = true; value = Some v }) in
    (t.reader == n) ≡ true → (t.reader ≡ n) × (t.begun ≡ false) × (t.made ≡ m)
last-closed n m r v true h l = (eqb-true (r + 1) n l, refl, refl)
last-closed n m r v false h l = let e : r ≡ n = eqb-true r n l in absurd (omega arith)

same-made : (m r : ℕ) (v b : Bool) → (let t : copies.Settling = cond b (record { made = m; reader = r + 1; begun = false; value = Some v }) (record { made = m; reader = r; begun = true; value = Some v }) in t).made ≡ m
same-made m r v true = refl
same-made m r v false = refl

-- the closing after an access is in reach too
pub reach-after : (c : Call) (at : Closing) (flick : Bool) → InReach c at → InReach c (closing_after c at flick)
reach-after c (Withdraws w) flick h = go (is_last_written c (no_ticket c) w)
  where
    go : (b : Bool) → InReach c (cond b Quit (Withdraws (write_moved c.setup.processes (no_ticket c) w)))
    go true = tt
    go false = tt
reach-after c (Settles field bit begun taken is t) flick h = go (is_last_settled c t (copies.settled_at t flick))
  where
    go : (b : Bool) → InReach c (cond b (freeing c is) (Settles field bit begun taken is (copies.settle_after t (copies.settled_at t flick))))
    go true = tt
    go false = omega (arith, h, same-made t.made t.reader (copies.settled_at t flick) (Rattle.std.specs.Prelude.◌||◌ t.begun (copies.is_open_at t.made t.reader)))
reach-after c (Frees is w) flick h = go (is_last_written c (no_ticket c) w)
  where
    go : (b : Bool) → InReach c (cond b (Lowers (new_write 1)) (Frees is (write_moved c.setup.processes (no_ticket c) w)))
    go true = tt
    go false = tt
reach-after c (Lowers w) flick h = go (is_last_written c (false ∷ []) w)
  where
    go : (b : Bool) → InReach c (cond b Ended (Lowers (write_moved c.setup.processes (false ∷ []) w)))
    go true = tt
    go false = tt
reach-after c Quit flick h = tt
reach-after c Ended flick h = tt

-- a write that a closing makes leads to what comes after it
closing-writes : (c : Call) (p : ℕ) (f : Field) (bits : List Bool) (w : NumberWrite) (next now : Closing) → Goes c.setup.processes bits w →
    ((a : Access) → open_closing c next a ≡ false) → ((a : Access) → open_closing c now a ≡ open_written p f bits (write_moved c.setup.processes bits w) a) →
    Leads (open_written p f bits w) (access_of p f (next_written bits w)) (open_closing c (cond (is_last_written c bits w) next now))
closing-writes c p f bits w next now on shut same = record { turn = lead.turn; after = λ a. go a (is_last_written c bits w) refl ∙ lead.after a }
  where
    lead : Leads (open_written p f bits w) (access_of p f (next_written bits w)) (open_written p f bits (write_moved c.setup.processes bits w))
    lead = write-leads c.setup.processes p f bits w on

    go : (a : Access) (b : Bool) → is_last_written c bits w ≡ b → open_closing c (cond b next now) a ≡ open_written p f bits (write_moved c.setup.processes bits w) a
    go a true l = shut a ∙ sym (done-closed c.setup.processes p f bits w a on l)
    go a false l = same a

closing-settles : (c : Call) (field : Field) (bit : ℕ) (begun : Bool) (taken : Option Reply) (is : Bool) (t : copies.Settling) (u : Bool) → t.reader < c.setup.processes → t.made < 2 * c.setup.processes →
    Leads (open_settled c.process field bit t) (access_of c.process field (bit, copies.next_settle t u)) (open_closing c (cond (is_last_settled c t u) (freeing c is) (Settles field bit begun taken is (copies.settle_after t u))))
closing-settles c field bit begun taken is t u within reach = record { turn = lead.turn; after = λ a. go a (is_last_settled c t u) refl ∙ lead.after a }
  where
    lead : Leads (open_settled c.process field bit t) (access_of c.process field (bit, copies.next_settle t u)) (open_settled c.process field bit (copies.settle_after t u))
    lead = settle-leads c.process field bit t u

    go : (a : Access) (b : Bool) → is_last_settled c t u ≡ b → open_closing c (cond b (freeing c is) (Settles field bit begun taken is (copies.settle_after t u))) a ≡ open_settled c.process field bit (copies.settle_after t u) a
    go a true l =
        let end = last-closed c.setup.processes t.made t.reader u (Rattle.std.specs.Prelude.◌||◌ t.begun (copies.is_open_at t.made t.reader)) within l in
        new-closed c.process Ticket (no_ticket c) c.setup.ticket_bits a
        ∙ sym (settled-closed c.setup.processes c.process field bit (copies.settle_after t u) a (omega (arith, end.2, reach)) end.0 end.1)
    go a false l = refl

-- a closing goes on in its turn
pub closing-leads : (c : Call) (at : Closing) (v flick : Bool) (n : Next) → Fit c at v flick → InReach c at → closing_next c at flick ≡ Some n → Leads (open_closing c at) n.access (open_closing c (closing_after c at flick))
closing-leads c (Withdraws w) v flick n fit reach h = subst (λ o. Leads (open_closing c (Withdraws w)) (access_in o) (open_closing c (closing_after c (Withdraws w) flick))) h
    (closing-writes c c.process Ticket (no_ticket c) w Quit (Withdraws (write_moved c.setup.processes (no_ticket c) w)) fit (λ a. refl) (λ a. refl))
closing-leads c (Settles field bit begun taken is t) v flick n fit reach h = subst (λ o. Leads (open_closing c (Settles field bit begun taken is t)) (access_in o) (open_closing c (closing_after c (Settles field bit begun taken is t) flick))) h
    (closing-settles c field bit begun taken is t (copies.settled_at t flick) fit.0 reach)
closing-leads c (Frees is w) v flick n fit reach h = subst (λ o. Leads (open_closing c (Frees is w)) (access_in o) (open_closing c (closing_after c (Frees is w) flick))) h
    (closing-writes c c.process Ticket (no_ticket c) w (Lowers (new_write 1)) (Frees is (write_moved c.setup.processes (no_ticket c) w)) fit (λ a. new-closed c.process Choosing (false ∷ []) 1 a) (λ a. refl))
closing-leads c (Lowers w) v flick n fit reach h = subst (λ o. Leads (open_closing c (Lowers w)) (access_in o) (open_closing c (closing_after c (Lowers w) flick))) h
    (closing-writes c c.process Choosing (false ∷ []) w Ended (Lowers (write_moved c.setup.processes (false ∷ []) w)) fit (λ a. refl) (λ a. refl))
closing-leads c Quit v flick n fit reach h = cc
closing-leads c Ended v flick n fit reach h = cc

reach-of : (c : Call) (start : Closing) → InReach c start → (flicks : List Bool) → InReach c (closing_of c start flicks)
reach-of c start h [] = h
reach-of c start h (f ∷ flicks) = reach-after c (closing_of c start flicks) f (reach-of c start h flicks)

-- where the last write was on a copy that there is, its bit was not written on all copies
failing-reach : (c : Call) (past : Past) → ((a : Access) → last_write past ≡ Some a → a.reader < c.setup.processes) → InReach c (failing c past)
failing-reach c past h = go (last_write past) h
  where
    go : (x : Option Access) → ((a : Access) → x ≡ Some a → a.reader < c.setup.processes) → InReach c (settling_from c past (unfinished c.setup.processes x))
    go None h = tt
    go (Some a) h = torn (is_begin_of_write a.how) (a.reader + 1 == c.setup.processes) refl refl
      where
        torn : (begin last : Bool) → is_begin_of_write a.how ≡ begin → (a.reader + 1 == c.setup.processes) ≡ last → InReach c (settling_from c past (cond (not begin && last) None (Some a)))
        torn true last b e = let l : a.reader < c.setup.processes = h a refl in rw b (omega arith)
        torn false true b e = tt
        torn false false b e =
            let l : a.reader < c.setup.processes = h a refl in
            let apart : a.reader + 1 ≡ c.setup.processes → ⊥ = eqb-false (a.reader + 1) c.setup.processes e in
            rw b (omega arith)

pub withdrawal-leads : (c : Call) → IsGood c.setup → (flicks : List Bool) (flick : Bool) (n : Next) → closing_next c (closing_of c (withdrawing c) flicks) flick ≡ Some n →
    Leads (open_closing c (closing_of c (withdrawing c) flicks)) n.access (open_closing c (closing_of c (withdrawing c) (flick ∷ flicks)))
withdrawal-leads c g flicks flick n h = closing-leads c (closing_of c (withdrawing c) flicks) _ flick n (withdrawal-stays c g flicks flick).fit (reach-of c (withdrawing c) tt flicks) h

pub unit-leads : (c : Call) → IsGood c.setup → (past : Past) → ((a : Access) → last_write past ≡ Some a → a.reader < c.setup.processes) → (flicks : List Bool) (flick : Bool) (n : Next) →
    closing_next c (closing_of c (failing c past) flicks) flick ≡ Some n → Leads (open_closing c (closing_of c (failing c past) flicks)) n.access (open_closing c (closing_of c (failing c past) (flick ∷ flicks)))
unit-leads c g past r flicks flick n h = closing-leads c (closing_of c (failing c past) flicks) _ flick n (unit-stays c g past flicks flick).fit (reach-of c (failing c past) (failing-reach c past r) flicks) h

-- wherever a process has followed its script, its next access is in its turn
pub followed-leads : (c : Call) → IsGood c.setup → (accesses : List Access) → IsFollowed c accesses → (v : Bool) → is_over (place_of c accesses).part ≡ false →
    Leads (open_place c (place_of c accesses)) (ended_with v (access_at c (place_of c accesses).part (place_of c accesses).run)) (open_place c (place_after c (place_of c accesses) v))
followed-leads c g accesses f v o = place-leads c (place_of c accesses).part (place_of c accesses).run (spot_of c accesses).made (spot_of c accesses).bits v o (follows-tied c g accesses f).run
