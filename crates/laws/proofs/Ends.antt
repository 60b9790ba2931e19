-- A write that ends has the value with which it began.
use Rattle.std.proofs.Common.{◌≡◌, ◌≢◌, ℕ, ◌+◌, ◌*◌, ◌/◌, ◌%◌, ◌==◌, ◌||◌, Bool, true, false, cond, if◌then◌else◌, List, [], ◌∷◌, refl, sym, ap, ◌∙◌, subst, arith, Option, Some, None, inl, inr, eq-eqb}
use Rattle.std.proofs.lemmas.Bool.{cases_eq}
use Rattle.std.specs.Prelude.{option_map, unwrap_or}
use Rattle.model.specs.safe_bit.{is_of_write}
use Rattle.model.specs.safe_bit.declared.Move.TheVariants.{BeginWrite, EndWrite, BeginRead, EndRead, Settle}
use Rattle.model.specs.safe_bit.Cell.{Cell}
use Rattle.model.specs.reader_copies.Runs as copies
use Rattle.model.specs.{Access, Call, Entry, Event, Field, Next, Part, Past, Place, Raises, Reading, Run, Writing, access_at, access_of, bit_written, bits_with, enter, entry_of, inside, is_last, is_over, is_read, last_write, made_with, next_written, own, part_after, past-induction, past_of, place_after, run_after, unfinished, value_of, valued, width, write_moved, written_at}
use Rattle.model.specs.declared.access.Field.TheVariants.{Choosing, Ticket}
use Rattle.model.specs.safe_number.{NumberWrite, new_write}
use Rattle.plain_store.specs.{Command, Setup}
use Rattle.model.specs.Closings.{Closing, Withdraws, Settles, Frees, Lowers, Quit, Ended, closing_next, closing_after, failing, freeing, settling_from, is_last_settled, is_last_written, no_ticket}
use Rattle.model.proofs.Width.{IsGood}
use Rattle.laws.specs.{Closes, Doing, Lies, Rests, Runs, being_written, call, cell_held, closes, doing, next_of, runs}
use Rattle.laws.proofs.Frame.{Happens, a_call, a_withdrawal, a_failure, a_restart, a_step, a_closing, doing-other}
use Rattle.laws.proofs.FrameEvents.{accepted}
use Rattle.laws.proofs.FrameSteps.{entry-by, valued-write}
use Rattle.laws.proofs.FrameWires.{wire_after, wires-here, wires-others}
use Rattle.laws.proofs.HeldCells.{held-is}
use Rattle.laws.proofs.Invariant.{Wire, wires}

-- the copy of an access
abbrev Copy : Setup → Past → Access → Wire
Copy s past n = wires s past n.owner n.field n.bit n.reader

-- if the next access ends a write, its copy has the value that is being written
abbrev Ending : Setup → Past → ℕ → Doing → Type 0
Ending s past p d = (flick : Bool) (n : Access) → next_of s p d flick ≡ Some n → n.how ≡ EndWrite → (Copy s past n).value ≡ being_written s p d

some_access : (x y : Access) → Some x ≡ Some y → x ≡ y
some_access x y h = cc

no_end : (b : Bool) (v : Bool) → (if b then EndRead v else BeginRead) ≡ EndWrite → ⊥
no_end true v h = cc
no_end false v h = cc

-- A write.

-- an access of a write, and the next one
written : (s : Setup) (past : Past) (e : Entry) (p : ℕ) (f : Field) (bits : List Bool) (n : ℕ) (w : NumberWrite) → e.access ≡ Some (access_of p f (next_written bits w)) →
    (x : Access) → access_of p f (next_written bits (write_moved n bits w)) ≡ x → x.how ≡ EndWrite → (Copy s (e ∷ past) x).value ≡ (bit_written bits (write_moved n bits w)).value
written s past e p f bits n w access x is how = go (made + 1 == 2 * n) refl
  where
    made : ℕ
    made = (bit_written bits w).made

    value : Bool
    value = (bit_written bits w).value

    a : Access
    a = access_of p f (next_written bits w)

    -- the place of the write then
    to : Bool → NumberWrite
    to b = if b then record { width = w.width; bit = w.bit + 1; run = None } else record { width = w.width; bit = w.bit; run = Some (record { value = value; made = made + 1; ended = b }) }

    parity : (m : ℕ) (v : Bool) → (if m % 2 == 0 then BeginWrite v else EndWrite) ≡ EndWrite → m % 2 ≢ 0
    parity m v h z = by (m % 2 == 0) (eq-eqb (m % 2) 0 z) h
      where
        by : (b : Bool) → b ≡ true → (if b then BeginWrite v else EndWrite) ≡ EndWrite → ⊥
        by true k h = cc
        by false k h = cc

    here : made % 2 ≡ 0 → (Copy s (e ∷ past) a).value ≡ value
    here even = ap (λ (w : Wire). w.value) (wires-here s past e a access) ∙ ap (λ b. (wire_after (Copy s past a) (if b then BeginWrite value else EndWrite)).value) (eq-eqb (made % 2) 0 even)

    go : (b : Bool) → (made + 1 == 2 * n) ≡ b → (Copy s (e ∷ past) x).value ≡ (bit_written bits (to (made + 1 == 2 * n))).value
    go true k = let f : (if 0 % 2 == 0 then BeginWrite (bit_written bits (to true)).value else EndWrite) ≡ EndWrite = ap (λ b. (access_of p f (next_written bits (to b))).how) (sym k) ∙ (ap (λ (y : Access). y.how) is ∙ how) in cc
    go false k =
        let odd : (made + 1) % 2 ≢ 0 = parity (made + 1) value (ap (λ b. (access_of p f (next_written bits (to b))).how) (sym k) ∙ (ap (λ (y : Access). y.how) is ∙ how)) in
        let even : made % 2 ≡ 0 = omega arith in
        let half : (made + 1) / 2 ≡ made / 2 = omega arith in
        let at : access_of p f (next_written bits (to false)) ≡ x = ap (λ b. access_of p f (next_written bits (to b))) (sym k) ∙ is in
        let same : Copy s (e ∷ past) x ≡ Copy s (e ∷ past) a = ap (Copy s (e ∷ past)) (sym at) ∙ ap (wires s (e ∷ past) p f w.bit) half in
        ap (λ (w : Wire). w.value) same ∙ here even ∙ sym (ap (λ b. (bit_written bits (to b)).value) k)

-- nothing ends at the begin of a write
fresh_write : (p : ℕ) (f : Field) (bits : List Bool) (width : ℕ) (x : Access) → access_of p f (next_written bits (new_write width)) ≡ x → x.how ≡ EndWrite → ⊥
fresh_write p f bits width x is how = let h : (if 0 % 2 == 0 then BeginWrite (bit_written bits (new_write width)).value else EndWrite) ≡ EndWrite = ap (λ (y : Access). y.how) is ∙ how in cc

-- nothing ends at the begin of a part
fresh_part : (s : Setup) (past : Past) (p : ℕ) (command : Command) (number : ℕ) (x : Part) → Ending s past p (runs command number (enter (call s p command number) x))
fresh_part s past p command number x flick n = over (is_over x)
  where
    c : Call
    c = call s p command number

    read : (b : Bool) → access_at c x (cond b (Reading [] false) (Writing (new_write (width s (written_at c x).0)))) ≡ n → n.how ≡ EndWrite → ⊥
    read true is how = let h : BeginRead ≡ EndWrite = ap (λ (y : Access). y.how) is ∙ how in cc
    read false is how = fresh_write p (written_at c x).0 (written_at c x).1 (width s (written_at c x).0) n is how

    over : (b : Bool) → next_of s p (cond b Rests (Runs command number (enter c x))) flick ≡ Some n → n.how ≡ EndWrite → (Copy s past n).value ≡ being_written s p (cond b Rests (Runs command number (enter c x)))
    over true is how = cc
    over false is how = absurd (read (is_read x) (some_access _ n is) how)

-- A step of a call.

place_ends : (s : Setup) (past : Past) (e : Entry) (p : ℕ) (command : Command) (number : ℕ) (at : Place) (flick : Bool) → is_over at.part ≡ false → e.access ≡ Some (valued s past flick (access_at (call s p command number) at.part at.run)) → (v : Bool) →
    Ending s (e ∷ past) p (runs command number (place_after (call s p command number) at v))
place_ends s past e p command number at flick over access v = last (is_last c at.part at.run) refl
  where
    c : Call
    c = call s p command number

    is_of_write-written : (m : ℕ) (v : Bool) → is_of_write (if m % 2 == 0 then BeginWrite v else EndWrite) ≡ true
    is_of_write-written m v = go (m % 2 == 0)
      where
        go : (b : Bool) → is_of_write (if b then BeginWrite v else EndWrite) ≡ true
        go true = refl
        go false = refl

    stays : (part : Part) (run : Run) → is_over part ≡ false → e.access ≡ Some (valued s past flick (access_at c part run)) → Ending s (e ∷ past) p (runs command number (record { part = part; run = run_after c part run v }))
    stays part (Writing w) over access fl n =
        let bits = (written_at c part).1 in
        let f = (written_at c part).0 in
        let to : Place = record { part = part; run = Writing (write_moved s.processes bits w) } in
        subst (λ b. next_of s p (cond b Rests (Runs command number to)) fl ≡ Some n → n.how ≡ EndWrite → (Copy s (e ∷ past) n).value ≡ being_written s p (cond b Rests (Runs command number to))) (sym over)
        (λ next how. written s past e p f bits s.processes w (access ∙ ap Some (valued-write s past flick (access_at c part (Writing w)) (is_of_write-written (bit_written bits w).made (bit_written bits w).value))) n (some_access _ n next) how)
    stays part (Reading bits begun) over access fl n =
        let to : Place = record { part = part; run = run_after c part (Reading bits begun) v } in
        subst (λ b. next_of s p (cond b Rests (Runs command number to)) fl ≡ Some n → n.how ≡ EndWrite → (Copy s (e ∷ past) n).value ≡ being_written s p (cond b Rests (Runs command number to))) (sym over)
        (λ next how. absurd (no_end (cond begun false true) false (ap (λ (y : Access). y.how) (some_access _ n next) ∙ how)))

    last : (b : Bool) → is_last c at.part at.run ≡ b → Ending s (e ∷ past) p (runs command number (cond b (enter c (part_after c at.part (bits_with at.run v))) (record { part = at.part; run = run_after c at.part at.run v })))
    last true k = fresh_part s (e ∷ past) p command number (part_after c at.part (bits_with at.run v))
    last false k = stays at.part at.run over access

-- A step of a closing.

fresh_closing : (s : Setup) (past : Past) (p : ℕ) (command : Command) (number : ℕ) (is : Bool) → Ending s past p (Closes command number (freeing (call s p command number) is))
fresh_closing s past p command number is flick n next how = absurd (fresh_write p Ticket (no_ticket (call s p command number)) s.ticket_bits n (some_access _ n next) how)

settle_ends : (s : Setup) (past : Past) (e : Entry) (p : ℕ) (f : Field) (k : ℕ) (t : copies.Settling) (v flick : Bool) → v ≡ copies.settled_at t flick → e.access ≡ Some (access_of p f (k, copies.next_settle t v)) →
    (fl : Bool) (x : Access) → access_of p f (k, copies.next_settle (copies.settle_after t v) (copies.settled_at (copies.settle_after t v) fl)) ≡ x → x.how ≡ EndWrite → (Copy s (e ∷ past) x).value ≡ unwrap_or (copies.settle_after t v).value false
settle_ends s past e p f k t v flick v_is access fl x is how = go t.begun refl (copies.is_open_at t.made t.reader) refl
  where
    to : Bool → copies.Settling
    to b = if b then record { made = t.made; reader = t.reader + 1; begun = false; value = Some v } else record { made = t.made; reader = t.reader; begun = true; value = Some v }

    next : Bool → Access
    next b = access_of p f (k, copies.next_settle (to b) (copies.settled_at (to b) fl))

    new : (o : Bool) (u : Bool) → (if o then Settle u else BeginWrite u) ≡ EndWrite → ⊥
    new true u h = cc
    new false u h = cc

    go : (b : Bool) → t.begun ≡ b → (o : Bool) → copies.is_open_at t.made t.reader ≡ o → (Copy s (e ∷ past) x).value ≡ unwrap_or (to (t.begun || copies.is_open_at t.made t.reader)).value false
    go true i o j = absurd (new (copies.is_open_at t.made (t.reader + 1)) v (ap (λ b. (next b).how) (sym (ap (λ b. b || copies.is_open_at t.made t.reader) i)) ∙ (ap (λ (y : Access). y.how) is ∙ how)))
    go false i true j = absurd (new (copies.is_open_at t.made (t.reader + 1)) v (ap (λ b. (next b).how) (sym (λ k. i k || j k)) ∙ (ap (λ (y : Access). y.how) is ∙ how)))
    go false i false j =
        let a : Access = access_of p f (k, copies.next_settle t v) in
        let at : next false ≡ x = ap next (sym (λ k. i k || j k)) ∙ is in
        ap (λ y. (Copy s (e ∷ past) y).value) (sym at)
        ∙ ap (λ (w : Wire). w.value) (wires-here s past e a access)
        ∙ (λ k. (wire_after (Copy s past a) (if i k then EndWrite else if j k then Settle v else BeginWrite v)).value)
        ∙ ap (λ b. unwrap_or (to b).value false) (sym (λ k. i k || j k))

closing_ends : (s : Setup) (past : Past) (e : Entry) (p : ℕ) (command : Command) (number : ℕ) (at : Closing) (flick : Bool) (n : Next) → closing_next (call s p command number) at flick ≡ Some n → e.access ≡ Some n.access →
    Ending s (e ∷ past) p (closes command number (closing_after (call s p command number) at flick))
closing_ends s past e p command number at flick n next access = go at (access_reported at next)
  where
    c : Call
    c = call s p command number

    access_reported : (at : Closing) → closing_next c at flick ≡ Some n → e.access ≡ option_map (λ (n : Next). n.access) (closing_next c at flick)
    access_reported at h = access ∙ ap (option_map (λ (n : Next). n.access)) (sym h)

    go : (at : Closing) → e.access ≡ option_map (λ (n : Next). n.access) (closing_next c at flick) → Ending s (e ∷ past) p (closes command number (closing_after c at flick))
    go (Withdraws w) h fl x = by (is_last_written c (no_ticket c) w)
      where
        by : (b : Bool) → next_of s p (closes command number (cond b Quit (Withdraws (write_moved s.processes (no_ticket c) w)))) fl ≡ Some x → x.how ≡ EndWrite →
            (Copy s (e ∷ past) x).value ≡ being_written s p (closes command number (cond b Quit (Withdraws (write_moved s.processes (no_ticket c) w))))
        by true i how = cc
        by false i how = written s past e p Ticket (no_ticket c) s.processes w h x (some_access _ x i) how
    go (Settles f k begun taken is t) h fl x = by (is_last_settled c t (copies.settled_at t flick))
      where
        by : (b : Bool) → next_of s p (closes command number (cond b (freeing c is) (Settles f k begun taken is (copies.settle_after t (copies.settled_at t flick))))) fl ≡ Some x → x.how ≡ EndWrite →
            (Copy s (e ∷ past) x).value ≡ being_written s p (closes command number (cond b (freeing c is) (Settles f k begun taken is (copies.settle_after t (copies.settled_at t flick)))))
        by true i how = fresh_closing s (e ∷ past) p command number is fl x i how
        by false i how = settle_ends s past e p f k t (copies.settled_at t flick) flick refl h fl x (some_access _ x i) how
    go (Frees is w) h fl x = by (is_last_written c (no_ticket c) w)
      where
        by : (b : Bool) → next_of s p (closes command number (cond b (Lowers (new_write 1)) (Frees is (write_moved s.processes (no_ticket c) w)))) fl ≡ Some x → x.how ≡ EndWrite →
            (Copy s (e ∷ past) x).value ≡ being_written s p (closes command number (cond b (Lowers (new_write 1)) (Frees is (write_moved s.processes (no_ticket c) w))))
        by true i how = absurd (fresh_write p Choosing (false ∷ []) 1 x (some_access _ x i) how)
        by false i how = written s past e p Ticket (no_ticket c) s.processes w h x (some_access _ x i) how
    go (Lowers w) h fl x = by (is_last_written c (false ∷ []) w)
      where
        by : (b : Bool) → next_of s p (closes command number (cond b Ended (Lowers (write_moved s.processes (false ∷ []) w)))) fl ≡ Some x → x.how ≡ EndWrite →
            (Copy s (e ∷ past) x).value ≡ being_written s p (closes command number (cond b Ended (Lowers (write_moved s.processes (false ∷ []) w))))
        by true i how = cc
        by false i how = written s past e p Choosing (false ∷ []) s.processes w h x (some_access _ x i) how
    go Quit h fl x = λ i how. cc
    go Ended h fl x = λ i how. cc

-- Every event.

-- a unit starts with no end
cut_ends : (s : Setup) (past : Past) (p : ℕ) (command : Command) (number : ℕ) (mine : Past) → Ending s past p (Closes command number (failing (call s p command number) mine))
cut_ends s past p command number mine flick n = go (unfinished s.processes (last_write mine))
  where
    c : Call
    c = call s p command number

    new : (o : Bool) (u : Bool) → (if o then Settle u else BeginWrite u) ≡ EndWrite → ⊥
    new true u h = cc
    new false u h = cc

    go : (torn : Option Access) → next_of s p (Closes command number (settling_from c mine torn)) flick ≡ Some n → n.how ≡ EndWrite → (Copy s past n).value ≡ being_written s p (Closes command number (settling_from c mine torn))
    go None i how = fresh_closing s past p command number (inside p mine) flick n i how
    go (Some a) i how = absurd (new (copies.is_open_at (made_with a) 0) flick (ap (λ (y : Access). y.how) (some_access _ n i) ∙ how))

happens_ends : (s : Setup) (past : Past) (p : ℕ) (e : Entry) (d d' : Doing) → Happens s past p e d d' → Ending s (e ∷ past) p d'
happens_ends s past p e d d' (a_call command number was none marks goes) = subst (Ending s (e ∷ past) p) (sym goes) (fresh_part s (e ∷ past) p command number Raises)
happens_ends s past p e d d' (a_withdrawal command number t w ws run was none marks goes) =
    subst (Ending s (e ∷ past) p) (sym goes) (λ flick n i how. absurd (fresh_write p Ticket (no_ticket (call s p command number)) s.ticket_bits n (some_access _ n i) how))
happens_ends s past p e d d' (a_failure command number may none marks goes) = subst (Ending s (e ∷ past) p) (sym goes) (cut_ends s (e ∷ past) p command number (own p past))
happens_ends s past p e d d' (a_restart was none marks goes) = subst (Ending s (e ∷ past) p) (sym goes) (λ flick n i how. cc)
happens_ends s past p e d d' (a_step command number at a flick was over access is marks goes) =
    subst (Ending s (e ∷ past) p) (sym goes) (place_ends s past e p command number at flick over (access ∙ ap Some is) (value_of a.how))
happens_ends s past p e d d' (a_closing command number at flick n was next access same marks goes) = subst (Ending s (e ∷ past) p) (sym goes) (closing_ends s past e p command number at flick n next access)

-- a process that writes is the owner
write_owner : (s : Setup) (p : ℕ) (d : Doing) (flick : Bool) (n : Access) → next_of s p d flick ≡ Some n → n.how ≡ EndWrite → n.owner ≡ p
write_owner s p Rests flick n i how = cc
write_owner s p Lies flick n i how = cc
write_owner s p (Closes command number (Withdraws w)) flick n i how = sym (ap (λ (y : Access). y.owner) (some_access _ n i))
write_owner s p (Closes command number (Settles f k begun taken is t)) flick n i how = sym (ap (λ (y : Access). y.owner) (some_access _ n i))
write_owner s p (Closes command number (Frees is w)) flick n i how = sym (ap (λ (y : Access). y.owner) (some_access _ n i))
write_owner s p (Closes command number (Lowers w)) flick n i how = sym (ap (λ (y : Access). y.owner) (some_access _ n i))
write_owner s p (Closes command number Quit) flick n i how = cc
write_owner s p (Closes command number Ended) flick n i how = cc
write_owner s p (Runs command number at) flick n i how = go at.part at.run (some_access _ n i)
  where
    go : (x : Part) (run : Run) → access_at (call s p command number) x run ≡ n → n.owner ≡ p
    go x (Writing w) is = sym (ap (λ (y : Access). y.owner) is)
    go x (Reading bits begun) is = absurd (no_end begun false (ap (λ (y : Access). y.how) is ∙ how))

abbrev Each : Setup → Past → Type 0
Each s past = IsGood s → (p : ℕ) → Ending s past p (doing s p past)

ends_all : (s : Setup) (events : List Event) → Each s (past_of s events)
ends_all s = past-induction Each s (λ g p flick n i how. cc) more
  where
    more : (events : List Event) (what : Event) (e : Entry) → entry_of s (past_of s events) what ≡ Some e → Each s (past_of s events) → Each s (e ∷ past_of s events)
    more events what e h was g p = elim (cases_eq e.process p) [
      | inl is ↦ subst (λ q. Ending s (e ∷ past_of s events) q (doing s q (e ∷ past_of s events))) is (happens_ends s (past_of s events) e.process e (doing s e.process (past_of s events)) (doing s e.process (e ∷ past_of s events)) (accepted s g events what e h).happens)
      | inr ne ↦ subst (Ending s (e ∷ past_of s events) p) (sym (doing-other s p e (past_of s events) ne)) (λ flick n i how.
          ap (λ m. (m n.field n.bit n.reader).value) (wires-others s (past_of s events) e e.process n.owner (entry-by s g events what e h) (λ o. ne (sym o ∙ write_owner s p (doing s p (past_of s events)) flick n i how)))
          ∙ was g p flick n i how)
    ]

-- in every record: where the next access of a process, or of its unit, ends a write, its bit has the value that is being written to it
pub ends_what_began : (s : Setup) → IsGood s → (events : List Event) (p : ℕ) (flick : Bool) (n : Access) → next_of s p (doing s p (past_of s events)) flick ≡ Some n → n.how ≡ EndWrite →
    (cell_held s (past_of s events) n).value ≡ being_written s p (doing s p (past_of s events))
ends_what_began s g events p flick n i how = ap (λ (c : Cell). c.value) (held-is s (past_of s events) n) ∙ ends_all s events g p flick n i how
