-- An access that ends a read or a write follows the access that begins it; no such access follows an event other than an access.
use Rattle.std.proofs.Common.{◌≡◌, ◌≢◌, ℕ, ◌+◌, ◌*◌, ◌%◌, ◌==◌, ◌||◌, Bool, true, false, cond, if◌then◌else◌, List, [], ◌∷◌, refl, sym, ap, ◌∙◌, subst, arith, Some, None, eq-eqb}
use Rattle.std.specs.Prelude.{unwrap_or}
use Rattle.model.specs.safe_bit.{Move}
use Rattle.model.specs.safe_bit.declared.Move.TheVariants.{BeginWrite, EndWrite, BeginRead, EndRead, Settle}
use Rattle.model.specs.reader_copies.Runs as copies
use Rattle.model.specs.{Access, Call, Event, Field, Part, Place, Raises, Reading, Run, Writing, access_at, access_of, bit_written, bits_with, enter, is_last, is_over, next_written, part_after, place_after, run_after, write_moved, written_at}
use Rattle.model.specs.declared.access.Field.TheVariants.{Choosing, Ticket}
use Rattle.model.specs.safe_number.{NumberWrite, new_write}
use Rattle.plain_store.specs.{Command, Setup}
use Rattle.model.specs.declared.events.Event.TheVariants as event
use Rattle.model.specs.Closings.{Closing, Withdraws, Settles, Frees, Lowers, Quit, Ended, closing_after, freeing, is_last_settled, is_last_written, no_ticket}
use Rattle.laws.specs.{Closes, Doing, Lies, Rests, Runs, being_written, call, closes, cut_of, does_then, next_of, runs}
use Rattle.process.specs.{next_number}
use Rattle.board.specs.{IsUnended, MayHappen, OwnView, with_event}

-- the next access does not end a read or a write
abbrev pub Fresh : Setup → ℕ → Doing → Type 0
Fresh s p d = (fl : Bool) (x : Access) → next_of s p d fl ≡ Some x → (x.how ≡ EndWrite → ⊥) × ((v : Bool) → x.how ≡ EndRead v → ⊥)

-- if the next access ends a read or a write, this move began it
abbrev pub Follows : Setup → ℕ → Doing → Move → Type 0
Follows s p d how = (fl : Bool) (x : Access) → next_of s p d fl ≡ Some x → (x.how ≡ EndWrite → how ≡ BeginWrite (being_written s p d)) × ((v : Bool) → x.how ≡ EndRead v → how ≡ BeginRead)

fresh-follows : (s : Setup) (p : ℕ) (d : Doing) (how : Move) → Fresh s p d → Follows s p d how
fresh-follows s p d how h fl x i = let n = h fl x i in (λ e. absurd (n.0 e), λ v e. absurd (n.1 v e))

some_access : (x y : Access) → Some x ≡ Some y → x ≡ y
some_access x y h = cc

how-is : (x y : Access) (m : Move) → x ≡ y → y.how ≡ m → x.how ≡ m
how-is x y m h k = ap (λ (z : Access). z.how) h ∙ k

begins_only : (b v : Bool) → ((if b then BeginWrite v else EndWrite) ≡ EndWrite → b ≡ false) × ((u : Bool) → (if b then BeginWrite v else EndWrite) ≡ EndRead u → ⊥)
begins_only b v = grind arith

settles_only : (a b v : Bool) → ((if a then EndWrite else if b then Settle v else BeginWrite v) ≡ EndWrite → a ≡ true) × ((u : Bool) → (if a then EndWrite else if b then Settle v else BeginWrite v) ≡ EndRead u → ⊥)
settles_only a b v = grind arith

fresh_write : (p : ℕ) (f : Field) (bits : List Bool) (wide : ℕ) (x : Access) → access_of p f (next_written bits (new_write wide)) ≡ x → (x.how ≡ EndWrite → ⊥) × ((v : Bool) → x.how ≡ EndRead v → ⊥)
fresh_write p f bits wide x is = (
  (λ e. let h : (if 0 % 2 == 0 then BeginWrite (bit_written bits (new_write wide)).value else EndWrite) ≡ EndWrite = how-is _ x EndWrite is e in cc),
  λ v e. let h : (if 0 % 2 == 0 then BeginWrite (bit_written bits (new_write wide)).value else EndWrite) ≡ EndRead v = how-is _ x (EndRead v) is e in cc,
)

fresh_part : (s : Setup) (p : ℕ) (command : Command) (number : ℕ) (x : Part) → Fresh s p (runs command number (enter (call s p command number) x))
fresh_part s p command number x = grind arith

-- the accesses of a write
written : (p : ℕ) (f : Field) (bits : List Bool) (n : ℕ) (w : NumberWrite) (x : Access) → access_of p f (next_written bits (write_moved n bits w)) ≡ x →
    (x.how ≡ EndWrite → (access_of p f (next_written bits w)).how ≡ BeginWrite (bit_written bits (write_moved n bits w)).value) × ((v : Bool) → x.how ≡ EndRead v → (access_of p f (next_written bits w)).how ≡ BeginRead)
written p f bits n w x is = (ends, λ v e. absurd ((begins_only _ _).1 v (how-is _ x (EndRead v) is e)))
  where
    made : ℕ
    made = (bit_written bits w).made

    value : Bool
    value = (bit_written bits w).value

    to : Bool → NumberWrite
    to b = if b then record { width = w.width; bit = w.bit + 1; run = None } else record { width = w.width; bit = w.bit; run = Some (record { value = value; made = made + 1; ended = b }) }

    odd : (m : ℕ) → (m % 2 == 0) ≡ false → m % 2 ≢ 0
    odd m h z = let f : true ≡ false = sym (eq-eqb (m % 2) 0 z) ∙ h in cc

    go : (b : Bool) → (made + 1 == 2 * n) ≡ b → x.how ≡ EndWrite → (access_of p f (next_written bits w)).how ≡ BeginWrite (bit_written bits (to (made + 1 == 2 * n))).value
    go true k how = let h : (if 0 % 2 == 0 then BeginWrite (bit_written bits (to true)).value else EndWrite) ≡ EndWrite = how-is _ x EndWrite (ap (λ b. access_of p f (next_written bits (to b))) (sym k) ∙ is) how in cc
    go false k how =
        let h = how-is _ x EndWrite (ap (λ b. access_of p f (next_written bits (to b))) (sym k) ∙ is) how in
        let o : (made + 1) % 2 ≢ 0 = odd (made + 1) ((begins_only ((made + 1) % 2 == 0) value).0 h) in
        let even : made % 2 ≡ 0 = omega arith in
        ap (λ b. if b then BeginWrite value else EndWrite) (eq-eqb (made % 2) 0 even)
        ∙ ap (λ b. BeginWrite (bit_written bits (to b)).value) (sym k)

    ends : x.how ≡ EndWrite → (access_of p f (next_written bits w)).how ≡ BeginWrite (bit_written bits (to (made + 1 == 2 * n))).value
    ends how = go (made + 1 == 2 * n) refl how

place_follows : (s : Setup) (p : ℕ) (command : Command) (number : ℕ) (at : Place) (v : Bool) → is_over at.part ≡ false → Follows s p (runs command number (place_after (call s p command number) at v)) (access_at (call s p command number) at.part at.run).how
place_follows s p command number at v over = last (is_last c at.part at.run)
  where
    c : Call
    c = call s p command number

    stays : (part : Part) (run : Run) → is_over part ≡ false → Follows s p (runs command number (record { part = part; run = run_after c part run v })) (access_at c part run).how
    stays part (Writing w) over fl n =
        let to : Place = record { part = part; run = Writing (write_moved s.processes (written_at c part).1 w) } in
        let how : Move = (access_at c part (Writing w)).how in
        subst (λ b. next_of s p (cond b Rests (Runs command number to)) fl ≡ Some n → (n.how ≡ EndWrite → how ≡ BeginWrite (being_written s p (cond b Rests (Runs command number to)))) × ((v : Bool) → n.how ≡ EndRead v → how ≡ BeginRead)) (sym over)
        (λ next. written p (written_at c part).0 (written_at c part).1 s.processes w n (some_access _ n next))
    stays part (Reading bits true) over fl n =
        let to : Place = record { part = part; run = run_after c part (Reading bits true) v } in
        let how : Move = EndRead false in
        subst (λ b. next_of s p (cond b Rests (Runs command number to)) fl ≡ Some n → (n.how ≡ EndWrite → how ≡ BeginWrite (being_written s p (cond b Rests (Runs command number to)))) × ((v : Bool) → n.how ≡ EndRead v → how ≡ BeginRead)) (sym over)
        (λ next. ((λ e. let h : BeginRead ≡ EndWrite = how-is _ n EndWrite (some_access _ n next) e in cc), λ u e. let h : BeginRead ≡ EndRead u = how-is _ n (EndRead u) (some_access _ n next) e in cc))
    stays part (Reading bits false) over fl n =
        let to : Place = record { part = part; run = run_after c part (Reading bits false) v } in
        let how : Move = BeginRead in
        subst (λ b. next_of s p (cond b Rests (Runs command number to)) fl ≡ Some n → (n.how ≡ EndWrite → how ≡ BeginWrite (being_written s p (cond b Rests (Runs command number to)))) × ((v : Bool) → n.how ≡ EndRead v → how ≡ BeginRead)) (sym over)
        (λ next. ((λ e. let h : EndRead false ≡ EndWrite = how-is _ n EndWrite (some_access _ n next) e in cc), λ u e. refl))

    last : (b : Bool) → Follows s p (runs command number (cond b (enter c (part_after c at.part (bits_with at.run v))) (record { part = at.part; run = run_after c at.part at.run v }))) (access_at c at.part at.run).how
    last true = fresh-follows s p (runs command number (enter c (part_after c at.part (bits_with at.run v)))) (access_at c at.part at.run).how (fresh_part s p command number (part_after c at.part (bits_with at.run v)))
    last false = stays at.part at.run over

-- A closing after a failure or a withdrawal.

freeing_fresh : (s : Setup) (p : ℕ) (command : Command) (number : ℕ) (c : Call) (is : Bool) → c.setup.ticket_bits ≡ s.ticket_bits → Fresh s p (Closes command number (freeing c is))
freeing_fresh s p command number c is same fl x i = fresh_write p Ticket (no_ticket (call s p command number)) c.setup.ticket_bits x (some_access _ x i)

settle_follows : (p : ℕ) (f : Field) (k : ℕ) (t : copies.Settling) (v : Bool) (fl : Bool) (x : Access) → access_of p f (k, copies.next_settle (copies.settle_after t v) (copies.settled_at (copies.settle_after t v) fl)) ≡ x →
    (x.how ≡ EndWrite → (copies.next_settle t v).how ≡ BeginWrite (unwrap_or (copies.settle_after t v).value false)) × ((u : Bool) → x.how ≡ EndRead u → (copies.next_settle t v).how ≡ BeginRead)
settle_follows p f k t v fl x is = (ends, λ u e. absurd ((settles_only _ _ _).1 u (how-is _ x (EndRead u) is e)))
  where
    to : Bool → copies.Settling
    to b = if b then record { made = t.made; reader = t.reader + 1; begun = false; value = Some v } else record { made = t.made; reader = t.reader; begun = true; value = Some v }

    goes : (b o : Bool) → x.how ≡ EndWrite → (copies.next_settle (to (b || o)) (copies.settled_at (to (b || o)) fl)).how ≡ x.how → (if b then EndWrite else if o then Settle v else BeginWrite v) ≡ BeginWrite (unwrap_or (to (b || o)).value false)
    goes true o how h = let f : false ≡ true = (settles_only false (copies.is_open_at t.made (t.reader + 1)) v).0 (h ∙ how) in cc
    goes false true how h = let f : false ≡ true = (settles_only false (copies.is_open_at t.made (t.reader + 1)) v).0 (h ∙ how) in cc
    goes false false how h = refl

    ends : x.how ≡ EndWrite → (copies.next_settle t v).how ≡ BeginWrite (unwrap_or (to (t.begun || copies.is_open_at t.made t.reader)).value false)
    ends how = goes t.begun (copies.is_open_at t.made t.reader) how (ap (λ (y : Access). y.how) is)

closing_follows : (s : Setup) (p : ℕ) (command : Command) (number : ℕ) (at : Closing) (flick : Bool) (n : Access) → next_of s p (Closes command number at) flick ≡ Some n → Follows s p (closes command number (closing_after (call s p command number) at flick)) n.how
closing_follows s p command number at flick n next = go at next
  where
    c : Call
    c = call s p command number

    To : Closing → Type 0
    To at = Follows s p (closes command number at) n.how

    go : (at : Closing) → next_of s p (Closes command number at) flick ≡ Some n → To (closing_after c at flick)
    go (Withdraws w) i = by (is_last_written c (no_ticket c) w)
      where
        by : (b : Bool) → To (cond b Quit (Withdraws (write_moved s.processes (no_ticket c) w)))
        by true = λ fl x j. cc
        by false = λ fl x j. subst (λ how. (x.how ≡ EndWrite → how ≡ BeginWrite (bit_written (no_ticket c) (write_moved s.processes (no_ticket c) w)).value) × ((v : Bool) → x.how ≡ EndRead v → how ≡ BeginRead))
            (ap (λ (y : Access). y.how) (some_access _ n i)) (written p Ticket (no_ticket c) s.processes w x (some_access _ x j))
    go (Settles f k begun taken is t) i = by (is_last_settled c t (copies.settled_at t flick))
      where
        by : (b : Bool) → To (cond b (freeing c is) (Settles f k begun taken is (copies.settle_after t (copies.settled_at t flick))))
        by true = fresh-follows s p (Closes command number (freeing c is)) n.how (freeing_fresh s p command number c is refl)
        by false = λ fl x j. subst (λ how. (x.how ≡ EndWrite → how ≡ BeginWrite (unwrap_or (copies.settle_after t (copies.settled_at t flick)).value false)) × ((v : Bool) → x.how ≡ EndRead v → how ≡ BeginRead))
            (ap (λ (y : Access). y.how) (some_access _ n i)) (settle_follows p f k t (copies.settled_at t flick) fl x (some_access _ x j))
    go (Frees is w) i = by (is_last_written c (no_ticket c) w)
      where
        by : (b : Bool) → To (cond b (Lowers (new_write 1)) (Frees is (write_moved s.processes (no_ticket c) w)))
        by true = λ fl x j. let h = fresh_write p Choosing (false ∷ []) 1 x (some_access _ x j) in (λ e. absurd (h.0 e), λ v e. absurd (h.1 v e))
        by false = λ fl x j. subst (λ how. (x.how ≡ EndWrite → how ≡ BeginWrite (bit_written (no_ticket c) (write_moved s.processes (no_ticket c) w)).value) × ((v : Bool) → x.how ≡ EndRead v → how ≡ BeginRead))
            (ap (λ (y : Access). y.how) (some_access _ n i)) (written p Ticket (no_ticket c) s.processes w x (some_access _ x j))
    go (Lowers w) i = by (is_last_written c (false ∷ []) w)
      where
        by : (b : Bool) → To (cond b Ended (Lowers (write_moved s.processes (false ∷ []) w)))
        by true = λ fl x j. cc
        by false = λ fl x j. subst (λ how. (x.how ≡ EndWrite → how ≡ BeginWrite (bit_written (false ∷ []) (write_moved s.processes (false ∷ []) w)).value) × ((v : Bool) → x.how ≡ EndRead v → how ≡ BeginRead))
            (ap (λ (y : Access). y.how) (some_access _ n i)) (written p Choosing (false ∷ []) s.processes w x (some_access _ x j))
    go Quit i = cc
    go Ended i = cc

-- if the access after a step ends a read or a write, the step began it
pub step_follows : (s : Setup) (p : ℕ) (d : Doing) (flick value : Bool) (n : Access) → IsUnended d → next_of s p d flick ≡ Some n → Follows s p (does_then s p d flick value) n.how
step_follows s p Rests flick value n live next = cc
step_follows s p Lies flick value n live next = cc
step_follows s p (Runs command number at) flick value n live next =
    subst (Follows s p (runs command number (place_after (call s p command number) at value))) (ap (λ (y : Access). y.how) (some_access _ n next)) (place_follows s p command number at value live)
step_follows s p (Closes command number at) flick value n live next = closing_follows s p command number at flick n next

-- An event other than an access.

fails_fresh : (s : Setup) (p : ℕ) (command : Command) (number : ℕ) (d : Doing) → Fresh s p (Closes command number (cut_of s p d))
fails_fresh s p command number d = grind arith

-- after an event other than an access, the next access ends nothing
pub event_fresh : (s : Setup) (o : OwnView) (event : Event) → MayHappen s o event → Fresh s o.process (with_event s o event).doing
event_fresh s o (event.Call p c) may = fresh_part s o.process c (next_number s o.number) Raises
event_fresh s o (event.Step p flick) may = let f = may.marked in cc
event_fresh s o (event.Fail p) may = fails_fresh s o.process o.command o.number o.doing
event_fresh s o (event.Withdraw p) may = λ fl x i. fresh_write o.process Ticket (no_ticket (call s o.process o.command o.number)) s.ticket_bits x (some_access _ x i)
event_fresh s o (event.Restart p) may = λ fl x i. cc
