-- The unfinished write of a process, by its state: its memory unit begins with it where the process fails.
use Rattle.std.proofs.Common.{◌≡◌, ℕ, ◌+◌, ◌*◌, ◌%◌, ◌<◌, ◌==◌, Bool, true, false, cond, List, [], ◌∷◌, Option, Some, None, length, refl, sym, ap, subst, ◌∙◌, arith, true≢false, eqb-true}
use Rattle.std.specs.Prelude.{is_none}
use Rattle.model.specs.safe_bit.{Move, is_of_write}
use Rattle.model.specs.safe_bit.declared.Move.TheVariants.{BeginWrite, EndWrite, BeginRead, EndRead, Settle}
use Rattle.model.specs.reader_copies.Runs as copies
use Rattle.model.specs.{Access, Call, Entry, Field, Next, Part, Past, Place, Reading, Run, Writing, access_at, access_of, bit_written, bits_with, enter, inside, is_last, is_over, is_read, last_write, new_run, next_written, part_after, place_after, run_after, unfinished, width, write_moved, written_at}
use Rattle.model.specs.declared.access.Field.TheVariants.{Choosing, Ticket}
use Rattle.model.specs.safe_number.{NumberWrite, new_write, write_on}
use Rattle.plain_store.specs.{Command, Setup}
use Rattle.model.specs.Closings.{Closing, Withdraws, Settles, Frees, Lowers, Quit, Ended, no_ticket, is_last_written, is_last_settled, freeing, settling_from, closing_next, closing_after}
use Rattle.model.proofs.Closing.{ticket_width, further}
use Rattle.model.proofs.Cursors.{Goes}
use Rattle.model.proofs.PlaceTurns.{access_in}
use Rattle.model.proofs.Ties.{written-width}
use Rattle.model.proofs.Width.{IsGood, width-pos}
use Rattle.model.proofs.ClosingScripts.{new-goes}
use Rattle.model.proofs.Left.{ends-bit}
use Rattle.laws.specs.{Doing, Rests, Lies, Runs, Closes, call, runs, closes}

-- The last write, after an entry.

pub last-made : (e : Entry) (mine : Past) (x : Access) → e.access ≡ Some x → last_write (e ∷ mine) ≡ cond (is_of_write x.how) (Some x) (last_write mine)
last-made e mine x h =
    ap (λ o. elim o as (λ _. Option Access) [
      | None ↦ last_write mine
      | Some a ↦ elim a.how as (λ _. Option Access) [ BeginWrite v ↦ Some a | EndWrite ↦ Some a | Settle v ↦ Some a | BeginRead ↦ last_write mine | EndRead v ↦ last_write mine ]
    ]) h
    ∙ go x.how
  where
    go : (m : Move) → elim m as (λ _. Option Access) [ BeginWrite v ↦ Some x | EndWrite ↦ Some x | Settle v ↦ Some x | BeginRead ↦ last_write mine | EndRead v ↦ last_write mine ] ≡ cond (is_of_write m) (Some x) (last_write mine)
    go (BeginWrite v) = refl
    go _ = refl

-- The unfinished access of a write.

-- the unfinished access of a process
abbrev pub remaining : Setup → Past → Option Access
remaining s mine = unfinished s.processes (last_write mine)

-- a write of a field has no unfinished access, or one of its present bit
pub data LeftBy (torn : Option Access) (f : Field) (w : NumberWrite) : Type 0 where
  nothing : torn ≡ None → LeftBy torn f w
  one_bit : (a : Access) → torn ≡ Some a → a.field ≡ f → is_none w.run ≡ false → LeftBy torn f w

-- a write that continues, and has made an access of its present bit once it has begun it
pub record WriteOn (n : ℕ) (bits : List Bool) (w : NumberWrite) : Type 0 where
  pub goes : Goes n bits w
  pub begun : (r : copies.Writing) → w.run ≡ Some r → 0 < r.made

pub new-on : (n : ℕ) (bits : List Bool) (w : ℕ) → 0 < n → 0 < w → w ≡ length bits → WriteOn n bits (new_write w)
new-on n bits w some wide same = record { goes = new-goes n bits w some wide same; begun = λ r h. cc }

-- the access of a write
abbrev pub written : ℕ → Field → List Bool → NumberWrite → Access
written p f bits w = access_of p f (next_written bits w)

pub written-writes : (p : ℕ) (f : Field) (bits : List Bool) (w : NumberWrite) → is_of_write (written p f bits w).how ≡ true
written-writes p f bits w = go ((bit_written bits w).made % 2 == 0)
  where
    go : (b : Bool) → is_of_write (cond b (BeginWrite (bit_written bits w).value) EndWrite) ≡ true
    go true = refl
    go false = refl

-- the unfinished access, by whether it is the last one on its bit
remaining-written : (n p : ℕ) (f : Field) (bits : List Bool) (w : NumberWrite) → unfinished n (Some (written p f bits w)) ≡ cond ((bit_written bits w).made + 1 == 2 * n) None (Some (written p f bits w))
remaining-written n p f bits w = ap (λ b. cond b None (Some (written p f bits w))) (ends-bit n (bit_written bits w).made (bit_written bits w).value)

-- the write after an access, by whether it was the last one on its bit
abbrev on_with : List Bool → NumberWrite → Bool → NumberWrite
on_with bits w b = write_on w (let r : copies.Writing = record { value = (bit_written bits w).value; made = (bit_written bits w).made + 1; ended = b } in r)

moved-begun : (n : ℕ) (bits : List Bool) (w : NumberWrite) (r : copies.Writing) → (write_moved n bits w).run ≡ Some r → 0 < r.made
moved-begun n bits w r = go ((bit_written bits w).made + 1 == 2 * n)
  where
    run : Bool → copies.Writing
    run b = record { value = (bit_written bits w).value; made = (bit_written bits w).made + 1; ended = b }

    go : (b : Bool) → (on_with bits w b).run ≡ Some r → 0 < r.made
    go true h = cc
    go false h =
        let one : 0 < (bit_written bits w).made + 1 = omega arith in
        subst (λ (q : copies.Writing). 0 < q.made) (same h) one
      where
        same : Some (run false) ≡ Some r → run false ≡ r
        same h = cc

pub moved-on : (n : ℕ) (bits : List Bool) (w : NumberWrite) → 0 < n → WriteOn n bits w → ((write_moved n bits w).bit == w.width) ≡ false → WriteOn n bits (write_moved n bits w)
moved-on n bits w some on last = record { goes = (further n bits w some on.goes).goes last; begun = moved-begun n bits w }

pub remaining-moved : (n p : ℕ) (f : Field) (bits : List Bool) (w : NumberWrite) (torn : Option Access) → torn ≡ unfinished n (Some (written p f bits w)) → LeftBy torn f (write_moved n bits w)
remaining-moved n p f bits w torn h = go ((bit_written bits w).made + 1 == 2 * n) (h ∙ remaining-written n p f bits w)
  where
    go : (b : Bool) → torn ≡ cond b None (Some (written p f bits w)) → LeftBy torn f (on_with bits w b)
    go true k = nothing k
    go false k = one_bit (written p f bits w) k refl refl

pub remaining-done : (n p : ℕ) (f : Field) (bits : List Bool) (w : NumberWrite) (torn : Option Access) → torn ≡ unfinished n (Some (written p f bits w)) → w.bit < w.width →
    ((write_moved n bits w).bit == w.width) ≡ true → torn ≡ None
remaining-done n p f bits w torn h inside = go ((bit_written bits w).made + 1 == 2 * n) (h ∙ remaining-written n p f bits w)
  where
    go : (b : Bool) → torn ≡ cond b None (Some (written p f bits w)) → ((on_with bits w b).bit == w.width) ≡ true → torn ≡ None
    go true k l = k
    go false k l = let all : w.bit ≡ w.width = eqb-true w.bit w.width l in absurd (omega (arith, inside, all))

-- The unfinished access of a state.

abbrev pub LeftRun : Call → Option Access → Part → Run → Type 0
LeftRun c torn x (Writing w) = (is_read x ≡ false) × WriteOn c.setup.processes (written_at c x).1 w × LeftBy torn (written_at c x).0 w
LeftRun c torn x (Reading bits begun) = (is_read x ≡ true) × (torn ≡ None)

abbrev pub LeftClosing : Call → Option Access → Closing → Type 0
LeftClosing c torn (Withdraws w) = WriteOn c.setup.processes (no_ticket c) w × LeftBy torn Ticket w
LeftClosing c torn (Settles f bit begun taken is t) = Unit {0}
LeftClosing c torn (Frees is w) = WriteOn c.setup.processes (no_ticket c) w
LeftClosing c torn (Lowers w) = WriteOn c.setup.processes (false ∷ []) w
LeftClosing c torn Quit = Unit {0}
LeftClosing c torn Ended = Unit {0}

-- the unfinished access in this state
abbrev pub LeftIn : Setup → ℕ → Option Access → Doing → Type 0
LeftIn s p torn Rests = torn ≡ None
LeftIn s p torn Lies = torn ≡ None
LeftIn s p torn (Runs command number at) = LeftRun (call s p command number) torn at.part at.run
LeftIn s p torn (Closes command number at) = LeftClosing (call s p command number) torn at

pub enter-remaining : (c : Call) → IsGood c.setup → (torn : Option Access) (x : Part) → is_over x ≡ false → torn ≡ None → LeftRun c torn x (new_run c x)
enter-remaining c g torn x o h = go (is_read x) refl
  where
    go : (b : Bool) → is_read x ≡ b → LeftRun c torn x (cond b (Reading [] false) (Writing (new_write (width c.setup (written_at c x).0))))
    go true r = (r, h)
    go false r = (r, new-on c.setup.processes (written_at c x).1 (width c.setup (written_at c x).0) (omega (arith, g.processes_is)) (width-pos c.setup g (written_at c x).0) (written-width c x r o), nothing h)

pub new-ticket : (c : Call) → IsGood c.setup → WriteOn c.setup.processes (no_ticket c) (new_write c.setup.ticket_bits)
new-ticket c g = new-on c.setup.processes (no_ticket c) c.setup.ticket_bits (omega (arith, g.processes_is)) (omega (arith, g.ticket_is)) (ticket_width c)

pub unit-remaining : (c : Call) → IsGood c.setup → (mine : Past) (torn now : Option Access) → LeftClosing c now (settling_from c mine torn)
unit-remaining c g mine None now = new-ticket c g
unit-remaining c g mine (Some a) now = tt

-- at a place that the process reaches
place-remaining : (s : Setup) (p : ℕ) (torn : Option Access) (command : Command) (number : ℕ) (to : Place) → (is_over to.part ≡ true → torn ≡ None) → (is_over to.part ≡ false → LeftRun (call s p command number) torn to.part to.run) →
    LeftIn s p torn (runs command number to)
place-remaining s p torn command number to over on = go (is_over to.part) refl
  where
    go : (b : Bool) → is_over to.part ≡ b → LeftIn s p torn (cond b Rests (Runs command number to))
    go true o = over o
    go false o = on o

-- after an access at a place
pub step-remaining : (s : Setup) → IsGood s → (p : ℕ) (was torn : Option Access) (command : Command) (number : ℕ) (x : Part) (run : Run) (v : Bool)
    → let c : Call = call s p command number in
    is_over x ≡ false → LeftRun c was x run → (is_of_write (access_at c x run).how ≡ true → torn ≡ unfinished s.processes (Some (access_at c x run))) → (is_of_write (access_at c x run).how ≡ false → torn ≡ was) →
    LeftIn s p torn (runs command number (place_after c (record { part = x; run = run }) v))
step-remaining s g p was torn command number x (Writing w) v o l writes reads = go (is_last c x (Writing w)) refl
  where
    c : Call
    c = call s p command number

    f : Field
    f = (written_at c x).0

    bits : List Bool
    bits = (written_at c x).1

    now : torn ≡ unfinished s.processes (Some (written p f bits w))
    now = writes (written-writes p f bits w)

    go : (b : Bool) → is_last c x (Writing w) ≡ b → LeftIn s p torn (runs command number (cond b (enter c (part_after c x [])) (record { part = x; run = Writing (write_moved s.processes bits w) })))
    go true last =
        let none : torn ≡ None = remaining-done s.processes p f bits w torn now l.1.goes.inside last in
        place-remaining s p torn command number (enter c (part_after c x [])) (λ _. none) (λ o. enter-remaining c g torn (part_after c x []) o none)
    go false last = place-remaining s p torn command number (record { part = x; run = Writing (write_moved s.processes bits w) }) (λ q. absurd (true≢false (sym q ∙ o)))
        (λ _. (l.0, moved-on s.processes bits w (omega (arith, g.processes_is)) l.1 last, remaining-moved s.processes p f bits w torn now))
step-remaining s g p was torn command number x (Reading bits begun) v o l writes reads = go (is_last c x (Reading bits begun))
  where
    c : Call
    c = call s p command number

    read : (b : Bool) → is_of_write (cond b (EndRead false) BeginRead) ≡ false
    read true = refl
    read false = refl

    none : torn ≡ None
    none = reads (read begun) ∙ l.1

    go : (b : Bool) → LeftIn s p torn (runs command number (cond b (enter c (part_after c x (bits_with (Reading bits begun) v))) (record { part = x; run = run_after c x (Reading bits begun) v })))
    go true = place-remaining s p torn command number (enter c (part_after c x (bits_with (Reading bits begun) v))) (λ _. none) (λ o. enter-remaining c g torn (part_after c x (bits_with (Reading bits begun) v)) o none)
    go false = place-remaining s p torn command number (record { part = x; run = run_after c x (Reading bits begun) v }) (λ q. absurd (true≢false (sym q ∙ o))) (λ _. (l.0, none))

-- after an access of a closing
pub closing-remaining : (s : Setup) → IsGood s → (p : ℕ) (was torn : Option Access) (command : Command) (number : ℕ) (at : Closing) (flick : Bool) (n : Next)
    → let c : Call = call s p command number in
    LeftClosing c was at → closing_next c at flick ≡ Some n → (is_of_write n.access.how ≡ true → torn ≡ unfinished s.processes (Some n.access)) → LeftIn s p torn (closes command number (closing_after c at flick))
closing-remaining s g p was torn command number (Withdraws w) flick n l h writes = go (is_last_written c (no_ticket c) w) refl
  where
    c : Call
    c = call s p command number

    is : n.access ≡ written p Ticket (no_ticket c) w
    is = ap access_in (sym h)

    now : torn ≡ unfinished s.processes (Some (written p Ticket (no_ticket c) w))
    now = writes (ap (λ (a : Access). is_of_write a.how) is ∙ written-writes p Ticket (no_ticket c) w) ∙ ap (λ a. unfinished s.processes (Some a)) is

    go : (b : Bool) → is_last_written c (no_ticket c) w ≡ b → LeftIn s p torn (closes command number (cond b Quit (Withdraws (write_moved s.processes (no_ticket c) w))))
    go true last = remaining-done s.processes p Ticket (no_ticket c) w torn now l.0.goes.inside last
    go false last = (moved-on s.processes (no_ticket c) w (omega (arith, g.processes_is)) l.0 last, remaining-moved s.processes p Ticket (no_ticket c) w torn now)
closing-remaining s g p was torn command number (Settles f bit begun taken is t) flick n l h writes = go (is_last_settled c t (copies.settled_at t flick))
  where
    c : Call
    c = call s p command number

    go : (b : Bool) → LeftIn s p torn (closes command number (cond b (freeing c is) (Settles f bit begun taken is (copies.settle_after t (copies.settled_at t flick)))))
    go true = new-ticket c g
    go false = tt
closing-remaining s g p was torn command number (Frees is w) flick n l h writes = go (is_last_written c (no_ticket c) w) refl
  where
    c : Call
    c = call s p command number

    go : (b : Bool) → is_last_written c (no_ticket c) w ≡ b → LeftIn s p torn (closes command number (cond b (Lowers (new_write 1)) (Frees is (write_moved s.processes (no_ticket c) w))))
    go true last = new-on s.processes (false ∷ []) 1 (omega (arith, g.processes_is)) (omega arith) refl
    go false last = moved-on s.processes (no_ticket c) w (omega (arith, g.processes_is)) l last
closing-remaining s g p was torn command number (Lowers w) flick n l h writes = go (is_last_written c (false ∷ []) w) refl
  where
    c : Call
    c = call s p command number

    is : n.access ≡ written p Choosing (false ∷ []) w
    is = ap access_in (sym h)

    now : torn ≡ unfinished s.processes (Some (written p Choosing (false ∷ []) w))
    now = writes (ap (λ (a : Access). is_of_write a.how) is ∙ written-writes p Choosing (false ∷ []) w) ∙ ap (λ a. unfinished s.processes (Some a)) is

    go : (b : Bool) → is_last_written c (false ∷ []) w ≡ b → LeftIn s p torn (closes command number (cond b Ended (Lowers (write_moved s.processes (false ∷ []) w))))
    go true last = remaining-done s.processes p Choosing (false ∷ []) w torn now l.goes.inside last
    go false last = moved-on s.processes (false ∷ []) w (omega (arith, g.processes_is)) l last
closing-remaining s g p was torn command number Quit flick n l h writes = cc
closing-remaining s g p was torn command number Ended flick n l h writes = cc
