-- The stage of a process, and whether it is inside, are read off what it is doing.
use Rattle.std.proofs.Common.{◌≡◌, ℕ, ◌+◌, ◌*◌, ◌==◌, ◌&&◌, Bool, true, false, cond, List, [], ◌∷◌, ◌++◌, Option, Some, None, length, map, refl, sym, ap, subst, ◌∙◌, arith, true≢false, eqb-true, eq-eqb, ne_eqb}
use Rattle.std.proofs.lemmas.List.{length_push}
use Rattle.std.specs.Prelude.{fold, not}
use Rattle.model.specs.reader_copies.Runs as copies
use Rattle.model.specs.{Access, Asks, AsksCommit, AsksImage, AsksStamp, Call, Clears, Entry, Event, Mark, Next, Over, Part, Past, Place, Raises, Reading, Refuses, Run, TakesTicket, Version, Wait, Waits, WritesCommit, WritesImage, WritesStamp, Writing, bit_written, bits_with, enter, entered_if_none, entry_of, first_full, first_marks, greatest, history, inside, inside_after, is_fresh, is_last, is_over, is_read, last_marks, last_write, lets_by, marks_of, max_of, new_run, newest_stamp, others, own, part_after, past-induction, past_of, place_after, placed, processes, reply, run_after, stage, store_read, to_b, to_d, to_e, to_g, unfinished, value_of, waits_of, width, write_moved, written_at}
use Rattle.model.specs.safe_number.{NumberWrite, new_write, write_on}
use Rattle.plain_store.specs.declared.Answer.TheVariants as answer
use Rattle.plain_store.specs.{Command, Contents, Reply, Setup, changes}
use Rattle.model.specs.declared.marks.Mark.TheVariants.{Taken, Left, Answered, Settled, Down}
use Rattle.model.specs.Closings.{Closing, Withdraws, Settles, Frees, Lowers, Quit, Ended, no_ticket, is_unwritten, is_last_written, is_last_settled, freeing, settling_from, failing, closing_next, closing_after, settled_marks}
use Rattle.model.specs.Parts as part
use Rattle.model.proofs.ClosingAccesses.{withdrawn_corresponds, unit_corresponds}
use Rattle.model.proofs.NextAccesses.{running_corresponds}
use Rattle.model.proofs.Turns.{and_false, and_true}
use Rattle.model.proofs.Width.{IsGood}
use Rattle.model.proofs.CutRecords.{inside-own}
use Rattle.laws.specs.{Doing, Rests, Runs, call, runs, closes, doing, is_inside, is_inside_at, is_inside_closing}
use Rattle.laws.proofs.Doings.{stage_of}
use Rattle.laws.proofs.Frame.{Does, at_rest, lying, running, leaving, settling, Happens, a_call, a_withdrawal, a_failure, a_restart, a_step, a_closing, doing-other}
use Rattle.laws.proofs.FrameEvents.{does_all, Accepted, accepted}

-- the stage is that of what is done
pub stage-is : (s : Setup) → IsGood s → (events : List Event) (p : ℕ) → stage p (past_of s events) ≡ stage_of (doing s p (past_of s events))
stage-is s g events p = go (does_all s g events p)
  where
    past : Past
    past = past_of s events

    go : Does s p (own p past) (stage p past) (doing s p past) → stage p past ≡ stage_of (doing s p past)
    go (at_rest i d) = i ∙ ap stage_of (sym d)
    go (lying i d) = i ∙ ap stage_of (sym d)
    go (running command b r d) = (running_corresponds s g events p command b r).1 ∙ ap stage_of (sym d)
    go (leaving b i d) = i ∙ sym (withdrawn_corresponds s g events p b i).0 ∙ ap stage_of (sym d)
    go (settling b i d) = i ∙ sym (unit_corresponds s g events p b i).0 ∙ ap stage_of (sym d)

-- Marks lead to whether it is inside.

-- the place in a mark `Taken` does not matter
inside-placed : (k : ℕ) (b : Bool) (ms : List Mark) → fold inside_after b (map (placed k) ms) ≡ fold inside_after b ms
inside-placed k b [] = refl
inside-placed k b (Taken i r ∷ ms) = inside-placed k b ms
inside-placed k b (m ∷ ms) = inside-placed k (inside_after b m) ms

inside-to_e : (ks : List ℕ) (vs : List Version) → is_inside_at (to_e ks vs) true ≡ true
inside-to_e [] vs = refl
inside-to_e (k ∷ ks) vs = refl

inside-to_d : (c : Call) (t : ℕ) (ws : List Wait) → fold inside_after false (entered_if_none ws) ≡ is_inside_at (to_d c t ws) true
inside-to_d c t [] = sym (inside-to_e (processes c.setup) [])
inside-to_d c t (w ∷ ws) = refl

inside-to_b : (c : Call) (js ts : List ℕ) → false ≡ is_inside_at (to_b c js ts) true
inside-to_b c (j ∷ js) ts = refl
inside-to_b c [] ts = go (greatest ts == max_of c.setup.ticket_bits)
  where
    go : (b : Bool) → false ≡ is_inside_at (elim b [ true ↦ Refuses (first_full c ts) | false ↦ TakesTicket (greatest ts + 1) ]) true
    go true = refl
    go false = refl

inside-to_g : (c : Call) (vs : List Version) (st : Contents) → true ≡ is_inside_at (to_g c vs st) true
inside-to_g c vs st = go (changes st c.command) (newest_stamp vs == max_of c.setup.stamp_bits)
  where
    go : (b d : Bool) → true ≡ is_inside_at (elim b [ false ↦ Clears (answer.Reply (reply c st)) | true ↦ elim d [ true ↦ Clears answer.StampsFull | false ↦ WritesImage vs st ] ]) true
    go false d = refl
    go true true = refl
    go true false = refl

-- the marks on the last access of a part
inside-last : (c : Call) (x : Part) (v : List Bool) → fold inside_after (is_inside_at x false) (last_marks c x v) ≡ is_inside_at (part_after c x v) true
inside-last c Raises v = inside-to_b c (others c.setup c.process) []
inside-last c (Asks j js ts) v = inside-to_b c js _
inside-last c (TakesTicket t) v = refl
inside-last c (part.Lowers t) v = inside-to_d c t (waits_of c)
inside-last c (Refuses q) v = refl
inside-last c (Waits t w ws) v = go (lets_by c t w v)
  where
    go : (b : Bool) → fold inside_after false (cond b (entered_if_none ws) []) ≡ is_inside_at (to_d c t (cond b ws (w ∷ ws))) true
    go true = inside-to_d c t ws
    go false = refl
inside-last c (AsksCommit k ks vs) v = refl
inside-last c (AsksStamp k ks vs b) v = sym (inside-to_e ks _)
inside-last c (AsksImage vs) v = go (changes (store_read c v) c.command) ∙ inside-to_g c vs (store_read c v)
  where
    go : (b : Bool) → fold inside_after true (cond b [] (Taken 0 (reply c (store_read c v)) ∷ [])) ≡ true
    go true = refl
    go false = refl
inside-last c _ v = refl

plain_first : (was then : Bool) (last : List Mark) (b1 b2 : Bool) → fold inside_after was last ≡ then → fold inside_after was (cond b1 [] [] ++ cond b2 last []) ≡ cond b2 then was
plain_first was then last true true h = h
plain_first was then last true false h = refl
plain_first was then last false true h = h
plain_first was then last false false h = refl

-- all the marks of an access of a part
inside-marks : (c : Call) (x : Part) (v : List Bool) (b1 b2 : Bool) →
    fold inside_after (is_inside_at x b1) (cond b1 (first_marks x) [] ++ cond b2 (last_marks c x v) []) ≡ cond b2 (is_inside_at (part_after c x v) true) (is_inside_at x false)
inside-marks c Raises v b1 b2 = plain_first _ _ _ b1 b2 (inside-last c Raises v)
inside-marks c (Asks j js ts) v b1 b2 = plain_first _ _ _ b1 b2 (inside-last c (Asks j js ts) v)
inside-marks c (TakesTicket t) v b1 b2 = plain_first _ _ _ b1 b2 (inside-last c (TakesTicket t) v)
inside-marks c (part.Lowers t) v b1 b2 = plain_first _ _ _ b1 b2 (inside-last c (part.Lowers t) v)
inside-marks c (Refuses q) v b1 b2 = plain_first _ _ _ b1 b2 (inside-last c (Refuses q) v)
inside-marks c (Waits t w ws) v b1 b2 = plain_first _ _ _ b1 b2 (inside-last c (Waits t w ws) v)
inside-marks c (AsksCommit k ks vs) v b1 b2 = plain_first _ _ _ b1 b2 (inside-last c (AsksCommit k ks vs) v)
inside-marks c (AsksStamp k ks vs b) v b1 b2 = plain_first _ _ _ b1 b2 (inside-last c (AsksStamp k ks vs b) v)
inside-marks c (AsksImage vs) v b1 b2 = plain_first _ _ _ b1 b2 (inside-last c (AsksImage vs) v)
inside-marks c (WritesImage vs st) v b1 b2 = plain_first _ _ _ b1 b2 (inside-last c (WritesImage vs st) v)
inside-marks c (WritesStamp vs st) v b1 b2 = plain_first _ _ _ b1 b2 (inside-last c (WritesStamp vs st) v)
inside-marks c (WritesCommit vs st) v b1 b2 = plain_first _ _ _ b1 b2 (inside-last c (WritesCommit vs st) v)
inside-marks c (Clears a) v true true = refl
inside-marks c (Clears a) v true false = refl
inside-marks c (Clears a) v false true = refl
inside-marks c (Clears a) v false false = refl
inside-marks c Over v b1 b2 = plain_first _ _ _ b1 b2 refl

-- The progress of a number access: a new one has no access, and any other has one.

pub enter-fresh : (c : Call) (x : Part) → is_fresh (new_run c x) ≡ true
enter-fresh c x = go (is_read x)
  where
    go : (b : Bool) → is_fresh (cond b (Reading [] false) (Writing (new_write (width c.setup (written_at c x).0)))) ≡ true
    go true = refl
    go false = refl

pub moved-unfresh : (n : ℕ) (bits : List Bool) (w : NumberWrite) → is_unwritten (write_moved n bits w) ≡ false
moved-unfresh n bits w = go ((bit_written bits w).made + 1 == 2 * n)
  where
    go : (b : Bool) → is_unwritten (write_on w (let r : copies.Writing = record { value = (bit_written bits w).value; made = (bit_written bits w).made + 1; ended = b } in r)) ≡ false
    go true = ap (λ b. b && true) (ne_eqb (w.bit + 1) 0 (λ u. omega (arith, u)))
    go false = and_false (w.bit == 0)

pub run-unfresh : (c : Call) (x : Part) (run : Run) (v : Bool) → is_fresh (run_after c x run v) ≡ false
run-unfresh c x (Writing w) v = moved-unfresh c.setup.processes (written_at c x).1 w
run-unfresh c x (Reading bits true) v = ne_eqb (length (bits ++ v ∷ [])) 0 (λ u. omega (arith, u, length_push bits v))
run-unfresh c x (Reading bits false) v = refl

over-outside : (x : Part) (fresh : Bool) → is_over x ≡ true → is_inside_at x fresh ≡ false
over-outside Over fresh h = refl
over-outside _ fresh h = cc

-- a place that is inside is inside as a state
pub inside-runs : (command : Command) (number : ℕ) (at : Place) → is_inside (runs command number at) ≡ is_inside_at at.part (is_fresh at.run)
inside-runs command number at = go (is_over at.part) refl
  where
    go : (b : Bool) → is_over at.part ≡ b → is_inside (cond b Rests (Runs command number at)) ≡ is_inside_at at.part (is_fresh at.run)
    go true h = sym (over-outside at.part (is_fresh at.run) h)
    go false h = refl

inside-place : (c : Call) (at : Place) (v : Bool) → fold inside_after (is_inside_at at.part (is_fresh at.run)) (marks_of c at v) ≡ is_inside_at (place_after c at v).part (is_fresh (place_after c at v).run)
inside-place c at v = inside-marks c at.part (bits_with at.run v) (is_fresh at.run) (is_last c at.part at.run) ∙ go (is_last c at.part at.run)
  where
    next : Part
    next = part_after c at.part (bits_with at.run v)

    to : Bool → Place
    to b = cond b (enter c next) (record { part = at.part; run = run_after c at.part at.run v })

    go : (b : Bool) → cond b (is_inside_at next true) (is_inside_at at.part false) ≡ is_inside_at (to b).part (is_fresh (to b).run)
    go true = ap (is_inside_at next) (sym (enter-fresh c next))
    go false = ap (is_inside_at at.part) (sym (run-unfresh c at.part at.run v))

inside-closes : (command : Command) (number : ℕ) (at : Closing) → is_inside (closes command number at) ≡ is_inside_closing at
inside-closes command number (Withdraws w) = refl
inside-closes command number _ = refl

abbrev marks_in : Option Next → List Mark
marks_in None = []
marks_in (Some n) = n.marks

settled-inside : (is begun v : Bool) (taken : Option Reply) (b : Bool) → fold inside_after is (cond b (settled_marks begun taken v) []) ≡ is
settled-inside is begun v None true = refl
settled-inside is begun v (Some r) true = it (cond v begun (not begun))
  where
    it : (d : Bool) → fold inside_after is (Settled v ∷ cond d (Taken 0 r ∷ []) []) ≡ is
    it true = refl
    it false = refl
settled-inside is begun v taken false = refl

inside-closing : (c : Call) (at : Closing) (flick : Bool) (n : Next) → closing_next c at flick ≡ Some n → fold inside_after (is_inside_closing at) n.marks ≡ is_inside_closing (closing_after c at flick)
inside-closing c at flick n h = subst (λ o. fold inside_after (is_inside_closing at) (marks_in o) ≡ is_inside_closing (closing_after c at flick)) h (go at)
  where
    go : (at : Closing) → fold inside_after (is_inside_closing at) (marks_in (closing_next c at flick)) ≡ is_inside_closing (closing_after c at flick)
    go (Withdraws w) = it (is_last_written c (no_ticket c) w)
      where
        it : (b : Bool) → fold inside_after false (cond b (Answered answer.Withdrawn ∷ []) []) ≡ is_inside_closing (cond b Quit (Withdraws (write_moved c.setup.processes (no_ticket c) w)))
        it true = refl
        it false = refl
    go (Settles field bit begun taken is t) =
        settled-inside is begun (copies.settled_at t flick) taken (is_last_settled c t (copies.settled_at t flick))
        ∙ it is (is_last_settled c t (copies.settled_at t flick))
      where
        it : (is b : Bool) → is ≡ is_inside_closing (cond b (freeing c is) (Settles field bit begun taken is (copies.settle_after t (copies.settled_at t flick))))
        it true true = refl
        it false true = refl
        it is false = refl
    go (Frees is w) = it is (is_unwritten w) (is_last_written c (no_ticket c) w) ∙ sym (then is (is_last_written c (no_ticket c) w))
      where
        it : (is u b : Bool) → fold inside_after (is && u) (cond (is && u) (Left ∷ []) []) ≡ false
        it true true b = refl
        it true false b = refl
        it false u b = refl

        then : (is b : Bool) → is_inside_closing (cond b (Lowers (new_write 1)) (Frees is (write_moved c.setup.processes (no_ticket c) w))) ≡ false
        then is true = refl
        then true false = moved-unfresh c.setup.processes (no_ticket c) w
        then false false = refl
    go (Lowers w) = it (is_last_written c (false ∷ []) w)
      where
        it : (b : Bool) → fold inside_after false (cond b (Down ∷ []) []) ≡ is_inside_closing (cond b Ended (Lowers (write_moved c.setup.processes (false ∷ []) w)))
        it true = refl
        it false = refl
    go Quit = refl
    go Ended = refl

-- a unit begins where its process was
failing-inside : (c : Call) (mine : Past) → is_inside_closing (failing c mine) ≡ inside c.process mine
failing-inside c mine = go (unfinished c.setup.processes (last_write mine))
  where
    go : (torn : Option Access) → is_inside_closing (settling_from c mine torn) ≡ inside c.process mine
    go None = and_true (inside c.process mine)
    go (Some a) = refl

-- the change by an accepted event
pub inside-happens : (s : Setup) (past : Past) (p : ℕ) (e : Entry) (d d' : Doing) → Happens s past p e d d' → inside p past ≡ is_inside d → fold inside_after (is_inside d) e.marks ≡ is_inside d'
inside-happens s past p e d d' (a_call command number was none marks then) i =
    ap (fold inside_after (is_inside d)) marks ∙ ap is_inside was ∙ sym (ap is_inside then)
inside-happens s past p e d d' (a_withdrawal command number t w ws run was none marks then) i =
    ap (fold inside_after (is_inside d)) marks ∙ ap is_inside was ∙ sym (ap is_inside then)
inside-happens s past p e d d' (a_failure command number may none marks then) i =
    ap (fold inside_after (is_inside d)) marks ∙ sym i ∙ sym (inside-own p past) ∙ sym (failing-inside (call s p command number) (own p past)) ∙ sym (ap is_inside then)
inside-happens s past p e d d' (a_restart was none marks then) i =
    ap (fold inside_after (is_inside d)) marks ∙ ap is_inside was ∙ sym (ap is_inside then)
inside-happens s past p e d d' (a_step command number at a flick was over access is marks then) i =
    ap (fold inside_after (is_inside d)) marks ∙ inside-placed (length (history s past)) (is_inside d) (marks_of (call s p command number) at (value_of a.how)) ∙ ap (λ d. fold inside_after (is_inside d) (marks_of (call s p command number) at (value_of a.how))) was
    ∙ inside-place (call s p command number) at (value_of a.how) ∙ sym (inside-runs command number (place_after (call s p command number) at (value_of a.how))) ∙ sym (ap is_inside then)
inside-happens s past p e d d' (a_closing command number at flick n was next access same marks then) i =
    ap (fold inside_after (is_inside d)) marks ∙ inside-placed (length (history s past)) (is_inside d) n.marks ∙ ap (λ d. fold inside_after (is_inside d) n.marks) was
    ∙ inside-closing (call s p command number) at flick n next ∙ sym (inside-closes command number (closing_after (call s p command number) at flick)) ∙ sym (ap is_inside then)

abbrev IsInsideAll : Setup → Past → Type 0
IsInsideAll s past = IsGood s → (p : ℕ) → inside p past ≡ is_inside (doing s p past)

-- whether a process is inside follows from its state
pub inside-is : (s : Setup) → IsGood s → (events : List Event) (p : ℕ) → inside p (past_of s events) ≡ is_inside (doing s p (past_of s events))
inside-is s g events p = past-induction IsInsideAll s (λ g p. refl) more events g p
  where
    more : (events : List Event) (what : Event) (e : Entry) → entry_of s (past_of s events) what ≡ Some e → IsInsideAll s (past_of s events) → IsInsideAll s (e ∷ past_of s events)
    more events what e h ih g p = go (e.process == p) refl
      where
        past : Past
        past = past_of s events

        acc : Accepted s past what e
        acc = accepted s g events what e h

        go : (b : Bool) → (e.process == p) ≡ b → inside p (e ∷ past) ≡ is_inside (doing s p (e ∷ past))
        go true i = subst (λ q. inside q (e ∷ past) ≡ is_inside (doing s q (e ∷ past))) (eqb-true e.process p i)
            (ap (λ b. cond b (fold inside_after (inside e.process past) e.marks) (inside e.process past)) (eq-eqb e.process e.process refl)
            ∙ ap (λ b. fold inside_after b e.marks) (ih g e.process)
            ∙ inside-happens s past e.process e (doing s e.process past) (doing s e.process (e ∷ past)) acc.happens (ih g e.process))
        go false i = ap (λ b. cond b (fold inside_after (inside p past) e.marks) (inside p past)) i ∙ ih g p
            ∙ sym (ap is_inside (doing-other s p e past (λ u. true≢false (sym (eq-eqb e.process p u) ∙ i))))
