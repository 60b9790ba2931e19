-- Every write of every record comes in its turn.
use Rattle.std.proofs.Common.{◌≡◌, ℕ, ◌==◌, ◌&&◌, Bool, true, false, cond, List, [], ◌∷◌, ◌++◌, Option, Some, None, refl, sym, ap, subst, ◌∙◌, true≢false, inl, inr, eqb-true}
use Rattle.std.specs.Prelude.{fold, nat_lt}
use Rattle.safe_bit.specs.Cell.{Cell, cell_of, MayWrite, AreWritesInTurn}
use Rattle.safe_bit.specs.{Move, is_of_write, is_write_open}
use Rattle.safe_bit.specs.declared.Move.TheVariants.{BeginWrite, EndWrite, BeginRead, EndRead, Settle}
use Rattle.model.specs.{Access, Call, Entry, Event, Mark, Past, Run, Stage, TornBit, Turn, added, entry_of, field_number, is_running, last_call, last_write, moves_of, open_closing, open_run, opening_bit, own, past_of, process_of, refused_at, same_bit, settling_from, stage, stage_after, torn_at, torn_run, unfinished}
use Rattle.plain_store.specs.{Setup}
use Rattle.model.specs.declared.events.Event.TheVariants.{Call as Calls, Step, Fail, Withdraw, Restart}
use Rattle.model.specs.declared.marks.Mark.TheVariants.{Called, Failed, Withdrew, Restarted}
use Rattle.model.specs.declared.stages.Stage.TheVariants.{Idle, Doorway, Waiting, Leaving, Settling, Down}
use Rattle.model.specs.Parts.{Part, Raises, Asks, TakesTicket, Lowers, Refuses, Waits, AsksCommit, AsksStamp, AsksImage, WritesImage, WritesStamp, WritesCommit, Clears, Over, is_over, is_read, stage_of}
use Rattle.model.proofs.OpenRecords.{withdrawn-out, unit-out}
use Rattle.model.proofs.OpenSteps.{Opens, closed, runs_at, leaves, settles, Out, IsLate, place_at, running-out}
use Rattle.model.proofs.Opens.{opened, Torn, open_torn}
use Rattle.model.proofs.PlaceTurns.{enter-closed}
use Rattle.model.proofs.NextAccesses.{at_place}
use Rattle.model.proofs.Ties.{Tie, over, writes, reads}
use Rattle.model.proofs.Turns.{new-closed}
use Rattle.model.proofs.Width.{IsGood}
use Rattle.model.proofs.World.{entry-accepted, entry_view, view}
use Rattle.model.proofs.Writer.{each_own, added-own, one_writer, open-own}

-- a process that waits writes nothing
waiting-part : (part : Part) (f : Bool) → is_read part ≡ false → stage_of part f ≡ Waiting → ⊥
waiting-part Raises f r h = cc
waiting-part (Asks j js ts) f r h = cc
waiting-part (TakesTicket t) f r h = cc
waiting-part (Lowers t) f r h = cc
waiting-part (Refuses q) f r h = cc
waiting-part (Waits t w ws) f r h = cc
waiting-part (AsksCommit k ks vs) f r h = cc
waiting-part (AsksStamp k ks vs b) f r h = cc
waiting-part (AsksImage vs) f r h = cc
waiting-part (WritesImage vs st) f r h = cc
waiting-part (WritesStamp vs st) f r h = cc
waiting-part (WritesCommit vs st) f r h = cc
waiting-part (Clears a) true r h = cc
waiting-part (Clears a) false r h = cc
waiting-part Over f r h = cc

waiting-closed : (c : Call) (part : Part) (run : Run) (made : ℕ) (bits : List Bool) (f : Bool) → is_over part ≡ false → stage_of part f ≡ Waiting → Tie c part run made bits → (a : Access) → open_run c part run a ≡ false
waiting-closed c part run made bits f o h (over q) a = absurd (true≢false (sym q ∙ o))
waiting-closed c part run made bits f o h (writes r e t) a = absurd (waiting-part part f r h)
waiting-closed c part run made bits f o h (reads r t) a = refl

waiting-remaining : (c : Call) (part : Part) (run : Run) (made : ℕ) (bits : List Bool) (f : Bool) → is_over part ≡ false → stage_of part f ≡ Waiting → Tie c part run made bits → torn_run c part run ≡ None
waiting-remaining c part run made bits f o h (over q) = absurd (true≢false (sym q ∙ o))
waiting-remaining c part run made bits f o h (writes r e t) = absurd (waiting-part part f r h)
waiting-remaining c part run made bits f o h (reads r t) = refl

-- the copies that the last write has left open are those that the unit has open at its begin
torn-settling : (c : Call) (mine : Past) (torn : Option Access) (a : Access) → open_torn c.process torn a ≡ open_closing c (settling_from c mine torn) a
torn-settling c mine None a = sym (new-closed c.process Rattle.model.specs.declared.access.Field.TheVariants.Ticket (Rattle.model.specs.Closings.no_ticket c) c.setup.ticket_bits a)
torn-settling c mine (Some b) a = refl

not_late : (c : Call) (mine : Past) (torn : Option Access) → IsLate (settling_from c mine torn) → ⊥
not_late c mine None l = l
not_late c mine (Some b) l = l

-- a unit begins
failed-opens : (s : Setup) (p : ℕ) (mine : Past) (torn : Option TornBit) → Torn s.processes p mine torn → Opens s p (record { process = p; access = None; marks = Failed ∷ [] } ∷ mine) Settling
failed-opens s p mine torn t = settles refl refl (λ a. t.opens a ∙ torn-settling c mine (unfinished s.processes (last_write mine)) a) t.reader (λ l. absurd (not_late c mine (unfinished s.processes (last_write mine)) l))
  where
    c : Call
    c = last_call s p (record { process = p; access = None; marks = Failed ∷ [] } ∷ mine)

-- nothing is open, and a mark is added
kept : (p : ℕ) (n : ℕ) (mine : Past) (m : Mark) (torn : Option TornBit) → Torn n p mine torn → Torn n p (record { process = p; access = None; marks = m ∷ [] } ∷ mine) torn
kept p n mine m torn t = record { opens = t.opens; reader = t.reader; remaining = t.remaining }

no_turn : (mine : Past) (p : ℕ) (m : Mark) (a x : Access) → (let e : Entry = record { process = p; access = None; marks = m ∷ [] } in e).access ≡ Some x → same_bit a x ≡ true → Turn (opened mine a) x.how
no_turn mine p m a x h same = let f : None ≡ Some x = h in cc

busy : (p : ℕ) (c : Rattle.plain_store.specs.declared.Command.Command) (st : Stage) → is_running st ≡ true → refused_at (Calls p c) st ≡ None → ⊥
busy p c Idle r h = cc
busy p c _ r h = cc

not_down : (p : ℕ) (st : Stage) → is_running st ≡ true → refused_at (Restart p) st ≡ None → ⊥
not_down p Idle r h = cc
not_down p _ r h = cc

is-waiting : (p : ℕ) (st : Stage) → refused_at (Withdraw p) st ≡ None → st ≡ Waiting
is-waiting p Idle h = cc
is-waiting p Doorway h = cc
is-waiting p Waiting h = refl
is-waiting p _ h = cc

-- every event of a process
added-out : (s : Setup) → IsGood s → (events : List Event) (event : Event) (e : Entry)
    → let past : Past = past_of s events in
    let p : ℕ = process_of event in
    refused_at event (stage p past) ≡ None → Opens s p (own p past) (stage p past) → added s past event ≡ Some e → Out s p (own p past) e (fold stage_after (stage p past) e.marks)
added-out s g events (Step p flick) e h (closed (inl i) w t) a = let f : refused_at (Step p flick) Idle ≡ None = ap (refused_at (Step p flick)) (sym i) ∙ h in cc
added-out s g events (Step p flick) e h (closed (inr i) w t) a = let f : refused_at (Step p flick) Down ≡ None = ap (refused_at (Step p flick)) (sym i) ∙ h in cc
added-out s g events (Step p flick) e h (runs_at command b r w t) a = running-out s g events p flick e command b r w t a
added-out s g events (Step p flick) e h (leaves b st w t) a = withdrawn-out s g events p flick e b st w t a
added-out s g events (Step p flick) e h (settles b st w r t) a = unit-out s g events p flick e b st w r a
added-out s g events (Calls p c) e h (closed (inl i) w t) a =
    let past : Past = past_of s events in
    let d : record { process = p; access = None; marks = Called c ∷ [] } ≡ e = cc in
    subst (λ (e : Entry). Out s p (own p past) e (fold stage_after (stage p past) e.marks)) d (record {
      turns = no_turn (own p past) p (Called c);
      opens = runs_at c refl refl (λ a. w a ∙ sym (enter-closed (last_call s p (record { process = p; access = None; marks = Called c ∷ [] } ∷ own p past)) Raises a)) (record { torn = kept p s.processes (own p past) (Called c) None t; begun = λ t h. cc; knows = tt });
    })
added-out s g events (Calls p c) e h (closed (inr i) w t) a = let f : refused_at (Calls p c) Down ≡ None = ap (refused_at (Calls p c)) (sym i) ∙ h in cc
added-out s g events (Calls p c) e h (runs_at command b r w t) a = absurd (busy p c (stage p (past_of s events)) r h)
added-out s g events (Calls p c) e h (leaves b st w t) a = let f : refused_at (Calls p c) Leaving ≡ None = ap (refused_at (Calls p c)) (sym st) ∙ h in cc
added-out s g events (Calls p c) e h (settles b st w r t) a = let f : refused_at (Calls p c) Settling ≡ None = ap (refused_at (Calls p c)) (sym st) ∙ h in cc
added-out s g events (Fail p) e h (closed i w t) a = let d : record { process = p; access = None; marks = Failed ∷ [] } ≡ e = cc in
    subst (λ (e : Entry). Out s p (own p (past_of s events)) e (fold stage_after (stage p (past_of s events)) e.marks)) d (record { turns = no_turn (own p (past_of s events)) p Failed; opens = failed-opens s p (own p (past_of s events)) None t })
added-out s g events (Fail p) e h (runs_at command b r w t) a = let d : record { process = p; access = None; marks = Failed ∷ [] } ≡ e = cc in
    subst (λ (e : Entry). Out s p (own p (past_of s events)) e (fold stage_after (stage p (past_of s events)) e.marks)) d (record { turns = no_turn (own p (past_of s events)) p Failed; opens = failed-opens s p (own p (past_of s events)) _ t.torn })
added-out s g events (Fail p) e h (leaves b st w t) a = let d : record { process = p; access = None; marks = Failed ∷ [] } ≡ e = cc in
    subst (λ (e : Entry). Out s p (own p (past_of s events)) e (fold stage_after (stage p (past_of s events)) e.marks)) d (record { turns = no_turn (own p (past_of s events)) p Failed; opens = failed-opens s p (own p (past_of s events)) _ t.torn })
added-out s g events (Fail p) e h (settles b st w r t) a = let f : refused_at (Fail p) Settling ≡ None = ap (refused_at (Fail p)) (sym st) ∙ h in cc
added-out s g events (Withdraw p) e h (closed (inl i) w t) a = let f : refused_at (Withdraw p) Idle ≡ None = ap (refused_at (Withdraw p)) (sym i) ∙ h in cc
added-out s g events (Withdraw p) e h (closed (inr i) w t) a = let f : refused_at (Withdraw p) Down ≡ None = ap (refused_at (Withdraw p)) (sym i) ∙ h in cc
added-out s g events (Withdraw p) e h (leaves b st w t) a = let f : refused_at (Withdraw p) Leaving ≡ None = ap (refused_at (Withdraw p)) (sym st) ∙ h in cc
added-out s g events (Withdraw p) e h (settles b st w r t) a = let f : refused_at (Withdraw p) Settling ≡ None = ap (refused_at (Withdraw p)) (sym st) ∙ h in cc
added-out s g events (Withdraw p) e h (runs_at command b r w t) a =
    let past : Past = past_of s events in
    let c : Call = last_call s p (own p past) in
    let at = at_place s g events p command b r in
    let waits : stage_of (place_at s p (own p past)).part (at.at.made == 0) ≡ Waiting = ap (λ part. stage_of part (at.at.made == 0)) (sym at.tied.part) ∙ sym at.stage ∙ is-waiting p (stage p past) h in
    let none : (a : Access) → opened (own p past) a ≡ false = λ a. w a ∙ waiting-closed c (place_at s p (own p past)).part (place_at s p (own p past)).run at.at.made at.at.bits (at.at.made == 0) (ap is_over (sym at.tied.part) ∙ at.not_over) waits at.tied.run a in
    let remaining : torn_at c (place_at s p (own p past)) ≡ None = waiting-remaining c (place_at s p (own p past)).part (place_at s p (own p past)).run at.at.made at.at.bits (at.at.made == 0) (ap is_over (sym at.tied.part) ∙ at.not_over) waits at.tied.run in
    let d : record { process = p; access = None; marks = Withdrew ∷ [] } ≡ e = cc in
    subst (λ (e : Entry). Out s p (own p past) e (fold stage_after (stage p past) e.marks)) d (record {
      turns = no_turn (own p past) p Withdrew;
      opens = leaves refl refl (λ a. none a ∙ sym (new-closed p Rattle.model.specs.declared.access.Field.TheVariants.Ticket (Rattle.model.specs.Closings.no_ticket c) s.ticket_bits a)) (record { torn = kept p s.processes (own p past) Withdrew None (subst (Torn s.processes p (own p past)) remaining t.torn); begun = λ t h. cc });
    })
added-out s g events (Restart p) e h (closed (inl i) w t) a = let f : refused_at (Restart p) Idle ≡ None = ap (refused_at (Restart p)) (sym i) ∙ h in cc
added-out s g events (Restart p) e h (closed (inr i) w t) a = let d : record { process = p; access = None; marks = Restarted ∷ [] } ≡ e = cc in
    subst (λ (e : Entry). Out s p (own p (past_of s events)) e (fold stage_after (stage p (past_of s events)) e.marks)) d
    (record { turns = no_turn (own p (past_of s events)) p Restarted; opens = closed (inl refl) w (kept p s.processes (own p (past_of s events)) Restarted None t) })
added-out s g events (Restart p) e h (runs_at command b r w t) a = absurd (not_down p (stage p (past_of s events)) r h)
added-out s g events (Restart p) e h (leaves b st w t) a = let f : refused_at (Restart p) Leaving ≡ None = ap (refused_at (Restart p)) (sym st) ∙ h in cc
added-out s g events (Restart p) e h (settles b st w r t) a = let f : refused_at (Restart p) Settling ≡ None = ap (refused_at (Restart p)) (sym st) ∙ h in cc

opens_more : (s : Setup) → IsGood s → (events : List Event) (event : Event) (p : ℕ) → ((p : ℕ) → Opens s p (own p (past_of s events)) (stage p (past_of s events))) → (x : Option Entry) → entry_of s (past_of s events) event ≡ x →
    Opens s p (own p (elim x as (λ _. Past) [ None ↦ past_of s events | Some e ↦ e ∷ past_of s events ])) (stage p (elim x as (λ _. Past) [ None ↦ past_of s events | Some e ↦ e ∷ past_of s events ]))
opens_more s g events event p ih None h = ih p
opens_more s g events event p ih (Some e) h = at (e.process == p) refl
  where
    past : Past
    past = past_of s events

    acc : (nat_lt (process_of event) s.processes ≡ true) × (refused_at event (stage (process_of event) past) ≡ None) × (added s past event ≡ Some e)
    acc = entry-accepted s past event e h

    is : e.process ≡ process_of event
    is = (entry_view s g past event e acc.1 (view s g events (process_of event)) acc.2).0

    at : (b : Bool) → (e.process == p) ≡ b → Opens s p (cond (e.process == p) (e ∷ own p past) (own p past)) (cond (e.process == p) (fold stage_after (stage p past) e.marks) (stage p past))
    at true i =
        let P : ℕ → Type 0 = λ q. Opens s q (e ∷ own q past) (fold stage_after (stage q past) e.marks) in
        rw i (subst P (sym is ∙ eqb-true e.process p i) (added-out s g events event e acc.1 (ih (process_of event)) acc.2).opens)
    at false i = rw i (ih p)

-- in every record
pub opens_all : (s : Setup) → IsGood s → (events : List Event) (p : ℕ) → Opens s p (own p (past_of s events)) (stage p (past_of s events))
opens_all s g [] p = closed (inl refl) (λ a. refl) (record { opens = λ a. refl; reader = λ b u. cc; remaining = refl })
opens_all s g (event ∷ events) p = opens_more s g events event p (opens_all s g events) (entry_of s (past_of s events) event) refl

owner-of : (b r o f : Bool) → (b && r && o && f) ≡ true → o ≡ true
owner-of b r true f h = refl
owner-of true true false f h = h
owner-of true false false f h = h
owner-of false r false f h = h

may-write : (c : Cell) (was : Bool) (m : Move) → c.writing ≡ was → Turn was m → MayWrite c m
may-write c was (BeginWrite v) e t = e ∙ t
may-write c was EndWrite e t = e ∙ t
may-write c was (Settle v) e t = e ∙ t
may-write c was BeginRead e t = tt
may-write c was (EndRead v) e t = tt

cell-writing : (o : Bool) (ms : List Move) → (cell_of o ms).writing ≡ is_write_open ms
cell-writing o [] = refl
cell-writing o (BeginWrite v ∷ ms) = refl
cell-writing o (EndWrite ∷ ms) = refl
cell-writing o (Settle v ∷ ms) = refl
cell-writing o (BeginRead ∷ ms) = cell-writing o ms
cell-writing o (EndRead v ∷ ms) = cell-writing o ms

-- a move is in its turn if it is where it writes
by-writes : (was : Bool) (m : Move) → (is_of_write m ≡ true → Turn was m) → Turn was m
by-writes was (BeginWrite v) h = h refl
by-writes was EndWrite h = h refl
by-writes was (Settle v) h = h refl
by-writes was BeginRead h = tt
by-writes was (EndRead v) h = tt

turn-more : (s : Setup) → IsGood s → (events : List Event) (event : Event) (a : Access) → AreWritesInTurn (opening_bit s a) (moves_of a (past_of s events)) → (x : Option Entry) → entry_of s (past_of s events) event ≡ x →
    AreWritesInTurn (opening_bit s a) (moves_of a (elim x as (λ _. Past) [ None ↦ past_of s events | Some e ↦ e ∷ past_of s events ]))
turn-more s g events event a ih None h = ih
turn-more s g events event a ih (Some e) h = go e.access refl
  where
    past : Past
    past = past_of s events

    p : ℕ
    p = process_of event

    acc : (nat_lt p s.processes ≡ true) × (refused_at event (stage p past) ≡ None) × (added s past event ≡ Some e)
    acc = entry-accepted s past event e h

    out : Out s p (own p past) e (fold stage_after (stage p past) e.marks)
    out = added-out s g events event e acc.1 (opens_all s g events p) acc.2

    go : (x : Option Access) → e.access ≡ x → AreWritesInTurn (opening_bit s a) (elim x as (λ _. List Move) [ None ↦ [] | Some b ↦ cond (same_bit a b) (b.how ∷ []) [] ] ++ moves_of a past)
    go None i = ih
    go (Some b) i = at (same_bit a b) refl
      where
        at : (t : Bool) → same_bit a b ≡ t → AreWritesInTurn (opening_bit s a) (cond t (b.how ∷ []) [] ++ moves_of a past)
        at false j = ih
        at true j = (may-write (cell_of (opening_bit s a) (moves_of a past)) (opened past a) b.how (cell-writing (opening_bit s a) (moves_of a past)) (by-writes (opened past a) b.how turn), ih)
          where
            turn : is_of_write b.how ≡ true → Turn (opened past a) b.how
            turn w =
                let mine : b.owner ≡ p = added-own s g past event e acc.1 (view s g events p) (one_writer s g events p) acc.2 b i w in
                let owner : a.owner ≡ b.owner = eqb-true a.owner b.owner (owner-of (a.bit == b.bit) (a.reader == b.reader) (a.owner == b.owner) (field_number a.field == field_number b.field) j) in
                let same : opened past a ≡ opened (own p past) a = open-own a past (each_own s g events) ∙ ap (λ q. opened (own q past) a) (owner ∙ mine) in
                subst (λ was. Turn was b.how) (sym same) (out.turns a b i j)

-- so in every record the writes of each bit come in their turn
pub turns_all : (s : Setup) → IsGood s → (events : List Event) (a : Access) → AreWritesInTurn (opening_bit s a) (moves_of a (past_of s events))
turns_all s g [] a = tt
turns_all s g (event ∷ events) a = turn-more s g events event a (turns_all s g events a) (entry_of s (past_of s events) event) refl
