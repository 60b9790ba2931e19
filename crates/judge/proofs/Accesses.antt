-- No access of this project's lock is refused by any lock's table.
use Rattle.std.proofs.Common.{◌≡◌, ◌≢◌, ℕ, ◌<◌, ◌+◌, ◌*◌, ◌%◌, ◌==◌, ◌&&◌, ◌||◌, not, nat_lt, Bool, true, false, cond, List, [], ◌∷◌, Option, Some, None, refl, sym, ap, subst, ◌∙◌, arith, true≢false, eqb-true, eq-eqb, ne_eqb}
use Rattle.std.proofs.lemmas.Bool.{eqb-false}
use Rattle.std.proofs.lemmas.Bool.Decides.{nat_tests}
use Rattle.std.specs.Option.{is_some}
use Rattle.std.specs.Prelude.{option_map}
use Rattle.model.specs.reader_copies.Runs as copies
use Rattle.model.specs.safe_bit.{Move, is_begin_of_write, is_end, is_of_read, is_of_write, read_value, settles}
use Rattle.model.specs.safe_bit.declared.Move.TheVariants.{BeginWrite, EndWrite, BeginRead, EndRead, Settle}
use Rattle.model.specs.safe_number.{NumberWrite}
use Rattle.model.specs.{Access, Call, Clears, Entry, Event, Field, Next, Over, Part, Past, Place, Reading, Run, Stage, Writing, access_at, access_of, bit_written, ended, ended_with, entry_of, field_number, is_fresh, is_over, is_running, is_settling, moves_of, opening_bit, past_of, stage, stage_of, width, written_at}
use Rattle.model.specs.declared.stages.Stage.TheVariants as stages
use Rattle.plain_store.specs.{Command, Setup}
use Rattle.model.specs.Closings.{Closing, Withdraws, Settles, Frees, Lowers, Quit, Ended, closing_next, closing_stage, no_ticket}
use Rattle.model.proofs.PlaceTurns.{access_in}
use Rattle.model.proofs.Turns.{and_false}
use Rattle.model.proofs.Width.{IsGood}
use Rattle.any_lock.specs.safe_monitor.laws.{Closes, Doing, IsThere, Runs, call, doing, next_of}
use Rattle.any_lock.proofs.safe_monitor.laws.Doings as laws
use Rattle.any_lock.proofs.safe_monitor.laws.Frame.{Happens, a_call, a_withdrawal, a_failure, a_restart, a_step, a_closing}
use Rattle.any_lock.proofs.safe_monitor.laws.FrameCells.{ByProcess}
use Rattle.any_lock.proofs.safe_monitor.laws.FrameEvents.{Accepted, accepted}
use Rattle.any_lock.proofs.safe_monitor.laws.FrameInside.{stage-is}
use Rattle.any_lock.proofs.safe_monitor.laws.FrameSteps.{closing-writes, entry-by}
use Rattle.any_lock.proofs.safe_monitor.laws.HeldThere.{access_there}
use Rattle.any_lock.specs.{AccessRefusal, BegunAccess, ProcessView, access_refusal, first_that, is_end_of, is_of_bit, may_move, opened, refusal_of_access, process_view, torn}
use Rattle.any_lock.specs.declared.refusals.AccessRefusal.TheVariants as access
use Rattle.judge.proofs.OpenDoings.{opens}
use Rattle.judge.proofs.Opened.{Fits, FitsNext}
use Rattle.judge.proofs.Torn.{TornAt, TornBy, TornIn, comes, settled}
use Rattle.judge.proofs.TornDoings.{made_by, torn_is}

-- A table of which no test holds.

first_none : {R : Type 0} (b : Bool) (r : R) (tests : List (Bool × R)) → b ≡ false → first_that tests ≡ None → first_that ((b, r) ∷ tests) ≡ None
first_none true r tests h rest = absurd (true≢false h)
first_none false r tests h rest = rest

-- the facts about an access that is not refused
record Allowed (s : Setup) (p : ℕ) (k : ProcessView) (a : Access) : Type 0 where
  pub process : p < s.processes
  pub there : IsThere s a
  pub by : ByProcess p a
  pub at_stage : may_move k.stage a.how ≡ true
  pub settling : (settles a.how && not (is_settling k.stage)) ≡ false
  pub fits : Fits k.opened a
  pub of_torn : (settles a.how && not (is_of_bit k.torn a)) ≡ false
  pub off_torn : (is_begin_of_write a.how && is_of_bit k.torn a) ≡ false

below : (m n : ℕ) → m < n → nat_lt m n ≡ true
below m n h = grind (arith, nat_tests)

unrefused : (s : Setup) (p : ℕ) (k : ProcessView) (a : Access) → Allowed s p k a → access_refusal s p k a ≡ None
unrefused s p k a h = λ i. first_that (
    (not (below p s.processes h.process i), access.NoProcess)
    ∷ (not (below a.owner s.processes h.there.owner i && below a.reader s.processes h.there.reader i && below a.bit (width s a.field) h.there.bit i), access.NoBit)
    ∷ (owned a.how refl i, access.NotOwner)
    ∷ (read a.how refl i, access.NotReader)
    ∷ (h.settling i, access.NotSettling)
    ∷ (not (h.at_stage i), access.NotRunning)
    ∷ (ended_one (is_end a.how) h.fits i, access.NotOpen)
    ∷ (one_only (is_end a.how) h.fits i, access.AccessOpen)
    ∷ (h.of_torn i, access.NotTorn)
    ∷ (h.off_torn i, access.Torn)
    ∷ [])
  where
    owned : (m : Move) → a.how ≡ m → (not (is_of_read m) && not (a.owner == p)) ≡ false
    owned BeginRead is = refl
    owned (EndRead v) is = refl
    owned (BeginWrite v) is = ap not (eq-eqb a.owner p (h.by.writes (ap is_of_write is)))
    owned EndWrite is = ap not (eq-eqb a.owner p (h.by.writes (ap is_of_write is)))
    owned (Settle v) is = ap not (eq-eqb a.owner p (h.by.writes (ap is_of_write is)))

    read : (m : Move) → a.how ≡ m → (is_of_read m && not (a.reader == p)) ≡ false
    read BeginRead is = ap not (eq-eqb a.reader p (h.by.reads (ap is_of_write is)))
    read (EndRead v) is = ap not (eq-eqb a.reader p (h.by.reads (ap is_of_write is)))
    read _ is = refl

    ended_one : (b : Bool) → elim b as (λ _. Type 0) [ true ↦ is_end_of k.opened a ≡ true | false ↦ k.opened ≡ None ] → (b && not (is_end_of k.opened a)) ≡ false
    ended_one true f = ap not f
    ended_one false f = refl

    one_only : (b : Bool) → elim b as (λ _. Type 0) [ true ↦ is_end_of k.opened a ≡ true | false ↦ k.opened ≡ None ] → (not b && is_some k.opened) ≡ false
    one_only true f = refl
    one_only false f = ap is_some f

-- Open accesses.

-- an access that fits, fits with the value that was read
fits_ended : (o : Option BegunAccess) (v : Bool) (x : Access) → Fits o x → Fits o (ended_with v x)
fits_ended o v x fits = go x.how o fits
  where
    at : Move → Access
    at m = record { owner = x.owner; field = x.field; bit = x.bit; reader = x.reader; how = m }

    go : (m : Move) (o : Option BegunAccess) → Fits o (at m) → Fits o (at (ended v m))
    go (BeginWrite u) o fits = fits
    go EndWrite o fits = fits
    go BeginRead o fits = fits
    go (EndRead u) None fits = fits
    go (EndRead u) (Some b) fits = fits
    go (Settle u) o fits = fits

-- Accesses at a place.

-- none of its moves settles
place_settles : (c : Call) (part : Part) (run : Run) (v : Bool) → settles (ended_with v (access_at c part run)).how ≡ false
place_settles c part (Writing w) v = go ((bit_written (written_at c part).1 w).made % 2 == 0)
  where
    go : (b : Bool) → settles (ended v (cond b (BeginWrite (bit_written (written_at c part).1 w).value) EndWrite)) ≡ false
    go true = refl
    go false = refl
place_settles c part (Reading bits begun) v = go begun
  where
    go : (b : Bool) → settles (ended v (cond b (EndRead false) BeginRead)) ≡ false
    go true = refl
    go false = refl

part_runs : (part : Part) (fresh : Bool) → is_over part ≡ false → is_running (stage_of part fresh) ≡ true
part_runs Over fresh o = cc
part_runs (Clears a) true o = refl
part_runs (Clears a) false o = refl
part_runs _ fresh o = refl

running_moves : (st : Stage) (m : Move) → is_running st ≡ true → may_move st m ≡ true
running_moves st m run = ap (λ b. settles m || b || (is_settling st && not (is_of_read m))) run ∙ go (settles m)
  where
    go : (b : Bool) → (b || true || (is_settling st && not (is_of_read m))) ≡ true
    go true = refl
    go false = refl

module _ (s : Setup) (past : Past) (p : ℕ) (a : Access) (process : p < s.processes) (there : IsThere s a) (by : ByProcess p a) where
  place_allowed : (c : Call) (at : Place) (v : Bool) → is_over at.part ≡ false → a ≡ ended_with v (access_at c at.part at.run) → stage p past ≡ stage_of at.part (is_fresh at.run) → Fits (opened p past) (access_at c at.part at.run) → torn p past ≡ None →
      Allowed s p (process_view s p past) a
  place_allowed c at v over made st fits none =
      let calm : settles a.how ≡ false = ap (λ (x : Access). settles x.how) made ∙ place_settles c at.part at.run v in
      record {
        process = process;
        there = there;
        by = by;
        at_stage = running_moves (stage p past) a.how (ap is_running st ∙ part_runs at.part (is_fresh at.run) over);
        settling = ap (λ b. b && not (is_settling (stage p past))) calm;
        fits = subst (Fits (opened p past)) (sym made) (fits_ended (opened p past) v (access_at c at.part at.run) fits);
        of_torn = ap (λ b. b && not (is_of_bit (torn p past) a)) calm;
        off_torn = ap (λ o. is_begin_of_write a.how && is_of_bit o a) none ∙ and_false (is_begin_of_write a.how);
      }

-- Accesses in a closing.

-- an access of a write does not settle
written_settles : (bits : List Bool) (w : NumberWrite) → settles (copies.next_write (bit_written bits w)).how ≡ false
written_settles bits w = go ((bit_written bits w).made % 2 == 0)
  where
    go : (b : Bool) → settles (cond b (BeginWrite (bit_written bits w).value) EndWrite) ≡ false
    go true = refl
    go false = refl

not_reading : (m : Move) → is_of_write m ≡ true → is_of_read m ≡ false
not_reading BeginRead h = absurd (true≢false (sym h))
not_reading (EndRead v) h = absurd (true≢false (sym h))
not_reading _ h = refl

settling_moves : (m : Move) → is_of_write m ≡ true → may_move stages.Settling m ≡ true
settling_moves m h = ap (λ b. settles m || false || (true && not b)) (not_reading m h) ∙ go (settles m)
  where
    go : (b : Bool) → (b || false || true) ≡ true
    go true = refl
    go false = refl

-- the tests of torn bits find nothing
record OfTorn (st : Stage) (torn : Option BegunAccess) (a : Access) : Type 0 where
  pub settling : (settles a.how && not (is_settling st)) ≡ false
  pub of_torn : (settles a.how && not (is_of_bit torn a)) ≡ false
  pub off_torn : (is_begin_of_write a.how && is_of_bit torn a) ≡ false

calm_torn : (st : Stage) (torn : Option BegunAccess) (a : Access) → settles a.how ≡ false → torn ≡ None → OfTorn st torn a
calm_torn st torn a calm none = record {
  settling = ap (λ b. b && not (is_settling st)) calm;
  of_torn = ap (λ b. b && not (is_of_bit torn a)) calm;
  off_torn = ap (λ o. is_begin_of_write a.how && is_of_bit o a) none ∙ and_false (is_begin_of_write a.how);
}

-- the access with which a unit settles a copy, or writes it
settles_torn : (s : Setup) (p : ℕ) (f : Field) (bit : ℕ) (t : copies.Settling) (v : Bool) (torn : Option BegunAccess) → TornAt s.processes p f bit t torn → t.reader < s.processes → OfTorn stages.Settling torn (access_of p f (bit, copies.next_settle t v))
settles_torn s p f bit t v torn at below = go t.begun (copies.is_open_at t.made t.reader) refl
  where
    x : Bool → Bool → Access
    x b o = access_of p f (bit, record { reader = t.reader; how = cond b EndWrite (cond o (Settle v) (BeginWrite v)) })

    -- the copy that was open is torn
    torn_one : (o : Option BegunAccess) → TornBy s.processes p f bit t o → t.made ≡ 2 * t.reader + 1 → is_of_bit o (x false true) ≡ true
    torn_one o (settled none all) was = absurd (all t.reader (omega arith) below was)
    torn_one o (comes b is owner field its low high made) was =
        let same : b.access.reader ≡ t.reader = omega (arith, made, was) in
        ap (λ o. is_of_bit o (x false true)) is
        ∙ (λ i. eq-eqb b.access.bit bit its i && eq-eqb b.access.reader t.reader same i && eq-eqb b.access.owner p owner i && eq-eqb (field_number b.access.field) (field_number f) (ap field_number field) i)

    -- a copy that was not open is not torn
    not_torn : (o : Option BegunAccess) → TornBy s.processes p f bit t o → t.made ≢ 2 * t.reader + 1 → is_of_bit o (x false false) ≡ false
    not_torn o (settled none all) other = ap (λ o. is_of_bit o (x false false)) none
    not_torn o (comes b is owner field its low high made) other =
        let apart : b.access.reader ≢ t.reader = λ same. other (omega (arith, made, same)) in
        ap (λ o. is_of_bit o (x false false)) is
        ∙ ap (λ q. (b.access.bit == bit) && q && (b.access.owner == p) && (field_number b.access.field == field_number f)) (ne_eqb b.access.reader t.reader apart)
        ∙ go (b.access.bit == bit)
      where
        go : (q : Bool) → (q && false && (b.access.owner == p) && (field_number b.access.field == field_number f)) ≡ false
        go true = refl
        go false = refl

    go : (b o : Bool) → copies.is_open_at t.made t.reader ≡ o → OfTorn stages.Settling torn (x b o)
    go true o j = record { settling = refl; of_torn = refl; off_torn = refl }
    go false true j = record { settling = refl; of_torn = ap not (torn_one torn at.by (eqb-true t.made (2 * t.reader + 1) j)); off_torn = refl }
    go false false j = record { settling = refl; of_torn = refl; off_torn = not_torn torn at.by (eqb-false t.made (2 * t.reader + 1) j) }

closing_torn : (s : Setup) (p : ℕ) (command : Command) (number : ℕ) (at : Closing) (flick : Bool) (n : Next) (torn : Option BegunAccess) → closing_next (call s p command number) at flick ≡ Some n → TornIn s p torn (Closes command number at) → n.access.reader < s.processes →
    OfTorn (closing_stage at) torn n.access
closing_torn s p command number at flick n torn next h below =
    subst (OfTorn (closing_stage at) torn) (ap access_in next) (go at next h (subst (λ (a : Access). a.reader < s.processes) (sym (ap access_in next)) below))
  where
    c : Call
    c = call s p command number

    go : (at : Closing) → closing_next c at flick ≡ Some n → TornIn s p torn (Closes command number at) → (access_in (closing_next c at flick)).reader < s.processes → OfTorn (closing_stage at) torn (access_in (closing_next c at flick))
    go (Withdraws w) i h below = calm_torn stages.Leaving torn (access_in (closing_next c (Withdraws w) flick)) (written_settles (no_ticket c) w) h
    go (Settles f bit begun taken is t) i h below = settles_torn s p f bit t (copies.settled_at t flick) torn h below
    go (Frees is w) i h below = calm_torn stages.Settling torn (access_in (closing_next c (Frees is w) flick)) (written_settles (no_ticket c) w) h
    go (Lowers w) i h below = calm_torn stages.Settling torn (access_in (closing_next c (Lowers w) flick)) (written_settles (false ∷ []) w) h
    go Quit i h below = cc
    go Ended i h below = cc

closing_moves : (c : Call) (at : Closing) (flick : Bool) (n : Next) → closing_next c at flick ≡ Some n → is_of_write n.access.how ≡ true → may_move (closing_stage at) n.access.how ≡ true
closing_moves c (Withdraws w) flick n next writes = running_moves stages.Leaving n.access.how refl
closing_moves c Quit flick n next writes = cc
closing_moves c Ended flick n next writes = cc
closing_moves c _ flick n next writes = settling_moves n.access.how writes

-- Entries.

no_access : (s : Setup) (past : Past) (e : Entry) → e.access ≡ None → e.process < s.processes → refusal_of_access s past e ≡ None
no_access s past e none process =
    ap (λ o. elim o as (λ _. Option AccessRefusal) [ None ↦ first_that ((not (nat_lt e.process s.processes), access.NoProcess) ∷ []) | Some a ↦ access_refusal s e.process (process_view s e.process past) a ]) none
    ∙ first_none (not (nat_lt e.process s.processes)) access.NoProcess [] (ap not (below e.process s.processes process)) refl

an_access : (s : Setup) (past : Past) (e : Entry) (a : Access) → e.access ≡ Some a → Allowed s e.process (process_view s e.process past) a → refusal_of_access s past e ≡ None
an_access s past e a acc allowed =
    ap (λ o. elim o as (λ _. Option AccessRefusal) [ None ↦ first_that ((not (nat_lt e.process s.processes), access.NoProcess) ∷ []) | Some a ↦ access_refusal s e.process (process_view s e.process past) a ]) acc
    ∙ unrefused s e.process (process_view s e.process past) a allowed

-- The entry of an event keeps the law `Access` of any lock.
pub keeps_access : (s : Setup) → IsGood s → (events : List Event) (event : Event) (e : Entry) → entry_of s (past_of s events) event ≡ Some e → refusal_of_access s (past_of s events) e ≡ None
keeps_access s g events event e is = go acc.happens
  where
    past : Past
    past = past_of s events

    p : ℕ
    p = e.process

    acc : Accepted s past event e
    acc = accepted s g events event e is

    there : (a : Access) → e.access ≡ Some a → IsThere s a
    there = access_there s g events event e is

    by : (a : Access) → e.access ≡ Some a → ByProcess p a
    by a h = made_by p e a h (entry-by s g events event e is)

    at : (d : Doing) → doing s p past ≡ d → stage p past ≡ laws.stage_of d
    at d k = stage-is s g events p ∙ ap laws.stage_of k

    fits : (d : Doing) → doing s p past ≡ d → (flick : Bool) → FitsNext (opened p past) (next_of s p d flick)
    fits d k flick = subst (λ d. FitsNext (opened p past) (next_of s p d flick)) k (opens s g events p flick)

    torn_in : (d : Doing) → doing s p past ≡ d → TornIn s p (torn p past) d
    torn_in d k = subst (TornIn s p (torn p past)) k (torn_is s g events p).torn_in

    go : Happens s past p e (doing s p past) (doing s p (e ∷ past)) → refusal_of_access s past e ≡ None
    go (a_call command number i none m k) = no_access s past e none acc.below
    go (a_withdrawal command number t w ws run i none m k) = no_access s past e none acc.below
    go (a_failure command number may none m k) = no_access s past e none acc.below
    go (a_restart i none m k) = no_access s past e none acc.below
    go (a_step command number place a flick i over h made m k) =
        let c : Call = call s p command number in
        let x : Access = access_at c place.part place.run in
        an_access s past e a h (place_allowed s past p a acc.below (there a h) (by a h) c place (read_value (opening_bit s x) (moves_of x past) flick) over made (at (Runs command number place) i) (fits (Runs command number place) i flick) (torn_in (Runs command number place) i))
    go (a_closing command number closing flick n i next h same m k) =
        let c : Call = call s p command number in
        let d : Doing = Closes command number closing in
        let st : stage p past ≡ closing_stage closing = at d i in
        let tested : OfTorn (closing_stage closing) (torn p past) n.access = closing_torn s p command number closing flick n (torn p past) next (torn_in d i) (there n.access h).reader in
        let of : OfTorn (stage p past) (torn p past) n.access = subst (λ st. OfTorn st (torn p past) n.access) (sym st) tested in
        let its : FitsNext (opened p past) (Some n.access) = subst (FitsNext (opened p past)) (ap (option_map (λ (x : Next). x.access)) next) (fits d i flick) in
        an_access s past e n.access h (record {
          process = acc.below;
          there = there n.access h;
          by = by n.access h;
          at_stage = subst (λ st. may_move st n.access.how ≡ true) (sym st) (closing_moves c closing flick n next (closing-writes c closing flick n next).0);
          settling = of.settling;
          fits = its;
          of_torn = of.of_torn;
          off_torn = of.off_torn;
        })
