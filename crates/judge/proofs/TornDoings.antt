-- The torn bit of each process, and its last write, in the record of every list of events.
use Rattle.std.proofs.Common.{◌≡◌, ◌≢◌, ℕ, ◌+◌, ◌*◌, ◌==◌, ◌&&◌, not, Bool, true, false, cond, List, ◌∷◌, Option, Some, None, length, refl, sym, ap, subst, ◌∙◌, arith, true≢false, ne_eqb}
use Rattle.std.specs.List.{list_any}
use Rattle.model.specs.{Access, Call, Closing, Entry, Event, Part, Past, Place, Reading, Run, Wait, Waits, Withdraws, Writing, access_at, closing_after, failing, has, history, is_begin_of_write, is_failed, is_finished, is_over, last_write, made_with, moves_of, opening_bit, own, past_of, place_after, settling_from, unfinished, value_of, written_at}
use Rattle.plain_store.specs.{Command, Setup}
use Rattle.model.specs.declared.marks.Mark.TheVariants as mark
use Rattle.model.specs.safe_bit.{is_of_write, read_value}
use Rattle.model.specs.safe_bit.declared.Move.TheVariants.{BeginRead, EndRead}
use Rattle.model.proofs.Opens.{last-none}
use Rattle.model.proofs.Width.{IsGood}
use Rattle.any_lock.specs.safe_monitor.laws.{Closes, Doing, IsThere, Rests, Runs, call, closes, doing, runs}
use Rattle.any_lock.proofs.safe_monitor.laws.AtPlaces.{own-induction}
use Rattle.any_lock.proofs.safe_monitor.laws.Frame.{Happens, a_call, a_withdrawal, a_failure, a_restart, a_step, a_closing, doing-other, may_fail, own-other, own-own}
use Rattle.any_lock.proofs.safe_monitor.laws.FrameCells.{ByProcess, EntryBy, makes, marks_only}
use Rattle.any_lock.proofs.safe_monitor.laws.FrameCuts.{LeftIn, LeftRun, last-made, remaining, written-writes}
use Rattle.any_lock.proofs.safe_monitor.laws.FrameEvents.{accepted}
use Rattle.any_lock.proofs.safe_monitor.laws.FrameSteps.{closing-writes, entry-by, is_of_write-ended, remaining-is}
use Rattle.any_lock.proofs.safe_monitor.laws.HeldThere.{access_there}
use Rattle.any_lock.specs.{BegunAccess, ProcessView, opened, process_view, torn, torn_after, write_of}
use Rattle.any_lock.proofs.Markings.{ArePlain, no_failure, none_of}
use Rattle.any_lock.proofs.Steps.{process_view-other, torn-mine}
use Rattle.judge.proofs.LastWrites.{IsLast, LastIsOpen, LastIsOpenIn, OpenIsLast, access_last, begun_open, finished, marked_last}
use Rattle.judge.proofs.OpenDoings.{opened_access}
use Rattle.judge.proofs.StepMarks.{plain_closing, plain_step}
use Rattle.judge.proofs.Torn.{TornIn, closing_torn, comes, never_torn, runs_none, settled}

-- the last write and the torn bit of a process
pub record IsTorn (s : Setup) (past : Past) (p : ℕ) (d : Doing) : Type 0 where
  pub open_last : OpenIsLast s p (opened p past) (last_write (own p past))
  pub last_open : LastIsOpenIn (opened p past) (last_write (own p past)) d
  pub torn_in : TornIn s p (torn p past) d

-- A failure.

-- the unit settles the bit of the last write, if that is unfinished
fails_torn : (s : Setup) (p : ℕ) (command : Command) (number : ℕ) (mine : Past) (o : Option BegunAccess) (last : Option Access) → OpenIsLast s p o last → LastIsOpen o last →
    TornIn s p (write_of o) (Closes command number (settling_from (call s p command number) mine (unfinished s.processes last)))
fails_torn s p command number mine o last open_last last_open = go last refl
  where
    c : Call
    c = call s p command number

    n : ℕ
    n = s.processes

    T : Option Access → Type 0
    T torn = TornIn s p (write_of o) (Closes command number (settling_from c mine torn))

    -- the process made no write
    nothing : last ≡ None → (w : Option BegunAccess) → write_of o ≡ w → write_of o ≡ None
    nothing is None h = h
    nothing is (Some b) h = let f : None ≡ Some b.access = sym is ∙ (open_last b h).last_is in cc

    -- its last write is finished
    ended : (a : Access) → last ≡ Some a → is_finished n a ≡ true → (w : Option BegunAccess) → write_of o ≡ w → write_of o ≡ None
    ended a is fin None h = h
    ended a is fin (Some b) h =
        let its : IsLast s p last b = open_last b h in
        let both : Some a ≡ Some b.access = sym is ∙ its.last_is in
        let same : a ≡ b.access = cc in
        let begins : is_begin_of_write a.how ≡ true = ap (λ (x : Access). is_begin_of_write x.how) same ∙ its.begins in
        absurd (true≢false (sym fin ∙ ap (λ b. not b && (a.reader + 1 == n)) begins))

    -- its last write is not finished
    cut : (a : Access) → last ≡ Some a → (w : Option BegunAccess) → write_of o ≡ w → T (Some a)
    cut a is None h = by (is_begin_of_write a.how) refl
      where
        by : (b : Bool) → is_begin_of_write a.how ≡ b → T (Some a)
        by true k = absurd (last_open a (is, k) h)
        by false k =
            let made : made_with a ≡ 2 * a.reader + 2 = ap (λ b. 2 * a.reader + cond b 1 2) k in
            record { by = settled h (λ r low high same. omega (arith, made, same)); apart = λ b. absurd (true≢false (sym b)) }
    cut a is (Some b) h =
        let its : IsLast s p last b = open_last b h in
        let both : Some a ≡ Some b.access = sym is ∙ its.last_is in
        let same : a ≡ b.access = cc in
        let begins : is_begin_of_write a.how ≡ true = ap (λ (x : Access). is_begin_of_write x.how) same ∙ its.begins in
        let made : made_with a ≡ 2 * b.access.reader + 1 = ap (λ b. 2 * a.reader + cond b 1 2) begins ∙ ap (λ (x : Access). 2 * x.reader + 1) same in
        record { by = comes b h its.owner (ap (λ (x : Access). x.field) (sym same)) (ap (λ (x : Access). x.bit) (sym same)) (omega arith) its.reader made; apart = λ b. absurd (true≢false (sym b)) }

    go : (l : Option Access) → last ≡ l → T (unfinished n last)
    go None is = subst (λ l. T (unfinished n l)) (sym is) (nothing is (write_of o) refl)
    go (Some a) is = subst (λ l. T (unfinished n l)) (sym is) (by (is_finished n a) refl)
      where
        by : (b : Bool) → is_finished n a ≡ b → T (cond b None (Some a))
        by true fin = ended a is fin (write_of o) refl
        by false fin = cut a is (write_of o) refl

-- if a process may fail, its last write is open, if it is a begin
may_cut : (s : Setup) (p : ℕ) (mine : Past) (o : Option BegunAccess) (d : Doing) → may_fail d ≡ true → LeftIn s p (remaining s mine) d → LastIsOpenIn o (last_write mine) d → LastIsOpen o (last_write mine)
may_cut s p mine o Rests may l h = finished s.processes (last_write mine) o l
may_cut s p mine o (Runs command number at) may l h = h
may_cut s p mine o (Closes command number (Withdraws w)) may l h = h
may_cut s p mine o _ may l h = absurd (true≢false (sym may))

-- The last write.

unit_last : (o : Option BegunAccess) (last : Option Access) (command : Command) (number : ℕ) (c : Call) (mine : Past) (cut : Option Access) → LastIsOpenIn o last (Closes command number (settling_from c mine cut))
unit_last o last command number c mine None = tt
unit_last o last command number c mine (Some a) = tt

runs_last : (o : Option BegunAccess) (last : Option Access) (command : Command) (number : ℕ) (at : Place) → LastIsOpen o last → LastIsOpenIn o last (runs command number at)
runs_last o last command number at h = go (is_over at.part)
  where
    go : (b : Bool) → LastIsOpenIn o last (cond b Rests (Runs command number at))
    go true = tt
    go false = h

closes_last : (o : Option BegunAccess) (last : Option Access) (command : Command) (number : ℕ) (at : Closing) → LastIsOpen o last → LastIsOpenIn o last (closes command number at)
closes_last o last command number (Withdraws w) h = h
closes_last o last command number _ h = tt

-- after an access of a write
written_last : (past : Past) (e : Entry) (a : Access) → e.access ≡ Some a → ArePlain e.marks → is_of_write a.how ≡ true → LastIsOpen (opened e.process (e ∷ past)) (last_write (own e.process (e ∷ past)))
written_last past e a acc plain writes x unended closed =
    let last : last_write (own e.process (e ∷ past)) ≡ Some a = ap last_write (own-own e.process e past refl) ∙ last-made e (own e.process past) a acc ∙ ap (λ b. cond b (Some a) (last_write (own e.process past))) writes in
    let both : Some a ≡ Some x = sym last ∙ unended.0 in
    let same : a ≡ x = cc in
    begun_open (length past) a (ap (λ (y : Access). is_begin_of_write y.how) same ∙ unended.1) (sym (ap write_of (opened_access past e a acc plain)) ∙ closed)

-- after an access of a read, or none, if no bit is left unfinished
still_last : (s : Setup) (past : Past) (e : Entry) (o : Option BegunAccess) → last_write (e ∷ own e.process past) ≡ last_write (own e.process past) → remaining s (own e.process past) ≡ None → LastIsOpen o (last_write (own e.process (e ∷ past)))
still_last s past e o same none = finished s.processes (last_write (own e.process (e ∷ past))) o (ap (λ l. unfinished s.processes (last_write l)) (own-own e.process e past refl) ∙ ap (unfinished s.processes) same ∙ none)

-- after the access at a place
place_last : (s : Setup) (past : Past) (e : Entry) (command : Command) (number : ℕ) (part : Part) (run : Run) (a : Access) (v : Bool) → e.access ≡ Some a → ArePlain e.marks → is_of_write a.how ≡ is_of_write (access_at (call s e.process command number) part run).how →
    LeftRun (call s e.process command number) (remaining s (own e.process past)) part run → LastIsOpen (opened e.process (e ∷ past)) (last_write (own e.process (e ∷ past)))
place_last s past e command number part (Writing w) a v acc plain same l = written_last past e a acc plain (same ∙ written-writes e.process (written_at (call s e.process command number) part).0 (written_at (call s e.process command number) part).1 w)
place_last s past e command number part (Reading bits begun) a v acc plain same l =
    still_last s past e (opened e.process (e ∷ past)) (last-made e (own e.process past) a acc ∙ ap (λ b. cond b (Some a) (last_write (own e.process past))) (same ∙ read begun)) l.1
  where
    read : (b : Bool) → is_of_write (cond b (EndRead false) BeginRead) ≡ false
    read true = refl
    read false = refl

-- a waiting process has no unfinished write
waits_left : (c : Call) (torn : Option Access) (t : ℕ) (w : Wait) (ws : List Wait) (run : Run) → LeftRun c torn (Waits t w ws) run → torn ≡ None
waits_left c torn t w ws (Writing n) l = absurd (true≢false l.0)
waits_left c torn t w ws (Reading bits begun) l = l.1

pub made_by : (p : ℕ) (e : Entry) (a : Access) → e.access ≡ Some a → EntryBy p e → ByProcess p a
made_by p e a acc (marks_only none) = let f : None ≡ Some a = sym none ∙ acc in cc
made_by p e a acc (makes x is by) = let f : Some x ≡ Some a = sym is ∙ acc in let same : x ≡ a = cc in subst (ByProcess p) same by

-- Entries.

module _ (s : Setup) (past : Past) (e : Entry) (d d' : Doing) (is : doing s e.process past ≡ d) where
  abbrev p : ℕ
  p = e.process

  abbrev mine : Past
  mine = own p past

  -- the torn bit after an entry in which the process does not fail
  torn_on : (o : Option Access) → e.access ≡ o → has is_failed e ≡ false → torn p (e ∷ past) ≡ torn_after o (torn p past)
  torn_on o acc unfailed = torn-mine p e past refl false unfailed ∙ ap (λ o. torn_after o (torn p past)) acc

  plain_torn : ArePlain e.marks → has is_failed e ≡ false
  plain_torn plain = none_of is_failed no_failure e.marks plain

  torn_by : Happens s past p e d d' → LeftIn s p (remaining s mine) d → EntryBy p e → ((a : Access) → e.access ≡ Some a → IsThere s a) → IsTorn s past p d → IsTorn s (e ∷ past) p d'
  torn_by (a_call command number i none m k) l by there before = subst (IsTorn s (e ∷ past) p) (sym k) (record {
    open_last = marked_last s past e (mark.Called command) none m before.open_last;
    last_open = still_last s past e (opened p (e ∷ past)) (last-none e mine none) (subst (LeftIn s p (remaining s mine)) i l);
    torn_in = torn_on None none (ap (list_any is_failed) m) ∙ subst (TornIn s p (torn p past)) i before.torn_in;
  })
  torn_by (a_withdrawal command number t w ws run i none m k) l by there before = subst (IsTorn s (e ∷ past) p) (sym k) (record {
    open_last = marked_last s past e mark.Withdrew none m before.open_last;
    last_open = still_last s past e (opened p (e ∷ past)) (last-none e mine none) (waits_left (call s p command number) (remaining s mine) t w ws run (subst (LeftIn s p (remaining s mine)) i l));
    torn_in = torn_on None none (ap (list_any is_failed) m) ∙ subst (TornIn s p (torn p past)) i before.torn_in;
  })
  torn_by (a_failure command number may none m k) l by there before = subst (IsTorn s (e ∷ past) p) (sym k) (record {
    open_last = marked_last s past e mark.Failed none m before.open_last;
    last_open = unit_last (opened p (e ∷ past)) (last_write (own p (e ∷ past))) command number (call s p command number) mine (remaining s mine);
    torn_in = subst (λ t. TornIn s p t (Closes command number (failing (call s p command number) mine))) (sym (torn-mine p e past refl true (ap (list_any is_failed) m)))
        (fails_torn s p command number mine (opened p past) (last_write mine) before.open_last (may_cut s p mine (opened p past) d may l before.last_open));
  })
  torn_by (a_restart i none m k) l by there before = subst (IsTorn s (e ∷ past) p) (sym k) (record {
    open_last = marked_last s past e mark.Restarted none m before.open_last;
    last_open = tt;
    torn_in = torn_on None none (ap (list_any is_failed) m) ∙ subst (TornIn s p (torn p past)) i before.torn_in;
  })
  torn_by (a_step command number at a flick i over acc made m k) l by there before =
      let c : Call = call s p command number in
      let x : Access = access_at c at.part at.run in
      let plain : ArePlain e.marks = plain_step c at (value_of a.how) (length (history s past)) e.marks m in
      subst (IsTorn s (e ∷ past) p) (sym k) (record {
        open_last = access_last s past e a acc plain (made_by p e a acc by) (there a acc).reader;
        last_open = runs_last (opened p (e ∷ past)) (last_write (own p (e ∷ past))) command number (place_after c at (value_of a.how))
            (place_last s past e command number at.part at.run a (value_of a.how) acc plain (ap (λ (y : Access). is_of_write y.how) made ∙ is_of_write-ended (read_value (opening_bit s x) (moves_of x past) flick) x.how) (subst (LeftIn s p (remaining s mine)) i l));
        torn_in = runs_none s p (torn p (e ∷ past)) command number (place_after c at (value_of a.how))
            (torn_on (Some a) acc (plain_torn plain) ∙ ap (torn_after (Some a)) (subst (TornIn s p (torn p past)) i before.torn_in) ∙ never_torn (Some a));
      })
  torn_by (a_closing command number at flick n i next acc same m k) l by there before =
      let c : Call = call s p command number in
      let plain : ArePlain e.marks = plain_closing c at flick n next (length (history s past)) e.marks m in
      subst (IsTorn s (e ∷ past) p) (sym k) (record {
        open_last = access_last s past e n.access acc plain (made_by p e n.access acc by) (there n.access acc).reader;
        last_open = closes_last (opened p (e ∷ past)) (last_write (own p (e ∷ past))) command number (closing_after c at flick) (written_last past e n.access acc plain (closing-writes c at flick n next).0);
        torn_in = subst (λ t. TornIn s p t (closes command number (closing_after c at flick))) (sym (torn_on (Some n.access) acc (plain_torn plain)))
            (closing_torn s p command number at flick n (torn p past) next (subst (TornIn s p (torn p past)) i before.torn_in) (there n.access acc).reader);
      })

-- The facts hold in the record of every list of events.
pub torn_is : (s : Setup) → IsGood s → (events : List Event) (p : ℕ) → IsTorn s (past_of s events) p (doing s p (past_of s events))
torn_is s g = own-induction s (λ (past : Past) (p : ℕ). IsTorn s past p (doing s p past)) (λ p. record { open_last = λ b h. cc; last_open = tt; torn_in = refl }) others
    (λ events event e is before.
    let past : Past = past_of s events in
    torn_by s past e (doing s e.process past) (doing s e.process (e ∷ past)) refl (accepted s g events event e is).happens (remaining-is s g events e.process) (entry-by s g events event e is) (access_there s g events event e is) before)
  where
    others : (past : Past) (e : Entry) (p : ℕ) → e.process ≢ p → IsTorn s past p (doing s p past) → IsTorn s (e ∷ past) p (doing s p (e ∷ past))
    others past e p apart before =
        let same_view : process_view s p (e ∷ past) ≡ process_view s p past = process_view-other s p e past (ne_eqb e.process p apart) in
        let open_too : opened p (e ∷ past) ≡ opened p past = ap (λ (k : ProcessView). k.opened) same_view in
        let torn_too : torn p (e ∷ past) ≡ torn p past = ap (λ (k : ProcessView). k.torn) same_view in
        let mine : own p (e ∷ past) ≡ own p past = own-other p e past apart in
        subst (IsTorn s (e ∷ past) p) (sym (doing-other s p e past apart)) (record {
          open_last = subst (λ o. OpenIsLast s p o (last_write (own p (e ∷ past)))) (sym open_too) (subst (λ l. OpenIsLast s p (opened p past) (last_write l)) (sym mine) before.open_last);
          last_open = subst (λ o. LastIsOpenIn o (last_write (own p (e ∷ past))) (doing s p past)) (sym open_too) (subst (λ l. LastIsOpenIn (opened p past) (last_write l) (doing s p past)) (sym mine) before.last_open);
          torn_in = subst (λ t. TornIn s p t (doing s p past)) (sym torn_too) before.torn_in;
        })
