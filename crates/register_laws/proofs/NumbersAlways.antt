-- In every state of a world each register holds its number: by what its owner does.
use Rattle.std.proofs.Common.{◌≡◌, ◌≢◌, ℕ, ◌<◌, ◌==◌, ◌&&◌, Bool, true, false, cond, List, [], ◌∷◌, ◌++◌, length, Option, None, Some, refl, sym, ap, ◌∙◌, subst, inl, inr, eq-eqb, ne_eqb}
use Rattle.std.proofs.lemmas.Bool.{cases_eq}
use Rattle.std.specs.Prelude.{option_map}
use Rattle.model.specs.safe_bit.{is_of_write}
use Rattle.model.specs.safe_bit.declared.moves.Move.TheVariants.{BeginRead, EndRead}
use Rattle.reader_copies.specs.{IsAt, Settling, next_settle, settle_after, settled_at}
use Rattle.reader_copies.specs.Runs as copies
use Rattle.safe_number.specs.{NumberWrite, new_write}
use Rattle.safe_number.proofs.Bits.{length-bits_of_number}
use Rattle.model.specs.plain_store.{Command, Reply, Setup}
use Rattle.model.specs.{Access, Call, Closing, Ended, Entry, Event, Field, Frees, Next, Part, Past, Place, Quit, Reading, Run, Settles, Withdraws, Writing, access_at, access_of, bit_written, added, call_number, closing_after, closing_next, ended, enter, entry_made, entry_of, freeing, is_last, is_last_settled, is_over, is_read, last_command, next_written, no_ticket, own, part_after, refused_at, stage, past-induction, past_of, place_after, process_of, run_after, start_in, valued, value_of, width, write_moved, written_at}
use Rattle.model.specs.Closings.{Lowers}
use Rattle.model.specs.Parts.{Raises, Waits}
use Rattle.model.specs.declared.access.Field.TheVariants.{Choosing, Ticket}
use Rattle.model.specs.declared.events.Event.TheVariants as event
use Rattle.model.specs.declared.marks.Mark.TheVariants as mark
use Rattle.model.specs.declared.marks.Mark.TheVariants.{Failed}
use Rattle.model.proofs.World.{entry-accepted}
use Rattle.model.proofs.Ties.{written-width}
use Rattle.model.proofs.Width.{IsGood}
use Rattle.laws.specs.{Closes, Doing, Lies, RegisterWrite, Rests, Runs, call, closes, cut_of, does_after, doing, register_write, runs}
use Rattle.laws.proofs.ClosingWrites.{written_so_far}
use Rattle.laws.proofs.Cuts.{cut_is}
use Rattle.laws.proofs.Frame.{Happens, a_call, a_closing, a_failure, a_restart, a_step, a_withdrawal, doing-goes, doing-other, may_fail}
use Rattle.laws.proofs.FrameCells.{EntryBy, makes, marks_only}
use Rattle.laws.proofs.FrameCuts.{LeftIn, remaining, written-writes}
use Rattle.laws.proofs.FrameEvents.{accepted}
use Rattle.laws.proofs.FrameSteps.{entry-by, remaining-is, valued-write}
use Rattle.registers.specs.{RegisterName}
use Rattle.register_laws.specs.NumbersHeld.{HoldsNumber, InSettling, Progress, Quiet, is_field, number_after, number_by, progress_at, progress_in, write_progress}
use Rattle.register_laws.specs.WorldRows.{is_on, register_row, writes_on}
use Rattle.register_laws.proofs.NumberSteps.{Fresh, Goes, holds-kept, write-fresh}
use Rattle.register_laws.proofs.WorldChanges.{entry-keeps, on-register, row-held, row-inside}
use Rattle.register_laws.proofs.NumbersKept as kept
use Rattle.register_laws.proofs.NumbersKept.{an-access, new-fresh, no-access, runs-fresh}

pub access-is : {x y : Next} → Some x ≡ Some y → x.access ≡ y.access
access-is {x} {y} h = let same : x ≡ y = cc in ap (λ (n : Next). n.access) same

-- an entry with this mark is a failure, and the process may fail
some-entry : {x y : Entry} → Some x ≡ Some y → x ≡ y
some-entry h = cc

made-access : (s : Setup) (past : Past) (p : ℕ) (flick : Bool) (e : Entry) (next : Option Next) → option_map (entry_made s past p flick) next ≡ Some e → e.access ≡ None → ⊥
made-access s past p flick e None is none = cc
made-access s past p flick e (Some n) is none = let f : Some (valued s past flick n.access) ≡ None = ap (λ (x : Entry). x.access) (some-entry is) ∙ none in cc

fail-only : (s : Setup) (past : Past) (what : Event) (e : Entry) → added s past what ≡ Some e → refused_at what (stage (process_of what) past) ≡ None → e.marks ≡ Failed ∷ [] → e.access ≡ None →
    refused_at (event.Fail e.process) (stage e.process past) ≡ None
fail-only s past (event.Call p c) e is may marks none = absurd (let f : mark.Called c ∷ [] ≡ Failed ∷ [] = ap (λ (x : Entry). x.marks) (some-entry is) ∙ marks in cc)
fail-only s past (event.Step p flick) e is may marks none = absurd (made-access s past p flick e _ is none)
fail-only s past (event.Fail p) e is may marks none = subst (λ q. refused_at (event.Fail q) (stage q past) ≡ None) (ap (λ (x : Entry). x.process) (some-entry is)) may
fail-only s past (event.Withdraw p) e is may marks none = absurd (let f : mark.Withdrew ∷ [] ≡ Failed ∷ [] = ap (λ (x : Entry). x.marks) (some-entry is) ∙ marks in cc)
fail-only s past (event.Restart p) e is may marks none = absurd (let f : mark.Restarted ∷ [] ≡ Failed ∷ [] = ap (λ (x : Entry). x.marks) (some-entry is) ∙ marks in cc)

pub may-fail : (s : Setup) (events : List Event) (what : Event) (e : Entry) → entry_of s (past_of s events) what ≡ Some e → e.marks ≡ Failed ∷ [] → e.access ≡ None → refused_at (event.Fail e.process) (stage e.process (past_of s events)) ≡ None
may-fail s events what e accepts marks none = let acc = entry-accepted s (past_of s events) what e accepts in fail-only s (past_of s events) what e acc.2 acc.1 marks none

module _ (s : Setup) (g : IsGood s) (events : List Event) (what : Event) (e : Entry) (accepts : entry_of s (past_of s events) what ≡ Some e) (f : Field) where
  abbrev past : Past
  past = past_of s events

  abbrev its : RegisterName
  its = record { owner = e.process; field = f }

  abbrev Holds : Progress → Progress → Type 0
  Holds x y = kept.Holds s g events what e accepts f x y

  stays-quiet : writes_on its e ≡ false → (x : Progress) → Fresh x → Holds Quiet x
  stays-quiet = kept.stays-quiet s g events what e accepts f

  abbrev OfDoings : Doing → Doing → Type 0
  OfDoings d then = Holds (progress_in s e.process f d) (progress_in s e.process f then)

  -- the facts of a write of the owner
  pub write-goes : (w : RegisterWrite) → register_write s e.process (doing s e.process past) ≡ Some w → Goes s.processes w.bits w.run
  write-goes w h = let so = written_so_far s g events e.process w h in record { below = so.below; made = so.made; value = so.value }

  -- its length
  pub write-wide : (w : RegisterWrite) → register_write s e.process (doing s e.process past) ≡ Some w → length w.bits ≡ width s w.field → w.run.width ≡ width s w.field
  write-wide w h wide = (written_so_far s g events e.process w h).width_is ∙ wide

  -- its present bit, once it has begun
  pub write-facts : (field : Field) (bits : List Bool) (w : NumberWrite) → register_write s e.process (doing s e.process past) ≡ Some (record { field = field; bits = bits; run = w }) → ((run : copies.Writing) → w.run ≡ Some run → 0 < run.made) →
      (run : copies.Writing) → w.run ≡ Some run → (0 < run.made) × (run.ended ≡ false)
  write-facts field bits w h begun run is =
      let so = written_so_far s g events e.process (record { field = field; bits = bits; run = w }) h in
      (begun run is, sym (ap (λ (o : Option copies.Writing). let y : copies.Writing = bit_written bits (record w { run = o }) in y.ended) is) ∙ so.going)

  pub left : LeftIn s e.process (remaining s (own e.process past)) (doing s e.process past)
  left = remaining-is s g events e.process

  -- a step at a part that reads
  own-read : (command : Command) (number : ℕ) (part : Part) (bits : List Bool) (begun : Bool) (a : Access) (flick : Bool) → is_over part ≡ false → e.access ≡ Some a →
      a ≡ valued s past flick (access_at (call s e.process command number) part (Reading bits begun)) →
      OfDoings (Runs command number (record { part = part; run = Reading bits begun })) (runs command number (place_after (call s e.process command number) (record { part = part; run = Reading bits begun }) (value_of a.how)))
  own-read command number part bits begun a flick going acc is h = stays-quiet quiet (progress_in s e.process f (runs command number (to last))) (fresh last) h
    where
      c : Call
      c = call s e.process command number

      v : Bool
      v = value_of a.how

      to : Bool → Place
      to b = cond b (enter c (part_after c part (cond begun (bits ++ v ∷ []) bits))) (record { part = part; run = run_after c part (Reading bits begun) v })

      last : Bool
      last = is_last c part (Reading bits begun)

      reads : (b u : Bool) → is_of_write (ended u (cond b (EndRead false) BeginRead)) ≡ false
      reads true u = refl
      reads false u = refl

      quiet : writes_on its e ≡ false
      quiet = an-access its e a acc ∙ ap (λ (y : Access). is_of_write y.how && is_on its a) is ∙ ap (λ b. b && is_on its a) (reads begun _)

      fresh : (b : Bool) → Fresh (progress_in s e.process f (runs command number (to b)))
      fresh true = runs-fresh s e.process command number (part_after c part (cond begun (bits ++ v ∷ []) bits)) f
      fresh false = subst (λ k. Fresh (progress_in s e.process f (cond k Rests (Runs command number (to false))))) (sym going) tt

  -- a step at a part that writes
  own-part : (command : Command) (number : ℕ) (part : Part) (w : NumberWrite) (a : Access) (flick : Bool) → doing s e.process past ≡ Runs command number (record { part = part; run = Writing w }) → is_over part ≡ false → e.access ≡ Some a →
      a ≡ valued s past flick (access_at (call s e.process command number) part (Writing w)) →
      OfDoings (Runs command number (record { part = part; run = Writing w })) (runs command number (place_after (call s e.process command number) (record { part = part; run = Writing w }) (value_of a.how)))
  own-part command number part w a flick does going acc is =
      kept.own-write s g events what e accepts f field bits w a (progress_in s e.process f (runs command number (to last))) acc same (write-goes rw writes) (write-wide rw writes (sym (written-width c part not-read going))) (over last) (on last)
    where
      c : Call
      c = call s e.process command number

      field : Field
      field = (written_at c part).0

      bits : List Bool
      bits = (written_at c part).1

      rw : RegisterWrite
      rw = record { field = field; bits = bits; run = w }

      writes : register_write s e.process (doing s e.process past) ≡ Some rw
      writes = ap (register_write s e.process) does

      not-read : is_read part ≡ false
      not-read = (subst (LeftIn s e.process (remaining s (own e.process past))) does left).0

      same : a ≡ access_of e.process field (next_written bits w)
      same = is ∙ valued-write s past flick (access_at c part (Writing w)) (written-writes e.process field bits w)

      to : Bool → Place
      to b = cond b (enter c (part_after c part [])) (record { part = part; run = run_after c part (Writing w) (value_of a.how) })

      last : Bool
      last = is_last c part (Writing w)

      over : (b : Bool) → b ≡ true → Fresh (progress_in s e.process f (runs command number (to b)))
      over true h = runs-fresh s e.process command number (part_after c part []) f
      over false h = absurd (let x : false ≡ true = h in cc)

      on : (b : Bool) → b ≡ false → progress_in s e.process f (runs command number (to b)) ≡ write_progress f (Some (record { field = field; bits = bits; run = write_moved s.processes bits w }))
      on true h = absurd (let x : true ≡ false = h in cc)
      on false h = ap (λ k. progress_in s e.process f (cond k Rests (Runs command number (to false)))) going

  -- a step of a write of a withdrawal or of a memory unit, which is then done, or continues
  own-closed : (command : Command) (number : ℕ) (field : Field) (bits : List Bool) (w : NumberWrite) (a : Access) (done on : Closing) → register_write s e.process (doing s e.process past) ≡ Some (record { field = field; bits = bits; run = w }) →
      length bits ≡ width s field → e.access ≡ Some a → access_of e.process field (next_written bits w) ≡ a → Fresh (progress_in s e.process f (closes command number done)) →
      progress_in s e.process f (closes command number on) ≡ write_progress f (Some (record { field = field; bits = bits; run = write_moved s.processes bits w })) →
      Holds (write_progress f (Some (record { field = field; bits = bits; run = w }))) (progress_in s e.process f (closes command number (cond ((write_moved s.processes bits w).bit == w.width) done on)))
  own-closed command number field bits w a done on writes wide acc same fresh more =
      kept.own-write s g events what e accepts f field bits w a (progress_in s e.process f (closes command number (to last))) acc (sym same) (write-goes rw writes) (write-wide rw writes wide) (over last) (not-yet last)
    where
      rw : RegisterWrite
      rw = record { field = field; bits = bits; run = w }

      to : Bool → Closing
      to b = cond b done on

      last : Bool
      last = (write_moved s.processes bits w).bit == w.width

      over : (b : Bool) → b ≡ true → Fresh (progress_in s e.process f (closes command number (to b)))
      over true h = fresh
      over false h = absurd (let x : false ≡ true = h in cc)

      not-yet : (b : Bool) → b ≡ false → progress_in s e.process f (closes command number (to b)) ≡ write_progress f (Some (record { field = field; bits = bits; run = write_moved s.processes bits w }))
      not-yet true h = absurd (let x : true ≡ false = h in cc)
      not-yet false h = more

  -- a step of a settling
  own-settled : (command : Command) (number : ℕ) (field : Field) (bit : ℕ) (begun : Bool) (taken : Option Reply) (inside : Bool) (t : Settling) (flick : Bool) (a : Access) → e.access ≡ Some a → access_of e.process field (bit, next_settle t (settled_at t flick)) ≡ a →
      OfDoings (Closes command number (Settles field bit begun taken inside t)) (closes command number (closing_after (call s e.process command number) (Settles field bit begun taken inside t) flick))
  own-settled command number field bit begun taken inside t flick a acc same = kept.own-settle s g events what e accepts f field bit t flick a (progress_in s e.process f (closes command number (to last))) acc (sym same) (over last) (not-yet last)
    where
      c : Call
      c = call s e.process command number

      to : Bool → Closing
      to b = cond b (freeing c inside) (Settles field bit begun taken inside (settle_after t (settled_at t flick)))

      last : Bool
      last = is_last_settled c t (settled_at t flick)

      over : (b : Bool) → b ≡ true → Fresh (progress_in s e.process f (closes command number (to b)))
      over true h = write-fresh f Ticket (no_ticket c) s.ticket_bits
      over false h = absurd (let x : false ≡ true = h in cc)

      not-yet : (b : Bool) → b ≡ false → progress_in s e.process f (closes command number (to b)) ≡ cond (is_field field f) (InSettling bit (settle_after t (settled_at t flick))) Quiet
      not-yet true h = absurd (let x : true ≡ false = h in cc)
      not-yet false h = refl

  own-closing : (command : Command) (number : ℕ) (at : Closing) (flick : Bool) (n : Next) → doing s e.process past ≡ Closes command number at → closing_next (call s e.process command number) at flick ≡ Some n → e.access ≡ Some n.access →
      OfDoings (Closes command number at) (closes command number (closing_after (call s e.process command number) at flick))
  own-closing command number (Withdraws w) flick n does next acc =
      own-closed command number Ticket (no_ticket (call s e.process command number)) w n.access Quit (Withdraws _) (ap (register_write s e.process) does) (length-bits_of_number s.ticket_bits 0) acc (access-is next) tt refl
  own-closing command number (Frees inside w) flick n does next acc =
      own-closed command number Ticket (no_ticket (call s e.process command number)) w n.access (Lowers (new_write 1)) (Frees inside _) (ap (register_write s e.process) does) (length-bits_of_number s.ticket_bits 0) acc (access-is next)
      (write-fresh f Choosing (false ∷ []) 1) refl
  own-closing command number (Lowers w) flick n does next acc = own-closed command number Choosing (false ∷ []) w n.access Ended (Lowers _) (ap (register_write s e.process) does) refl acc (access-is next) tt refl
  own-closing command number (Settles field bit begun taken inside t) flick n does next acc = own-settled command number field bit begun taken inside t flick n.access acc (access-is next)
  own-closing command number Quit flick n does next acc = absurd (cc)
  own-closing command number Ended flick n does next acc = absurd (cc)

  -- a failure at what the owner was doing
  own-fails : (d : Doing) (command : Command) (number : ℕ) → doing s e.process past ≡ d → may_fail d ≡ true → e.access ≡ None → OfDoings d (Closes command number (cut_of s e.process d))
  own-fails Rests command number does may none = stays-quiet (no-access its e none) _ (write-fresh f Ticket (no_ticket (call s e.process command number)) s.ticket_bits)
  own-fails Lies command number does may none = stays-quiet (no-access its e none) _ (write-fresh f Ticket (no_ticket (call s e.process command number)) s.ticket_bits)
  own-fails (Runs called k at) command number does may none = go at.run refl
    where
      c : Call
      c = call s e.process called k

      place : Run → Place
      place run = record { part = at.part; run = run }

      go : (run : Run) → at.run ≡ run → OfDoings (Runs called k (place at.run)) (Closes command number (cut_of s e.process (Runs called k (place at.run))))
      go (Reading bits begun) is =
          subst (λ run. OfDoings (Runs called k (place run)) (Closes command number (cut_of s e.process (Runs called k (place run))))) (sym is)
          (stays-quiet (no-access its e none) _ (write-fresh f Ticket (no_ticket (call s e.process command number)) s.ticket_bits))
      go (Writing w) is =
          let there : doing s e.process past ≡ Runs called k (place (Writing w)) = does ∙ ap (λ run. Runs called k (place run)) is in
          let on = (subst (LeftIn s e.process (remaining s (own e.process past))) there left).1 in
          subst (λ run. OfDoings (Runs called k (place run)) (Closes command number (cut_of s e.process (Runs called k (place run))))) (sym is)
          (kept.own-cut s g events what e accepts f command number c (written_at c at.part).0 (written_at c at.part).1 w _ _ _ none (write-facts (written_at c at.part).0 (written_at c at.part).1 w (ap (register_write s e.process) there) on.begun))
  own-fails (Closes called k (Withdraws w)) command number does may none =
      let c : Call = call s e.process called k in
      let on = (subst (LeftIn s e.process (remaining s (own e.process past))) does left).0 in
      kept.own-cut s g events what e accepts f command number c Ticket (no_ticket c) w _ _ _ none (write-facts Ticket (no_ticket c) w (ap (register_write s e.process) does) on.begun)
  own-fails (Closes called k (Settles field bit begun taken inside t)) command number does may none = absurd (let x : false ≡ true = may in cc)
  own-fails (Closes called k (Frees inside w)) command number does may none = absurd (let x : false ≡ true = may in cc)
  own-fails (Closes called k (Lowers w)) command number does may none = absurd (let x : false ≡ true = may in cc)
  own-fails (Closes called k Quit) command number does may none = absurd (let x : false ≡ true = may in cc)
  own-fails (Closes called k Ended) command number does may none = absurd (let x : false ≡ true = may in cc)

  -- EACH ENTRY OF THE OWNER

  joined : (d then : Doing) → doing s e.process past ≡ d → doing s e.process (e ∷ past) ≡ then → OfDoings d then → OfDoings (doing s e.process past) (doing s e.process (e ∷ past))
  joined d then does after h = subst (λ x. OfDoings x (doing s e.process (e ∷ past))) (sym does) (subst (OfDoings d) (sym after) h)

  own-step : (d then : Doing) → Happens s past e.process e d then → doing s e.process past ≡ d → doing s e.process (e ∷ past) ≡ then → OfDoings (doing s e.process past) (doing s e.process (e ∷ past))
  own-step d then (a_call command number was none marks goes) does after =
      joined Rests (Runs command number (enter (call s e.process command number) Raises)) (does ∙ was) (after ∙ goes)
      (stays-quiet (no-access its e none) _ (new-fresh s e.process command number (call s e.process command number) Raises f refl))
  own-step d then (a_withdrawal command number t w ws run was none marks goes) does after =
      joined (Runs command number (record { part = Waits t w ws; run = run })) _ (does ∙ was) (after ∙ goes) (waits run (subst (LeftIn s e.process (remaining s (own e.process past))) (does ∙ was) left))
    where
      waits : (run : Run) → LeftIn s e.process (remaining s (own e.process past)) (Runs command number (record { part = Waits t w ws; run = run })) →
          OfDoings (Runs command number (record { part = Waits t w ws; run = run })) (Closes command number (Withdraws (new_write s.ticket_bits)))
      waits (Writing x) l = absurd (let y : true ≡ false = l.0 in cc)
      waits (Reading bits begun) l = stays-quiet (no-access its e none) _ (write-fresh f Ticket (no_ticket (call s e.process command number)) s.ticket_bits)
  own-step d then (a_failure command number may none marks goes) does after =
      joined d _ does
      (doing-goes s e.process e past refl
      ∙ ap (λ ms. does_after s e.process (own e.process past) e (start_in ms) (doing s e.process past)) marks
      ∙ ap (Closes (last_command (own e.process past)) (call_number s (own e.process past))) (cut_is s g events e.process (may-fail s events what e accepts marks none) ∙ ap (cut_of s e.process) does))
      (own-fails d (last_command (own e.process past)) (call_number s (own e.process past)) does may none)
  own-step d then (a_restart was none marks goes) does after = joined Lies Rests (does ∙ was) (after ∙ goes) (stays-quiet (no-access its e none) Quiet tt)
  own-step d then (a_step command number at a flick was over acc is marks goes) does after =
      joined (Runs command number at) _ (does ∙ was) (after ∙ goes) (by at.run refl)
    where
      place : Run → Place
      place run = record { part = at.part; run = run }

      OfRun : Run → Type 0
      OfRun run = OfDoings (Runs command number (place run)) (runs command number (place_after (call s e.process command number) (place run) (value_of a.how)))

      by : (run : Run) → at.run ≡ run → OfRun at.run
      by (Reading bits begun) same = subst OfRun (sym same) (own-read command number at.part bits begun a flick over acc (is ∙ ap (λ run. valued s past flick (access_at (call s e.process command number) at.part run)) same))
      by (Writing w) same =
          subst OfRun (sym same)
          (own-part command number at.part w a flick (does ∙ was ∙ ap (λ run. Runs command number (place run)) same) over acc (is ∙ ap (λ run. valued s past flick (access_at (call s e.process command number) at.part run)) same))
  own-step d then (a_closing command number at flick n was next acc same marks goes) does after =
      joined (Closes command number at) _ (does ∙ was) (after ∙ goes) (own-closing command number at flick n (does ∙ was) next acc)

  own-holds : OfDoings (doing s e.process past) (doing s e.process (e ∷ past))
  own-holds = own-step (doing s e.process past) (doing s e.process (e ∷ past)) (accepted s g events what e accepts).happens refl refl

-- EVERY ENTRY

-- an entry of another process does not write the register
others-write : (r : RegisterName) (e : Entry) → EntryBy e.process e → e.process ≢ r.owner → writes_on r e ≡ false
others-write r e (marks_only none) apart = no-access r e none
others-write r e (makes x acc by) apart = an-access r e x acc ∙ go (is_of_write x.how) refl (is_on r x) refl
  where
    go : (w : Bool) → is_of_write x.how ≡ w → (b : Bool) → is_on r x ≡ b → (w && b) ≡ false
    go false i b j = refl
    go true i false j = refl
    go true i true j = absurd (apart (sym (by.writes i) ∙ (on-register r x j).0))

abbrev pub Each : Setup → Past → Type 0
Each s past = IsGood s → (r : RegisterName) → r.owner < s.processes → HoldsNumber (register_row s past r) (number_after s r past) (progress_at s past r)

opens : (s : Setup) → Each s []
opens s g r owner = record {
  copies = λ bit reader has.
      let inside = row-inside s g [] r bit reader owner has in
      subst (λ c. IsAt c (number_after s r [] bit)) (sym (row-held s [] r bit reader owner inside.0 inside.1)) (record { closed = refl; value = refl });
}

more : (s : Setup) (events : List Event) (what : Event) (e : Entry) → entry_of s (past_of s events) what ≡ Some e → Each s (past_of s events) → Each s (e ∷ past_of s events)
more s events what e accepts was g r owner = elim (cases_eq e.process r.owner) [
  | inl same ↦
      let its : RegisterName = record { owner = e.process; field = r.field } in
      let here : its ≡ r = λ i. record { owner = same i; field = r.field } in
      subst (λ q. HoldsNumber (register_row s (e ∷ past_of s events) q) (number_after s q (e ∷ past_of s events)) (progress_at s (e ∷ past_of s events) q)) here
      (subst (λ v. HoldsNumber (register_row s (e ∷ past_of s events) its) v (progress_at s (e ∷ past_of s events) its)) (sym (own-number its (eq-eqb e.process e.process refl)))
      (own-holds s g events what e accepts r.field (was g its (accepted s g events what e accepts).below)))
  | inr apart ↦
      let past : Past = past_of s events in
      subst (λ v. HoldsNumber (register_row s (e ∷ past) r) v (progress_at s (e ∷ past) r)) (sym (ap (λ b. cond b (number_by s.processes e (progress_at s past r) (number_after s r past)) (number_after s r past)) (ne_eqb e.process r.owner apart)))
      (subst (λ d. HoldsNumber (register_row s (e ∷ past) r) (number_after s r past) (progress_in s r.owner r.field d)) (sym (doing-other s r.owner e past apart))
      (holds-kept (register_row s past r) (register_row s (e ∷ past) r) (number_after s r past) (progress_at s past r)
      (entry-keeps s g events what e accepts r owner (others-write r e (entry-by s g events what e accepts) apart)) (was g r owner)))
]
  where
    own-number : (q : RegisterName) → (e.process == q.owner) ≡ true → number_after s q (e ∷ past_of s events) ≡ number_by s.processes e (progress_at s (past_of s events) q) (number_after s q (past_of s events))
    own-number q is = ap (λ b. cond b (number_by s.processes e (progress_at s (past_of s events) q) (number_after s q (past_of s events))) (number_after s q (past_of s events))) is

pub numbers-held : (s : Setup) (events : List Event) → Each s (past_of s events)
numbers-held s = past-induction Each s (opens s) (more s)
