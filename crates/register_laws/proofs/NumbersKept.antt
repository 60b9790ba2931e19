-- In every state of a world each register holds its number.
use Rattle.std.proofs.Common.{◌≡◌, ℕ, ◌/◌, ◌<◌, ◌==◌, ◌&&◌, Bool, true, false, cond, List, [], ◌∷◌, length, Option, None, Some, refl, sym, ap, ◌∙◌, subst, arith}
use Rattle.std.specs.Prelude.{option_map}
use Rattle.model.specs.safe_bit.Cell.{Cell}
use Rattle.model.specs.safe_bit.{is_of_write}
use Rattle.reader_copies.specs.{HasCell, IsPartlyWritten, KeepsWrites, Settling, cut_values, next_settle, next_write, row_after, settle_after, settled_at, with_value}
use Rattle.reader_copies.specs.Runs as copies
use Rattle.reader_copies.proofs.Writing.{partly_written-kept, written-kept}
use Rattle.safe_number.specs.{NumberWrite, new_write}
use Rattle.safe_number.specs.Runs as numbers
use Rattle.model.specs.plain_store.{Command, Setup}
use Rattle.model.specs.{Access, Call, Change, Entry, Event, Field, Part, Past, Reading, TornBit, Writing, access_of, bit_written, cut, enter, entry_of, is_over, is_read, named, next_written, no_ticket, past_of, torn_in, value_written, width, write_moved, written_at}
use Rattle.model.specs.declared.access.Field.TheVariants.{Ticket}
use Rattle.model.proofs.Width.{IsGood}
use Rattle.laws.specs.{Closes, IsThere, Rests, Runs, call, runs}
use Rattle.laws.proofs.FrameCells.{field-same}
use Rattle.laws.proofs.FrameEvents.{accepted}
use Rattle.laws.proofs.HeldThere.{access_there}
use Rattle.registers.specs.{RegisterName}
use Rattle.register_laws.specs.NumbersHeld.{HoldsNumber, InSettling, InWrite, Progress, Quiet, bit_of, is_field, number_after, number_by, progress_in, write_progress}
use Rattle.register_laws.specs.Rows.{made_of}
use Rattle.register_laws.specs.WorldRows.{is_on, memory_at, register_row, row_after_entry, writes_on}
use Rattle.register_laws.proofs.NumberSteps.{Fresh, Goes, cut-between, cut-inside, fresh-holds, settle-then, torn-none, torn-some, torn_after, value-same, write-fresh, write-step, write-then}
use Rattle.register_laws.proofs.RowMoves.{row-length}
use Rattle.register_laws.proofs.WorldChanges.{entry-keeps, on-itself, row-entry, row-has, row-inside}

-- A PROCESS THAT BEGINS SOMETHING

pub new-fresh : (s : Setup) (p : ℕ) (command : Command) (number : ℕ) (c : Call) (part : Part) (f : Field) → c ≡ call s p command number → Fresh (progress_in s p f (Runs command number (enter c part)))
new-fresh s p command number c part f same = go (is_read part)
  where
    its : Call
    its = call s p command number

    go : (b : Bool) → Fresh (progress_in s p f (Runs command number (record { part = part; run = cond b (Reading [] false) (Writing (new_write (width c.setup (written_at c part).0))) })))
    go true = tt
    go false = write-fresh f (written_at its part).0 (written_at its part).1 (width c.setup (written_at c part).0)

pub runs-fresh : (s : Setup) (p : ℕ) (command : Command) (number : ℕ) (part : Part) (f : Field) → Fresh (progress_in s p f (runs command number (enter (call s p command number) part)))
runs-fresh s p command number part f = go (is_over part)
  where
    go : (b : Bool) → Fresh (progress_in s p f (cond b Rests (Runs command number (enter (call s p command number) part))))
    go true = tt
    go false = new-fresh s p command number (call s p command number) part f refl

-- an entry without an access writes nothing
pub no-access : (r : RegisterName) (e : Entry) → e.access ≡ None → writes_on r e ≡ false
no-access r e none = ap (λ x. elim x as (λ _. Bool) [ None ↦ false | Some a ↦ is_of_write a.how && is_on r a ]) none

pub an-access : (r : RegisterName) (e : Entry) (a : Access) → e.access ≡ Some a → writes_on r e ≡ (is_of_write a.how && is_on r a)
an-access r e a acc = ap (λ x. elim x as (λ _. Bool) [ None ↦ false | Some a ↦ is_of_write a.how && is_on r a ]) acc

never : (x y : Bool) → (x && (y && false)) ≡ false
never true true = refl
never true false = refl
never false y = refl

-- AN ENTRY OF THE OWNER

module _ (s : Setup) (g : IsGood s) (events : List Event) (what : Event) (e : Entry) (accepts : entry_of s (past_of s events) what ≡ Some e) (f : Field) where
  abbrev pub past : Past
  past = past_of s events

  abbrev pub its : RegisterName
  its = record { owner = e.process; field = f }

  abbrev pub row : List (List Cell)
  row = register_row s past its

  abbrev pub now : List (List Cell)
  now = register_row s (e ∷ past) its

  abbrev pub old : ℕ → Bool
  old = number_after s its past

  abbrev pub Holds : Progress → Progress → Type 0
  Holds x y = HoldsNumber row old x → HoldsNumber now (number_by s.processes e x old) y

  pub below : e.process < s.processes
  below = (accepted s g events what e accepts).below

  long : length row ≡ s.processes
  long = row-length s.processes (memory_at s past) its

  pub keeps : writes_on its e ≡ false → KeepsWrites row now
  keeps quiet = entry-keeps s g events what e accepts its below quiet

  pub stays-quiet : writes_on its e ≡ false → (x : Progress) → Fresh x → Holds Quiet x
  stays-quiet quiet x fresh h = fresh-holds now old x fresh (written-kept row now old (keeps quiet) h)

  -- the row after an access to the register
  row-made : (a : Access) → e.access ≡ Some a → is_on its a ≡ true → now ≡ row_after row a.bit (made_of a)
  row-made a acc on =
      row-entry s g events what e accepts its below
      ∙ ap (λ x. row_after_entry its (record e { access = x }) row) acc
      ∙ ap (λ b. cond b (row_after row a.bit (made_of a)) row) on

  off-field : (field : Field) (a : Access) → e.access ≡ Some a → a.field ≡ field → is_field field f ≡ false → writes_on its e ≡ false
  off-field field a acc same off =
      an-access its e a acc
      ∙ ap (λ x. is_of_write a.how && ((a.owner == e.process) && is_field x f)) same
      ∙ ap (λ b. is_of_write a.how && ((a.owner == e.process) && b)) off
      ∙ never (is_of_write a.how) (a.owner == e.process)

  -- An access of a write.
  pub own-write : (field : Field) (bits : List Bool) (w : NumberWrite) (a : Access) (x : Progress) → e.access ≡ Some a → a ≡ access_of e.process field (next_written bits w) → Goes s.processes bits w → w.width ≡ width s field →
      (((write_moved s.processes bits w).bit == w.width) ≡ true → Fresh x) →
      (((write_moved s.processes bits w).bit == w.width) ≡ false → x ≡ write_progress f (Some (record { field = field; bits = bits; run = write_moved s.processes bits w }))) →
      Holds (write_progress f (Some (record { field = field; bits = bits; run = w }))) x
  own-write field bits w a x acc same goes wide over on = go (is_field field f) refl
    where
      n : ℕ
      n = s.processes

      moved : NumberWrite
      moved = write_moved n bits w

      next : (b : Bool) → is_field field f ≡ b → (moved.bit == w.width) ≡ false → x ≡ cond b (InWrite bits moved) Quiet
      next b is more = on more ∙ ap (λ k. cond k (InWrite bits moved) Quiet) is

      fresh : is_field field f ≡ false → (b : Bool) → (moved.bit == w.width) ≡ b → Fresh x
      fresh is true last = over last
      fresh is false more = subst Fresh (sym (next false is more)) tt

      go : (b : Bool) → is_field field f ≡ b → Holds (cond b (InWrite bits w) Quiet) x
      go false is h = stays-quiet (off-field field a acc (ap (λ (y : Access). y.field) same) is) x (fresh is (moved.bit == w.width) refl) h
      go true is h =
          let here : field ≡ f = field-same field f is in
          let on-it : is_on its a ≡ true = on-itself its a (ap (λ (y : Access). y.owner) same) (ap (λ (y : Access). y.field) same ∙ here) in
          let after : now ≡ row_after row w.bit (next_write (bit_written bits w)) = row-made a acc on-it ∙ ap (λ (y : Access). row_after row y.bit (made_of y)) same in
          let broad : w.width ≡ width s f = wide ∙ ap (width s) here in
          let in-row : w.bit < width s f = omega (arith, goes.below, broad) in
          let there : HasCell row w.bit ((bit_written bits w).made / 2) = row-has s g past its w.bit ((bit_written bits w).made / 2) below in-row (omega (arith, goes.made)) in
          let step = write-step row old n bits w long there goes h in
          let number : number_by n e (InWrite bits w) old ≡ cond (moved.bit == w.width) (bit_of bits) old =
          ap (λ y. elim y as (λ _. ℕ → Bool) [ Some a ↦ cond (moved.bit == w.width) (bit_of bits) old | None ↦ cut_values old (bit_of bits) w.bit ]) acc in
          subst (λ v. HoldsNumber now v x) (sym number)
          (write-then now old n bits w x (λ bit reader has. omega (arith, broad, (row-inside s g (e ∷ past) its bit reader below has).0))
          (subst (λ m. IsPartlyWritten m old (bit_of bits) moved.bit (bit_written bits moved).made) (sym after) step)
          over (next true is))

  -- An access of a settling.
  pub own-settle : (field : Field) (bit : ℕ) (t : Settling) (flick : Bool) (a : Access) (x : Progress) → e.access ≡ Some a → a ≡ access_of e.process field (bit, next_settle t (settled_at t flick)) →
      (((settle_after t (settled_at t flick)).reader == s.processes) ≡ true → Fresh x) →
      (((settle_after t (settled_at t flick)).reader == s.processes) ≡ false → x ≡ cond (is_field field f) (InSettling bit (settle_after t (settled_at t flick))) Quiet) →
      Holds (cond (is_field field f) (InSettling bit t) Quiet) x
  own-settle field bit t flick a x acc same over on = go (is_field field f) refl
    where
      n : ℕ
      n = s.processes

      v : Bool
      v = settled_at t flick

      last : Bool
      last = (settle_after t v).reader == n

      next : (b : Bool) → is_field field f ≡ b → last ≡ false → x ≡ cond b (InSettling bit (settle_after t v)) Quiet
      next b is more = on more ∙ ap (λ k. cond k (InSettling bit (settle_after t v)) Quiet) is

      fresh : is_field field f ≡ false → (b : Bool) → last ≡ b → Fresh x
      fresh is true ends = over ends
      fresh is false more = subst Fresh (sym (next false is more)) tt

      there : IsThere s (access_of e.process field (bit, next_settle t v))
      there = subst (IsThere s) same (access_there s g events what e accepts a acc)

      go : (b : Bool) → is_field field f ≡ b → Holds (cond b (InSettling bit t) Quiet) x
      go false is h = stays-quiet (off-field field a acc (ap (λ (y : Access). y.field) same) is) x (fresh is last refl) h
      go true is h =
          let here : field ≡ f = field-same field f is in
          let on-it : is_on its a ≡ true = on-itself its a (ap (λ (y : Access). y.owner) same) (ap (λ (y : Access). y.field) same ∙ here) in
          let after : now ≡ row_after row bit (next_settle t v) = row-made a acc on-it ∙ ap (λ (y : Access). row_after row y.bit (made_of y)) same in
          let has : HasCell row bit t.reader = row-has s g past its bit t.reader below (subst (λ k. bit < width s k) here there.bit) there.reader in
          let chosen : settled_at t (value_written e) ≡ v =
          ap (λ y. settled_at t (value_written (record e { access = y }))) acc
          ∙ ap (λ (y : Access). settled_at t (value_written (record e { access = Some y }))) same
          ∙ value-same t.value t.begun (copies.is_open_at t.made t.reader) flick h.1 in
          subst (λ u. HoldsNumber now (cond ((settle_after t u).reader == n) (with_value old bit u) old) x) (sym chosen)
          (subst (λ m. HoldsNumber m (cond last (with_value old bit v) old) x) (sym after)
          (settle-then row old n bit t flick x long has h.0 over (next true is)))

  -- A failure.
  pub own-cut : (command : Command) (number : ℕ) (c : Call) (field : Field) (bits : List Bool) (w : NumberWrite) (begun : Bool) (pending : Option Change) (inside : Bool) → e.access ≡ None →
      ((run : copies.Writing) → w.run ≡ Some run → (0 < run.made) × (run.ended ≡ false)) →
      Holds (write_progress f (Some (record { field = field; bits = bits; run = w }))) (progress_in s e.process f (Closes command number (cut c (torn_in field w) begun pending inside)))
  own-cut command number c field bits w begun pending inside none facts = go w.run refl (is_field field f) refl
    where
      n : ℕ
      n = s.processes

      to : Option TornBit → Progress
      to t = progress_in s e.process f (Closes command number (cut c t begun pending inside))

      frees : Fresh (to None)
      frees = write-fresh f Ticket (no_ticket (call s e.process command number)) c.setup.ticket_bits

      cut-number : number_by n e (InWrite bits w) old ≡ cut_values old (bit_of bits) w.bit
      cut-number = ap (λ y. elim y as (λ _. ℕ → Bool) [ Some a ↦ cond ((write_moved n bits w).bit == w.width) (bit_of bits) old | None ↦ cut_values old (bit_of bits) w.bit ]) none

      go : (o : Option copies.Writing) → w.run ≡ o → (b : Bool) → is_field field f ≡ b → Holds (cond b (InWrite bits w) Quiet) (to (torn_in field w))
      go None is false off h = stays-quiet (no-access its e none) (to (torn_in field w)) (subst (λ t. Fresh (to (option_map (named field) t))) (sym (torn-none w is)) frees) h
      go None is true on h =
          subst (λ v. HoldsNumber now v (to (torn_in field w))) (sym cut-number)
          (fresh-holds now (cut_values old (bit_of bits) w.bit) (to (torn_in field w)) (subst (λ t. Fresh (to (option_map (named field) t))) (sym (torn-none w is)) frees)
          (cut-between now old bits w is (partly_written-kept row now old (bit_of bits) w.bit _ (keeps (no-access its e none)) h)))
      go (Some run) is b on h =
          let fact = facts run is in
          let torn : numbers.torn_bit w ≡ Some (w.bit, torn_after run.made) = torn-some w run is fact.0 fact.1 in
          let after : to (torn_in field w) ≡ cond b (InSettling w.bit (torn_after run.made)) Quiet =
          ap (λ t. to (option_map (named field) t)) torn ∙ ap (λ k. cond k (InSettling w.bit (torn_after run.made)) Quiet) on in
          subst (HoldsNumber now (number_by n e (cond b (InWrite bits w) Quiet) old)) (sym after) (settles b run is h)
        where
          settles : (b : Bool) (run : copies.Writing) → w.run ≡ Some run → HoldsNumber row old (cond b (InWrite bits w) Quiet) → HoldsNumber now (number_by n e (cond b (InWrite bits w) Quiet) old) (cond b (InSettling w.bit (torn_after run.made)) Quiet)
          settles false run is h = stays-quiet (no-access its e none) Quiet tt h
          settles true run is h =
              subst (λ v. HoldsNumber now v (InSettling w.bit (torn_after run.made))) (sym cut-number)
              (cut-inside now old bits w run is (partly_written-kept row now old (bit_of bits) w.bit _ (keeps (no-access its e none)) h))
