-- An interrupted write that is settled: the write before the last failure, the torn bit, and the row at the end.
use Rattle.std.proofs.Common.{◌≡◌, ℕ, ◌<◌, ◌==◌, ◌&&◌, Bool, true, false, cond, List, [], ◌∷◌, length, map, Option, None, Some, refl, sym, ap, ◌∙◌, subst, inl, inr, eq-eqb, ne_eqb}
use Rattle.std.proofs.lemmas.Bool.{cases_eq}
use Rattle.std.specs.Prelude.{option_map}
use Rattle.std.specs.List.{list_any}
use Rattle.reader_copies.specs.{Settling, cut_values, settle_after, settled_at, with_value}
use Rattle.reader_copies.specs.Runs as copies
use Rattle.safe_number.specs.{NumberWrite, new_write}
use Rattle.model.specs.plain_store.{Command, Reply, Setup}
use Rattle.model.specs.{Access, Call, Change, Closing, Ended, Entry, Event, Field, Frees, Next, Past, Place, Quit, Reading, Run, Settles, TornBit, Withdraws, Writing, call_number, closing_after, closing_next, cut, enter, entry_of, freeing, has, history, is_failed, is_last_settled, is_last_written, is_over, last_command, named, no_ticket, own, past-induction, past_of, place_after, placed, start_in, torn_in, value_of, value_written, write_moved, written_at}
use Rattle.model.specs.Closings.{Lowers, settled_marks}
use Rattle.model.specs.Parts.{Raises}
use Rattle.model.specs.declared.access.Field.TheVariants.{Choosing, Ticket}
use Rattle.model.proofs.Width.{IsGood}
use Rattle.laws.specs.{Closes, Doing, Lies, RegisterWrite, Rests, Runs, call, closes, cut_of, does_after, doing, register_write}
use Rattle.laws.proofs.Cuts.{cut_is}
use Rattle.laws.proofs.Frame.{Happens, a_call, a_closing, a_failure, a_restart, a_step, a_withdrawal, doing-goes, doing-other, may_fail}
use Rattle.laws.proofs.FrameCuts.{LeftIn, remaining}
use Rattle.laws.proofs.FrameEvents.{accepted}
use Rattle.registers.specs.{RegisterName}
use Rattle.register_laws.specs.NumbersHeld.{HoldsNumber, InSettling, InWrite, Progress, Quiet, bit_of, is_field, number_after, number_by, number_written, progress_at, progress_in, write_progress}
use Rattle.register_laws.specs.RegisterLaws.{WasInterrupted, before_failure}
use Rattle.register_laws.specs.WorldRows.{register_row}
use Rattle.register_laws.proofs.NumberSteps.{torn-none, torn-some, torn_after, value-same}
use Rattle.register_laws.proofs.NumbersAlways.{access-is, left, may-fail, numbers-held, write-facts}

-- NO SETTLING

pub write-not : (f : Field) (o : Option RegisterWrite) (bit : ℕ) (t : Settling) → write_progress f o ≡ InSettling bit t → ⊥
write-not f None bit t h = cc
write-not f (Some w) bit t h = go (is_field w.field f) h
  where
    go : (b : Bool) → cond b (InWrite w.bits w.run) Quiet ≡ InSettling bit t → ⊥
    go true h = cc
    go false h = cc

-- the write with which a memory unit begins, if no bit is torn
abbrev clears : Setup → ℕ → Command → ℕ → Option RegisterWrite
clears s p command number = Some (record { field = Ticket; bits = no_ticket (call s p command number); run = new_write s.ticket_bits })

runs-not : (s : Setup) (p : ℕ) (f : Field) (command : Command) (number : ℕ) (over : Bool) (at : Place) (bit : ℕ) (t : Settling) → progress_in s p f (cond over Rests (Runs command number at)) ≡ InSettling bit t → ⊥
runs-not s p f command number true at bit t h = cc
runs-not s p f command number false at bit t h = write-not f (register_write s p (Runs command number at)) bit t h

-- this bit is settled, of this field
pub some-bit : (b : Bool) (bit at : ℕ) (t u : Settling) → cond b (InSettling bit t) Quiet ≡ InSettling at u → (b ≡ true) × (bit ≡ at) × (t ≡ u)
some-bit true bit at t u h = (refl, (cc), (cc))
some-bit false bit at t u h = absurd (cc)

-- WHAT A FAILURE LEAVES

-- a torn bit was being written
cut-torn : (s : Setup) (p : ℕ) (f : Field) (command : Command) (number : ℕ) (c : Call) (field : Field) (w : NumberWrite) (begun : Bool) (pending : Option Change) (inside : Bool) (bit : ℕ) (t : Settling) →
    ((run : copies.Writing) → w.run ≡ Some run → (0 < run.made) × (run.ended ≡ false)) →
    progress_in s p f (Closes command number (cut c (torn_in field w) begun pending inside)) ≡ InSettling bit t → (is_field field f ≡ true) × (w.bit ≡ bit)
cut-torn s p f command number c field w begun pending inside bit t facts h = go w.run refl
  where
    to : Option TornBit → Progress
    to t = progress_in s p f (Closes command number (cut c t begun pending inside))

    go : (o : Option copies.Writing) → w.run ≡ o → (is_field field f ≡ true) × (w.bit ≡ bit)
    go None is = absurd (write-not f (Some (record { field = Ticket; bits = no_ticket (call s p command number); run = new_write c.setup.ticket_bits })) bit t (ap (λ x. to (option_map (named field) x)) (sym (torn-none w is)) ∙ h))
    go (Some run) is =
        let fact = facts run is in
        let its = some-bit (is_field field f) w.bit bit (torn_after run.made) t (ap (λ x. to (option_map (named field) x)) (sym (torn-some w run is fact.0 fact.1)) ∙ h) in
        (its.0, its.1)

-- THE WRITE BEFORE THE FAILURE

abbrev pub WasTorn : Setup → Past → RegisterName → ℕ → Type 0
WasTorn s past r bit =
    let failed : Past = before_failure r.owner past in
    (new : List Bool) × WasInterrupted s failed r bit new × (number_after s r past ≡ cut_values (number_after s r failed) (bit_of new) bit)

abbrev pub EachTorn : Setup → Past → Type 0
EachTorn s past = IsGood s → (r : RegisterName) → r.owner < s.processes → (bit : ℕ) (t : Settling) → progress_at s past r ≡ InSettling bit t → WasTorn s past r bit

-- the facts stay, if the last failure and the number do
torn-stays : (s : Setup) (past now : Past) (r : RegisterName) (bit : ℕ) → before_failure r.owner now ≡ before_failure r.owner past → number_after s r now ≡ number_after s r past → WasTorn s past r bit → WasTorn s now r bit
torn-stays s past now r bit failed number h =
    (h.0, subst (λ x. WasInterrupted s x r bit h.0) (sym failed) h.1, number ∙ h.2 ∙ ap (λ x. cut_values (number_after s r x) (bit_of h.0) bit) (sym failed))

module _ (s : Setup) (g : IsGood s) (events : List Event) (what : Event) (e : Entry) (accepts : entry_of s (past_of s events) what ≡ Some e) (f : Field) where
  abbrev past : Past
  past = past_of s events

  abbrev p : ℕ
  p = e.process

  abbrev its : RegisterName
  its = record { owner = e.process; field = f }

  below : p < s.processes
  below = (accepted s g events what e accepts).below

  pub own-number : (x : Progress) → progress_at s past its ≡ x → number_after s its (e ∷ past) ≡ number_by s.processes e x (number_after s its past)
  own-number x is =
      ap (λ b. cond b (number_by s.processes e (progress_at s past its) (number_after s its past)) (number_after s its past)) (eq-eqb e.process e.process refl)
      ∙ ap (λ y. number_by s.processes e y (number_after s its past)) is

  -- the last failure of the owner is this entry, or an earlier one
  fails-now : has is_failed e ≡ true → before_failure p (e ∷ past) ≡ past
  fails-now is = λ i. cond (eq-eqb p p refl i && is i) past (before_failure p past)

  failed-before : has is_failed e ≡ false → before_failure p (e ∷ past) ≡ before_failure p past
  failed-before is = λ i. cond (eq-eqb p p refl i && is i) past (before_failure p past)

  -- A failure tears a bit of the write that the owner makes.
  tears : (field : Field) (bits : List Bool) (w : NumberWrite) (bit : ℕ) → progress_at s past its ≡ write_progress f (Some (record { field = field; bits = bits; run = w })) → is_field field f ≡ true → w.bit ≡ bit → has is_failed e ≡ true → e.access ≡ None →
      WasTorn s (e ∷ past) its bit
  tears field bits w bit was on torn failed none =
      let progress : progress_at s past its ≡ InWrite bits w = was ∙ ap (λ b. cond b (InWrite bits w) Quiet) on in
      let old : ℕ → Bool = number_after s its past in
      let interrupted : WasInterrupted s past its bit bits = record { write = w; progress = progress; torn = torn } in
      let now : before_failure p (e ∷ past) ≡ past = fails-now failed in
      let number : number_after s its (e ∷ past) ≡ cut_values old (bit_of bits) bit =
      own-number (InWrite bits w) progress
      ∙ ap (λ y. number_written s.processes (record e { access = y }) bits w old) none
      ∙ ap (cut_values old (bit_of bits)) torn in
      (bits, subst (λ x. WasInterrupted s x its bit bits) (sym now) interrupted, number ∙ ap (λ x. cut_values (number_after s its x) (bit_of bits) bit) (sym now))

  fails : (d : Doing) (command : Command) (number bit : ℕ) (t : Settling) → doing s p past ≡ d → may_fail d ≡ true → e.access ≡ None → has is_failed e ≡ true → progress_in s p f (Closes command number (cut_of s p d)) ≡ InSettling bit t → WasTorn s (e ∷ past) its bit
  fails Rests command number bit t does may none failed h = absurd (write-not f (clears s p command number) bit t h)
  fails Lies command number bit t does may none failed h = absurd (write-not f (clears s p command number) bit t h)
  fails (Runs called k at) command number bit t does may none failed h = by at.run refl
    where
      c : Call
      c = call s p called k

      place : Run → Place
      place run = record { part = at.part; run = run }

      by : (run : Run) → at.run ≡ run → WasTorn s (e ∷ past) its bit
      by (Reading bits begun) is = absurd (write-not f (clears s p command number) bit t (ap (λ run. progress_in s p f (Closes command number (cut_of s p (Runs called k (place run))))) (sym is) ∙ h))
      by (Writing w) is =
          let field : Field = (written_at c at.part).0 in
          let bits : List Bool = (written_at c at.part).1 in
          let there : doing s p past ≡ Runs called k (place (Writing w)) = does ∙ ap (λ run. Runs called k (place run)) is in
          let on = (subst (LeftIn s p (remaining s (own p past))) there (left s g events what e accepts f)).1 in
          let facts = write-facts s g events what e accepts f field bits w (ap (register_write s p) there) on.begun in
          let torn = cut-torn s p f command number c field w _ _ _ bit t facts (ap (λ run. progress_in s p f (Closes command number (cut_of s p (Runs called k (place run))))) (sym is) ∙ h) in
          tears field bits w bit (ap (progress_in s p f) there) torn.0 torn.1 failed none
  fails (Closes called k (Withdraws w)) command number bit t does may none failed h =
      let c : Call = call s p called k in
      let on = (subst (LeftIn s p (remaining s (own p past))) does (left s g events what e accepts f)).0 in
      let facts = write-facts s g events what e accepts f Ticket (no_ticket c) w (ap (register_write s p) does) on.begun in
      let torn = cut-torn s p f command number c Ticket w _ _ _ bit t facts h in
      tears Ticket (no_ticket c) w bit (ap (progress_in s p f) does) torn.0 torn.1 failed none
  fails (Closes called k (Settles field at begun taken inside u)) command number bit t does may none failed h = absurd (let x : false ≡ true = may in cc)
  fails (Closes called k (Frees inside w)) command number bit t does may none failed h = absurd (let x : false ≡ true = may in cc)
  fails (Closes called k (Lowers w)) command number bit t does may none failed h = absurd (let x : false ≡ true = may in cc)
  fails (Closes called k Quit) command number bit t does may none failed h = absurd (let x : false ≡ true = may in cc)
  fails (Closes called k Ended) command number bit t does may none failed h = absurd (let x : false ≡ true = may in cc)

  -- the value that a settling's access writes is the one that it settles at
  pub chosen : (field : Field) (bit : ℕ) (t : Settling) (flick : Bool) (a : Access) → progress_at s past its ≡ InSettling bit t → e.access ≡ Some a → a.how ≡ (copies.next_settle t (settled_at t flick)).how → settled_at t (value_written e) ≡ settled_at t flick
  chosen field bit t flick a was acc how =
      let holds : HoldsNumber (register_row s past its) (number_after s its past) (InSettling bit t) =
      subst (HoldsNumber (register_row s past its) (number_after s its past)) was (numbers-held s events g its below) in
      ap (λ y. settled_at t (value_written (record e { access = y }))) acc
      ∙ ap (λ m. settled_at t (value_written (record e { access = Some (record a { how = m }) }))) how
      ∙ value-same t.value t.begun (copies.is_open_at t.made t.reader) flick holds.1

  -- A settling continues.
  settles-on : (was-torn : EachTorn s past) (command : Command) (number : ℕ) (field : Field) (at : ℕ) (begun : Bool) (taken : Option Reply) (inside : Bool) (u : Settling) (flick : Bool) (n : Next) (bit : ℕ) (t : Settling) →
      doing s p past ≡ Closes command number (Settles field at begun taken inside u) → closing_next (call s p command number) (Settles field at begun taken inside u) flick ≡ Some n → e.access ≡ Some n.access → e.marks ≡ map (placed (length (history s past))) n.marks →
      (last : Bool) → is_last_settled (call s p command number) u (settled_at u flick) ≡ last →
      progress_in s p f (closes command number (cond last (freeing (call s p command number) inside) (Settles field at begun taken inside (settle_after u (settled_at u flick))))) ≡ InSettling bit t → WasTorn s (e ∷ past) its bit
  settles-on was-torn command number field at begun taken inside u flick n bit t does next acc marks true last h = absurd (write-not f (clears s p command number) bit t h)
  settles-on was-torn command number field at begun taken inside u flick n bit t does next acc marks false last h =
      let same = some-bit (is_field field f) at bit (settle_after u (settled_at u flick)) t h in
      let was : progress_at s past its ≡ InSettling at u = ap (progress_in s p f) does ∙ ap (λ b. cond b (InSettling at u) Quiet) same.0 in
      let v-is : settled_at u (value_written e) ≡ settled_at u flick = chosen field at u flick n.access was acc (ap (λ (y : Access). y.how) (sym (access-is next))) in
      let number : number_after s its (e ∷ past) ≡ number_after s its past =
      own-number (InSettling at u) was
      ∙ ap (λ v. cond ((settle_after u v).reader == s.processes) (with_value (number_after s its past) at v) (number_after s its past)) v-is
      ∙ ap (λ b. cond b (with_value (number_after s its past) at (settled_at u flick)) (number_after s its past)) last in
      let none : n.marks ≡ [] = sym (marks-are next) ∙ ap (λ b. cond b (settled_marks begun taken (settled_at u flick)) []) last in
      let unfailed : has is_failed e ≡ false = ap (list_any is_failed) marks ∙ ap (λ ms. list_any is_failed (map (placed (length (history s past))) ms)) none in
      subst (WasTorn s (e ∷ past) its) same.1 (torn-stays s past (e ∷ past) its at (failed-before unfailed) number (was-torn g its below at u was))
    where
      marks-are : {x y : Next} → Some x ≡ Some y → x.marks ≡ y.marks
      marks-are {x} {y} h = let same : x ≡ y = cc in ap (λ (n : Next). n.marks) same

  -- Each entry of the owner.
  entry-tears : EachTorn s past → (bit : ℕ) (t : Settling) (d then : Doing) → Happens s past p e d then → doing s p past ≡ d → doing s p (e ∷ past) ≡ then → progress_at s (e ∷ past) its ≡ InSettling bit t → WasTorn s (e ∷ past) its bit
  entry-tears was-torn bit t d then (a_call command number was none marks goes) does after h =
      absurd (write-not f (register_write s p (Runs command number (enter (call s p command number) Raises))) bit t (sym (ap (progress_in s p f) (after ∙ goes)) ∙ h))
  entry-tears was-torn bit t d then (a_withdrawal command number k w ws run was none marks goes) does after h =
      absurd (write-not f (clears s p command number) bit t (sym (ap (progress_in s p f) (after ∙ goes)) ∙ h))
  entry-tears was-torn bit t d then (a_failure command number may none marks goes) does after h =
      let lc : Command = last_command (own p past) in
      let ln : ℕ = call_number s (own p past) in
      let to : doing s p (e ∷ past) ≡ Closes lc ln (cut_of s p d) =
      doing-goes s p e past refl
      ∙ ap (λ ms. does_after s p (own p past) e (start_in ms) (doing s p past)) marks
      ∙ ap (Closes lc ln) (cut_is s g events p (may-fail s events what e accepts marks none) ∙ ap (cut_of s p) does) in
      fails d lc ln bit t does may none (ap (list_any is_failed) marks) (sym (ap (progress_in s p f) to) ∙ h)
  entry-tears was-torn bit t d then (a_restart was none marks goes) does after h = absurd (let x : Quiet ≡ InSettling bit t = sym (ap (progress_in s p f) (after ∙ goes)) ∙ h in cc)
  entry-tears was-torn bit t d then (a_step command number at a flick was over acc is marks goes) does after h =
      absurd (runs-not s p f command number (is_over (place_after (call s p command number) at (value_of a.how)).part) (place_after (call s p command number) at (value_of a.how)) bit t (sym (ap (progress_in s p f) (after ∙ goes)) ∙ h))
  entry-tears was-torn bit t d then (a_closing command number at flick n was next acc same marks goes) does after h =
      closing at (does ∙ was) next (sym (ap (progress_in s p f) (after ∙ goes)) ∙ h)
    where
      c : Call
      c = call s p command number

      writes : (b : Bool) (done on : Closing) → (progress_in s p f (closes command number done) ≡ InSettling bit t → ⊥) → (progress_in s p f (closes command number on) ≡ InSettling bit t → ⊥) → progress_in s p f (closes command number (cond b done on)) ≡ InSettling bit t → ⊥
      writes true done on a b h = a h
      writes false done on a b h = b h

      closing : (at : Closing) → doing s p past ≡ Closes command number at → closing_next c at flick ≡ Some n → progress_in s p f (closes command number (closing_after c at flick)) ≡ InSettling bit t → WasTorn s (e ∷ past) its bit
      closing (Withdraws w) does next h =
          absurd (writes (is_last_written c (no_ticket c) w) Quit (Withdraws (write_moved s.processes (no_ticket c) w)) (λ x. cc) (λ x. write-not f (Some (record { field = Ticket; bits = no_ticket c; run = write_moved s.processes (no_ticket c) w })) bit t x) h)
      closing (Frees inside w) does next h =
          absurd (writes (is_last_written c (no_ticket c) w) (Lowers (new_write 1)) (Frees inside (write_moved s.processes (no_ticket c) w))
          (λ x. write-not f (Some (record { field = Choosing; bits = false ∷ []; run = new_write 1 })) bit t x)
          (λ x. write-not f (Some (record { field = Ticket; bits = no_ticket c; run = write_moved s.processes (no_ticket c) w })) bit t x) h)
      closing (Lowers w) does next h =
          absurd (writes (is_last_written c (false ∷ []) w) Ended (Lowers (write_moved s.processes (false ∷ []) w)) (λ x. cc) (λ x. write-not f (Some (record { field = Choosing; bits = false ∷ []; run = write_moved s.processes (false ∷ []) w })) bit t x) h)
      closing (Settles field k begun taken inside u) does next h = settles-on was-torn command number field k begun taken inside u flick n bit t does next acc marks (is_last_settled c u (settled_at u flick)) refl h
      closing Quit does next h = absurd (let x : Quiet ≡ InSettling bit t = h in cc)
      closing Ended does next h = absurd (let x : Quiet ≡ InSettling bit t = h in cc)

-- EVERY PAST

pub torn-all : (s : Setup) (events : List Event) → EachTorn s (past_of s events)
torn-all s = past-induction EachTorn s (λ g r owner bit t h. absurd (cc)) more
  where
    more : (events : List Event) (what : Event) (e : Entry) → entry_of s (past_of s events) what ≡ Some e → EachTorn s (past_of s events) → EachTorn s (e ∷ past_of s events)
    more events what e accepts was g r owner bit t h = elim (cases_eq e.process r.owner) [
      | inl same ↦
          let here : record { owner = e.process; field = r.field } ≡ r = λ i. record { owner = same i; field = r.field } in
          subst (λ q. progress_at s (e ∷ past) q ≡ InSettling bit t → WasTorn s (e ∷ past) q bit) here
          (λ h. entry-tears s g events what e accepts r.field was bit t (doing s e.process past) (doing s e.process (e ∷ past)) (accepted s g events what e accepts).happens refl refl h) h
      | inr apart ↦
          let off : (e.process == r.owner) ≡ false = ne_eqb e.process r.owner apart in
          torn-stays s past (e ∷ past) r bit
          (ap (λ b. cond (b && has is_failed e) past (before_failure r.owner past)) off)
          (ap (λ b. cond b (number_by s.processes e (progress_at s past r) (number_after s r past)) (number_after s r past)) off)
          (was g r owner bit t (sym (ap (progress_in s r.owner r.field) (doing-other s r.owner e past apart)) ∙ h))
    ]
      where
        past : Past
        past = past_of s events
