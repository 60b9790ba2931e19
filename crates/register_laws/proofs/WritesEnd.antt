-- A write of a register between two bits, and at its end.
use Rattle.std.proofs.Common.{◌≡◌, ℕ, ◌<◌, ◌==◌, Bool, true, false, cond, List, ◌∷◌, length, Option, None, Some, is_some, refl, sym, ap, ◌∙◌, subst, eq-eqb}
use Rattle.reader_copies.specs.{IsWritten, Settling, cut_values}
use Rattle.safe_number.specs.{NumberWrite}
use Rattle.safe_number.proofs.Bits.{length-bits_of_number}
use Rattle.model.specs.plain_store.{Command, Setup}
use Rattle.model.specs.{Access, Call, Closing, Ended, Entry, Event, Field, Frees, Part, Past, Quit, Reading, Run, Settles, Withdraws, Writing, access_at, access_of, closing_next, entry_of, is_over, next_written, own, past_of, valued, width, write_moved, written_at}
use Rattle.model.specs.Closings.{Lowers}
use Rattle.model.proofs.Ties.{written-width}
use Rattle.model.proofs.Width.{IsGood}
use Rattle.laws.specs.{Closes, Doing, Lies, RegisterWrite, Rests, Runs, call, doing, register_write, write_at}
use Rattle.laws.proofs.Frame.{Happens, a_call, a_closing, a_failure, a_restart, a_step, a_withdrawal}
use Rattle.laws.proofs.FrameCuts.{LeftIn, remaining, written-writes}
use Rattle.laws.proofs.FrameEvents.{accepted}
use Rattle.laws.proofs.FrameSteps.{remaining-is, valued-write}
use Rattle.registers.specs.{RegisterName}
use Rattle.register_laws.specs.NumbersHeld.{HoldsNumber, InSettling, InWrite, Quiet, bit_of, is_field, number_after, number_by, progress_at, progress_in, write_progress}
use Rattle.register_laws.specs.RegisterLaws.{EndsWrite}
use Rattle.register_laws.specs.WorldRows.{register_row}
use Rattle.register_laws.proofs.NumberSteps.{cut-between}
use Rattle.register_laws.proofs.NumbersAlways.{access-is, numbers-held, write-goes, write-wide}
use Rattle.register_laws.proofs.NumbersKept.{own-write}

pub between-bits : (s : Setup) → IsGood s → (events : List Event) (r : RegisterName) (new : List Bool) (w : NumberWrite) → r.owner < s.processes → progress_at s (past_of s events) r ≡ InWrite new w → w.run ≡ None →
    IsWritten (register_row s (past_of s events) r) (cut_values (number_after s r (past_of s events)) (bit_of new) w.bit)
between-bits s g events r new w owner progress none =
    let past : Past = past_of s events in
    cut-between (register_row s past r) (number_after s r past) new w none (subst (HoldsNumber (register_row s past r) (number_after s r past)) progress (numbers-held s events g r owner))

-- THE WRITE THAT IS IN PROGRESS

-- the owner makes this write of the register
record WritesField (s : Setup) (p : ℕ) (f : Field) (new : List Bool) (w : NumberWrite) (d : Doing) : Type 0 where
  field : Field
  on : is_field field f ≡ true
  writes : register_write s p d ≡ Some (record { field = field; bits = new; run = w })

some-write : (b : Bool) (bits new : List Bool) (run w : NumberWrite) → cond b (InWrite bits run) Quiet ≡ InWrite new w → (b ≡ true) × (bits ≡ new) × (run ≡ w)
some-write true bits new run w h = (refl, (cc), (cc))
some-write false bits new run w h = absurd (cc)

in-write : (f : Field) (o : Option RegisterWrite) (new : List Bool) (w : NumberWrite) → write_progress f o ≡ InWrite new w → (field : Field) × (is_field field f ≡ true) × (o ≡ Some (record { field = field; bits = new; run = w }))
in-write f None new w h = absurd (let x : Quiet ≡ InWrite new w = h in cc)
in-write f (Some rw) new w h =
    let its = some-write (is_field rw.field f) rw.bits new rw.run w h in
    (rw.field, its.0, λ i. Some (record { field = rw.field; bits = its.1 i; run = its.2 i }))

none-settling : (b : Bool) (bit : ℕ) (t : Settling) (new : List Bool) (w : NumberWrite) → cond b (InSettling bit t) Quiet ≡ InWrite new w → ⊥
none-settling true bit t new w h = cc
none-settling false bit t new w h = cc

writes-field : (s : Setup) (p : ℕ) (f : Field) (new : List Bool) (w : NumberWrite) (d : Doing) → progress_in s p f d ≡ InWrite new w → WritesField s p f new w d
writes-field s p f new w (Closes command number (Settles field bit begun taken inside t)) h = absurd (none-settling (is_field field f) bit t new w h)
writes-field s p f new w Rests h = let x = in-write f None new w h in record { field = x.0; on = x.1; writes = x.2 }
writes-field s p f new w Lies h = let x = in-write f None new w h in record { field = x.0; on = x.1; writes = x.2 }
writes-field s p f new w (Runs command number at) h = let x = in-write f (register_write s p (Runs command number at)) new w h in record { field = x.0; on = x.1; writes = x.2 }
writes-field s p f new w (Closes command number (Withdraws u)) h = let x = in-write f (register_write s p (Closes command number (Withdraws u))) new w h in record { field = x.0; on = x.1; writes = x.2 }
writes-field s p f new w (Closes command number (Frees inside u)) h = let x = in-write f (register_write s p (Closes command number (Frees inside u))) new w h in record { field = x.0; on = x.1; writes = x.2 }
writes-field s p f new w (Closes command number (Lowers u)) h = let x = in-write f (register_write s p (Closes command number (Lowers u))) new w h in record { field = x.0; on = x.1; writes = x.2 }
writes-field s p f new w (Closes command number Quit) h = let x = in-write f None new w h in record { field = x.0; on = x.1; writes = x.2 }
writes-field s p f new w (Closes command number Ended) h = let x = in-write f None new w h in record { field = x.0; on = x.1; writes = x.2 }

-- ITS ACCESS

-- the entry makes the next access of this write, which has as many bits as its register
abbrev MakesWrite : Setup → ℕ → Access → RegisterWrite → Type 0
MakesWrite s p a rw = (a ≡ access_of p rw.field (next_written rw.bits rw.run)) × (length rw.bits ≡ width s rw.field)

same-write : {x y : RegisterWrite} → Some x ≡ Some y → x ≡ y
same-write h = cc

same-access : {x y : Access} → Some x ≡ Some y → x ≡ y
same-access h = cc

no-write : (s : Setup) (p : ℕ) (a : Access) (rw : RegisterWrite) (o : Option Access) → o ≡ None → o ≡ Some a → MakesWrite s p a rw
no-write s p a rw o none acc = absurd (let x : None ≡ Some a = sym none ∙ acc in cc)

part-write : (s : Setup) (past : Past) (p : ℕ) (rw : RegisterWrite) (command : Command) (number : ℕ) (part : Part) (run : Run) (a : Access) (flick : Bool) → is_over part ≡ false → LeftIn s p (remaining s (own p past)) (Runs command number (record { part = part; run = run })) →
    a ≡ valued s past flick (access_at (call s p command number) part run) → write_at (call s p command number) part run ≡ Some rw → MakesWrite s p a rw
part-write s past p rw command number part (Reading bits begun) a flick over left is h = absurd (let x : None ≡ Some rw = h in cc)
part-write s past p rw command number part (Writing w) a flick over left is h =
    let c : Call = call s p command number in
    subst (MakesWrite s p a) (same-write h)
    (is ∙ valued-write s past flick (access_at c part (Writing w)) (written-writes p (written_at c part).0 (written_at c part).1 w), sym (written-width c part left.0 over))

write-access : (s : Setup) → IsGood s → (events : List Event) (p : ℕ) (e : Entry) (rw : RegisterWrite) (a : Access) (d then : Doing) → Happens s (past_of s events) p e d then → doing s p (past_of s events) ≡ d → register_write s p d ≡ Some rw → e.access ≡ Some a →
    MakesWrite s p a rw
write-access s g events p e rw a d then (a_call command number was none marks goes) does h acc = no-write s p a rw e.access none acc
write-access s g events p e rw a d then (a_withdrawal command number t w ws run was none marks goes) does h acc = no-write s p a rw e.access none acc
write-access s g events p e rw a d then (a_failure command number may none marks goes) does h acc = no-write s p a rw e.access none acc
write-access s g events p e rw a d then (a_restart was none marks goes) does h acc = no-write s p a rw e.access none acc
write-access s g events p e rw a d then (a_step command number at x flick was over made is marks goes) does h acc =
    let same : x ≡ a = same-access (sym made ∙ acc) in
    part-write s (past_of s events) p rw command number at.part at.run a flick over (subst (LeftIn s p (remaining s (own p (past_of s events)))) (does ∙ was) (remaining-is s g events p)) (sym same ∙ is) (sym (ap (register_write s p) was) ∙ h)
write-access s g events p e rw a d then (a_closing command number at flick n was next made same marks goes) does h acc = by at next (sym (ap (register_write s p) was) ∙ h)
  where
    c : Call
    c = call s p command number

    its : n.access ≡ a
    its = same-access (sym made ∙ acc)

    by : (at : Closing) → closing_next c at flick ≡ Some n → register_write s p (Closes command number at) ≡ Some rw → MakesWrite s p a rw
    by (Withdraws w) next h = subst (MakesWrite s p a) (same-write h) (sym its ∙ sym (access-is next), length-bits_of_number s.ticket_bits 0)
    by (Frees inside w) next h = subst (MakesWrite s p a) (same-write h) (sym its ∙ sym (access-is next), length-bits_of_number s.ticket_bits 0)
    by (Lowers w) next h = subst (MakesWrite s p a) (same-write h) (sym its ∙ sym (access-is next), refl)
    by (Settles field bit begun taken inside t) next h = absurd (let x : None ≡ Some rw = h in cc)
    by Quit next h = absurd (let x : None ≡ Some rw = h in cc)
    by Ended next h = absurd (let x : None ≡ Some rw = h in cc)

-- ITS END

some-access : (o : Option Access) → is_some o ≡ true → (a : Access) × (o ≡ Some a)
some-access None h = absurd (let x : false ≡ true = h in cc)
some-access (Some a) h = (a, refl)

own-ends : (s : Setup) (g : IsGood s) (events : List Event) (what : Event) (e : Entry) → entry_of s (past_of s events) what ≡ Some e → (f : Field) (new : List Bool) → EndsWrite s (past_of s events) e (record { owner = e.process; field = f }) new →
    IsWritten (register_row s (e ∷ past_of s events) (record { owner = e.process; field = f })) (bit_of new)
own-ends s g events what e accepts f new ends =
    let past : Past = past_of s events in
    let n : ℕ = s.processes in
    let p : ℕ = e.process in
    let its : RegisterName = record { owner = p; field = f } in
    let w : NumberWrite = ends.write in
    let at : WritesField s p f new w (doing s p past) = writes-field s p f new w (doing s p past) ends.progress in
    let rw : RegisterWrite = record { field = at.field; bits = new; run = w } in
    let made = some-access e.access ends.access in
    let makes : MakesWrite s p made.0 rw = write-access s g events p e rw made.0 (doing s p past) (doing s p (e ∷ past)) (accepted s g events what e accepts).happens refl at.writes made.1 in
    let last : ((write_moved n new w).bit == w.width) ≡ true = eq-eqb (write_moved n new w).bit w.width ends.last in
    let progress : progress_at s past its ≡ write_progress f (Some rw) = ends.progress ∙ sym (ap (λ b. cond b (InWrite new w) Quiet) at.on) in
    let before : HoldsNumber (register_row s past its) (number_after s its past) (write_progress f (Some rw)) =
    subst (HoldsNumber (register_row s past its) (number_after s its past)) progress (numbers-held s events g its (accepted s g events what e accepts).below) in
    let after : IsWritten (register_row s (e ∷ past) its) (number_by n e (write_progress f (Some rw)) (number_after s its past)) =
    own-write s g events what e accepts f at.field new w made.0 Quiet made.1 makes.0 (write-goes s g events what e accepts f rw at.writes) (write-wide s g events what e accepts f rw at.writes makes.1)
    (λ _. tt) (λ more. absurd (let x : true ≡ false = sym last ∙ more in cc)) before in
    let number : number_by n e (write_progress f (Some rw)) (number_after s its past) ≡ bit_of new =
    ap (λ b. number_by n e (cond b (InWrite new w) Quiet) (number_after s its past)) at.on
    ∙ ap (λ y. number_by n (record e { access = y }) (InWrite new w) (number_after s its past)) made.1
    ∙ ap (λ b. cond b (bit_of new) (number_after s its past)) last in
    subst (IsWritten (register_row s (e ∷ past) its)) number after

pub write-ends : (s : Setup) → IsGood s → (events : List Event) (what : Event) (e : Entry) → entry_of s (past_of s events) what ≡ Some e → (r : RegisterName) (new : List Bool) → EndsWrite s (past_of s events) e r new →
    IsWritten (register_row s (e ∷ past_of s events) r) (bit_of new)
write-ends s g events what e accepts r new ends =
    let here : record { owner = e.process; field = r.field } ≡ r = λ i. record { owner = ends.owner i; field = r.field } in
    subst (λ q. EndsWrite s (past_of s events) e q new → IsWritten (register_row s (e ∷ past_of s events) q) (bit_of new)) here (λ own. own-ends s g events what e accepts r.field new own) ends
