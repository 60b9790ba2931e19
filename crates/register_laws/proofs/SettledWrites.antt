-- The last access of a settling: the register holds the new lower bits, the settled bit, and the old upper bits.
use Rattle.std.proofs.Common.{◌≡◌, ℕ, ◌==◌, Bool, true, false, not, cond, List, ◌∷◌, Option, Some, refl, sym, ap, ◌∙◌, subst, eq-eqb}
use Rattle.reader_copies.specs.{IsWritten, Settling, cut_values, settle_after, settled_at, with_value}
use Rattle.safe_number.specs.{NumberWrite}
use Rattle.model.specs.plain_store.{Command, Reply, Setup}
use Rattle.model.specs.{Access, Call, Closing, Ended, Entry, Event, Field, Frees, Past, Quit, Settles, Withdraws, closing_after, closing_next, entry_of, freeing, is_unwritten, no_ticket, past_of, value_written}
use Rattle.model.specs.Closings.{Lowers}
use Rattle.model.specs.declared.access.Field.TheVariants.{Ticket}
use Rattle.model.proofs.Width.{IsGood}
use Rattle.laws.specs.{Closes, Doing, Lies, Rests, Runs, call, closes, doing, register_write}
use Rattle.laws.proofs.Frame.{Happens, a_call, a_closing, a_failure, a_restart, a_step, a_withdrawal, may_fail}
use Rattle.laws.proofs.FrameEvents.{accepted}
use Rattle.registers.specs.{RegisterName}
use Rattle.world.proofs.WorldShows.{past-after}
use Rattle.register_laws.specs.NumbersHeld.{InSettling, InWrite, Progress, Quiet, bit_of, is_field, number_after, progress_at, progress_in}
use Rattle.register_laws.specs.RegisterLaws.{EndsSettling, WasInterrupted, before_failure, has_begun}
use Rattle.register_laws.specs.WorldRows.{register_row}
use Rattle.register_laws.proofs.InterruptedWrites.{WasTorn, chosen, own-number, some-bit, torn-all, write-not}
use Rattle.register_laws.proofs.NumberSteps.{Fresh, write-fresh}
use Rattle.register_laws.proofs.NumbersAlways.{Each, access-is, numbers-held}
use Rattle.register_laws.proofs.ReadFronts.{quiet-written}

-- a process whose bit is being settled
record Settling-at (s : Setup) (p : ℕ) (f : Field) (bit : ℕ) (t : Settling) (d : Doing) : Type 0 where
  command : Command
  number : ℕ
  field : Field
  begun : Bool
  taken : Option Reply
  inside : Bool
  does : d ≡ Closes command number (Settles field bit begun taken inside t)
  on : is_field field f ≡ true

settling-at : (s : Setup) (p : ℕ) (f : Field) (bit : ℕ) (t : Settling) (d : Doing) → progress_in s p f d ≡ InSettling bit t → Settling-at s p f bit t d
settling-at s p f bit t Rests h = absurd (let x : Quiet ≡ InSettling bit t = h in cc)
settling-at s p f bit t Lies h = absurd (let x : Quiet ≡ InSettling bit t = h in cc)
settling-at s p f bit t (Runs command number at) h = absurd (write-not f (register_write s p (Runs command number at)) bit t h)
settling-at s p f bit t (Closes command number (Withdraws w)) h = absurd (write-not f (register_write s p (Closes command number (Withdraws w))) bit t h)
settling-at s p f bit t (Closes command number (Frees inside w)) h = absurd (write-not f (register_write s p (Closes command number (Frees inside w))) bit t h)
settling-at s p f bit t (Closes command number (Lowers w)) h = absurd (write-not f (register_write s p (Closes command number (Lowers w))) bit t h)
settling-at s p f bit t (Closes command number Quit) h = absurd (let x : Quiet ≡ InSettling bit t = h in cc)
settling-at s p f bit t (Closes command number Ended) h = absurd (let x : Quiet ≡ InSettling bit t = h in cc)
settling-at s p f bit t (Closes command number (Settles field k begun taken inside u)) h =
    let same = some-bit (is_field field f) k bit u t h in
    record {
      command = command;
      number = number;
      field = field;
      begun = begun;
      taken = taken;
      inside = inside;
      does = λ i. Closes command number (Settles field (same.1 i) begun taken inside (same.2 i));
      on = same.0;
    }

-- a write of which no access is made has not begun
fresh-quiet : (x : Progress) → Fresh x → has_begun x ≡ false
fresh-quiet Quiet fresh = refl
fresh-quiet (InWrite bits w) fresh = ap (λ (y : NumberWrite). not (is_unwritten y)) fresh.1
fresh-quiet (InSettling bit t) fresh = absurd fresh

at-is : {c c' : Command} {k k' : ℕ} {a a' : Closing} → Closes c k a ≡ Closes c' k' a' → a ≡ a'
at-is h = cc

-- after the last access of a settling the unit begins its next write
ends-fresh : (s : Setup) (g : IsGood s) (events : List Event) (what : Event) (e : Entry) (accepts : entry_of s (past_of s events) what ≡ Some e) (f : Field) (bit : ℕ) (t : Settling) (d then : Doing) → Happens s (past_of s events) e.process e d then →
    progress_at s (past_of s events) (record { owner = e.process; field = f }) ≡ InSettling bit t → Settling-at s e.process f bit t d → (settle_after t (settled_at t (value_written e))).reader ≡ s.processes → Fresh (progress_in s e.process f then)
ends-fresh s g events what e accepts f bit t d then (a_call command number was none marks goes) progress st last =
    absurd (let x : Rests ≡ Closes st.command st.number (Settles st.field bit st.begun st.taken st.inside t) = sym was ∙ st.does in cc)
ends-fresh s g events what e accepts f bit t d then (a_withdrawal command number k w ws run was none marks goes) progress st last =
    absurd (let x : Runs command number _ ≡ Closes st.command st.number (Settles st.field bit st.begun st.taken st.inside t) = sym was ∙ st.does in cc)
ends-fresh s g events what e accepts f bit t d then (a_failure command number may none marks goes) progress st last = absurd (let x : false ≡ true = sym (ap may_fail st.does) ∙ may in cc)
ends-fresh s g events what e accepts f bit t d then (a_restart was none marks goes) progress st last =
    absurd (let x : Lies ≡ Closes st.command st.number (Settles st.field bit st.begun st.taken st.inside t) = sym was ∙ st.does in cc)
ends-fresh s g events what e accepts f bit t d then (a_step command number at a flick was over acc is marks goes) progress st last =
    absurd (let x : Runs command number at ≡ Closes st.command st.number (Settles st.field bit st.begun st.taken st.inside t) = sym was ∙ st.does in cc)
ends-fresh s g events what e accepts f bit t d then (a_closing command number at flick n was next acc same marks goes) progress st last =
    let c : Call = call s e.process command number in
    let its : Closing = Settles st.field bit st.begun st.taken st.inside t in
    let here : at ≡ its = at-is (sym was ∙ st.does) in
    let next-is : closing_next c its flick ≡ Some n = ap (λ x. closing_next c x flick) (sym here) ∙ next in
    let v-is : settled_at t (value_written e) ≡ settled_at t flick = chosen s g events what e accepts f st.field bit t flick n.access progress acc (ap (λ (y : Access). y.how) (sym (access-is next-is))) in
    let done : ((settle_after t (settled_at t flick)).reader == s.processes) ≡ true =
    ap (λ v. (settle_after t v).reader == s.processes) (sym v-is) ∙ eq-eqb (settle_after t (settled_at t (value_written e))).reader s.processes last in
    let to : then ≡ closes command number (freeing c st.inside) =
    goes ∙ ap (λ x. closes command number (closing_after c x flick)) here
    ∙ ap (λ b. closes command number (cond b (freeing c st.inside) (Settles st.field bit st.begun st.taken st.inside (settle_after t (settled_at t flick))))) done in
    subst (λ x. Fresh (progress_in s e.process f x)) (sym to) (write-fresh f Ticket (no_ticket c) s.ticket_bits)

-- the register then holds its number with the settled bit
holds-settled : (s : Setup) (g : IsGood s) (events : List Event) (what : Event) (e : Entry) (accepts : entry_of s (past_of s events) what ≡ Some e) (f : Field) (bit : ℕ) (t : Settling)
    → let past : Past = past_of s events in
    let its : RegisterName = record { owner = e.process; field = f } in
    let v : Bool = settled_at t (value_written e) in
    progress_at s past its ≡ InSettling bit t → (settle_after t v).reader ≡ s.processes → IsWritten (register_row s (e ∷ past) its) (with_value (number_after s its past) bit v)
holds-settled s g events what e accepts f bit t progress last =
    let past : Past = past_of s events in
    let its : RegisterName = record { owner = e.process; field = f } in
    let v : Bool = settled_at t (value_written e) in
    let happens = (accepted s g events what e accepts).happens in
    let held : Each s (e ∷ past) = subst (Each s) (past-after s events what e accepts) (numbers-held s (what ∷ events)) in
    let number : number_after s its (e ∷ past) ≡ with_value (number_after s its past) bit v =
    own-number s g events what e accepts f (InSettling bit t) progress
    ∙ ap (λ b. cond b (with_value (number_after s its past) bit v) (number_after s its past)) (eq-eqb (settle_after t v).reader s.processes last) in
    let fresh : Fresh (progress_at s (e ∷ past) its) = ends-fresh s g events what e accepts f bit t (doing s e.process past) (doing s e.process (e ∷ past)) happens progress (settling-at s e.process f bit t (doing s e.process past) progress) last in
    subst (IsWritten (register_row s (e ∷ past) its)) number
    (quiet-written (register_row s (e ∷ past) its) (number_after s its (e ∷ past)) (progress_at s (e ∷ past) its) (fresh-quiet (progress_at s (e ∷ past) its) fresh) (held g its (accepted s g events what e accepts).below))

-- the law, of a register of the process
settled-own : (s : Setup) (g : IsGood s) (events : List Event) (what : Event) (e : Entry) (accepts : entry_of s (past_of s events) what ≡ Some e) (f : Field) (bit : ℕ) (v : Bool)
    → let past : Past = past_of s events in
    let its : RegisterName = record { owner = e.process; field = f } in
    EndsSettling s past e its bit v
    → let failed : Past = before_failure e.process past in
    (new : List Bool) × WasInterrupted s failed its bit new × IsWritten (register_row s (e ∷ past) its) (with_value (cut_values (number_after s its failed) (bit_of new) bit) bit v)
settled-own s g events what e accepts f bit v ends =
    let past : Past = past_of s events in
    let its : RegisterName = record { owner = e.process; field = f } in
    let torn : WasTorn s past its bit = torn-all s events g its (accepted s g events what e accepts).below bit ends.settling ends.progress in
    let last : (settle_after ends.settling (settled_at ends.settling (value_written e))).reader ≡ s.processes = ap (λ u. (settle_after ends.settling u).reader) (sym ends.value) ∙ ends.last in (
      torn.0,
      torn.1,
      subst (IsWritten (register_row s (e ∷ past) its)) (λ i. with_value (torn.2 i) bit (sym ends.value i))
          (holds-settled s g events what e accepts f bit ends.settling ends.progress last),
    )

pub interrupted-settled : (s : Setup) → IsGood s → (events : List Event) (what : Event) (e : Entry) → entry_of s (past_of s events) what ≡ Some e → (r : RegisterName) (bit : ℕ) (v : Bool) → EndsSettling s (past_of s events) e r bit v
    → let failed : Past = before_failure r.owner (past_of s events) in
    (new : List Bool) × WasInterrupted s failed r bit new × IsWritten (register_row s (e ∷ past_of s events) r) (with_value (cut_values (number_after s r failed) (bit_of new) bit) bit v)
interrupted-settled s g events what e accepts r bit v ends =
    let past : Past = past_of s events in
    let here : record { owner = e.process; field = r.field } ≡ r = λ i. record { owner = ends.owner i; field = r.field } in
    subst (λ q. EndsSettling s past e q bit v → (new : List Bool) × WasInterrupted s (before_failure q.owner past) q bit new × IsWritten (register_row s (e ∷ past) q) (with_value (cut_values (number_after s q (before_failure q.owner past)) (bit_of new) bit) bit v)) here
    (λ own. settled-own s g events what e accepts r.field bit v own) ends
