-- In every state of a world, and for each read that ends: what a read of a register has read.
use Rattle.std.proofs.Common.{◌≡◌, ◌≢◌, ℕ, suc, ◌+◌, ◌^◌, ◌<◌, ◌⊎◌, Bool, true, false, cond, List, [], ◌∷◌, length, None, Some, Ok, refl, sym, ap, ◌∙◌, subst, arith, inl, inr, length-append, eqb-true}
use Rattle.std.proofs.lemmas.Bool.{cases_eq}
use Rattle.safe_number.specs.{first_bits, number_of_bits}
use Rattle.safe_number.proofs.Bits.{number-fits}
use Rattle.model.specs.plain_store.{Command, Setup, checked}
use Rattle.model.specs.{Access, Call, Closing, Ended, Entry, Event, Frees, Part, Past, Place, Quit, Reading, Run, Settles, Withdraws, Writing, access_at, bits_with, closing_after, enter, entry_of, is_last, is_over, is_read, own, part_after, past-induction, past_of, read_at, run_after, valued, value_of, width, written_at}
use Rattle.model.specs.Closings.{Lowers}
use Rattle.model.specs.safe_number.{new_write}
use Rattle.model.proofs.Width.{IsGood, is_good}
use Rattle.laws.specs.{Closes, Doing, Lies, Rests, Runs, call, closes, doing, runs}
use Rattle.laws.proofs.AtPlaces.{AtPlace}
use Rattle.laws.proofs.Frame.{Happens, a_call, a_closing, a_failure, a_restart, a_step, a_withdrawal, doing-other}
use Rattle.laws.proofs.FrameCuts.{LeftIn, remaining}
use Rattle.laws.proofs.FrameEvents.{accepted}
use Rattle.laws.proofs.FrameSteps.{remaining-is}
use Rattle.laws.proofs.HeldOwners.{OwnersAt, owner-there, owners_there}
use Rattle.registers.specs.{RegisterName}
use Rattle.world.proofs.WorldShows.{past-after}
use Rattle.register_laws.specs.NumbersHeld.{number_after}
use Rattle.register_laws.specs.RegisterLaws.{EndsRead, IsUnoverlapped, RegisterRead, accesses_of_read, before_read, bits_returned, current_read, read_in}
use Rattle.register_laws.proofs.NumbersAlways.{Each, numbers-held}
use Rattle.register_laws.proofs.ReadFronts.{Earlier, new-or, new_at, one-more, other-earlier, own-earlier}
use Rattle.register_laws.proofs.ReadsKept.{HasRead, ReadStep, new-read, other-read, read-step, read_number, read_on}
use Rattle.register_laws.proofs.WorldChanges.{both}

some-read : {x y : RegisterRead} → Some x ≡ Some y → x ≡ y
some-read h = cc

-- the register of a part that reads
abbrev read_register : Call → Part → RegisterName
read_register c part = record { owner = (read_at c part).0; field = (read_at c part).1 }

-- THE PLACE OF A READ

-- the register that is read exists
read-there : (s : Setup) → IsGood s → (events : List Event) (p : ℕ) (read : RegisterRead) → current_read s p (doing s p (past_of s events)) ≡ Some read → read.register.owner < s.processes
read-there s g events p read h = go (doing s p (past_of s events)) (owners_there s g events p) (remaining-is s g events p) h
  where
    at-run : (command : Command) (number : ℕ) (part : Part) (run : Run) → OwnersAt s command number (record { part = part; run = run }) → LeftIn s p (remaining s (own p (past_of s events))) (Runs command number (record { part = part; run = run })) →
        read_in (call s p command number) part run ≡ Some read → read.register.owner < s.processes
    at-run command number part (Writing w) owners left h = absurd (cc)
    at-run command number part (Reading bits begun) owners left h =
        subst (λ (x : RegisterRead). x.register.owner < s.processes) (some-read h) (owner-there (call s p command number) s.processes part left.0 owners)

    go : (d : Doing) → AtPlace (OwnersAt s) d → LeftIn s p (remaining s (own p (past_of s events))) d → current_read s p d ≡ Some read → read.register.owner < s.processes
    go Rests owners left h = absurd (cc)
    go Lies owners left h = absurd (cc)
    go (Closes command number at) owners left h = absurd (cc)
    go (Runs command number at) owners left h = at-run command number at.part at.run owners left h

-- the access of a process that reads is that of its read
abbrev StepOf : Setup → Past → Entry → Access → RegisterRead → Type 0
StepOf s past e a read = ReadStep s past e a read

at-part : (s : Setup) (past : Past) (e : Entry) (a : Access) (read : RegisterRead) (command : Command) (number : ℕ) (part : Part) (run : Run) (flick : Bool) → e.access ≡ Some a →
    a ≡ valued s past flick (access_at (call s e.process command number) part run) → read_in (call s e.process command number) part run ≡ Some read → StepOf s past e a read
at-part s past e a read command number part (Writing w) flick acc is h = absurd (cc)
at-part s past e a read command number part (Reading bits begun) flick acc is h =
    subst (StepOf s past e a) (some-read h) (record { command = command; number = number; part = part; flick = flick; access = acc; register = refl; made = is })

same-access : {x y : Access} → Some x ≡ Some y → x ≡ y
same-access h = cc

step-of : (s : Setup) (past : Past) (e : Entry) (a : Access) (read : RegisterRead) (d then : Doing) → Happens s past e.process e d then → current_read s e.process d ≡ Some read → e.access ≡ Some a → StepOf s past e a read
step-of s past e a read d then (a_call command number was none marks goes) h acc = absurd (let f : None ≡ Some a = sym none ∙ acc in cc)
step-of s past e a read d then (a_withdrawal command number t w ws run was none marks goes) h acc = absurd (let f : None ≡ Some a = sym none ∙ acc in cc)
step-of s past e a read d then (a_failure command number may none marks goes) h acc = absurd (let f : None ≡ Some a = sym none ∙ acc in cc)
step-of s past e a read d then (a_restart was none marks goes) h acc = absurd (let f : None ≡ Some a = sym none ∙ acc in cc)
step-of s past e a read d then (a_step command number at x flick was over made is marks goes) h acc =
    let same : x ≡ a = same-access (sym made ∙ acc) in
    at-part s past e a read command number at.part at.run flick acc (sym same ∙ is) (sym (ap (current_read s e.process) was) ∙ h)
step-of s past e a read d then (a_closing command number at flick n was next made same marks goes) h acc = absurd (let f : None ≡ Some read = sym (ap (current_read s e.process) was) ∙ h in cc)

-- EACH ENTRY

-- a read with which a part begins has made no access
entered-new : (s : Setup) (p : ℕ) (command : Command) (number : ℕ) (part : Part) (read : RegisterRead) → current_read s p (runs command number (enter (call s p command number) part)) ≡ Some read → read ≡ new_at read.register
entered-new s p command number part read = go (is_over part) (is_read part)
  where
    c : Call
    c = call s p command number

    go : (over reads : Bool) → current_read s p (cond over Rests (Runs command number (record { part = part; run = cond reads (Reading [] false) (Writing (new_write (width s (written_at c part).0))) }))) ≡ Some read → read ≡ new_at read.register
    go true reads h = absurd (cc)
    go false false h = absurd (cc)
    go false true h = subst (λ (x : RegisterRead). x ≡ new_at x.register) (some-read h) refl

-- the read of the reader after its access: a new one, or the one before it with one access more
abbrev After : Setup → Past → Entry → RegisterRead → Type 0
After s past e later = (later ≡ new_at later.register) ⊎ ((a : Access) × (read : RegisterRead) × (current_read s e.process (doing s e.process past) ≡ Some read) × (e.access ≡ Some a) × (later ≡ read_on read (value_of a.how)))

after-place : (s : Setup) (past : Past) (e : Entry) (later : RegisterRead) (command : Command) (number : ℕ) (part : Part) (run : Run) (a : Access) (last : Bool) → is_over part ≡ false → e.access ≡ Some a →
    doing s e.process past ≡ Runs command number (record { part = part; run = run }) →
    (let c : Call = call s e.process command number in
    let to : Place = cond last (enter c (part_after c part (bits_with run (value_of a.how)))) (record { part = part; run = run_after c part run (value_of a.how) }) in
    current_read s e.process (runs command number to) ≡ Some later) → After s past e later
after-place s past e later command number part run a true going acc was h = inl (entered-new s e.process command number (part_after (call s e.process command number) part (bits_with run (value_of a.how))) later h)
after-place s past e later command number part (Writing w) a false going acc was h =
    let c : Call = call s e.process command number in
    absurd (let f : None ≡ Some later = sym (ap (λ b. current_read s e.process (cond b Rests (Runs command number (record { part = part; run = run_after c part (Writing w) (value_of a.how) })))) going) ∙ h in cc)
after-place s past e later command number part (Reading bits begun) a false going acc was h =
    let c : Call = call s e.process command number in
    let read : RegisterRead = record { register = read_register c part; bits = bits; begun = begun } in
    let is : Some (read_on read (value_of a.how)) ≡ Some later =
    sym (ap (λ b. current_read s e.process (cond b Rests (Runs command number (record { part = part; run = run_after c part (Reading bits begun) (value_of a.how) })))) going) ∙ h in
    inr (a, read, ap (current_read s e.process) was, acc, sym (some-read is))

closing-none : (s : Setup) (p : ℕ) (command : Command) (number : ℕ) (at : Closing) → current_read s p (closes command number at) ≡ None
closing-none s p command number (Withdraws w) = refl
closing-none s p command number (Settles f bit begun taken inside t) = refl
closing-none s p command number (Frees inside w) = refl
closing-none s p command number (Lowers w) = refl
closing-none s p command number Quit = refl
closing-none s p command number Ended = refl

after-entry : (s : Setup) (past : Past) (e : Entry) (later : RegisterRead) (d then : Doing) → Happens s past e.process e d then → doing s e.process past ≡ d → current_read s e.process then ≡ Some later → After s past e later
after-entry s past e later d then (a_call command number was none marks goes) does h = absurd (let f : None ≡ Some later = sym (ap (current_read s e.process) goes) ∙ h in cc)
after-entry s past e later d then (a_withdrawal command number t w ws run was none marks goes) does h = absurd (let f : None ≡ Some later = sym (ap (current_read s e.process) goes) ∙ h in cc)
after-entry s past e later d then (a_failure command number may none marks goes) does h = absurd (let f : None ≡ Some later = sym (ap (current_read s e.process) goes) ∙ h in cc)
after-entry s past e later d then (a_restart was none marks goes) does h = absurd (let f : None ≡ Some later = sym (ap (current_read s e.process) goes) ∙ h in cc)
after-entry s past e later d then (a_step command number at a flick was over acc is marks goes) does h =
    after-place s past e later command number at.part at.run a (is_last (call s e.process command number) at.part at.run) over acc (does ∙ was) (sym (ap (current_read s e.process) goes) ∙ h)
after-entry s past e later d then (a_closing command number at flick n was next acc same marks goes) does h =
    absurd (let f : None ≡ Some later = sym (closing-none s e.process command number (closing_after (call s e.process command number) at flick)) ∙ sym (ap (current_read s e.process) goes) ∙ h in cc)

-- EVERY PAST

abbrev EachRead : Setup → Past → Type 0
EachRead s past = checked s ≡ Ok tt → (p : ℕ) (read : RegisterRead) → current_read s p (doing s p past) ≡ Some read → IsUnoverlapped s past p read → HasRead s past p read (read_number s past p read)

module _ (s : Setup) (ok : checked s ≡ Ok tt) (events : List Event) (what : Event) (e : Entry) (accepts : entry_of s (past_of s events) what ≡ Some e) (was : EachRead s (past_of s events)) where
  abbrev past : Past
  past = past_of s events

  g : IsGood s
  g = is_good s ok

  abbrev Then : ℕ → RegisterRead → Type 0
  Then p read = HasRead s (e ∷ past) p read (read_number s (e ∷ past) p read)

  -- what a register holds then
  held : Each s (e ∷ past)
  held = subst (Each s) (past-after s events what e accepts) (numbers-held s (what ∷ events))

  begins : (p : ℕ) (read : RegisterRead) → read ≡ new_at read.register → read.register.owner < s.processes → IsUnoverlapped s (e ∷ past) p read → Then p read
  begins p read new owner u = subst (Then p) (sym new) (new-read s (e ∷ past) p read.register (held g read.register owner) (subst (IsUnoverlapped s (e ∷ past) p) new u))

  there : (p : ℕ) (read : RegisterRead) → current_read s p (doing s p (e ∷ past)) ≡ Some read → read.register.owner < s.processes
  there p read h = read-there s g (what ∷ events) p read (ap (λ x. current_read s p (doing s p x)) (past-after s events what e accepts) ∙ h)

  others : (p : ℕ) (read : RegisterRead) → e.process ≢ p → current_read s p (doing s p (e ∷ past)) ≡ Some read → IsUnoverlapped s (e ∷ past) p read → Then p read
  others p read apart h u = elim (new-or read) [
    | inl new ↦ begins p read new (there p read h) u
    | inr more ↦
        let earlier : Earlier s past p read read e = other-earlier s past p more.0 read e apart more.1 u in
        let before : HasRead s past p read (read_number s past p read) = was ok p read (sym (ap (current_read s p) (doing-other s p e past apart)) ∙ h) earlier.unoverlapped in
        subst (λ x. HasRead s (e ∷ past) p read (number_after s read.register x)) (sym earlier.before)
        (other-read s g events what e accepts p read (read_number s past p read) (there p read h) apart earlier.quiet before)
  ]

  mine : (read : RegisterRead) → current_read s e.process (doing s e.process (e ∷ past)) ≡ Some read → IsUnoverlapped s (e ∷ past) e.process read → Then e.process read
  mine later h u = elim (after-entry s past e later (doing s e.process past) (doing s e.process (e ∷ past)) (accepted s g events what e accepts).happens refl h) [
    | inl new ↦ begins e.process later new (there e.process later h) u
    | inr x ↦ goes-on x.0 x.1 x.2 x.3 x.4
  ]
    where
      goes-on : (a : Access) (read : RegisterRead) → current_read s e.process (doing s e.process past) ≡ Some read → e.access ≡ Some a → later ≡ read_on read (value_of a.how) → Then e.process later
      goes-on a read reads acc is =
          let one : accesses_of_read later ≡ suc (accesses_of_read read) = ap accesses_of_read is ∙ one-more read.bits read.begun (value_of a.how) in
          let earlier : Earlier s past e.process read later e = own-earlier s past e.process read later e refl (ap (λ (x : RegisterRead). x.register) is) one u in
          let before : HasRead s past e.process read (read_number s past e.process read) = was ok e.process read reads earlier.unoverlapped in
          let step : StepOf s past e a read = step-of s past e a read (doing s e.process past) (doing s e.process (e ∷ past)) (accepted s g events what e accepts).happens reads acc in
          let same : read_number s past e.process read ≡ read_number s (e ∷ past) e.process later =
          ap (number_after s read.register) (sym earlier.before) ∙ ap (λ q. number_after s q (before_read e.process later (e ∷ past))) (sym (ap (λ (x : RegisterRead). x.register) is)) in
          subst (HasRead s (e ∷ past) e.process later) same
          (subst (λ x. HasRead s (e ∷ past) e.process x (read_number s past e.process read)) (sym is) (read-step s ok events what e accepts a read (read_number s past e.process read) step before))

  each-read : (p : ℕ) (read : RegisterRead) → current_read s p (doing s p (e ∷ past)) ≡ Some read → IsUnoverlapped s (e ∷ past) p read → Then p read
  each-read p = elim (cases_eq e.process p) as (λ _. (read : RegisterRead) → current_read s p (doing s p (e ∷ past)) ≡ Some read → IsUnoverlapped s (e ∷ past) p read → Then p read) [
    | inl same ↦ subst (λ q. (read : RegisterRead) → current_read s q (doing s q (e ∷ past)) ≡ Some read → IsUnoverlapped s (e ∷ past) q read → Then q read) same mine
    | inr apart ↦ λ read h u. others p read apart h u
  ]

reads-all : (s : Setup) (events : List Event) → EachRead s (past_of s events)
reads-all s = past-induction EachRead s (λ ok p read h u. absurd (cc)) (λ events what e accepts was ok. each-read s ok events what e accepts was)

-- THE LAWS

pub so-far : (s : Setup) → checked s ≡ Ok tt → (events : List Event) (p : ℕ) (read : RegisterRead) → current_read s p (doing s p (past_of s events)) ≡ Some read → IsUnoverlapped s (past_of s events) p read →
    read.bits ≡ first_bits (read_number s (past_of s events) p read) (length read.bits)
so-far s ok events p read h u = (reads-all s events ok p read h u).1.so_far

pub returned-length : (s : Setup) (past : Past) (e : Entry) (read : RegisterRead) (a : Access) → EndsRead s past e read a → length (bits_returned read a) ≡ width s read.register.field
returned-length s past e read a ends =
    let last : length read.bits + 1 ≡ width s read.register.field = eqb-true (length read.bits + 1) (width s read.register.field) (both read.begun _ ends.last).1 in
    omega (arith, length-append read.bits (value_of a.how ∷ []), last)

pub returned-fits : (s : Setup) (past : Past) (e : Entry) (read : RegisterRead) (a : Access) → EndsRead s past e read a → number_of_bits (bits_returned read a) < 2 ^ width s read.register.field
returned-fits s past e read a ends = subst (λ w. number_of_bits (bits_returned read a) < 2 ^ w) (returned-length s past e read a ends) (number-fits (bits_returned read a))

pub returns-number : (s : Setup) → checked s ≡ Ok tt → (events : List Event) (what : Event) (e : Entry) → entry_of s (past_of s events) what ≡ Some e → (read : RegisterRead) (a : Access) → EndsRead s (past_of s events) e read a →
    IsUnoverlapped s (past_of s events) e.process read → bits_returned read a ≡ first_bits (read_number s (past_of s events) e.process read) (width s read.register.field)
returns-number s ok events what e accepts read a ends u =
    let past : Past = past_of s events in
    let number : ℕ → Bool = read_number s past e.process read in
    let step : StepOf s past e a read = step-of s past e a read (doing s e.process past) (doing s e.process (e ∷ past)) (accepted s (is_good s ok) events what e accepts).happens ends.reads ends.access in
    let all : HasRead s (e ∷ past) e.process (read_on read (value_of a.how)) number = read-step s ok events what e accepts a read number step (reads-all s events ok e.process read ends.reads u) in
    let begun : read.begun ≡ true = (both read.begun _ ends.last).0 in
    let bits : cond read.begun (bits_returned read a) read.bits ≡ bits_returned read a = ap (λ b. cond b (bits_returned read a) read.bits) begun in
    sym bits ∙ all.1.so_far ∙ ap (λ l. first_bits number (length l)) bits ∙ ap (first_bits number) (returned-length s past e read a ends)
