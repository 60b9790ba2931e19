-- A memory unit makes few accesses, and after the last one its process is down.
use Rattle.std.proofs.Common.{◌≡◌, ◌⊎◌, ℕ, zero, suc, ◌+◌, ◌*◌, ◌<◌, ◌≤◌, ◌==◌, nat_lt, Bool, true, false, cond, List, [], ◌∷◌, ◌++◌, length, length-append, map, Option, None, Some, Ok, refl, sym, ap, subst, ◌∙◌, arith, inl, inr, eq-eqb, if◌then◌else◌}
use Rattle.std.proofs.lemmas.Bool.Decides.{nat_tests}
use Rattle.std.proofs.lemmas.List.{length-map}
use Rattle.std.specs.Int.{is_in_range}
use Rattle.std.specs.Prelude.{fold}
use Rattle.model.specs.reader_copies.{Made, bit_writes, is_open_at, settles_from}
use Rattle.model.specs.safe_bit.declared.Move.TheVariants.{BeginWrite, EndWrite, Settle}
use Rattle.model.specs.safe_number.{at_bit, bits_of_number, writes_from}
use Rattle.model.specs.{Access, Call, Entry, Event, Field, Past, Portion, Script, access_of, added, before, entry_of, inside, is_failed, is_running, last_call, last_start, last_write, made_with, own, past_of, refused, refused_at, settle, settle_of, settling, since, single, singles, stage, stage_after, starts, unfinished, unit_program, value_written, write_of, writing}
use Rattle.model.specs.declared.access.Field.TheVariants.{Choosing, Ticket}
use Rattle.plain_store.specs.{Setup, checked}
use Rattle.plain_store.proofs.GoodSetups.{few-processes, good-checked}
use Rattle.model.specs.declared.events.Event.TheVariants.{Step}
use Rattle.model.specs.declared.marks.Mark.TheVariants as mark
use Rattle.model.specs.declared.stages.Stage.TheVariants as stages
use Rattle.model.specs.Closings.{Closing, Withdraws, Settles, Frees, Lowers, Quit, Ended, closing_after, closing_stage, failing}
use Rattle.model.proofs.reader_copies.Orders.{length-writes}
use Rattle.model.proofs.safe_number.Bits.{length-bits_of_number}
use Rattle.model.proofs.Accepted.{accepted_adds, rooms}
use Rattle.model.proofs.ClosingAccesses.{failing-kind, is_unit, keeps-kind, since-failed}
use Rattle.model.proofs.ClosingSteps.{ClosingStep, unit-step}
use Rattle.model.proofs.Local.{since-plain, start-plain}
use Rattle.model.proofs.OpenSteps.{failing_at}
use Rattle.model.proofs.Singles.{length-single}
use Rattle.model.proofs.Width.{IsGood, is_good}
use Rattle.model.proofs.World.{entry-accepted, entry_view, view}
use Rattle.laws.specs.{UnitsAreShort, doing}
use Rattle.laws.proofs.Frame as frame
use Rattle.laws.proofs.Frame.{Does, own-own}
use Rattle.laws.proofs.FrameEvents.{does_all}

-- The number of accesses.

-- settling a bit makes at most two accesses for each copy
settles-few : (made r n : ℕ) (v : Bool) → length (settles_from made r n v) ≤ 2 * n
settles-few made r zero v = omega arith
settles-few made r (suc n) v = go (is_open_at made r) (settles-few made (r + 1) n v)
  where
    go : (b : Bool) → length (settles_from made (r + 1) n v) ≤ 2 * n →
        length (cond b (record { reader = r; how = Settle v } ∷ settles_from made (r + 1) n v) (record { reader = r; how = BeginWrite v } ∷ record { reader = r; how = EndWrite } ∷ settles_from made (r + 1) n v)) ≤ 2 * suc n
    go true few = omega (arith, few)
    go false few = omega (arith, few)

settle-few : (n p : ℕ) (v : Bool) (a : Access) → length (settle_of n p v a) ≤ 2 * n
settle-few n p v a =
    let long : length (settle_of n p v a) ≡ length (settles_from (made_with a) 0 n v) =
    length-map {A = ℕ × Made} {B = Access} (map (at_bit a.bit) (settles_from (made_with a) 0 n v)) (access_of p a.field) ∙ length-map {A = Made} {B = ℕ × Made} (settles_from (made_with a) 0 n v) (at_bit a.bit) in
    let few : length (settles_from (made_with a) 0 n v) ≤ 2 * n = settles-few (made_with a) 0 n v in
    omega (arith, long, few)

-- writing a number makes at most two accesses for each of 16 copies of each bit
writes-few : (n k : ℕ) (bits : List Bool) → n ≤ 16 → length (writes_from n k bits) ≤ 32 * length bits
writes-few n k [] copies = omega arith
writes-few n k (b ∷ bits) copies =
    let one : length (map (at_bit k) (bit_writes n b)) ≡ 2 * n = length-map {A = Made} {B = ℕ × Made} (bit_writes n b) (at_bit k) ∙ length-writes 0 n b in
    let both : length (map (at_bit k) (bit_writes n b) ++ writes_from n (k + 1) bits) ≡ length (map (at_bit k) (bit_writes n b)) + length (writes_from n (k + 1) bits) =
    length-append (map (at_bit k) (bit_writes n b)) (writes_from n (k + 1) bits) in
    let more : length (writes_from n (k + 1) bits) ≤ 32 * length bits = writes-few n (k + 1) bits copies in
    omega (arith, copies, one, both, more)

write-few : (s : Setup) (p : ℕ) (field : Field) (bits : List Bool) → s.processes ≤ 16 → length (write_of s p field bits) ≤ 32 * length bits
write-few s p field bits copies =
    let long : length (write_of s p field bits) ≡ length (writes_from s.processes 0 bits) = length-map {A = ℕ × Made} {B = Access} (writes_from s.processes 0 bits) (access_of p field) in
    let few : length (writes_from s.processes 0 bits) ≤ 32 * length bits = writes-few s.processes 0 bits copies in
    omega (arith, long, few)

-- all accesses of a unit
unit-few : (c : Call) → c.setup.processes ≤ 16 → c.setup.ticket_bits ≤ 32 → (past : Past) (v : Bool) → length (singles (unit_program c past v)) ≤ 1088
unit-few c copies bits past v = go (unfinished c.setup.processes (last_write past))
  where
    zeros : List Bool
    zeros = bits_of_number c.setup.ticket_bits 0

    frees : Portion
    frees = writing c Ticket zeros (cond (inside c.process past) (mark.Left ∷ []) []) []

    lowers : Portion
    lowers = writing c Choosing (false ∷ []) [] (mark.Down ∷ [])

    one : (q : Portion) (more : Script) → length (singles (q ∷ more)) ≡ length q.accesses + length (singles more)
    one q more = length-append (single q.first q.last q.accesses) (singles more) ∙ ap (λ n. n + length (singles more)) (length-single q.first q.last q.accesses)

    clears : length (singles (frees ∷ lowers ∷ [])) ≤ 1056
    clears =
        let first : length (singles (frees ∷ lowers ∷ [])) ≡ length frees.accesses + length (singles (lowers ∷ [])) = one frees (lowers ∷ []) in
        let last : length (singles (lowers ∷ [])) ≡ length lowers.accesses + 0 = one lowers [] in
        let ticket : length frees.accesses ≤ 32 * length zeros = write-few c.setup c.process Ticket zeros copies in
        let wide : length zeros ≡ c.setup.ticket_bits = length-bits_of_number c.setup.ticket_bits 0 in
        let choosing : length lowers.accesses ≤ 32 = write-few c.setup c.process Choosing (false ∷ []) copies in
        omega (arith, first, last, ticket, wide, choosing, bits)

    go : (o : Option Access) → length (singles (settle c past v o ++ frees ∷ lowers ∷ [])) ≤ 1088
    go None = omega (arith, clears)
    go (Some a) =
        let first : length (singles (settling c past v a ∷ frees ∷ lowers ∷ [])) ≡ length (settle_of c.setup.processes c.process v a) + length (singles (frees ∷ lowers ∷ [])) = one (settling c past v a) (frees ∷ lowers ∷ []) in
        let few : length (settle_of c.setup.processes c.process v a) ≤ 2 * c.setup.processes = settle-few c.setup.processes c.process v a in
        omega (arith, first, few, clears, copies)

-- a ticket has at most 32 bits
few-bits : (s : Setup) → checked s ≡ Ok tt → s.ticket_bits ≤ 32
few-bits s good = by (s.version == 1) (good-checked s good).ticket_bits
  where
    by : (b : Bool) → is_in_range 1 (if b then 16 else 32) s.ticket_bits ≡ true → s.ticket_bits ≤ 32
    by true k = grind (arith, nat_tests)
    by false k = grind (arith, nat_tests)

-- while a unit is at work, fewer were made
pub few_accesses : UnitsAreShort
few_accesses s good events p settles = go (does_all s g events p)
  where
    g : IsGood s
    g = is_good s good

    past : Past
    past = past_of s events

    mine : Past
    mine = own p past

    go : Does s p mine (stage p past) (doing s p past) → length (since is_failed mine) < 1088
    go (frame.at_rest i k) = let f : stages.Idle ≡ stages.Settling = sym i ∙ settles in cc
    go (frame.lying i k) = let f : stages.Down ≡ stages.Settling = sym i ∙ settles in cc
    go (frame.running command b r k) = let f : false ≡ true = sym (ap is_running settles) ∙ r in cc
    go (frame.leaving b i k) = let f : stages.Leaving ≡ stages.Settling = sym i ∙ settles in cc
    go (frame.settling b i k) =
        let room : length (since starts mine) < length (singles (unit_program (last_call s p mine) (before is_failed mine) false)) = (rooms s g events p).failing b i false in
        let few : length (singles (unit_program (last_call s p mine) (before is_failed mine) false)) ≤ 1088 = unit-few (last_call s p mine) (few-processes s good) (few-bits s good) (before is_failed mine) false in
        let less : length (since starts mine) < 1088 = omega (arith, room, few) in
        subst (λ (l : Past). length l < 1088) (since-failed mine b) less

-- One step.

-- the stage of a unit is down or settling
unit-stage : (x : Closing) → is_unit x ≡ true → (closing_stage x ≡ stages.Down) ⊎ (closing_stage x ≡ stages.Settling)
unit-stage (Withdraws w) h = cc
unit-stage (Settles field bit begun taken is t) h = inr refl
unit-stage (Frees is w) h = inr refl
unit-stage (Lowers w) h = inr refl
unit-stage Quit h = cc
unit-stage Ended h = inl refl

-- the result of a step of a unit: its process is down, or the unit still works and has made one more access
abbrev pub GoesOn : Setup → ℕ → List Event → List Event → Type 0
GoesOn s p events on = (stage p (past_of s on) ≡ stages.Down)
    ⊎ ((stage p (past_of s on) ≡ stages.Settling) × (length (since is_failed (own p (past_of s on))) ≡ suc (length (since is_failed (own p (past_of s events))))))

pub unit_goes_on : (s : Setup) → checked s ≡ Ok tt → (events : List Event) (p : ℕ) (flick : Bool) → refused s (past_of s events) (Step p flick) ≡ None → stage p (past_of s events) ≡ stages.Settling → GoesOn s p events (Step p flick ∷ events)
unit_goes_on s good events p flick accepted settles = go (does_all s g events p)
  where
    g : IsGood s
    g = is_good s good

    past : Past
    past = past_of s events

    mine : Past
    mine = own p past

    adds : (e : Entry) × (entry_of s past (Step p flick) ≡ Some e)
    adds = accepted_adds s g events (Step p flick) accepted

    e : Entry
    e = adds.0

    acc : (nat_lt p s.processes ≡ true) × (refused_at (Step p flick) (stage p past) ≡ None) × (added s past (Step p flick) ≡ Some e)
    acc = entry-accepted s past (Step p flick) e adds.1

    its : e.process ≡ p
    its = (entry_view s g past (Step p flick) e acc.1 (view s g events p) acc.2).0

    grown : past_of s (Step p flick ∷ events) ≡ e ∷ past
    grown = ap (λ (o : Option Entry). elim o as (λ _. Past) [ None ↦ past | Some x ↦ x ∷ past ]) adds.1

    steps : last_start mine ≡ Some mark.Failed → GoesOn s p events (Step p flick ∷ events)
    steps b = finish (unit-stage to kind)
      where
        at : Closing
        at = failing_at s p mine

        step : ClosingStep s past p flick e at
        step = unit-step s g events p flick e b settles acc.2

        to : Closing
        to = closing_after (last_call s p mine) at (value_written e)

        kind : is_unit to ≡ true
        kind = keeps-kind (last_call s p mine) (failing (last_call s p mine) (before is_failed mine)) (value_written e ∷ map value_written (since is_failed mine)) ∙ failing-kind (last_call s p mine) (before is_failed mine)

        at_stage : stage p (past_of s (Step p flick ∷ events)) ≡ closing_stage to
        at_stage = ap (stage p) grown ∙ ap (λ b. cond b (fold stage_after (stage p past) e.marks) (stage p past)) (eq-eqb e.process p its) ∙ step.at_stage

        longer : length (since is_failed (e ∷ mine)) ≡ suc (length (since is_failed mine))
        longer = ap length (sym (since-failed (e ∷ mine) (start-plain e mine step.plain ∙ b)) ∙ since-plain e mine step.plain) ∙ ap (λ (l : Past). suc (length l)) (since-failed mine b)

        counted : length (since is_failed (own p (past_of s (Step p flick ∷ events)))) ≡ suc (length (since is_failed mine))
        counted = ap (λ (l : Past). length (since is_failed (own p l))) grown ∙ ap (λ (l : Past). length (since is_failed l)) (own-own p e past its) ∙ longer

        finish : (closing_stage to ≡ stages.Down) ⊎ (closing_stage to ≡ stages.Settling) → GoesOn s p events (Step p flick ∷ events)
        finish (inl down) = inl (at_stage ∙ down)
        finish (inr still) = inr (at_stage ∙ still, counted)

    go : Does s p mine (stage p past) (doing s p past) → GoesOn s p events (Step p flick ∷ events)
    go (frame.at_rest i k) = let f : stages.Idle ≡ stages.Settling = sym i ∙ settles in cc
    go (frame.lying i k) = let f : stages.Down ≡ stages.Settling = sym i ∙ settles in cc
    go (frame.running command b r k) = let f : false ≡ true = sym (ap is_running settles) ∙ r in cc
    go (frame.leaving b i k) = let f : stages.Leaving ≡ stages.Settling = sym i ∙ settles in cc
    go (frame.settling b i k) = steps b
