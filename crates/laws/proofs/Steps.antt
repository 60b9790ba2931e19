-- The step of a process, by its state.
use Rattle.std.proofs.Common.{◌≡◌, ℕ, Bool, true, false, cond, List, [], ◌∷◌, Option, Some, None, length, map, option_map, unwrap_or, refl, sym, ap, ◌∙◌}
use Rattle.std.specs.List.{list_any}
use Rattle.model.specs.safe_bit.{Move}
use Rattle.model.specs.safe_bit.declared.Move.TheVariants.{BeginWrite, EndWrite, Settle}
use Rattle.model.specs.{Access, Call, Closing, Entry, Event, Field, Next, Past, Place, Settles, Withdraws, access_at, before, call_number, closing_after, closing_entry, closing_next, closing_of, entry_at, entry_of, failing, freeing, has, history, is_failed, is_last_settled, is_running, last_call, last_command, last_start, last_write, made_with, own, past_of, placed, refused_at, settling_from, since, stage, starts, stepped, unfinished, value_of, value_written, valued, withdrawing}
use Rattle.plain_store.specs.{Reply, Setup}
use Rattle.model.specs.declared.events.Event.TheVariants as event
use Rattle.model.specs.declared.marks.Mark.TheVariants.{Called}
use Rattle.model.specs.declared.stages.Stage.TheVariants as stages
use Rattle.model.specs.reader_copies.Runs as copies
use Rattle.model.proofs.ClosingAccesses.{IsChosen, chosen-after, reported-again, withdrawn_corresponds, unit_corresponds}
use Rattle.model.proofs.Local.{running_steps, option_map-some}
use Rattle.model.proofs.OpenSteps.{place_at, leaving_at, failing_at, closing-plain}
use Rattle.model.proofs.Staging.{no_start, no_start-placed}
use Rattle.model.proofs.NextAccesses.{at_place, running_corresponds}
use Rattle.model.proofs.Width.{IsGood}
use Rattle.model.proofs.World.{entry-accepted}
use Rattle.laws.specs.{Closes, Doing, Runs, closes, does_after, does_then, doing, goes_on, marks_with, next_of}
use Rattle.laws.proofs.Frame.{Does, at_rest, lying, running, leaving, settling, doing-goes}
use Rattle.laws.proofs.FrameEvents.{does_all}

-- a step of p with this flick, by what p does: its access, its marks, and what p does then
pub record StepIs (s : Setup) (past : Past) (p : ℕ) (flick : Bool) (e : Entry) : Type 0 where
  pub next : Access
  pub is_next : next_of s p (doing s p past) flick ≡ Some next
  pub process : e.process ≡ p
  pub access : e.access ≡ Some (valued s past flick next)
  pub marks : e.marks ≡ map (placed (length (history s past))) (marks_with s p (doing s p past) flick (value_of (valued s past flick next).how))
  pub plain : has starts e ≡ false
  pub does : doing s p (e ∷ past) ≡ does_then s p (doing s p past) flick (value_of (valued s past flick next).how)

-- an entry that begins no program moves by its access
goes-plain : (s : Setup) (past : Past) (p : ℕ) (e : Entry) (d : Doing) (a : Access) → e.process ≡ p → has starts e ≡ false → e.access ≡ Some a → doing s p past ≡ d → doing s p (e ∷ past) ≡ goes_on s p e (Some a) d
goes-plain s past p e d a i plain access does = doing-goes s p e past i
    ∙ ap (λ m. does_after s p (own p past) e m (doing s p past)) (no_start e.marks plain)
    ∙ ap (λ x. goes_on s p e x (doing s p past)) access ∙ ap (goes_on s p e (Some a)) does

-- a process that runs its call
running-step : (s : Setup) → IsGood s → (events : List Event) (p : ℕ) (flick : Bool) (e : Entry) (command : Rattle.plain_store.specs.declared.Command.Command)
    → let past : Past = past_of s events in
    let mine : Past = own p past in
    last_start mine ≡ Some (Called command) → is_running (stage p past) ≡ true → doing s p past ≡ Runs (last_command mine) (call_number s mine) (place_at s p mine) →
    stepped s past p flick ≡ Some e → StepIs s past p flick e
running-step s g events p flick e command b run does h = record {
  next = x;
  is_next = ap (λ d. next_of s p d flick) does;
  process = ap (λ (e : Entry). e.process) (sym is);
  access = access;
  marks = ap (λ (e : Entry). e.marks) (sym is) ∙ sym (ap (λ d. map (placed (length (history s past))) (marks_with s p d flick (value_of y.how))) does);
  plain = plain;
  does = goes-plain s past p e (Runs (last_command mine) (call_number s mine) at) y (ap (λ (e : Entry). e.process) (sym is)) plain access does ∙ sym (ap (λ d. does_then s p d flick (value_of y.how)) does);
}
  where
    past : Past
    past = past_of s events

    mine : Past
    mine = own p past

    c : Call
    c = last_call s p mine

    at : Place
    at = place_at s p mine

    x : Access
    x = access_at c at.part at.run

    y : Access
    y = valued s past flick x

    is : entry_at s past p flick c at ≡ e
    is = let f : Some (entry_at s past p flick c at) ≡ Some e = sym ((running_corresponds s g events p command b run).2 flick) ∙ h in cc

    access : e.access ≡ Some y
    access = ap (λ (e : Entry). e.access) (sym is)

    plain : has starts e ≡ false
    plain = (running_steps s g p past (stage p past) flick (at_place s g events p command b run) e h).0

-- after an access of a settling at v
abbrev settled_on : Call → Field → ℕ → Bool → Option Reply → Bool → copies.Settling → Bool → Closing
settled_on c field bit begun taken is t v = cond (is_last_settled c t v) (freeing c is) (Settles field bit begun taken is (copies.settle_after t v))

-- once what is settled at was chosen, flicks make no difference
after-free : (c : Call) (at : Closing) → IsChosen at → (w flick : Bool) → closing_after c at w ≡ closing_after c at flick
after-free c (Withdraws x) h w flick = refl
after-free c (Settles field bit begun taken is t) h w flick = ap (settled_on c field bit begun taken is t) (ap (λ o. unwrap_or o w) h.1 ∙ sym (ap (λ o. unwrap_or o flick) h.1))
after-free c _ h w flick = refl

abbrev how-of : Option Next → Move
how-of None = EndWrite
how-of (Some n) = n.access.how

same-value : (b v w : Bool) → cond b (Settle v) (BeginWrite v) ≡ cond b (Settle w) (BeginWrite w) → v ≡ w
same-value true v w h = cc
same-value false v w h = cc

-- the state of a unit after an access follows from that access
unit-after : (c : Call) (mine : Past) (flicks : List Bool) (w flick : Bool) → closing_next c (closing_of c (failing c mine) flicks) w ≡ closing_next c (closing_of c (failing c mine) flicks) flick →
    closing_after c (closing_of c (failing c mine) flicks) w ≡ closing_after c (closing_of c (failing c mine) flicks) flick
unit-after c mine [] w flick h = go (unfinished c.setup.processes (last_write mine)) h
  where
    go : (torn : Option Access) → closing_next c (settling_from c mine torn) w ≡ closing_next c (settling_from c mine torn) flick → closing_after c (settling_from c mine torn) w ≡ closing_after c (settling_from c mine torn) flick
    go None h = refl
    go (Some a) h = ap (closing_after c (settling_from c mine (Some a))) (same-value (copies.is_open_at (made_with a) 0) w flick (ap how-of h))
unit-after c mine (f ∷ flicks) w flick h = after-free c (closing_of c (failing c mine) (f ∷ flicks)) (chosen-after c (closing_of c (failing c mine) flicks) f) w flick

leaving-after : (c : Call) (flicks : List Bool) (w flick : Bool) → closing_after c (closing_of c (withdrawing c) flicks) w ≡ closing_after c (closing_of c (withdrawing c) flicks) flick
leaving-after c [] w flick = refl
leaving-after c (f ∷ flicks) w flick = after-free c (closing_of c (withdrawing c) (f ∷ flicks)) (chosen-after c (closing_of c (withdrawing c) flicks) f) w flick

-- a process in a closing, which moves by the value that its access writes
closing-step : (s : Setup) (past : Past) (p : ℕ) (flick : Bool) (e : Entry) (at : Closing)
    → let mine : Past = own p past in
    let c : Call = last_call s p mine in
    doing s p past ≡ Closes (last_command mine) (call_number s mine) at → stepped s past p flick ≡ option_map (closing_entry s past p flick) (closing_next c at flick) → stepped s past p flick ≡ Some e →
    ((n : Next) → closing_next c at flick ≡ Some n → closing_entry s past p flick n ≡ e → closing_after c at (value_written e) ≡ closing_after c at flick) → StepIs s past p flick e
closing-step s past p flick e at does corresponds h same = record {
  next = n.access;
  is_next = ap (λ d. next_of s p d flick) does ∙ ap (option_map (λ (n : Next). n.access)) made.1;
  process = process;
  access = access;
  marks = ap (λ (e : Entry). e.marks) (sym made.2) ∙ ap (map (placed (length (history s past)))) (sym (ap (λ d. marks_with s p d flick (value_of (valued s past flick n.access).how)) does ∙ ap marks-of made.1));
  plain = plain;
  does = goes-plain s past p e (Closes (last_command mine) (call_number s mine) at) (valued s past flick n.access) process plain access does
      ∙ ap (closes (last_command mine) (call_number s mine)) (same n made.1 made.2)
      ∙ sym (ap (λ d. does_then s p d flick (value_of (valued s past flick n.access).how)) does);
}
  where
    mine : Past
    mine = own p past

    c : Call
    c = last_call s p mine

    marks-of : Option Next → List Rattle.model.specs.declared.marks.Mark.Mark
    marks-of o = elim o [ None ↦ [] | Some n ↦ n.marks ]

    made : (n : Next) × (closing_next c at flick ≡ Some n) × (closing_entry s past p flick n ≡ e)
    made = option_map-some (closing_entry s past p flick) (closing_next c at flick) e (sym corresponds ∙ h)

    n : Next
    n = made.0

    process : e.process ≡ p
    process = ap (λ (e : Entry). e.process) (sym made.2)

    access : e.access ≡ Some (valued s past flick n.access)
    access = ap (λ (e : Entry). e.access) (sym made.2)

    plain : has starts e ≡ false
    plain = ap (λ (e : Entry). list_any starts e.marks) (sym made.2) ∙ no_start-placed (length (history s past)) n.marks ∙ closing-plain c at flick n made.1

-- every step of a record
pub step_is : (s : Setup) → IsGood s → (events : List Event) (p : ℕ) (flick : Bool) (e : Entry) → entry_of s (past_of s events) (event.Step p flick) ≡ Some e → StepIs s (past_of s events) p flick e
step_is s g events p flick e h = go (does_all s g events p)
  where
    past : Past
    past = past_of s events

    mine : Past
    mine = own p past

    c : Call
    c = last_call s p mine

    acc : (Rattle.std.specs.Prelude.nat_lt p s.processes ≡ true) × (refused_at (event.Step p flick) (stage p past) ≡ None) × (stepped s past p flick ≡ Some e)
    acc = entry-accepted s past (event.Step p flick) e h

    go : Does s p mine (stage p past) (doing s p past) → StepIs s past p flick e
    go (at_rest i k) = let f : refused_at (event.Step p flick) stages.Idle ≡ None = ap (refused_at (event.Step p flick)) (sym i) ∙ acc.1 in cc
    go (lying i k) = let f : refused_at (event.Step p flick) stages.Down ≡ None = ap (refused_at (event.Step p flick)) (sym i) ∙ acc.1 in cc
    go (running command b r k) = running-step s g events p flick e command b r k acc.2
    go (leaving b i k) = closing-step s past p flick e (leaving_at s p mine) k ((withdrawn_corresponds s g events p b i).1 flick) acc.2
        (λ n is made. leaving-after c (map value_written (since starts mine)) (value_written e) flick)
    go (settling b i k) = closing-step s past p flick e (failing_at s p mine) k ((unit_corresponds s g events p b i).1 flick) acc.2
        (λ n is made. unit-after c (before is_failed mine) (map value_written (since is_failed mine)) (value_written e) flick
        (ap (closing_next c (failing_at s p mine)) (sym (ap value_written made)) ∙ reported-again s past c (before is_failed mine) (map value_written (since is_failed mine)) flick n is ∙ sym is))
