-- Calls that were withdrawn, and calls that return `withdrawn`.
use Rattle.std.proofs.Common.{◌≡◌, ℕ, ◌+◌, ◌==◌, ◌||◌, Bool, true, false, cond, List, [], ◌∷◌, length, Option, Some, None, refl, sym, ap, subst, ◌∙◌, ne_eqb}
use Rattle.std.specs.List.{list_any}
use Rattle.model.specs.{Access, Asks, AsksImage, AsksStamp, Call, Clears, Entry, Event, Part, Past, Place, Raises, Refuses, TakesTicket, Version, Wait, Waits, WritesImage, bits_with, enter, first_full, greatest, has, history, is_called, is_last, is_over, last_write, lets_by, max_of, newest_stamp, others, own, part_after, past_of, place_after, processes, reply, run_after, since, store_read, to_b, to_c, to_d, to_e, unfinished, value_of, waits_of, write_moved}
use Rattle.plain_store.specs.declared.Answer.TheVariants as answer
use Rattle.plain_store.specs.{Command, Setup, changes}
use Rattle.model.specs.reader_copies.Runs as copies
use Rattle.model.specs.safe_number.{new_write}
use Rattle.model.specs.Closings.{Closing, Withdraws, Settles, Frees, Lowers, Quit, Ended, closing_after, freeing, is_last_settled, is_last_written, no_ticket, settling_from}
use Rattle.model.specs.Parts as part
use Rattle.model.proofs.Width.{IsGood}
use Rattle.any_lock.specs.safe_monitor.laws.{Doing, Rests, Runs, Closes, call, closes, doing, runs}
use Rattle.any_lock.proofs.safe_monitor.laws.AtPlaces.{AtPlace, own-induction, place-induction}
use Rattle.any_lock.proofs.safe_monitor.laws.Frame.{Happens, a_call, a_withdrawal, a_failure, a_restart, a_step, a_closing, doing-other}
use Rattle.any_lock.proofs.safe_monitor.laws.FrameEvents.{accepted}
use Rattle.any_lock.specs.{ProcessView, is_withdrawal, its_call}
use Rattle.any_lock.proofs.Markings.{withdrawn-plain}
use Rattle.any_lock.proofs.Steps.{own-mine, process_view-other}
use Rattle.judge.proofs.StepMarks.{plain_closing, plain_step}

-- A call that was not withdrawn does not return `withdrawn`.

-- a part after which a call returns `withdrawn`
abbrev pub answers_withdrawn : Part → Bool
answers_withdrawn (Clears answer.Withdrawn) = true
answers_withdrawn _ = false

to_c_not : (c : Call) (ts : List ℕ) → answers_withdrawn (to_c c ts) ≡ false
to_c_not c ts = go (greatest ts == max_of c.setup.ticket_bits)
  where
    go : (b : Bool) → answers_withdrawn (elim b as (λ _. Part) [ true ↦ Refuses (first_full c ts) | false ↦ TakesTicket (greatest ts + 1) ]) ≡ false
    go true = refl
    go false = refl

to_b_not : (c : Call) (js ts : List ℕ) → answers_withdrawn (to_b c js ts) ≡ false
to_b_not c [] ts = to_c_not c ts
to_b_not c (j ∷ js) ts = refl

to_e_not : (ks : List ℕ) (vs : List Version) → answers_withdrawn (to_e ks vs) ≡ false
to_e_not [] vs = refl
to_e_not (k ∷ ks) vs = refl

to_d_not : (c : Call) (t : ℕ) (ws : List Wait) → answers_withdrawn (to_d c t ws) ≡ false
to_d_not c t [] = to_e_not (processes c.setup) []
to_d_not c t (w ∷ ws) = refl

after_not : (c : Call) (x : Part) (value : List Bool) → answers_withdrawn (part_after c x value) ≡ false
after_not c Raises value = to_b_not c (others c.setup c.process) []
after_not c (Asks j js ts) value = to_b_not c js _
after_not c (part.Lowers t) value = to_d_not c t (waits_of c)
after_not c (Waits t w ws) value = to_d_not c t (cond (lets_by c t w value) ws (w ∷ ws))
after_not c (AsksStamp k ks vs b) value = to_e_not ks _
after_not c (AsksImage vs) value = go (changes (store_read c value) c.command) (newest_stamp vs == max_of c.setup.stamp_bits)
  where
    go : (b full : Bool) → answers_withdrawn (elim b as (λ _. Part) [
      | false ↦ Clears (answer.Reply (reply c (store_read c value)))
      | true ↦ elim full as (λ _. Part) [ true ↦ Clears answer.StampsFull | false ↦ WritesImage vs (store_read c value) ]
    ]) ≡ false
    go false full = refl
    go true true = refl
    go true false = refl
after_not c _ value = refl

place_not : (c : Call) (at : Place) (v : Bool) → answers_withdrawn at.part ≡ false → answers_withdrawn (place_after c at v).part ≡ false
place_not c at v h = go (is_last c at.part at.run)
  where
    go : (b : Bool) → answers_withdrawn (cond b (enter c (part_after c at.part (bits_with at.run v))) (record { part = at.part; run = run_after c at.part at.run v })).part ≡ false
    go true = after_not c at.part (bits_with at.run v)
    go false = h

pub never_withdrawn : (s : Setup) → IsGood s → (events : List Event) (p : ℕ) → AtPlace (λ command number at. answers_withdrawn at.part ≡ false) (doing s p (past_of s events))
never_withdrawn s g = place-induction s g (λ past p command number at. answers_withdrawn at.part ≡ false) (λ past e p command number at apart h. h) (λ past e command number none marks. refl)
    (λ past e command number at st h over. place_not (call s e.process command number) at (value_of st.access.how) h)

-- Whether the last call was withdrawn.

abbrev pub WithdrawnIn : Bool → Doing → Type 0
WithdrawnIn was (Runs command number at) = was ≡ false
WithdrawnIn was (Closes command number (Withdraws w)) = was ≡ true
WithdrawnIn was _ = Unit {0}

-- p's call was withdrawn
abbrev pub was_withdrawn : ℕ → Past → Bool
was_withdrawn p past = list_any (has is_withdrawal) (its_call p past)

runs_withdrawn : (was : Bool) (command : Command) (number : ℕ) (at : Place) → was ≡ false → WithdrawnIn was (runs command number at)
runs_withdrawn was command number at h = go (is_over at.part)
  where
    go : (b : Bool) → WithdrawnIn was (cond b Rests (Runs command number at))
    go true = tt
    go false = h

unit_withdrawn : (was : Bool) (command : Command) (number : ℕ) (c : Call) (mine : Past) (cut : Option Access) → WithdrawnIn was (Closes command number (settling_from c mine cut))
unit_withdrawn was command number c mine None = tt
unit_withdrawn was command number c mine (Some a) = tt

-- only a withdrawal continues as a withdrawal
closes_withdrawn : (was now : Bool) (c : Call) (command : Command) (number : ℕ) (at : Closing) (flick : Bool) → now ≡ was → WithdrawnIn was (Closes command number at) → WithdrawnIn now (closes command number (closing_after c at flick))
closes_withdrawn was now c command number (Withdraws w) flick same h = go (is_last_written c (no_ticket c) w)
  where
    go : (b : Bool) → WithdrawnIn now (closes command number (cond b Quit (Withdraws (write_moved c.setup.processes (no_ticket c) w))))
    go true = tt
    go false = same ∙ h
closes_withdrawn was now c command number (Settles f bit begun taken is t) flick same h = go (is_last_settled c t (copies.settled_at t flick))
  where
    go : (b : Bool) → WithdrawnIn now (closes command number (cond b (freeing c is) (Settles f bit begun taken is (copies.settle_after t (copies.settled_at t flick)))))
    go true = tt
    go false = tt
closes_withdrawn was now c command number (Frees is w) flick same h = go (is_last_written c (no_ticket c) w)
  where
    go : (b : Bool) → WithdrawnIn now (closes command number (cond b (Lowers (new_write 1)) (Frees is (write_moved c.setup.processes (no_ticket c) w))))
    go true = tt
    go false = tt
closes_withdrawn was now c command number (Lowers w) flick same h = go (is_last_written c (false ∷ []) w)
  where
    go : (b : Bool) → WithdrawnIn now (closes command number (cond b Ended (Lowers (write_moved c.setup.processes (false ∷ []) w))))
    go true = tt
    go false = tt
closes_withdrawn was now c command number Quit flick same h = tt
closes_withdrawn was now c command number Ended flick same h = tt

module _ (s : Setup) (past : Past) (e : Entry) where
  abbrev p : ℕ
  p = e.process

  withdrawn_by : (d d' : Doing) → Happens s past p e d d' → WithdrawnIn (was_withdrawn p past) d → WithdrawnIn (was_withdrawn p (e ∷ past)) d'
  withdrawn_by d d' (a_call command number i none m k) h =
      subst (WithdrawnIn (was_withdrawn p (e ∷ past))) (sym k) (ap (λ l. list_any (has is_withdrawal) (since is_called l)) (own-mine p e past refl)
      ∙ ap (λ b. list_any (has is_withdrawal) (elim b as (λ _. Past) [ true ↦ [] | false ↦ e ∷ since is_called (own p past) ])) (ap (list_any is_called) m))
  withdrawn_by d d' (a_withdrawal command number t w ws run i none m k) h =
      subst (WithdrawnIn (was_withdrawn p (e ∷ past))) (sym k) (ap (λ l. list_any (has is_withdrawal) (since is_called l)) (own-mine p e past refl)
      ∙ ap (λ b. list_any (has is_withdrawal) (elim b as (λ _. Past) [ true ↦ [] | false ↦ e ∷ since is_called (own p past) ])) (ap (list_any is_called) m)
      ∙ ap (λ ms. list_any is_withdrawal ms || list_any (has is_withdrawal) (since is_called (own p past))) m)
  withdrawn_by d d' (a_failure command number may none m k) h =
      subst (WithdrawnIn (was_withdrawn p (e ∷ past))) (sym k) (unit_withdrawn (was_withdrawn p (e ∷ past)) command number (call s p command number) (own p past) (unfinished s.processes (last_write (own p past))))
  withdrawn_by d d' (a_restart i none m k) h = subst (WithdrawnIn (was_withdrawn p (e ∷ past))) (sym k) tt
  withdrawn_by d d' (a_step command number at a flick i over acc made m k) h =
      let same : was_withdrawn p (e ∷ past) ≡ was_withdrawn p past = withdrawn-plain p e.access e.marks past (plain_step (call s p command number) at (value_of a.how) (length (history s past)) e.marks m) in
      subst (WithdrawnIn (was_withdrawn p (e ∷ past))) (sym k) (runs_withdrawn (was_withdrawn p (e ∷ past)) command number (place_after (call s p command number) at (value_of a.how)) (same ∙ subst (WithdrawnIn (was_withdrawn p past)) i h))
  withdrawn_by d d' (a_closing command number at flick n i next acc made m k) h =
      let same : was_withdrawn p (e ∷ past) ≡ was_withdrawn p past = withdrawn-plain p e.access e.marks past (plain_closing (call s p command number) at flick n next (length (history s past)) e.marks m) in
      subst (WithdrawnIn (was_withdrawn p (e ∷ past))) (sym k) (closes_withdrawn (was_withdrawn p past) (was_withdrawn p (e ∷ past)) (call s p command number) command number at flick same (subst (WithdrawnIn (was_withdrawn p past)) i h))

pub withdrawn_is : (s : Setup) → IsGood s → (events : List Event) (p : ℕ) → WithdrawnIn (was_withdrawn p (past_of s events)) (doing s p (past_of s events))
withdrawn_is s g = own-induction s (λ (past : Past) (p : ℕ). WithdrawnIn (was_withdrawn p past) (doing s p past)) (λ p. tt)
    (λ past e p apart h. subst (WithdrawnIn (was_withdrawn p (e ∷ past))) (sym (doing-other s p e past apart))
    (subst (λ b. WithdrawnIn b (doing s p past)) (sym (ap (λ (k : ProcessView). k.withdrawn) (process_view-other s p e past (ne_eqb e.process p apart)))) h))
    (λ events event e is h. withdrawn_by s (past_of s events) e (doing s e.process (past_of s events)) (doing s e.process (e ∷ past_of s events)) (accepted s g events event e is).happens h)
