-- A step of a process that withdrew, and of a memory unit, agrees with the look-backs.
use Rattle.std.proofs.Common.{◌≡◌, ℕ, ◌==◌, Bool, true, false, cond, List, ◌∷◌, Some, map, refl, sym, ap, ◌∙◌, true≢false}
use Rattle.std.specs.Prelude.{fold}
use Rattle.model.specs.safe_bit.{read_value}
use Rattle.model.specs.{Access, Call, Entry, Event, Next, Past, before, call_number, has, is_failed, last_call, last_command, last_start, moves_of, opening_bit, own, past_of, since, stage, stage_after, starts, stepped, value_written}
use Rattle.plain_store.specs.{Command, Setup}
use Rattle.model.specs.declared.marks.Mark.TheVariants.{Failed, Withdrew}
use Rattle.model.specs.declared.stages.Stage.TheVariants as stages
use Rattle.model.specs.Closings.{Closing, Withdraws, Settles, Frees, Lowers, Quit, Ended, withdrawing, failing, closing_after, closing_stage}
use Rattle.model.proofs.ClosingAccesses.{is_unit, keeps-kind, failing-kind}
use Rattle.model.proofs.Local.{start-plain, command-plain, calls-plain}
use Rattle.model.proofs.OpenSteps.{leaving_at, failing_at, closing-same}
use Rattle.model.proofs.Staging.{no_start}
use Rattle.model.proofs.Width.{IsGood}
use Rattle.model.proofs.ClosingSteps.{ClosingStep, withdrawn-step, unit-step, leaving-then, failing-then}
use Rattle.laws.specs.{Doing, Closes, call, closes, goes_on, does_after, doing}
use Rattle.laws.proofs.Frame.{Does, at_rest, lying, leaving, settling, a_closing, Goes, then_doing}

-- an entry with an access of a closing
then-closing : (s : Setup) (past : Past) (p : ℕ) (e : Entry) (command : Command) (number : ℕ) (at : Closing) (a : Access) → has starts e ≡ false → e.access ≡ Some a → doing s p past ≡ Closes command number at →
    then_doing s past p e ≡ closes command number (closing_after (call s p command number) at (value_written e))
then-closing s past p e command number at a plain access does =
    ap (λ m. does_after s p (own p past) e m (doing s p past)) (no_start e.marks plain) ∙ ap (λ x. goes_on s p e x (doing s p past)) access ∙ ap (goes_on s p e (Some a)) does

-- a step of a closing, where what its process does then fits its stage
closing-goes : (s : Setup) (past : Past) (p : ℕ) (flick : Bool) (e : Entry) (at : Closing)
    → let mine : Past = own p past in
    let command : Command = last_command mine in
    let number : ℕ = call_number s mine in
    ClosingStep s past p flick e at → doing s p past ≡ Closes command number at →
    (then_doing s past p e ≡ closes command number (closing_after (last_call s p mine) at (value_written e)) → Does s p (e ∷ mine) (fold stage_after (stage p past) e.marks) (then_doing s past p e)) →
    Goes s past p e (doing s p past) (then_doing s past p e)
closing-goes s past p flick e at step does then = record {
  happens = a_closing (last_command mine) (call_number s mine) at value n does step.reported step.access
      (closing-same (last_call s p mine) at value (read_value (opening_bit s n.access) (moves_of n.access past) value) n step.reported) (ap (λ (e : Entry). e.marks) (sym step.is)) d';
  does = then d';
}
  where
    mine : Past
    mine = own p past

    n : Next
    n = step.next

    value : Bool
    value = value_written e

    d' : then_doing s past p e ≡ closes (last_command mine) (call_number s mine) (closing_after (last_call s p mine) at value)
    d' = then-closing s past p e (last_command mine) (call_number s mine) at n.access step.plain step.access does

-- an entry that begins no program changes neither the command nor the number of the closing
same-call : (s : Setup) (mine : Past) (e : Entry) (at : Closing) → has starts e ≡ false →
    Closes (last_command (e ∷ mine)) (call_number s (e ∷ mine)) at ≡ Closes (last_command mine) (call_number s mine) at
same-call s mine e at plain = λ j. Closes (command-plain e mine plain j) (cond (s.version == 2) (calls-plain e mine plain j) 0) at

-- a step of a process that withdrew
pub leaving-goes : (s : Setup) → IsGood s → (events : List Event) (p : ℕ) (flick : Bool) (e : Entry)
    → let past : Past = past_of s events in
    let mine : Past = own p past in
    last_start mine ≡ Some Withdrew → stage p past ≡ stages.Leaving → doing s p past ≡ Closes (last_command mine) (call_number s mine) (leaving_at s p mine) →
    stepped s past p flick ≡ Some e → Goes s past p e (doing s p past) (then_doing s past p e)
leaving-goes s g events p flick e b st does h = closing-goes s past p flick e at step does (λ d. finish d to refl (keeps-kind c (withdrawing c) (value_written e ∷ map value_written (since starts mine))))
  where
    past : Past
    past = past_of s events

    mine : Past
    mine = own p past

    c : Call
    c = last_call s p mine

    at : Closing
    at = leaving_at s p mine

    step : ClosingStep s past p flick e at
    step = withdrawn-step s g events p flick e b st h

    to : Closing
    to = closing_after c at (value_written e)

    ends : Closing → Doing
    ends = closes (last_command mine) (call_number s mine)

    finish : then_doing s past p e ≡ ends to → (x : Closing) → to ≡ x → is_unit to ≡ false → Does s p (e ∷ mine) (fold stage_after (stage p past) e.marks) (then_doing s past p e)
    finish d (Withdraws q) i k = leaving (start-plain e mine step.plain ∙ b) (step.at_stage ∙ ap closing_stage i)
        (d ∙ ap ends i ∙ ap (Closes (last_command mine) (call_number s mine)) (sym (leaving-then s p e mine step.plain ∙ i)) ∙ sym (same-call s mine e (leaving_at s p (e ∷ mine)) step.plain))
    finish d Quit i k = at_rest (step.at_stage ∙ ap closing_stage i) (d ∙ ap ends i)
    finish d _ i k = absurd (true≢false (sym (ap is_unit i) ∙ k))

-- a step of a memory unit
pub settling-goes : (s : Setup) → IsGood s → (events : List Event) (p : ℕ) (flick : Bool) (e : Entry)
    → let past : Past = past_of s events in
    let mine : Past = own p past in
    last_start mine ≡ Some Failed → stage p past ≡ stages.Settling → doing s p past ≡ Closes (last_command mine) (call_number s mine) (failing_at s p mine) →
    stepped s past p flick ≡ Some e → Goes s past p e (doing s p past) (then_doing s past p e)
settling-goes s g events p flick e b st does h = closing-goes s past p flick e at step does (λ d. finish d to refl (keeps-kind c (failing c cut) (value_written e ∷ map value_written (since is_failed mine)) ∙ failing-kind c cut))
  where
    past : Past
    past = past_of s events

    mine : Past
    mine = own p past

    c : Call
    c = last_call s p mine

    cut : Past
    cut = before is_failed mine

    at : Closing
    at = failing_at s p mine

    step : ClosingStep s past p flick e at
    step = unit-step s g events p flick e b st h

    to : Closing
    to = closing_after c at (value_written e)

    ends : Closing → Doing
    ends = closes (last_command mine) (call_number s mine)

    on : then_doing s past p e ≡ ends to → (x : Closing) → to ≡ x → closing_stage x ≡ stages.Settling → ends x ≡ Closes (last_command mine) (call_number s mine) x →
        Does s p (e ∷ mine) (fold stage_after (stage p past) e.marks) (then_doing s past p e)
    on d x i k l = settling (start-plain e mine step.plain ∙ b) (step.at_stage ∙ ap closing_stage i ∙ k)
        (d ∙ ap ends i ∙ l ∙ ap (Closes (last_command mine) (call_number s mine)) (sym (failing-then s p e mine step.plain ∙ i)) ∙ sym (same-call s mine e (failing_at s p (e ∷ mine)) step.plain))

    finish : then_doing s past p e ≡ ends to → (x : Closing) → to ≡ x → is_unit to ≡ true → Does s p (e ∷ mine) (fold stage_after (stage p past) e.marks) (then_doing s past p e)
    finish d (Settles field bit begun taken is t) i k = on d (Settles field bit begun taken is t) i refl refl
    finish d (Frees is q) i k = on d (Frees is q) i refl refl
    finish d (Lowers q) i k = on d (Lowers q) i refl refl
    finish d Ended i k = lying (step.at_stage ∙ ap closing_stage i) (d ∙ ap ends i)
    finish d (Withdraws q) i k = absurd (true≢false (sym k ∙ ap is_unit i))
    finish d Quit i k = absurd (true≢false (sym k ∙ ap is_unit i))
