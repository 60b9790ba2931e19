-- In every record what is open is what the machines have open, and every write comes in its turn.
use Rattle.std.proofs.Common.{◌≡◌, ℕ, ◌<◌, Bool, true, false, List, ◌∷◌, Some, map, refl, sym, ap, subst, ◌∙◌, true≢false, inl, inr}
use Rattle.std.specs.Prelude.{fold}
use Rattle.model.specs.{Access, Call, Entry, Event, Leads, Next, Past, Stage, before, is_failed, last_call, last_start, last_write, open_closing, own, past_of, since, stage, stage_after, starts, stepped, value_written}
use Rattle.plain_store.specs.{Setup}
use Rattle.model.specs.declared.marks.Mark.TheVariants.{Failed, Withdrew}
use Rattle.model.specs.declared.stages.Stage.TheVariants as stages
use Rattle.model.specs.Closings.{Closing, Withdraws, Settles, Frees, Lowers, Quit, Ended, withdrawing, failing, closing_after, closing_stage}
use Rattle.model.proofs.Accepted.{before-plain}
use Rattle.model.proofs.ClosingScripts.{withdrawal-stays, unit-stays}
use Rattle.model.proofs.ClosingSteps.{ClosingStep, withdrawn-step, unit-step, leaving-then, failing-then}
use Rattle.model.proofs.ClosingAccesses.{is_unit, keeps-kind, failing-kind}
use Rattle.model.proofs.Local.{start-plain, call-plain}
use Rattle.model.proofs.OpenSteps.{Opens, closed, leaves, settles, Out, IsLate, CutsLate, torn_late, leaving_at, failing_at, turn-of, then-of, closing-torn, withdrawal-begun, withdraws-writes, late-writes}
use Rattle.model.proofs.Opens.{opened, Torn}
use Rattle.model.proofs.PlaceTurns.{withdrawal-leads, unit-leads}
use Rattle.model.proofs.Width.{IsGood}

-- a step of a closing comes in its turn, and what is open then leads on to what is known of it
closing-out : (s : Setup) (past : Past) (p : ℕ) (flick : Bool) (e : Entry) (at : Closing) (step : ClosingStep s past p flick e at)
    → let mine : Past = own p past in
    let c : Call = last_call s p mine in
    let to : Closing = closing_after c at (value_written e) in
    let st : Stage = fold stage_after (stage p past) e.marks in
    ((a : Access) → opened mine a ≡ open_closing c at a) → Leads (open_closing c at) step.next.access (open_closing c to) →
    (((a : Access) → opened (e ∷ mine) a ≡ open_closing c to a) → Opens s p (e ∷ mine) st) → Out s p mine e st
closing-out s past p flick e at step w lead known = record {
  turns = turn-of (own p past) e step.next.access _ _ step.access w lead;
  opens = known (then-of (own p past) e step.next.access _ _ step.access w lead);
}

-- a step of a process that withdrew
pub withdrawn-out : (s : Setup) → IsGood s → (events : List Event) (p : ℕ) (flick : Bool) (e : Entry)
    → let past : Past = past_of s events in
    let mine : Past = own p past in
    last_start mine ≡ Some Withdrew → stage p past ≡ stages.Leaving → ((a : Access) → opened mine a ≡ open_closing (last_call s p mine) (leaving_at s p mine) a) →
    CutsLate (last_call s p mine) mine (leaving_at s p mine) → stepped s past p flick ≡ Some e → Out s p mine e (fold stage_after (stage p past) e.marks)
withdrawn-out s g events p flick e b st w t h =
    closing-out s past p flick e at step w (withdrawal-leads c g fs value n step.reported) (λ then. finish then to refl (keeps-kind c (withdrawing c) (value ∷ fs)))
  where
    past : Past
    past = past_of s events

    mine : Past
    mine = own p past

    c : Call
    c = last_call s p mine

    fs : List Bool
    fs = map value_written (since starts mine)

    at : Closing
    at = leaving_at s p mine

    step : ClosingStep s past p flick e at
    step = withdrawn-step s g events p flick e b st h

    n : Next
    n = step.next

    value : Bool
    value = value_written e

    to : Closing
    to = closing_after c at value

    call : last_call s p (e ∷ mine) ≡ c
    call = call-plain s p e mine step.plain

    place : leaving_at s p (e ∷ mine) ≡ to
    place = leaving-then s p e mine step.plain

    torn : Torn s.processes p (e ∷ mine) (torn_late to)
    torn = closing-torn c mine e at _ value n (withdrawal-stays c g fs value).fit step.reported step.access w (withdraws-writes c at value n (keeps-kind c (withdrawing c) fs) step.reported)

    cuts : CutsLate (last_call s p (e ∷ mine)) (e ∷ mine) (leaving_at s p (e ∷ mine))
    cuts = subst (λ d. CutsLate d (e ∷ mine) (leaving_at s p (e ∷ mine))) (sym call)
        (subst (CutsLate c (e ∷ mine)) (sym place) (record { torn = torn; begun = withdrawal-begun c mine e at value n (keeps-kind c (withdrawing c) fs) step.reported step.access w t }))

    finish : ((a : Access) → opened (e ∷ mine) a ≡ open_closing c to a) → (x : Closing) → to ≡ x → is_unit to ≡ false → Opens s p (e ∷ mine) (fold stage_after (stage p past) e.marks)
    finish then (Withdraws q) i k = leaves (start-plain e mine step.plain ∙ b) (step.at_stage ∙ ap closing_stage i) (λ a. then a ∙ sym (λ j. open_closing (call j) (place j) a)) cuts
    finish then Quit i k = closed (inl (step.at_stage ∙ ap closing_stage i)) (λ a. then a ∙ ap (λ x. open_closing c x a) i) (subst (λ x. Torn s.processes p (e ∷ mine) (torn_late x)) i torn)
    finish then _ i k = absurd (true≢false (sym (ap is_unit i) ∙ k))

-- a step of a memory unit
pub unit-out : (s : Setup) → IsGood s → (events : List Event) (p : ℕ) (flick : Bool) (e : Entry)
    → let past : Past = past_of s events in
    let mine : Past = own p past in
    last_start mine ≡ Some Failed → stage p past ≡ stages.Settling → ((a : Access) → opened mine a ≡ open_closing (last_call s p mine) (failing_at s p mine) a) →
    ((b : Access) → last_write (before is_failed mine) ≡ Some b → b.reader < s.processes) →
    stepped s past p flick ≡ Some e → Out s p mine e (fold stage_after (stage p past) e.marks)
unit-out s g events p flick e b st w r h =
    closing-out s past p flick e at step w (unit-leads c g cut r fs value n step.reported) (λ then. finish then to refl (keeps-kind c (failing c cut) (value ∷ fs) ∙ failing-kind c cut))
  where
    past : Past
    past = past_of s events

    mine : Past
    mine = own p past

    c : Call
    c = last_call s p mine

    cut : Past
    cut = before is_failed mine

    fs : List Bool
    fs = map value_written (since is_failed mine)

    at : Closing
    at = failing_at s p mine

    step : ClosingStep s past p flick e at
    step = unit-step s g events p flick e b st h

    n : Next
    n = step.next

    value : Bool
    value = value_written e

    to : Closing
    to = closing_after c at value

    call : last_call s p (e ∷ mine) ≡ c
    call = call-plain s p e mine step.plain

    place : failing_at s p (e ∷ mine) ≡ to
    place = failing-then s p e mine step.plain

    torn : IsLate to → Torn s.processes p (e ∷ mine) (torn_late to)
    torn l = closing-torn c mine e at _ value n (unit-stays c g cut fs value).fit step.reported step.access w (late-writes c at value value n step.reported l)

    on : ((a : Access) → opened (e ∷ mine) a ≡ open_closing c to a) → closing_stage to ≡ stages.Settling → Opens s p (e ∷ mine) (fold stage_after (stage p past) e.marks)
    on then k = settles (start-plain e mine step.plain ∙ b) (step.at_stage ∙ k) (λ a. then a ∙ sym (λ j. open_closing (call j) (place j) a))
        (λ x u. r x (ap last_write (sym (before-plain e mine step.plain)) ∙ u)) (λ l. subst (λ x. Torn s.processes p (e ∷ mine) (torn_late x)) (sym place) (torn (subst IsLate place l)))

    finish : ((a : Access) → opened (e ∷ mine) a ≡ open_closing c to a) → (x : Closing) → to ≡ x → is_unit to ≡ true → Opens s p (e ∷ mine) (fold stage_after (stage p past) e.marks)
    finish then (Settles field bit begun taken is t) i k = on then (ap closing_stage i)
    finish then (Frees is q) i k = on then (ap closing_stage i)
    finish then (Lowers q) i k = on then (ap closing_stage i)
    finish then Ended i k = closed (inr (step.at_stage ∙ ap closing_stage i)) (λ a. then a ∙ ap (λ x. open_closing c x a) i) (subst (λ x. Torn s.processes p (e ∷ mine) (torn_late x)) i (torn (subst IsLate (sym i) tt)))
    finish then (Withdraws q) i k = absurd (true≢false (sym k ∙ ap is_unit i))
    finish then Quit i k = absurd (true≢false (sym k ∙ ap is_unit i))
