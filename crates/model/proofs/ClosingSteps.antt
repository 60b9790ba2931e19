-- A step of a process that withdrew, and of a memory unit: its access, and where the closing is then.
use Rattle.std.proofs.Common.{◌≡◌, ℕ, Bool, true, false, List, [], ◌∷◌, Some, length, map, sym, ap, ◌∙◌}
use Rattle.std.specs.Prelude.{fold, option_map}
use Rattle.std.specs.List.{list_any}
use Rattle.safe_bit.specs.{read_value}
use Rattle.plain_store.specs.{Setup}
use Rattle.model.specs.{Call, Closing, Entry, Event, Next, Past, before, closing_after, closing_entry, closing_next, closing_of, closing_stage, failing, has, history, is_failed, last_call, last_start, moves_of, opening_bit, own, past_of, since, stage, stage_after, starts, stepped, value_written, withdrawing}
use Rattle.model.specs.declared.marks.Mark.TheVariants.{Failed, Withdrew}
use Rattle.model.specs.declared.stages.Stage.TheVariants as stages
use Rattle.model.proofs.Accepted.{before-plain, no_failed}
use Rattle.model.proofs.ClosingScripts.{closing-stages}
use Rattle.model.proofs.ClosingAccesses.{withdrawn_corresponds, unit_corresponds, reported-again, flick-free, chosen-after, IsChosen}
use Rattle.model.proofs.Local.{since-plain, call-plain, option_map-some}
use Rattle.model.proofs.OpenSteps.{leaving_at, failing_at, closing-plain, closing-same}
use Rattle.model.proofs.Staging.{stage-placed, no_start-placed}
use Rattle.model.proofs.Width.{IsGood}

-- an entry of p that is the next step of its closing, which was at this place
pub record ClosingStep (s : Setup) (past : Past) (p : ℕ) (flick : Bool) (e : Entry) (at : Closing) : Type 0 where
  pub next : Next
  pub made : closing_next (last_call s p (own p past)) at flick ≡ Some next
  pub is : closing_entry s past p flick next ≡ e
  pub access : e.access ≡ Some next.access
  pub plain : has starts e ≡ false
  pub reported : closing_next (last_call s p (own p past)) at (value_written e) ≡ Some next
  pub at_stage : fold stage_after (stage p past) e.marks ≡ closing_stage (closing_after (last_call s p (own p past)) at (value_written e))

-- an entry is the next step of a closing, if a step of p adds it and its written value gives the same next access
closing-step : (s : Setup) (past : Past) (p : ℕ) (flick : Bool) (e : Entry) (at : Closing)
    → let c : Call = last_call s p (own p past) in
    stage p past ≡ closing_stage at → stepped s past p flick ≡ option_map (closing_entry s past p flick) (closing_next c at flick) →
    ((n : Next) → closing_next c at flick ≡ Some n → closing_entry s past p flick n ≡ e → closing_next c at (value_written e) ≡ Some n) →
    stepped s past p flick ≡ Some e → ClosingStep s past p flick e at
closing-step s past p flick e at st corresponds again h = record {
  next = n;
  made = made.1;
  is = made.2;
  access = ap (λ (e : Entry). e.access) (sym made.2) ∙ ap Some (closing-same c at flick (read_value (opening_bit s n.access) (moves_of n.access past) flick) n made.1);
  plain = ap (λ (e : Entry). list_any starts e.marks) (sym made.2) ∙ no_start-placed (length (history s past)) n.marks ∙ closing-plain c at flick n made.1;
  reported = reported;
  at_stage = ap (λ (e : Entry). fold stage_after (stage p past) e.marks) (sym made.2) ∙ stage-placed (length (history s past)) (stage p past) n.marks
      ∙ ap (λ u. fold stage_after u n.marks) st ∙ closing-stages c at (value_written e) n reported;
}
  where
    c : Call
    c = last_call s p (own p past)

    made : (n : Next) × (closing_next c at flick ≡ Some n) × (closing_entry s past p flick n ≡ e)
    made = option_map-some (closing_entry s past p flick) (closing_next c at flick) e (sym corresponds ∙ h)

    n : Next
    n = made.0

    reported : closing_next c at (value_written e) ≡ Some n
    reported = again n made.1 made.2

-- a value that was chosen stays chosen
leaving-chosen : (c : Call) (fs : List Bool) → IsChosen (closing_of c (withdrawing c) fs)
leaving-chosen c [] = tt
leaving-chosen c (f ∷ fs) = chosen-after c (closing_of c (withdrawing c) fs) f

-- a step of a process that withdrew
pub withdrawn-step : (s : Setup) → IsGood s → (events : List Event) (p : ℕ) (flick : Bool) (e : Entry)
    → let past : Past = past_of s events in
    last_start (own p past) ≡ Some Withdrew → stage p past ≡ stages.Leaving → stepped s past p flick ≡ Some e → ClosingStep s past p flick e (leaving_at s p (own p past))
withdrawn-step s g events p flick e b st h =
    closing-step s past p flick e (leaving_at s p mine) (st ∙ sym corresponds.0) (corresponds.1 flick)
    (λ n i is. flick-free c (leaving_at s p mine) (leaving-chosen c (map value_written (since starts mine))) (value_written e) flick ∙ i) h
  where
    past : Past
    past = past_of s events

    mine : Past
    mine = own p past

    c : Call
    c = last_call s p mine

    corresponds : (closing_stage (leaving_at s p mine) ≡ stages.Leaving) × ((flick : Bool) → stepped s past p flick ≡ option_map (closing_entry s past p flick) (closing_next c (leaving_at s p mine) flick))
    corresponds = withdrawn_corresponds s g events p b st

-- a step of a memory unit
pub unit-step : (s : Setup) → IsGood s → (events : List Event) (p : ℕ) (flick : Bool) (e : Entry)
    → let past : Past = past_of s events in
    last_start (own p past) ≡ Some Failed → stage p past ≡ stages.Settling → stepped s past p flick ≡ Some e → ClosingStep s past p flick e (failing_at s p (own p past))
unit-step s g events p flick e b st h =
    closing-step s past p flick e (failing_at s p mine) (st ∙ sym corresponds.0) (corresponds.1 flick)
    (λ n i is. ap (closing_next c (failing_at s p mine)) (sym (ap value_written is)) ∙ reported-again s past c (before is_failed mine) (map value_written (since is_failed mine)) flick n i) h
  where
    past : Past
    past = past_of s events

    mine : Past
    mine = own p past

    c : Call
    c = last_call s p mine

    corresponds : (closing_stage (failing_at s p mine) ≡ stages.Settling) × ((flick : Bool) → stepped s past p flick ≡ option_map (closing_entry s past p flick) (closing_next c (failing_at s p mine) flick))
    corresponds = unit_corresponds s g events p b st

-- where a closing is after an entry that begins no program
pub leaving-then : (s : Setup) (p : ℕ) (e : Entry) (mine : Past) → has starts e ≡ false → leaving_at s p (e ∷ mine) ≡ closing_after (last_call s p mine) (leaving_at s p mine) (value_written e)
leaving-then s p e mine plain =
    ap (λ d. closing_of d (withdrawing d) (map value_written (since starts (e ∷ mine)))) (call-plain s p e mine plain)
    ∙ ap (λ l. closing_of (last_call s p mine) (withdrawing (last_call s p mine)) (map value_written l)) (since-plain e mine plain)

since_failed-plain : (e : Entry) (mine : Past) → has starts e ≡ false → since is_failed (e ∷ mine) ≡ e ∷ since is_failed mine
since_failed-plain e mine h = ap (λ b. elim b as (λ _. Past) [ true ↦ [] | false ↦ e ∷ since is_failed mine ]) (no_failed e.marks h)

pub failing-then : (s : Setup) (p : ℕ) (e : Entry) (mine : Past) → has starts e ≡ false → failing_at s p (e ∷ mine) ≡ closing_after (last_call s p mine) (failing_at s p mine) (value_written e)
failing-then s p e mine plain =
    ap (λ d. closing_of d (failing d (before is_failed (e ∷ mine))) (map value_written (since is_failed (e ∷ mine)))) (call-plain s p e mine plain)
    ∙ ap (λ q. closing_of (last_call s p mine) (failing (last_call s p mine) q) (map value_written (since is_failed (e ∷ mine)))) (before-plain e mine plain)
    ∙ ap (λ l. closing_of (last_call s p mine) (failing (last_call s p mine) (before is_failed mine)) (map value_written l)) (since_failed-plain e mine plain)
