-- A run in which one process alone has steps to make: its rounds are the steps of this process.
use Rattle.std.proofs.Common.{◌≡◌, ◌≢◌, ℕ, zero, suc, ◌+◌, ◌<◌, ◌≤◌, ◌==◌, ◌&&◌, nat_lt, Bool, true, false, cond, List, ◌∷◌, Option, None, Some, fold, refl, ap, sym, ◌∙◌, arith, ne_eqb}
use Rattle.std.specs.Prelude.{Ok}
use Rattle.std.specs.List.{list_any, range_with_len}
use Rattle.std.proofs.lemmas.Bool.Decides.{nat_tests}
use Rattle.plain_store.specs.{Setup, checked}
use Rattle.model.specs.{Entry, Event, Past, Stage, entry_of, is_at_work, past_of, process_of, stage, stage_after}
use Rattle.model.specs.declared.events.Event.TheVariants.{Step}
use Rattle.model.proofs.Width.{is_good}
use Rattle.model.proofs.World.{entry-accepted, entry_view, view}
use Rattle.sweeper.specs.{IsAlone, OthersRest, goes, is_accepted, round, rounds, steps_of, with_step}
use Rattle.sweeper.specs.declared.round_steps.RoundSteps.{RoundSteps}
use Rattle.sweeper.specs.declared.round_steps.RoundSteps.TheVariants.{NoProcess, One, Several}
use Rattle.sweeper.proofs.Enabled.{steps_of_enabled}
use Rattle.sweeper.proofs.Going.{ended, none_more, round_more}
use Rattle.sweeper.proofs.Pasts.{HaveOnePast, past_accepted, past_more, past_refused, past_rounds, past_then}

-- the first processes of a round, up to this number, have had their turn
abbrev pub steps_below : Bool → List Event → ℕ → List Event
steps_below v x k = fold (λ events p. Step p v ∷ events) x (range_with_len 0 k)

steps_more : (v : Bool) (x : List Event) (k : ℕ) → steps_below v x (suc k) ≡ Step k v ∷ steps_below v x k
steps_more v x k = let next : suc k ≡ k + 1 = omega arith in ap (steps_below v x) next ∙ sym (round_more v k x)

none_all : (f : ℕ → Bool) → ((q : ℕ) → f q ≡ false) → (n : ℕ) → list_any f (range_with_len 0 n) ≡ false
none_all f none zero = refl
none_all f none (suc n) = let next : suc n ≡ n + 1 = omega arith in ap (λ n. list_any f (range_with_len 0 n)) next ∙ none_more f n (none_all f none n) (none n)

-- the processes below k that have made no step have none to make
abbrev pub RestBelow : Setup → Bool → RoundSteps → ℕ → List Event → Type 0
RestBelow s v NoProcess k events = (q : ℕ) → q < k → is_accepted s events (Step q v) ≡ false
RestBelow s v (One p) k events = (q : ℕ) → q < k → q ≢ p → is_accepted s events (Step q v) ≡ false
RestBelow s v Several k events = Unit {0}

module _ (s : Setup) (good : checked s ≡ Ok tt) (v : Bool) where
  -- an event of another process leaves the stage of q unchanged
  other_stage : (x : List Event) (what : Event) (q : ℕ) → q ≢ process_of what → stage q (past_of s (what ∷ x)) ≡ stage q (past_of s x)
  other_stage x what q apart = by (entry_of s (past_of s x) what) refl
    where
      by : (o : Option Entry) → entry_of s (past_of s x) what ≡ o → stage q (elim o as (λ _. Past) [ None ↦ past_of s x | Some e ↦ e ∷ past_of s x ]) ≡ stage q (past_of s x)
      by None is = refl
      by (Some e) is =
          let a = entry-accepted s (past_of s x) what e is in
          let own : e.process ≡ process_of what = (entry_view s (is_good s good) (past_of s x) what e a.1 (view s (is_good s good) x (process_of what)) a.2).0 in
          let other : (e.process == q) ≡ false = ne_eqb e.process q (λ u. apart (sym u ∙ own)) in
          ap (λ b. cond b (fold stage_after (stage q (past_of s x)) e.marks) (stage q (past_of s x))) other

  -- a step of another process changes nothing of whether q has one to make
  other_accepted : (x : List Event) (p q : ℕ) → q ≢ p → is_accepted s (Step p v ∷ x) (Step q v) ≡ is_accepted s x (Step q v)
  other_accepted x p q apart =
      steps_of_enabled s (Step p v ∷ x) q v
      ∙ ap (λ (stage : Stage). nat_lt q s.processes && is_at_work stage) (other_stage x (Step p v) q apart)
      ∙ sym (steps_of_enabled s x q v)

  -- a process with a step to make exists
  accepted_below : (x : List Event) (p : ℕ) → is_accepted s x (Step p v) ≡ true → p < s.processes
  accepted_below x p is = by (nat_lt p s.processes) refl (sym (steps_of_enabled s x p v) ∙ is)
    where
      by : (b : Bool) → nat_lt p s.processes ≡ b → (b && is_at_work (stage p (past_of s x))) ≡ true → p < s.processes
      by true below h = grind (arith, nat_tests)
      by false below h = absurd (cc)

  -- one that does not exist has none
  beyond_refused : (x : List Event) (p : ℕ) → s.processes ≤ p → is_accepted s x (Step p v) ≡ false
  beyond_refused x p beyond = by (is_accepted s x (Step p v)) refl
    where
      by : (b : Bool) → is_accepted s x (Step p v) ≡ b → is_accepted s x (Step p v) ≡ false
      by true is = let below = accepted_below x p is in absurd (omega (arith, beyond, below))
      by false is = is

  -- In a round.

  -- process k has made a step
  pub rest_stepped : (x : List Event) (k : ℕ) (stepped : RoundSteps) → RestBelow s v stepped k x → RestBelow s v (with_step k stepped) (k + 1) (Step k v ∷ x)
  rest_stepped x k NoProcess rest = λ q below apart. other_accepted x k q apart ∙ rest q (omega (arith, below, apart))
  rest_stepped x k (One p) rest = tt
  rest_stepped x k Several rest = tt

  -- process k had none to make
  kept_refused : (x : List Event) (k : ℕ) → is_accepted s x (Step k v) ≡ false → (q : ℕ) → (q < k → is_accepted s x (Step q v) ≡ false) → q < k + 1 → is_accepted s (Step k v ∷ x) (Step q v) ≡ false
  kept_refused x k away q rest below = past_accepted s (Step k v ∷ x) x (Step q v) (past_refused s x (Step k v) away) ∙ by (nat_lt q k) refl
    where
      by : (b : Bool) → nat_lt q k ≡ b → is_accepted s x (Step q v) ≡ false
      by true h = rest (grind (arith, nat_tests))
      by false h = let same : q ≡ k = grind (arith, nat_tests) in ap (λ q. is_accepted s x (Step q v)) same ∙ away

  pub rest_refused : (x : List Event) (k : ℕ) (stepped : RoundSteps) → is_accepted s x (Step k v) ≡ false → RestBelow s v stepped k x → RestBelow s v stepped (k + 1) (Step k v ∷ x)
  rest_refused x k NoProcess away rest = λ q below. kept_refused x k away q (λ less. rest q less) below
  rest_refused x k (One p) away rest = λ q below apart. kept_refused x k away q (λ less. rest q less apart) below
  rest_refused x k Several away rest = tt

  -- all processes have had their turn
  beyond_too : (x : List Event) (q : ℕ) → (q < s.processes → is_accepted s x (Step q v) ≡ false) → is_accepted s x (Step q v) ≡ false
  beyond_too x q rest = by (nat_lt q s.processes) refl
    where
      by : (b : Bool) → nat_lt q s.processes ≡ b → is_accepted s x (Step q v) ≡ false
      by true h = rest (grind (arith, nat_tests))
      by false h = beyond_refused x q (grind (arith, nat_tests))

  pub rest_all : (x : List Event) (stepped : RoundSteps) → RestBelow s v stepped s.processes x → OthersRest s v stepped x
  rest_all x NoProcess rest = λ q. beyond_too x q (λ below. rest q below)
  rest_all x (One p) rest = λ q apart. beyond_too x q (λ below. rest q below apart)
  rest_all x Several rest = tt

  -- After it.

  -- no process has a step to make
  pub none_goes : (x : List Event) → ((q : ℕ) → is_accepted s x (Step q v) ≡ false) → goes s v x ≡ false
  none_goes x none = none_all (λ q. is_accepted s x (Step q v)) none s.processes

  module _ (p : ℕ) where
    alone_then : (x : List Event) → IsAlone s v p x → IsAlone s v p (Step p v ∷ x)
    alone_then x alone q apart = other_accepted x p q apart ∙ alone q apart

    -- the turns of the processes below p
    before_it : (x : List Event) → IsAlone s v p x → (k : ℕ) → k ≤ p → HaveOnePast s (steps_below v x k) x
    before_it x alone zero few = refl
    before_it x alone (suc k) few =
        ap (past_of s) (steps_more v x k)
        ∙ past_then s (steps_below v x k) x (Step k v) (before_it x alone k (omega (arith, few)))
        ∙ past_refused s x (Step k v) (alone k (λ (same : k ≡ p). omega (arith, few, same)))

    -- the turns of more processes
    with_it : (x : List Event) → IsAlone s v p x → (k : ℕ) → p < k → HaveOnePast s (steps_below v x k) (Step p v ∷ x)
    with_it x alone zero more = absurd (omega (arith, more))
    with_it x alone (suc k) more = ap (past_of s) (steps_more v x k) ∙ by (λ above. with_it x alone k above) (nat_lt p k) refl
      where
        by : (p < k → HaveOnePast s (steps_below v x k) (Step p v ∷ x)) → (b : Bool) → nat_lt p k ≡ b → past_of s (Step k v ∷ steps_below v x k) ≡ past_of s (Step p v ∷ x)
        by before true h =
            let above : p < k = grind (arith, nat_tests) in
            past_then s (steps_below v x k) (Step p v ∷ x) (Step k v) (before above)
            ∙ past_refused s (Step p v ∷ x) (Step k v) (alone_then x alone k (λ (same : k ≡ p). omega (arith, above, same)))
        by before false h =
            let same : k ≡ p = grind (arith, nat_tests) in
            past_then s (steps_below v x k) x (Step k v) (before_it x alone k (omega (arith, same)))
            ∙ ap (λ k. past_of s (Step k v ∷ x)) same

    -- rounds have the past of its steps
    pub lone_rounds : (n : ℕ) (x : List Event) → IsAlone s v p x → HaveOnePast s (rounds s v n x) (steps_of s p v n x)
    lone_rounds zero x alone = refl
    lone_rounds (suc n) x alone = by (lone_rounds n (Step p v ∷ x) (alone_then x alone)) (is_accepted s x (Step p v)) refl
      where
        none : is_accepted s x (Step p v) ≡ false → (q : ℕ) (b : Bool) → is_accepted s x (Step q v) ≡ b → is_accepted s x (Step q v) ≡ false
        none away q true h =
            let apart : q ≢ p = λ (same : q ≡ p). let no : true ≡ false = sym h ∙ ap (λ q. is_accepted s x (Step q v)) same ∙ away in absurd (cc) in
            alone q apart
        none away q false h = h

        by : HaveOnePast s (rounds s v n (Step p v ∷ x)) (steps_of s p v n (Step p v ∷ x)) → (b : Bool) → is_accepted s x (Step p v) ≡ b → past_of s (rounds s v (suc n) x) ≡ past_of s (steps_of s p v (suc n) x)
        by rest true is =
            sym (past_more s v n x)
            ∙ past_rounds s v n (round s v x) (Step p v ∷ x) (with_it x alone s.processes (accepted_below x p is))
            ∙ rest
            ∙ ap (λ b. past_of s (cond b (steps_of s p v n (Step p v ∷ x)) x)) (sym is)
        by rest false is =
            ap (past_of s) (ended (goes s v) (round s v) (suc n) x (none_goes x (λ q. none is q (is_accepted s x (Step q v)) refl)))
            ∙ sym (ap (past_of s) (ended (λ events. is_accepted s events (Step p v)) (λ events. Step p v ∷ events) (suc n) x is))
