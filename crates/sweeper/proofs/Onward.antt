-- The continuation of a run: its parts, one after the other.
use Rattle.std.proofs.Common.{◌≡◌, ℕ, ◌+◌, ◌<◌, ◌||◌, Bool, true, false, cond, List, [], ◌∷◌, fold, length, take, get_or, ap, sym, subst, ◌∙◌}
use Rattle.std.proofs.Math.Bool.{or-false}
use Rattle.std.proofs.lemmas.List.{take_more}
use Rattle.std.proofs.lemmas.List.Sums.{fold-append}
use Rattle.plain_store.specs.{Command, Setup}
use Rattle.model.specs.{Event}
use Rattle.model.specs.declared.events.Event.TheVariants.{Call, Step, Fail, Restart}
use Rattle.sweeper.specs.{Follows, IsRun, Run, RunnerState, RunsOn, at_rest, cut_off, is_accepted, most, rounds, steps_of, with_call, with_calls}

-- a call that is refused
pub call_refused : (old new : RunnerState) (v : Bool) (p : ℕ) (command : Command) → new ≡ old → ((events : List Event) → Follows old events → false ≡ is_accepted old.core.setup events (Call p command)) →
    (run : Run) → Follows old run.events → IsRun new (run.stuck || false) (with_call old.core.setup v run (p, command))
call_refused old new v p command same away run follows = subst (λ b. IsRun new (run.stuck || false) (cond b made run)) (away run.events follows)
    (record { follows = subst (λ (r : RunnerState). Follows r run.events) (sym same) follows; stuck = or-false run.stuck })
  where
    after : List Event
    after = steps_of old.core.setup p v most (Call p command ∷ run.events)

    made : Run
    made = record { events = after; stuck = run.stuck || is_accepted old.core.setup after (Step p v) }

-- a call that is made, and then its steps
pub call_made : (old mid new : RunnerState) (v : Bool) (p n : ℕ) (command : Command) (more : Bool) → mid.core.setup ≡ old.core.setup → new.core.setup ≡ mid.core.setup → n ≡ most →
    ((events : List Event) → Follows old events → true ≡ is_accepted old.core.setup events (Call p command)) → RunsOn old mid (λ events. Call p command ∷ events) →
    RunsOn mid new (λ events. steps_of mid.core.setup p v n events) → ((events : List Event) → Follows new events → more ≡ is_accepted new.core.setup events (Step p v)) →
    (run : Run) → Follows old run.events → IsRun new (run.stuck || more) (with_call old.core.setup v run (p, command))
call_made old mid new v p n command more same kept is made calls walks asks run follows = subst (λ b. IsRun new (run.stuck || more) (cond b then run)) (made run.events follows)
    (record { follows = there; stuck = ap (λ b. run.stuck || b) (asks after there ∙ ap (λ s. is_accepted s after (Step p v)) (kept ∙ same)) })
  where
    after : List Event
    after = steps_of old.core.setup p v most (Call p command ∷ run.events)

    then : Run
    then = record { events = after; stuck = run.stuck || is_accepted old.core.setup after (Step p v) }

    there : Follows new after
    there = subst (λ n. Follows new (steps_of old.core.setup p v n (Call p command ∷ run.events))) is
        (subst (λ s. Follows new (steps_of s p v n (Call p command ∷ run.events))) same (walks (Call p command ∷ run.events) (calls run.events follows)))

-- a process fails, its memory unit makes its steps, and it is restarted
pub cut_made : (old failed settled new : RunnerState) (v : Bool) (p n : ℕ) → failed.core.setup ≡ old.core.setup → n ≡ most → RunsOn old failed (λ events. Fail p ∷ events) →
    RunsOn failed settled (λ events. steps_of failed.core.setup p v n events) → RunsOn settled new (λ events. Restart p ∷ events) → RunsOn old new (λ events. cut_off old.core.setup p v events)
cut_made old failed settled new v p n same is fails walks restarts events follows =
    subst (λ n. Follows new (Restart p ∷ steps_of old.core.setup p v n (Fail p ∷ events))) is
    (subst (λ s. Follows new (Restart p ∷ steps_of s p v n (Fail p ∷ events))) same (restarts (steps_of failed.core.setup p v n (Fail p ∷ events)) (walks (Fail p ∷ events) (fails events follows))))

-- one more call
pub calls_more : (s : Setup) (v : Bool) (calls : List (ℕ × Command)) (k : ℕ) (c : ℕ × Command) (run : Run) → k < length calls → c ≡ get_or calls k c → with_call s v (with_calls s (take k calls) v run) c ≡ with_calls s (take (k + 1) calls) v run
calls_more s v calls k c run within is =
    ap (with_call s v (with_calls s (take k calls) v run)) is
    ∙ sym (ap (fold (with_call s v) run) (take_more calls k c within) ∙ fold-append (with_call s v) run (take k calls) (get_or calls k c ∷ []))

-- a run after its cut comes to rest by its rounds
pub rest_made : (old cut new : RunnerState) (v : Bool) (p n : ℕ) → cut.core.setup ≡ old.core.setup → n ≡ most → RunsOn old cut (λ events. cut_off old.core.setup p v events) → RunsOn cut new (λ events. rounds cut.core.setup v n events) →
    RunsOn old new (λ events. at_rest old.core.setup p v events)
rest_made old cut new v p n same is cuts goes_on events follows =
    subst (λ n. Follows new (rounds old.core.setup v n (cut_off old.core.setup p v events))) is
    (subst (λ s. Follows new (rounds s v n (cut_off old.core.setup p v events))) same (goes_on (cut_off old.core.setup p v events) (cuts events follows)))
