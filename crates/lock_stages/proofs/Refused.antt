-- The first refusal, mark by mark.
use Rattle.std.proofs.Common.{◌≡◌, ℕ, suc, ◌+◌, ◌<◌, Bool, List, Option, None, Some, drop, get_or, length, sym, ap, ◌∙◌, add-one, drop-cons}
use Rattle.trace.specs.{LockMark}
use Rattle.lock_stages.specs.{LockMarkRefusal, LockStage, first_refusal, mark_refusal, stage_after}

-- a mark that is not refused
pub not_refused : (stage then : LockStage) (is_open : Bool) (marks : List LockMark) (i : ℕ) (d : LockMark) → i < length marks →
    mark_refusal stage is_open (get_or marks i d) ≡ None → then ≡ stage_after stage (get_or marks i d) →
    first_refusal stage is_open (drop i marks) ≡ first_refusal then is_open (drop (i + 1) marks)
not_refused stage then is_open marks i d within none is =
    let m : LockMark = get_or marks i d in
    ap (first_refusal stage is_open) (drop-cons marks i d within)
    ∙ ap (λ o. elim o as (λ _. Option LockMarkRefusal) [ Some r ↦ Some r | None ↦ first_refusal (stage_after stage m) is_open (drop (suc i) marks) ]) none
    ∙ ap (λ s. first_refusal s is_open (drop (suc i) marks)) (sym is)
    ∙ ap (λ n. first_refusal then is_open (drop n marks)) (sym (add-one i))
