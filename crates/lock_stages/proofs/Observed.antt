-- The states after one more entry.
use Rattle.std.proofs.Common.{◌≡◌, ℕ, ◌+◌, ◌<◌, Bool, List, ◌∷◌, Some, length, slice_get, slice_set, refl, sym, ap, ◌∙◌, subst, add-one, inl, inr, ne_eqb}
use Rattle.std.proofs.lemmas.Bool.{cases_eq}
use Rattle.trace.specs.{LockMark}
use Rattle.lock_stages.specs.{HasObserved, LockPast, ProcessState, StagesState, lock_entry, process_state, process_state_after}
use Rattle.trace.proofs.Lists.{slice_get-set_other, slice_get-set_same}
use Rattle.lock_stages.proofs.Steps.{state-mine, state-other}

-- an entry of process p, whose state lies at index i and was `at` before the entry, and is `then` after it
pub observes_on : (k : StagesState) (i p : ℕ) (accesses : Bool) (marks : List LockMark) (at then : ProcessState) (past : LockPast) →
    length k.states ≡ 16 → i ≡ p → p < 16 → at ≡ process_state p past → then ≡ process_state_after k.entries accesses marks at → HasObserved k past →
    HasObserved (record { processes = k.processes; states = slice_set k.states i then; entries = k.entries + 1 }) (lock_entry p accesses marks ∷ past)
observes_on k i p accesses marks at then past size same below was is observed = record {
  states = λ q inside. ap (λ j. slice_get (slice_set k.states j then) q) same ∙ each q inside;
  entries = ap (λ n. n + 1) observed.entries ∙ add-one (length past);
}
  where
    now : then ≡ process_state p (lock_entry p accesses marks ∷ past)
    now = is ∙ (λ i. process_state_after (observed.entries i) accesses marks (was i)) ∙ sym (state-mine p (lock_entry p accesses marks) past refl)

    each : (q : ℕ) → q < 16 → slice_get (slice_set k.states p then) q ≡ Some (process_state q (lock_entry p accesses marks ∷ past))
    each q inside = elim (cases_eq q p) [
      | inl mine ↦ ap (slice_get (slice_set k.states p then)) mine
          ∙ slice_get-set_same k.states p then (subst (λ n. p < n) (sym size) below)
          ∙ ap Some (now ∙ ap (λ n. process_state n (lock_entry p accesses marks ∷ past)) (sym mine))
      | inr apart ↦ slice_get-set_other k.states p q then apart ∙ observed.states q inside
          ∙ ap Some (sym (state-other q (lock_entry p accesses marks) past (ne_eqb p q (λ h. apart (sym h)))))
    ]
