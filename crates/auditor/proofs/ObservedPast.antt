-- The reports of an auditor on the entries that it has observed.
use Rattle.std.proofs.Common.{◌≡◌, ◌≤◌, ◌<◌, ◌^◌, ℕ, suc, List, [], ◌∷◌, ◌++◌, length, Option, Some, None, ap, subst, arith}
use Rattle.std.proofs.lemmas.List.{length_push}
use Rattle.plain_store.specs.{Reply, Setup}
use Rattle.model.specs.{Event, Past, Taken, history, last_call, own, past_of, reply_taken}
use Rattle.world.specs.{CoreState, with_history}
use Rattle.world.specs.Shows.{Shows}
use Rattle.auditor.specs.{AuditorState, HasObserved, IsCount}

-- the history is no longer than the past
history_within : (s : Setup) (past : Past) → length (history s past) ≤ length past
history_within s [] = omega arith
history_within s (e ∷ past) = by (reply_taken e.marks) (history_within s past)
  where
    by : (o : Option Reply) → length (history s past) ≤ length past → length (elim o as (λ _. List Taken) [
      | None ↦ history s past
      | Some r ↦
          let c = last_call s e.process (own e.process past) in
          history s past ++ record { process = e.process; command = c.command; reply = r; number = c.number } ∷ []
    ]) ≤ suc (length past)
    by None before = omega (arith, before)
    by (Some r) before =
        let c = last_call s e.process (own e.process past) in
        omega (arith, before, length_push (history s past) (record { process = e.process; command = c.command; reply = r; number = c.number }))

-- below 2^64 entries the commands taken are counted
is_counted : (s : Setup) (past : Past) (taken : Option ℕ) → length past < 2 ^ 64 → IsCount taken (length (history s past)) → taken ≡ Some (length (history s past))
is_counted s past None few over = let most = history_within s past in absurd (omega (arith, few, over, most))
is_counted s past (Some k) few is = ap (λ k. Some k) is

pub taken_is : (a : AuditorState) (past : Past) → HasObserved a past → length past < 2 ^ 64 → a.taken ≡ Some (length (history a.core.setup past))
taken_is a past h few = is_counted a.core.setup past a.taken few h.counted

-- a fact about each record that a core shows holds of the entries observed
pub of_observed : (a : AuditorState) (past : Past) (P : List Taken → Setup → Past → Type 0) (core : CoreState) → core ≡ a.core → HasObserved a past →
    ((taken : List Taken) (events : List Event) → Shows (with_history core taken) events → P taken core.setup (past_of core.setup events)) → P (history a.core.setup past) a.core.setup past
of_observed a past P core same h each =
    let s : Setup = a.core.setup in
    let each_here = subst (λ (core : CoreState). (taken : List Taken) (events : List Event) → Shows (with_history core taken) events → P taken core.setup (past_of core.setup events)) same each in
    subst (λ (l : Past). P (history s past) s l) h.past_is (each_here (history s past) h.events h.shows)
