use Rattle.std.proofs.Common.{ℕ, Option, None, Some, sym, ap, ◌∙◌}
use Rattle.any_lock.specs.{entered, process_view}
use Rattle.lock_stages.proofs.Lowest.{lowest_within}
use Rattle.any_lock.proofs.lock_run.LockRun.inside_since.Goals as goal

pub returns-in-None : goal.returns-in-None
returns-in-None c = λ past knows. ap (λ o. elim o as (λ _. Option (ℕ × ℕ)) [ None ↦ None | Some q ↦ entered q (process_view c.args.self.now.setup q past) ]) (sym c.in-None.is ∙ c.other_inside.ensures past knows)

pub returns-in-Some : goal.returns-in-Some
returns-in-Some c = λ past knows.
    c.entered.ensures past (lowest_within c.args.self.now.setup.processes _ c.in-Some.other (sym (c.other_inside.ensures past knows) ∙ c.in-Some.is)) knows
    ∙ ap (λ o. elim o as (λ _. Option (ℕ × ℕ)) [ None ↦ None | Some q ↦ entered q (process_view c.args.self.now.setup q past) ]) (sym c.in-Some.is ∙ c.other_inside.ensures past knows)
