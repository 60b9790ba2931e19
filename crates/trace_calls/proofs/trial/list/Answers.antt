use Rattle.std.proofs.Common.{◌∷◌, ◌++◌, [], ℕ, List, Option, subst, sym, ◌∙◌}
use Rattle.trace.specs.{TraceEntry}
use Rattle.trace_engine.specs.{Observes}
use Rattle.trace_calls.specs.{HasTabled, ListerState}
use Rattle.trace_calls.proofs.OneMore.{none_yet}
use Rattle.trace_calls.proofs.trial.list.Goals as goal
use Rattle.trace_calls.proofs.trial.list.Goals.{then-is_none+in_ok-begin, else-is_none}

pub returns-in_ok-take-clause-listed : goal.returns-in_ok-take-clause-listed
returns-in_ok-take-clause-listed c =
    let s = c.args.setup.now in
    let e = c.args.entry.now in
    elim c.if-is_none.branch [
      | then-is_none+in_ok-begin w ↦ λ number entries numbers observes.
          let first = subst (λ (o : Option ListerState). Observes HasTabled o s [] []) (sym w.lister-is ∙ c.in-Some.is) w.in_ok-begin.ensures.listed in
          let none = none_yet c.args.lister.now s entries numbers w.if-is_none.ensures observes in
          subst (λ (l : List TraceEntry). HasTabled c.take.new.self s (l ++ e ∷ []) (numbers ++ number ∷ [])) (sym none.0)
          (subst (λ (l : List ℕ). HasTabled c.take.new.self s (e ∷ []) (l ++ number ∷ [])) (sym none.1) (c.in_ok-take.ensures s number [] [] first))
      | else-is_none w ↦ λ number entries numbers observes.
          c.in_ok-take.ensures s number entries numbers (subst (λ (o : Option ListerState). Observes HasTabled o s entries numbers) (sym w.lister-is ∙ c.in-Some.is) observes)
    ]
