use Rattle.std.proofs.Common.{◌∷◌, sym, subst, ◌∙◌}
use Rattle.std.proofs.lemmas.List.{length-map}
use Rattle.lock_stages.specs.{HasObserved, lock_entry}
use Rattle.trace_judge.specs.{HasSeen, TraceState, lock_part, lock_past}
use Rattle.trace_judge.proofs.state.TraceState.take.Goals as goal

pub returns-clause-seen : goal.returns-clause-seen
returns-clause-seen c = λ past seen.
    let i = c.self.inside in
    let p = c.args.process in
    let before = subst (λ (k : TraceState). HasSeen k past) (sym c.self.view_is) seen in
    record {
      made = c.take.ensures.made c.args.marks.now past before.made (c.entries.ensures ∙ before.observed.entries ∙ length-map past lock_part);
      observed = subst (λ b. HasObserved c.take-2.new.self (lock_entry p b c.args.marks.now ∷ lock_past past)) c.is_some.ensures (c.take-2.ensures.observed (lock_past past) before.observed);
    }
