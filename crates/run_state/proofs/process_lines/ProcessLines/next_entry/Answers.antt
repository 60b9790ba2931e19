use Rattle.std.proofs.Common.{refl, ◌∙◌}
use Rattle.model.specs.{entry_of}
use Rattle.model.specs.declared.events.Event.TheVariants.{Step}
use Rattle.run_state.proofs.process_lines.ProcessLines.next_entry.Goals as goal

pub returns : goal.returns
returns c = λ past u.
    let l = c.args.self.now in
    c.next_entry.ensures.entry l.history.now u.events refl u.shows ∙ (λ i. entry_of (c.requires.core i) (u.is i) (Step l.process c.args.flick))
