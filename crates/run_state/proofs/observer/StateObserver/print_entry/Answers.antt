use Rattle.std.proofs.Common.{[], ◌++◌, ap, sym, ◌∙◌, append-nil}
use Rattle.run_state.proofs.ObservedWorlds.{ok_then}
use Rattle.run_state.proofs.Seeing.{newest_none, newest_some}
use Rattle.run_state.proofs.observer.StateObserver.print_entry.Goals as goal

pub returns-in-None : goal.returns-in-None
returns-in-None c = λ taken events shows seen.
    sym (ap (λ l. c.args.text.now.items ++ l) (newest_none _ (sym (c.newest_entry.ensures taken events shows seen) ∙ c.in-None.is)) ∙ append-nil c.args.text.now.items)

pub returns-in-Some : goal.returns-in-Some
returns-in-Some c = ok_then c.print_newest.result (λ writes taken events shows seen.
    writes [] ∙ ap (λ l. c.args.text.now.items ++ l) (newest_some _ c.in-Some.entry (sym (c.newest_entry.ensures taken events shows seen) ∙ c.in-Some.is))) c.print_newest.ensures
