use Rattle.std.proofs.Common.{◌++◌, length, ap, ◌∙◌, append_assoc}
use Rattle.model.specs.{Past, past_of}
use Rattle.run_state.specs.{count_line, newest_line}
use Rattle.run_state.proofs.ObservedWorlds.{ok_then}
use Rattle.run_state.proofs.observer.StateObserver.print_head.Goals as goal

pub returns : goal.returns
returns c = ok_then c.print_entry.result (λ newest taken events shows seen.
    let past : Past = past_of c.args.core.now.setup events in
    newest taken events shows seen
    ∙ ap (λ l. l ++ newest_line past) (c.in_ok-print_count.ensures ∙ ap (λ n. c.args.text.now.items ++ count_line n) seen.observed.entries)
    ∙ append_assoc c.args.text.now.items (count_line (length past)) (newest_line past)) c.print_entry.ensures
