use Rattle.judge.proofs.LinesAt.{ok_then}
use Rattle.calls.proofs.record_table.RecordCallsEntryObserver.take.Goals as goal

pub returns : goal.returns
returns c = ok_then c.observe.result (λ observed s entries numbers h. observed s entries h) c.observe.ensures
