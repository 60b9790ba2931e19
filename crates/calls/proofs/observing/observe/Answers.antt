use Rattle.std.proofs.Common.{subst, ◌∙◌}
use Rattle.std.specs.Io.KnownBytes.{Appends}
use Rattle.scenario.specs.files.{WritesFront}
use Rattle.calls.specs.{line_of}
use Rattle.scenario_run.proofs.Written.{ok_then}
use Rattle.calls.proofs.observing.observe.Goals as goal

pub returns-clause-written : goal.returns-clause-written
returns-clause-written g c = ok_then c.write_if.result
    (λ wrote past e p a m h turn.
    let newest = c.entries-newest.ensures ∙ h.entries in
    let ended = c.observe-ended.ensures.ended past e p a m h turn in
    subst (λ l. Appends (g.W.Sink.taken c.args.output.now) (g.W.Sink.taken c.write_if.new.output) l) (λ i. line_of (newest i) (ended i)) wrote)
    c.write_if.ensures.written

pub returns-clause-front : goal.returns-clause-front
returns-clause-front g c = λ past e p a m h turn.
    let newest = c.entries-newest.ensures ∙ h.entries in
    let ended = c.observe-ended.ensures.ended past e p a m h turn in
    subst (λ l. WritesFront (g.W.Sink.taken c.args.output.now) (g.W.Sink.taken c.write_if.new.output) l) (λ i. line_of (newest i) (ended i)) c.write_if.ensures.front
