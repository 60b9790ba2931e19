use Rattle.std.proofs.Common.{◌≡◌, ◌-◌, length, subst, ap, ◌∙◌}
use Rattle.std.specs.Io.KnownBytes.{Appends}
use Rattle.scenario.specs.files.{WritesFront}
use Rattle.calls.specs.{line_of, open_call}
use Rattle.scenario_run.proofs.Written.{ok_then}
use Rattle.calls.proofs.calling.write_open_call.Goals as goal

pub returns-clause-written : goal.returns-clause-written
returns-clause-written g c = ok_then c.write_if.result
    (λ wrote past h.
    let newest = c.newest-last.ensures ∙ ap (λ n. n - 1) h.entries in
    let same : line_of c.newest-last.result c.open_call-called.result ≡ line_of (length past - 1) (open_call c.args.table.now.setup c.args.process past) = λ i. line_of (newest i) (c.open_call-called.ensures past h i) in
    subst (λ l. Appends (g.W.Sink.taken c.args.output.now) (g.W.Sink.taken c.write_if.new.output) l) same wrote)
    c.write_if.ensures.written

pub returns-clause-front : goal.returns-clause-front
returns-clause-front g c = λ past h.
    let newest = c.newest-last.ensures ∙ ap (λ n. n - 1) h.entries in
    let same : line_of c.newest-last.result c.open_call-called.result ≡ line_of (length past - 1) (open_call c.args.table.now.setup c.args.process past) = λ i. line_of (newest i) (c.open_call-called.ensures past h i) in
    subst (λ l. WritesFront (g.W.Sink.taken c.args.output.now) (g.W.Sink.taken c.write_if.new.output) l) same c.write_if.ensures.front
