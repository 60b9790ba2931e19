use Rattle.std.proofs.Common.{◌≡◌, subst}
use Rattle.std.specs.Prelude.{OnOk}
use Rattle.std.specs.Io.KnownBytes.{Appends}
use Rattle.scenario.specs.files.{WritesFront}
use Rattle.calls.specs.{header}
use Rattle.calls.proofs.calling.write_header.Goals as goal

pub returns-clause-written : goal.returns-clause-written
returns-clause-written g c =
    let text : c.as_bytes.result.now ≡ header = c.as_bytes.ensures.value in
    subst (λ l. OnOk c.write_all.result (Appends (g.W.Sink.taken c.args.output.now) (g.W.Sink.taken c.write_all.new.output) l)) text c.write_all.ensures.written

pub returns-clause-front : goal.returns-clause-front
returns-clause-front g c =
    let text : c.as_bytes.result.now ≡ header = c.as_bytes.ensures.value in
    subst (λ l. WritesFront (g.W.Sink.taken c.args.output.now) (g.W.Sink.taken c.write_all.new.output) l) text c.write_all.ensures.front
