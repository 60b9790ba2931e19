use Rattle.std.proofs.Common.{Some, refl}
use Rattle.draw.specs.{RecordEntries, RecordPicture}
use Rattle.draw.proofs.Lines.{ends_stepped}
use Rattle.judge.specs.record_file.{step_entry}
use Rattle.draw.proofs.Stored.{drawn_on}
use Rattle.draw.proofs.records.sheet.RecordPicture.observes_step.Goals as goal

pub returns-clause-observed : goal.returns-clause-observed
returns-clause-observed g c =
    let old : RecordPicture = c.args.self.now in
    let said = c.in-Some-read_step in
    let step = c.in_ok-step.ensures in
    let now : RecordEntries = record old.entries { drawing = Some c.step.new.self } in
    let a = g.W.Sink.taken c.args.output.now in
    let b = g.W.Sink.taken c.step.new.output in
    λ is before past first corresponds.
    ends_stepped c.args.line.now old (record old { entries = now }) c.in-Some.drawing c.step.new.self said.process said.access before past first a b c.requires.short said.ensures.line said.ensures.sound c.in-Some.is refl refl refl refl
    (λ s drawn. drawn_on old.options old.form s past (step_entry said.process said.access) c.in-Some.drawing c.step.new.self first a b drawn step.drawn step.source) corresponds
