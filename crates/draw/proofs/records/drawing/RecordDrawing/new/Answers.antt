use Rattle.draw.proofs.records.drawing.RecordDrawing.new.Goals as goal

pub returns-clause-recalls : goal.returns-clause-recalls
returns-clause-recalls c = record { drawing = c.in_ok-new.ensures.recalls; monitors = c.in_ok-monitor.ensures }
