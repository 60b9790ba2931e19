use Rattle.std.proofs.Common.{sym, ◌∙◌}
use Rattle.draw.specs.{entries_among, reads_since}
use Rattle.draw.proofs.ObservedReads.{monitors_hidden}
use Rattle.draw.proofs.records.drawing.RecordDrawing.ends_overlapped.Goals as goal

pub returns-then-not-shows_reads-clause-overlapped : goal.returns-then-not-shows_reads-clause-overlapped
returns-then-not-shows_reads-clause-overlapped c = λ view s parts e access recalls.
    let d = c.args.self.now in
    monitors_hidden view.reads s (entries_among parts) (reads_since s parts) e c.args.access d.drawing.canvas.overlaps d.monitor.monitor (sym c.shows_reads.ensures ∙ c.if-not-shows_reads.true) recalls.drawing.waits recalls.monitors

pub returns-clause-overlapped : goal.returns-clause-overlapped
returns-clause-overlapped c = λ view s parts e access recalls. c.observe.ensures view.reads s (entries_among parts) e access recalls.monitors
