use Rattle.std.proofs.Common.{true, false}
use Rattle.calls.proofs.Noted.{noted}
use Rattle.calls.proofs.called.Accesses.note.Goals as goal

pub returns-then-waits_by : goal.returns-then-waits_by
returns-then-waits_by c = λ few.
    noted c.args.setup.now c.args.process c.args.number c.args.known.now c.args.marks.now c.args.access.now c.args.self.now _ _ _ _ _ _ _ true c.first_if-self.ensures c.is_none-itself.ensures c.is_begin_of_read.ensures c.is_begin_of_write.ensures
    (c.more_if-self.ensures few.reads) (c.more_if-self-2.ensures few.writes) (c.more_if-self-3.ensures few.overlapped) c.if-waits_by.ensures

pub returns-else-waits_by : goal.returns-else-waits_by
returns-else-waits_by c = λ few.
    noted c.args.setup.now c.args.process c.args.number c.args.known.now c.args.marks.now c.args.access.now c.args.self.now _ _ _ _ _ _ _ false c.first_if-self.ensures c.is_none-itself.ensures c.is_begin_of_read.ensures c.is_begin_of_write.ensures
    (c.more_if-self.ensures few.reads) (c.more_if-self-2.ensures few.writes) (c.more_if-self-3.ensures few.overlapped) c.if-waits_by.ensures
