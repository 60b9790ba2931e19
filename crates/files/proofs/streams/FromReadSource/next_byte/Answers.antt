use Rattle.std.proofs.Common.{arith}
use Rattle.files.proofs.CallEnds.{none_read}
use Rattle.files.proofs.streams.FromReadSource.next_byte.Goals as goal

-- there is no byte
pub returns-in-0-clause-byte : goal.returns-in-0-clause-byte
returns-in-0-clause-byte g c =
    let to_come = g.R.Read.remaining in
    none_read (to_come c.args.self.now.reader) (to_come c.read.new.self) c.read.new.buf c.read.result c.in_ok-counted.field-0 (omega arith) c.in-0.is c.read.ensures.bytes c.in_ok-counted.ensures.count c.in_ok-counted.ensures.error
