use Rattle.std.proofs.Common.{ap, if◌then◌else◌, Err}
use Rattle.files.specs.{words_of, words_read}
use Rattle.files.specs.declared.faults.FaultKind.TheVariants.{TooLong}
use Rattle.files.proofs.reading.read_line.Goals as goal

-- a line that is too long or comes too late
pub returns-then-is_beyond-clause-read : goal.returns-then-is_beyond-clause-read
returns-then-is_beyond-clause-read g c = ap (λ t. if t then Err TooLong else words_read g.T.FromLines.grammar (words_of c.args.line.now) c.args.read.now) c.if-is_beyond.true
