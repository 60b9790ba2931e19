use Rattle.files.proofs.LineEnds.{near_is}
use Rattle.files.proofs.source_lines.ahead.count_before_end.Goals as goal

pub returns : goal.returns
returns c = near_is c.args.bytes.now c.requires
