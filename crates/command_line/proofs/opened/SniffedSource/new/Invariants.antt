use Rattle.std.proofs.Common.{◌≡◌, ◌+◌, ◌-◌, ◌≤◌, cond, length, false}
use Rattle.std.specs.Io.KnownBytes.{IsAtEnd, Keeps, prepend_known}
use Rattle.files.specs.{input_limit}
use Rattle.command_line.proofs.opened.SniffedSource.new.Given as goal

-- the bytes to come are the same, none is left after the end, no more bytes are requested than count, and no call has
-- failed
abbrev pub invariant-blocks-2 : goal.invariant-blocks-2
invariant-blocks-2 g l = record {
  bytes : Keeps (g.R.Source.to_come l.fn.unseen) (prepend_known l.front.items (g.R.Source.to_come l.source));
  end : l.some ≡ false → IsAtEnd (g.R.Source.to_come l.source);
  goal : l.goal ≤ input_limit;
  whole : g.R.Source.failures l.source ≡ g.R.Source.failures l.fn.unseen;
}

abbrev pub decreases-blocks-2 : goal.decreases-blocks-2
decreases-blocks-2 g l = (input_limit - length l.front.items) + cond l.some 1 0
