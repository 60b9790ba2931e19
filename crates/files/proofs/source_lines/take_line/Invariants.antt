use Rattle.std.proofs.Common.{◌≡◌, ◌-◌, true, length}
use Rattle.std.specs.Io.KnownBytes.{Consumes}
use Rattle.std.specs.List.{list_all}
use Rattle.files.specs.{KeepsEnd, coming, is_inner}
use Rattle.files.proofs.source_lines.take_line.Given as goal

-- The bytes so far came from the front, there is no 0x0A among them, and no call has failed. A source that has reported its
-- end is at it and was not asked again.
abbrev pub invariant-parts : goal.invariant-parts
invariant-parts g l = record {
  front : Consumes (coming l.fn.ahead.given (g.R.Source.to_come l.fn.input)) (coming l.ahead.given (g.R.Source.to_come l.input)) l.line.items;
  inner : list_all is_inner l.line.items ≡ true;
  holds : KeepsEnd l.fn.ahead.given (g.R.Source.to_come l.fn.input) l.ahead.given (g.R.Source.to_come l.input);
  stays_ended : l.fn.ahead.given.ended ≡ true → l.ahead.given.ended ≡ true;
  left_alone : l.fn.ahead.given.ended ≡ true → l.input ≡ l.fn.input;
  whole : g.R.Source.failures l.input ≡ g.R.Source.failures l.fn.input;
}

abbrev pub decreases-parts : goal.decreases-parts
decreases-parts g l = 130 - length l.line.items
