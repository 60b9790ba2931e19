use Rattle.std.proofs.Common.{◌≡◌, ◌++◌, flat_map, map}
use Rattle.bstr.specs.Text.{lines_of, without_terminator}
use Rattle.markup.specs.{reading}
use Rattle.picture.specs.{item_of}
use Rattle.picture.proofs.sheets.list_lines.Given as goal

-- what is listed and the lines to come are all; and no line of a run more
abbrev pub invariant-loop-line : goal.invariant-loop-line
invariant-loop-line l = record {
  draws : l.markup ++ flat_map item_of l.line-iterator ≡ l.fn.markup ++ flat_map item_of (map without_terminator (lines_of l.fn.printed));
  read : reading l.markup ≡ reading l.fn.markup;
}
