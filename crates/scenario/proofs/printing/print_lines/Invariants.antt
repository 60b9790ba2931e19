use Rattle.std.proofs.Common.{◌≡◌, ◌++◌, drop, take, flat_map, map, true}
use Rattle.std.specs.List.{list_all}
use Rattle.std.specs.String.{string_bytes}
use Rattle.scenario.specs.{is_line, line_words, printed_line}
use Rattle.scenario.proofs.printing.print_lines.Given as goal

-- the text so far and the lines to come are the whole text
abbrev pub invariant-loop-line : goal.invariant-loop-line
invariant-loop-line l = record {
  reported : string_bytes l.text ++ flat_map printed_line (map line_words (drop l.line-index l.lines)) ≡ string_bytes l.fn.text ++ flat_map printed_line (map line_words l.lines);
  sound : list_all is_line (take l.line-index l.lines) ≡ true;
}
