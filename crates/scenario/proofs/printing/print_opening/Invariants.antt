use Rattle.std.proofs.Common.{◌≡◌, ◌++◌, drop, flat_map, map}
use Rattle.std.specs.String.{string_bytes}
use Rattle.scenario.specs.{open_words, printed_line}
use Rattle.scenario.proofs.printing.print_opening.Given as goal

-- the text so far and the pairs to come are the whole text
abbrev pub invariant-loop-place : goal.invariant-loop-place
invariant-loop-place l = string_bytes l.text ++ flat_map printed_line (map open_words (drop l.place l.opening)) ≡ string_bytes l.fn.text ++ flat_map printed_line (map open_words l.opening)
