use Rattle.std.proofs.Common.{◌≡◌, drop, map, max}
use Rattle.picture_layout.specs.{end_of_words, seen}
use Rattle.picture_layout.proofs.placing.widest_end.Given as goal

-- the last words end with the columns before the present one, or with those from there on
abbrev pub invariant-loop-column : goal.invariant-loop-column
invariant-loop-column l = end_of_words (map seen l.columns) ≡ max l.end (end_of_words (map seen (drop l.column-index l.columns)))
