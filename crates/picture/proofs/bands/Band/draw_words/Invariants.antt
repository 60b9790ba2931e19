use Rattle.std.proofs.Common.{◌≡◌, ◌+◌, ◌++◌, drop, map}
use Rattle.markup.specs.{drawings, reading}
use Rattle.picture.specs.{seen_band, words_from, words_of_lane}
use Rattle.picture_layout.specs.{bar_of, lane_in, seen}
use Rattle.picture.proofs.bands.Band.draw_words.Given as goal

-- no line more, and what is drawn so far and what is drawn of those to come is all that is drawn
abbrev pub invariant-loop-column : goal.invariant-loop-column
invariant-loop-column l = record {
  read : reading l.markup ≡ reading l.fn.markup;
  draws : l.markup ++ drawings (words_from l.process (bar_of (lane_in l.self.layout l.process) + 3) l.self.layout.end l.stretch (map seen (drop l.column-index l.self.columns.items))) ≡ l.fn.markup ++ drawings (words_of_lane (seen_band l.self) l.process);
}
