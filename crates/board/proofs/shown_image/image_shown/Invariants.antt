use Rattle.std.proofs.Common.{◌≡◌, map}
use Rattle.std.specs.List.{range_with_len}
use Rattle.process.specs.{newest_version}
use Rattle.board.specs.{version_shown}
use Rattle.board.proofs.shown_image.image_shown.Given as goal

abbrev pub invariant-loop-process : goal.invariant-loop-process
invariant-loop-process l = l.newest ≡ newest_version (map (version_shown l.setup l.words.words.items) (range_with_len 0 l.process))
