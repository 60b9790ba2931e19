use Rattle.std.proofs.Common.{◌≡◌, map}
use Rattle.std.specs.List.{range_with_len}
use Rattle.process.specs.{newest_version, version_in}
use Rattle.process.proofs.committed.newest.Given as goal

abbrev pub invariant-loop-process : goal.invariant-loop-process
invariant-loop-process l = l.newest ≡ newest_version (map (version_in l.setup l.memory) (range_with_len 0 l.process))
