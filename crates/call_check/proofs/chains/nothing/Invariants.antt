use Rattle.std.proofs.Common.{◌≡◌, length, take}
use Rattle.call_check.specs.{AreNothing, all_calls}
use Rattle.model.specs.{lists_of}
use Rattle.call_check.proofs.chains.nothing.Given as goal

-- there is a place for each call of the lists before the present one
abbrev pub invariant-loop-list : goal.invariant-loop-list
invariant-loop-list l = record {
  size : length l.heads.items ≡ length (all_calls (lists_of (take l.list-index l.lists)));
  nothing : AreNothing l.heads.items;
}
