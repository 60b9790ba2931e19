use Rattle.std.proofs.Common.{◌≡◌, ◌+◌, length}
use Rattle.call_check.specs.{AreNothing}
use Rattle.call_check.proofs.chains.more.Given as goal

-- this number of places has been added, without calls
abbrev pub invariant-loop : goal.invariant-loop
invariant-loop l = record {
  size : length l.heads.items ≡ length l.fn.heads.items + l.counter;
  nothing : AreNothing l.fn.heads.items → AreNothing l.heads.items;
}
