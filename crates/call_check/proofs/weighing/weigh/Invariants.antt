use Rattle.std.proofs.Common.{◌≡◌, ℕ, ◌<◌, length, take}
use Rattle.model.specs.{lists_of}
use Rattle.call_check.specs.{IsBadAt, all_calls}
use Rattle.call_check.proofs.weighing.weigh.Given as goal

-- `before` is the number of calls in the lists before the present one, and none of them is bad
abbrev pub invariant-loop-port : goal.invariant-loop-port
invariant-loop-port l = record {
  before : l.before ≡ length (all_calls (lists_of (take l.port l.lists)));
  good : (q j : ℕ) → q < l.port → IsBadAt l.setup (lists_of l.lists) l.followed.count l.followed.store q j → ⊥;
}
