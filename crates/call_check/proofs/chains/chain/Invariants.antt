use Rattle.std.proofs.Common.{length, take}
use Rattle.call_check.specs.{AreChains, all_calls}
use Rattle.model.specs.{lists_of}
use Rattle.call_check.proofs.chains.chain.Given as goal

-- the calls of the lists before the present one are chained
abbrev pub invariant-loop-port : goal.invariant-loop-port
invariant-loop-port l = AreChains (all_calls (lists_of (take l.port l.lists))) (length (all_calls (lists_of l.lists))) l.heads.items l.links.items
