use Rattle.std.proofs.Common.{ℕ, List, ◌++◌, take}
use Rattle.call_check.specs.{AreChains, Call, calls_from}
use Rattle.call_check.proofs.chains.chain_list.Given as goal

-- the calls before the present one are chained
abbrev pub invariant-loop-index : goal.invariant-loop-index
invariant-loop-index l = (calls : List Call) (n : ℕ) → AreChains calls n l.fn.heads.items l.fn.links.items → AreChains (calls ++ calls_from l.port 0 (take l.index l.list)) n l.heads.items l.links.items
