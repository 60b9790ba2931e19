use Rattle.std.proofs.Common.{ap, arith}
use Rattle.calls.specs.{CallState, TableState, call_state}
use Rattle.calls.proofs.KeptThere.{kept_there}
use Rattle.calls.proofs.table.CallTable.calls.Goals as goal

pub index-requires : goal.index-requires
index-requires c = omega (arith, c.self.invariant.processes, ap (λ (t : TableState). t.setup.processes) c.self.view_is)

pub returns : goal.returns
returns c = λ past observed.
    ap (λ (k : CallState). k.last.call)
    (kept_there _ c.args.self.now c.from.result c.args.process c.index.result.now (call_state c.args.self.now.setup c.args.process past)
    c.self.view_is c.from.ensures c.index.ensures (observed.call_states c.args.process c.requires))
