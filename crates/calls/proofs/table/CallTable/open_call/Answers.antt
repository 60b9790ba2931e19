use Rattle.std.proofs.Common.{cond, None, Some, sym, ap, ◌∙◌, arith}
use Rattle.calls.specs.{CallState, TableState, call_state}
use Rattle.calls.proofs.KeptThere.{kept_there}
use Rattle.calls.proofs.table.CallTable.open_call.Goals as goal

pub index-call_state-requires : goal.index-call_state-requires
index-call_state-requires c = omega (arith, c.self.invariant.processes, ap (λ (t : TableState). t.setup.processes) c.self.view_is)

pub returns-then-call_state : goal.returns-then-call_state
returns-then-call_state c = λ past observed.
    let last = c.index-call_state.result.now.last in
    let same = kept_there _ c.args.self.now c.from.result c.args.process c.index-call_state.result.now (call_state c.args.self.now.setup c.args.process past)
    c.self.view_is c.from.ensures c.index-call_state.ensures (observed.call_states c.args.process c.requires) in
    ap (λ b. cond b (Some last) None) (sym c.if-call_state.true) ∙ ap (λ (k : CallState). cond k.calling (Some k.last) None) same

pub returns-else-call_state : goal.returns-else-call_state
returns-else-call_state c = λ past observed.
    let last = c.index-call_state.result.now.last in
    let same = kept_there _ c.args.self.now c.from.result c.args.process c.index-call_state.result.now (call_state c.args.self.now.setup c.args.process past)
    c.self.view_is c.from.ensures c.index-call_state.ensures (observed.call_states c.args.process c.requires) in
    ap (λ b. cond b (Some last) None) (sym c.if-call_state.false) ∙ ap (λ (k : CallState). cond k.calling (Some k.last) None) same
