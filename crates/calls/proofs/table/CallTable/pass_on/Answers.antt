use Rattle.std.proofs.Common.{◌+◌, length, slice_set, sym, ap, ◌∙◌, subst, arith, length-set}
use Rattle.std.proofs.lemmas.Option.{slice_get_within}
use Rattle.calls.specs.{CallState, HaveRoom, TableState, passed}
use Rattle.calls.proofs.KeptThere.{kept_there}
use Rattle.calls.proofs.table.CallTable.pass_on.Goals as goal

pub overflow_add-self : goal.overflow_add-self
overflow_add-self c = omega (arith, ap (λ (t : TableState). t.entries) c.self.view_is)

pub invariant_of-self : goal.invariant_of-self
invariant_of-self c = record { good = c.self.invariant.good; processes = c.self.invariant.processes }

pub returns-then-place-len-clause-passed : goal.returns-then-place-len-clause-passed
returns-then-place-len-clause-passed c = λ before there.
    absurd (omega (arith, slice_get_within c.args.self.now.call_states c.args.process before there, ap (λ (t : TableState). length t.call_states) c.self.view_is))

pub invariant_of-self-2 : goal.invariant_of-self-2
invariant_of-self-2 c = record {
  good = c.self.invariant.good;
  processes = length-set c.self.inside.call_states.items c.from-place.result c.pass.new.self ∙ c.self.invariant.processes;
}

pub returns-clause-setup : goal.returns-clause-setup
returns-clause-setup c = ap (λ (t : TableState). t.setup) c.self.view_is

pub returns-clause-count : goal.returns-clause-count
returns-clause-count c = λ i. (c.self.view_is i).entries + c.from.ensures i

pub returns-clause-passed : goal.returns-clause-passed
returns-clause-passed c = λ before there.
    let then : CallState = c.pass.new.self in
    let same = kept_there _ c.args.self.now c.from-place.result c.args.process c.index_mut.result.now before c.self.view_is c.from-place.ensures c.index_mut.ensures.value there in
    record {
      then = then;
      set = λ i. slice_set (c.self.view_is i).call_states (c.from-place.ensures i) then;
      passes = λ room.
          c.pass.ensures (subst (λ (k : CallState). HaveRoom k.last.accesses c.args.reads c.args.writes c.args.overlapped) (sym same) room)
          ∙ (λ i. passed (c.self.view_is i).entries c.args.reads c.args.writes c.args.overlapped (same i));
    }
