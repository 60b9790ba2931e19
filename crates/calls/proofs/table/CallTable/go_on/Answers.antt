use Rattle.std.proofs.Common.{◌+◌, ◌-◌, ◌^◌, ◌<◌, not, ◌&&◌, cond, None, Some, length, slice_set, sym, ap, ◌∙◌, subst, arith, length-set}
use Rattle.std.proofs.lemmas.Option.{slice_get_within}
use Rattle.calls.specs.{AreFew, CallState, TableState, observed}
use Rattle.calls.proofs.KeptThere.{kept_there}
use Rattle.calls.proofs.table.CallTable.go_on.Goals as goal

pub overflow_add-self : goal.overflow_add-self
overflow_add-self c = omega (arith, ap (λ (t : TableState). t.entries) c.self.view_is)

pub invariant_of-self : goal.invariant_of-self
invariant_of-self c = record { good = c.self.invariant.good; processes = c.self.invariant.processes }

pub returns-then-place-len-clause-step : goal.returns-then-place-len-clause-step
returns-then-place-len-clause-step c = λ before there.
    absurd (omega (arith, slice_get_within c.args.self.now.call_states c.args.process before there, ap (λ (t : TableState). length t.call_states) c.self.view_is))

pub observe-requires : goal.observe-requires
observe-requires c = c.self.invariant.good

pub invariant_of-self-2 : goal.invariant_of-self-2
invariant_of-self-2 c = record {
  good = c.self.invariant.good;
  processes = length-set c.self.inside.call_states.items c.from-place.result c.observe.new.self ∙ c.self.invariant.processes;
}

pub returns-clause-setup : goal.returns-clause-setup
returns-clause-setup c = ap (λ (t : TableState). t.setup) c.self.view_is

pub returns-clause-count : goal.returns-clause-count
returns-clause-count c = ap (λ (t : TableState). t.entries + 1) c.self.view_is

pub returns-clause-step : goal.returns-clause-step
returns-clause-step c = λ before there.
    let then : CallState = c.observe.new.self in
    let same = kept_there _ c.args.self.now c.from-place.result c.args.process c.index_mut.result.now before c.self.view_is c.from-place.ensures c.index_mut.ensures.value there in
    record {
      then = then;
      set = λ i. slice_set (c.self.view_is i).call_states (c.from-place.ensures i) then;
      observed = λ few_calls few.
          c.observe.ensures.observed (subst (λ (k : CallState). k.last.call < 2 ^ 64 - 1) (sym same) few_calls) (subst (λ (k : CallState). AreFew k.last.accesses) (sym same) few)
          ∙ (λ i. observed (c.self.view_is i).setup (c.self.view_is i).entries c.args.known.now c.args.access.now c.args.marks.now (same i));
      is = c.observe.ensures.ended ∙ ap (λ (k : CallState). cond (k.calling && not then.calling) (Some then.last) None) same;
    }
