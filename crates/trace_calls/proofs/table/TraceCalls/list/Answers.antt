use Rattle.std.proofs.Common.{◌≡◌, ◌+◌, ◌-◌, ◌^◌, ◌∷◌, ◌<◌, ℕ, Some, get_or, slice_get, slice_set, sym, subst, ap, ◌∙◌, arith}
use Rattle.std.proofs.lemmas.Option.{slice_get-get_or}
use Rattle.trace.specs.{trace_entry}
use Rattle.trace_calls.specs.declared.kept.TraceCallState.{TraceCallState}
use Rattle.trace_calls.specs.{CallsState, HasListed, ended_call}
use Rattle.trace_calls.specs.Keeping.{at_rest, ended_between}
use Rattle.trace_calls.proofs.OneMore.{ended_is, lists_own}
use Rattle.trace_calls.proofs.table.TraceCalls.list.Goals as goal

pub returns-clause-listed : goal.returns-clause-listed
returns-clause-listed c = λ past listed.
    let i = c.self.inside in
    let t : CallsState = record { opened = i.opened; kept = i.kept; entries = i.entries } in
    let p = c.args.process in
    let before : TraceCallState = get_or i.kept c.from.result at_rest in
    let many = c.processes.ensures.count in
    let most = c.processes.ensures.most in
    let exists = c.if-process-processes.false in
    let below : p < t.opened.processes = omega (arith, many, exists) in
    let inside : p < 16 = omega (arith, most, exists) in
    let few : t.entries < 2 ^ 64 - 1 = subst (λ (t : CallsState). t.entries < 2 ^ 64 - 1) (sym c.self.view_is) c.requires in
    let was : slice_get i.kept p ≡ Some before = slice_get-get_or i.kept p at_rest (subst (λ n. p < n) (sym c.self.invariant.kept) inside) ∙ ap (λ k. Some (get_or i.kept k at_rest)) (sym c.from.ensures) in
    let h : HasListed t past = subst (λ (t : CallsState). HasListed t past) (sym c.self.view_is) listed in
    subst (λ (k : ℕ). HasListed (record { opened = c.observe-overlapped.new.self; kept = slice_set i.kept k c.take.new.self; entries = i.entries + 1 }) (trace_entry p c.args.access.now c.args.marks.now ∷ past)) (sym c.from-2.ensures)
    (lists_own t p c.args.access.now c.args.marks.now past h below inside c.self.invariant.kept few before was c.observe-overlapped.result (c.observe-overlapped.ensures.overlapped past h.opened) c.take.new.self c.take.ensures
    c.observe-overlapped.new.self c.observe-overlapped.ensures.processes (c.observe-overlapped.ensures.opened past h.opened c.args.marks.now))

pub returns-clause-ended : goal.returns-clause-ended
returns-clause-ended c = λ past listed.
    let i = c.self.inside in
    let t : CallsState = record { opened = i.opened; kept = i.kept; entries = i.entries } in
    let p = c.args.process in
    let before : TraceCallState = get_or i.kept c.from.result at_rest in
    let many = c.processes.ensures.count in
    let most = c.processes.ensures.most in
    let exists = c.if-process-processes.false in
    let below : p < t.opened.processes = omega (arith, many, exists) in
    let inside : p < 16 = omega (arith, most, exists) in
    let few : t.entries < 2 ^ 64 - 1 = subst (λ (t : CallsState). t.entries < 2 ^ 64 - 1) (sym c.self.view_is) c.requires in
    let was : slice_get i.kept p ≡ Some before = slice_get-get_or i.kept p at_rest (subst (λ n. p < n) (sym c.self.invariant.kept) inside) ∙ ap (λ k. Some (get_or i.kept k at_rest)) (sym c.from.ensures) in
    let h : HasListed t past = subst (λ (t : CallsState). HasListed t past) (sym c.self.view_is) listed in
    c.ended_between.ensures
    ∙ ap (λ b. ended_between b before c.take.new.self) c.has_call.ensures
    ∙ ended_is t p c.args.access.now c.args.marks.now past h below inside c.self.invariant.kept few before was c.observe-overlapped.result (c.observe-overlapped.ensures.overlapped past h.opened) c.take.new.self c.take.ensures
    ∙ ap (λ (t : CallsState). ended_call t.opened.processes past (trace_entry p c.args.access.now c.args.marks.now)) c.self.view_is
