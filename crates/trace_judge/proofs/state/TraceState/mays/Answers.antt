use Rattle.std.proofs.Common.{◌≡◌, true, cond, Some, None, ap, sym, subst, ◌∙◌}
use Rattle.trace.specs.{trace_entry, is_trace_setup}
use Rattle.lock_stages.specs.{is_idle}
use Rattle.trace_memory.specs.{HasMade, allowed_by, cell_refusal, has_cell, read_ended, register_of}
use Rattle.trace_judge.specs.{TraceState, first_broken, mays_by, stage}
use Rattle.trace_judge.proofs.MayValues.{mays-kept, memory_first, width-there}
use Rattle.trace_judge.proofs.Unbroken.{is_none_of}
use Rattle.trace_judge.proofs.state.TraceState.mays.Goals as goal

pub returns : goal.returns
returns c = λ past seen broken.
    let s = c.args.self.now.memory.setup in
    let p = c.args.process in
    let marks = c.args.marks.now in
    let a = c.in-Memory-Some.access in
    let idle = is_idle (stage p past) in
    let by = c.in-Memory-Some.is-0 in
    let is = c.in-Memory-Some.is-1 in
    let here = (λ i. first_broken s past (trace_entry p (sym is i) marks)) ∙ broken ∙ ap Some by in
    let there = is_none_of _ (memory_first s past (trace_entry p (Some a) marks) here).access in
    let width = width-there (has_cell s a.cell) c.in-Some.width (register_of s a.cell).width
    (subst (λ (k : TraceState). Some c.in-Some.width ≡ cond (has_cell k.memory.setup a.cell) (Some (register_of k.memory.setup a.cell).width) None) c.self.view_is c.in-Some.ensures.width) in
    let good : is_trace_setup s ≡ true = subst (λ (k : TraceState). is_trace_setup k.memory.setup ≡ true) c.self.view_is c.self.invariant.good in
    let allowed =
    subst (λ (k : TraceState). HasMade k.memory past → cell_refusal k.memory.setup past p idle a ≡ None → c.allowed.result ≡ allowed_by k.memory.setup.memory (register_of k.memory.setup a.cell) (read_ended past p a))
    c.self.view_is (c.allowed.ensures idle past) in
    mays-kept s past p a marks c.in-Some.width c.allowed.result c.few-first.result.0 c.few-first.result.1 c.may.result c.may-2.result good width.0 width.1
    (allowed seen.made there) c.few-first.ensures here (c.may.ensures past seen) (c.may-2.ensures past seen)
    ∙ sym (λ i. mays_by (by i) s past (trace_entry p (is i) marks))
