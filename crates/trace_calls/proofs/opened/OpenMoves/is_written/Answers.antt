use Rattle.std.proofs.Common.{◌≡◌, ◌<◌, true, None, get_or, sym, subst, ap, ◌∙◌}
use Rattle.std.proofs.lemmas.Option.{get_or_from_slice_get}
use Rattle.trace_calls.specs.{OpenState, is_writing}
use Rattle.trace_calls.specs.Keeping.{kept_open, writes_cell}
use Rattle.trace_calls.proofs.OpenAccesses.{is_writing-kept, one_below}
use Rattle.trace_calls.proofs.opened.OpenMoves.is_written.Goals as goal

pub returns-then-writes : goal.returns-then-writes
returns-then-writes c = λ past has.
    let k = c.loop-process.process in
    let t : OpenState = c.args.self.now in
    let cell = c.args.cell in
    let below : k < t.processes = subst (λ (t : OpenState). k < t.processes) c.self.view_is c.loop-process-test.true in
    let kept : get_or c.self.inside.opened c.from.result None ≡ kept_open t.processes k past =
    ap (λ j. get_or c.self.inside.opened j None) c.from.ensures
    ∙ ap (λ (t : OpenState). get_or t.opened k None) c.self.view_is
    ∙ get_or_from_slice_get t.opened k (kept_open t.processes k past) None (has k below) in
    let here : is_writing cell past k ≡ true = sym (is_writing-kept t.processes cell k past) ∙ sym (ap (writes_cell cell) kept) ∙ sym c.writes.ensures ∙ c.if-writes.true in
    sym (one_below t.processes k (is_writing cell past) here below)
