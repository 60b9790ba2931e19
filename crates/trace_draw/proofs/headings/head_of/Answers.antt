use Rattle.std.proofs.Common.{◌∙◌, ap}
use Rattle.draw.proofs.Written.{if_ok_then}
use Rattle.picture.specs.{trace_page_front}
use Rattle.trace.specs.{TraceSetup}
use Rattle.trace_draw.proofs.headings.head_of.Goals as goal

pub returns-clause-draws : goal.returns-clause-draws
returns-clause-draws c =
    let title = c.as_slice.ensures.value ∙ c.in_ok-title.ensures in
    let processes = ap (λ (s : TraceSetup). s.processes) c.setup.view_is in
    let printed = c.as_slice-2.ensures.value ∙ c.in_ok-printed.ensures in
    if_ok_then c.trace_page_head.result (λ markup is. is ∙ (λ i. trace_page_front (processes i) (title i) (printed i) c.args.shows)) c.trace_page_head.ensures.draws
