use Rattle.draw.proofs.Written.{ok_then}
use Rattle.draw.proofs.surroundings.write_page_end.Goals as goal

pub returns-clause-ends : goal.returns-clause-ends
returns-clause-ends g c =
    let end = c.in_ok-end.ensures in
    ok_then c.write_markup.result (λ written. record { ending = c.in_ok-end.end; is = end.draws; lines = end.lines; ends = end.elements; writes = written }) c.write_markup.ensures.written
