use Rattle.std.proofs.Common.{ℕ, List, subst}
use Rattle.draw.specs.{EndsPage}
use Rattle.draw.proofs.Whole.{page_drawn}
use Rattle.draw.proofs.Written.{ok_then}
use Rattle.draw.proofs.records.engines.end_page.Goals as goal

pub returns-clause-drawn : goal.returns-clause-drawn
returns-clause-drawn g c =
    let a = g.W.Sink.taken c.args.output.now in
    let b = g.W.Sink.taken c.write_page_end.new.output in
    ok_then c.write_page_end.result
    (λ ends options said reported first bands. page_drawn options said reported c.args.drawn.now first a b bands
    (subst (λ (words : List ℕ). EndsPage words a b) c.as_slice.ensures.value ends))
    c.write_page_end.ensures.ends
