use Rattle.std.proofs.Common.{ℕ, List, subst, ◌∙◌}
use Rattle.draw.specs.{EndsPage}
use Rattle.draw.proofs.runs.engines.draw_behind.Goals as goal

pub returns-clause-drawn : goal.returns-clause-drawn
returns-clause-drawn g c =
    let drawn = c.in_ok-drawn.ensures in
    let mid = g.W.Sink.taken c.draw_bands.new.output in
    let last = g.W.Sink.taken c.write_page_end.new.output in
    record {
      begun = g.W.Sink.taken c.write_markup.new.output;
      drawn = mid;
      height = _;
      first = c.in_ok-write_markup.ensures.written;
      bands = drawn.drawn;
      last = subst (λ (words : List ℕ). EndsPage words mid last) (c.as_slice.ensures.value ∙ drawn.opening) c.in_ok-write_page_end.ensures.ends;
    }
