use Rattle.draw.proofs.runs.engines.draw_framed.Goals as goal

pub returns-clause-drawn : goal.returns-clause-drawn
returns-clause-drawn g c = record {
  begun = g.W.Sink.taken c.write_markup.new.output;
  drawn = g.W.Sink.taken c.draw_bands.new.output;
  height = _;
  first = c.in_ok-write_markup.ensures.written;
  bands = c.in_ok-drawn.ensures.drawn;
  last = c.in_ok-write_markup-2.ensures.written;
}
