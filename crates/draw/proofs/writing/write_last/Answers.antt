use Rattle.draw.proofs.Drawn.{draws_both}
use Rattle.draw.proofs.Written.{ok_then}
use Rattle.picture.specs.markup.{lines_in}
use Rattle.picture.specs.{band_text, lines_of_band}
use Rattle.draw.proofs.writing.write_last.Goals as goal

pub returns-clause-drawn : goal.returns-clause-drawn
returns-clause-drawn g c =
    ok_then c.write_markup.result
    (λ ok full last. draws_both (g.W.Sink.taken c.args.output.now) (g.W.Sink.taken c.write_band.new.output) (g.W.Sink.taken c.write_markup.new.output) (band_text c.args.band.now) c.args.last.now (lines_of_band c.args.band.now) (lines_in c.args.last.now)
    (c.in_ok-write_band.ensures.drawn full) (ok last))
    c.write_markup.ensures.drawn
