use Rattle.std.proofs.Common.{◌≡◌, ℕ, true, List, [], ap, sym, ◌∙◌}
use Rattle.std.proofs.lemmas.Bool.{cond-true, not-false}
use Rattle.markup.specs.{Shape}
use Rattle.picture_layout.specs.{Lane, lane_in}
use Rattle.picture.specs.{SeenBand, lane_words, seen_band, words_of_lane}
use Rattle.picture.proofs.Steps.{process_next}
use Rattle.picture.proofs.bands.Band.draw_all_words.Goals as goal

pub loop-process-preserved : goal.loop-process-preserved
loop-process-preserved c =
    let band : SeenBand = seen_band c.args.self.now in
    let p : ℕ = c.loop-process.process in
    let words : List Shape = words_of_lane band p in
    let full : (lane_in band.layout p).is_full ≡ true = ap (λ (lane : Lane). lane.is_full) (sym c.lane.ensures) ∙ not-false c.lane.result.is_full c.if-not-lane.false in
    record {
      read = c.in_ok-draw_words.ensures.read ∙ c.loop-process.invariant.read;
      draws = process_next (lane_words band) p c.args.markup.now c.loop-process.markup c.loop-process.invariant.draws c.draw_words.new.markup words
          (sym (cond-true (lane_in band.layout p).is_full words [] full)) c.in_ok-draw_words.ensures.draws;
    }
