use Rattle.std.proofs.Common.{ℕ, List, ◌∙◌, refl}
use Rattle.markup.specs.{Shape}
use Rattle.picture_layout.specs.{seen_accesses}
use Rattle.picture.specs.{lane_accesses, seen_band}
use Rattle.picture.proofs.Steps.{process_next}
use Rattle.picture.proofs.bands.Band.draw_all_accesses.Goals as goal

pub loop-process-preserved : goal.loop-process-preserved
loop-process-preserved c =
    let shapes : ℕ → List Shape = lane_accesses (seen_band c.args.self.now) (seen_accesses c.args.accesses.now) in
    let p : ℕ = c.loop-process.process in
    record {
      read = c.in_ok-draw_accesses.ensures.read ∙ c.loop-process.invariant.read;
      draws = process_next shapes p c.args.markup.now c.loop-process.markup c.loop-process.invariant.draws c.draw_accesses.new.markup (shapes p) refl c.in_ok-draw_accesses.ensures.draws;
    }
