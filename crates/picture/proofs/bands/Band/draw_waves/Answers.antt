use Rattle.std.proofs.Common.{ℕ, ◌+◌, List, ◌∙◌, arith, drop, map}
use Rattle.picture_layout.specs.{Layout, Seen, Wave, seen, seen_wave}
use Rattle.picture.specs.{wave_shapes, waves_from}
use Rattle.picture.proofs.Drawn.{drawn_on}
use Rattle.picture.proofs.Steps.{waves_next}
use Rattle.picture.proofs.bands.Band.draw_waves.Goals as goal

pub loop-row-preserved : goal.loop-row-preserved
loop-row-preserved c =
    let waves : List Wave = c.args.accesses.now.waves.items in
    let columns : List Seen = map seen c.args.self.now.columns.items in
    let layout : Layout = c.args.self.now.layout in
    let k : ℕ = c.loop-row.row in
    record {
      read = c.in_ok-draw_wave.ensures.read ∙ c.loop-row.invariant.read;
      draws = drawn_on c.loop-row.markup c.draw_wave.new.markup _ (waves_from layout columns k (map seen_wave (drop k waves))) (wave_shapes layout columns k (seen_wave c.wave-item.result)) (waves_from layout columns (k + 1) (map seen_wave (drop (k + 1) waves)))
          (waves_next waves k c.wave-item.result (omega arith) (rw c.deref-wave-items.ensures.value at c.wave-item.is) layout columns) c.loop-row.invariant.draws c.in_ok-draw_wave.ensures.draws;
    }
