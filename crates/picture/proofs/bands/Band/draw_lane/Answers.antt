use Rattle.std.proofs.Common.{ℕ, ◌+◌, List, ◌++◌, arith, drop, map, ap, sym, ◌∙◌}
use Rattle.markup.specs.{drawings}
use Rattle.picture_layout.specs.{Column, Lane, lane_in, seen}
use Rattle.picture.specs.{bar, bars}
use Rattle.picture.proofs.Drawn.{drawn_on}
use Rattle.picture.proofs.Steps.{bars_change, bars_stay}
use Rattle.picture.proofs.bands.Band.draw_lane.Goals as goal

pub loop-column-preserved : goal.loop-column-preserved
loop-column-preserved c =
    let columns : List Column = c.args.self.now.columns.items in
    let k : ℕ = c.loop-column.column-index in
    let p : ℕ = c.args.process in
    let end : ℕ = c.args.self.now.layout.end in
    let column : Column = c.column-item.result in
    let lane : Lane = lane_in c.args.self.now.layout p in
    record {
      read = c.in_ok-draw_bar.ensures.read ∙ c.loop-column.invariant.read;
      draws = drawn_on c.loop-column.markup c.draw_bar.new.markup _ (bars lane p end c.loop-column.stage c.loop-column.from (map seen (drop k columns))) (bar lane c.loop-column.stage c.loop-column.from column.x)
          (bars lane p end c.stage-next.result column.x (map seen (drop (k + 1) columns)))
          (bars_change columns k column (omega arith) (rw c.deref-column-items.ensures.value at c.column-item.is) lane p end c.loop-column.stage c.stage-next.result c.loop-column.from c.stage-next.ensures
          (sym c.is_same.ensures ∙ c.if-is_same.false))
          c.loop-column.invariant.draws (c.in_ok-draw_bar.ensures.draws ∙ ap (λ (l : Lane). c.loop-column.markup ++ drawings (bar l c.loop-column.stage c.loop-column.from column.x)) c.lane-lane.ensures);
    }

pub loop-column-preserved-then-is_same : goal.loop-column-preserved-then-is_same
loop-column-preserved-then-is_same c =
    let columns : List Column = c.args.self.now.columns.items in
    let k : ℕ = c.loop-column.column-index in
    let p : ℕ = c.args.process in
    record {
      read = c.loop-column.invariant.read;
      draws = ap (λ shapes. c.loop-column.markup ++ drawings shapes)
          (sym (bars_stay columns k c.column-item.result (omega arith) (rw c.deref-column-items.ensures.value at c.column-item.is) (lane_in c.args.self.now.layout p) p c.args.self.now.layout.end c.loop-column.stage c.stage-next.result c.loop-column.from
          c.stage-next.ensures (sym c.is_same.ensures ∙ c.if-is_same.true)))
          ∙ c.loop-column.invariant.draws;
    }
