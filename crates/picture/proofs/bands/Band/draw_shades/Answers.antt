use Rattle.std.proofs.Common.{ℕ, ◌+◌, List, ◌∙◌, arith, drop, map}
use Rattle.picture_layout.specs.{Column, Seen, seen}
use Rattle.picture.specs.{shade_up_to, shades}
use Rattle.picture.proofs.Drawn.{drawn_on}
use Rattle.picture.proofs.Steps.{shades_next}
use Rattle.picture.proofs.bands.Band.draw_shades.Goals as goal

pub loop-column-preserved : goal.loop-column-preserved
loop-column-preserved c =
    let columns : List Column = c.args.self.now.columns.items in
    let k : ℕ = c.loop-column.column-index in
    let rest : List Seen = map seen (drop (k + 1) columns) in
    let chain : ℕ = c.args.self.now.layout.chain in
    let end : ℕ = c.args.self.now.layout.end in
    record {
      read = c.in_ok-shade_before.ensures.read ∙ c.loop-column.invariant.read;
      draws = drawn_on c.loop-column.markup c.shade_before.new.markup _ (shades chain end c.loop-column.from (map seen (drop k columns))) (shade_up_to chain c.loop-column.from c.is_some-is_inside.result c.column-item.result.x) (shades chain end c.inside_from-from.result rest)
          (shades_next columns k c.column-item.result (omega arith) (rw c.deref-column-items.ensures.value at c.column-item.is) chain end c.loop-column.from c.inside_from-from.result c.is_some-is_inside.result (cc) c.inside_from-from.ensures) c.loop-column.invariant.draws c.in_ok-shade_before.ensures.draws;
    }
