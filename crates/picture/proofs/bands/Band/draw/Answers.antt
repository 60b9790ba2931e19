use Rattle.std.proofs.Common.{ℕ, List, ◌++◌, ◌∙◌, ap, flat_map}
use Rattle.markup.specs.{Shape, with_lines}
use Rattle.picture.specs.{SeenBand, axis, begun, chain_shapes, column_shapes, first_inside, for_each, guide, lane_accesses, lane_shapes, lane_words, links, seen_band, shades, ties, waves_from}
use Rattle.picture_layout.specs.{SeenAccesses, seen_accesses, reported_in}
use Rattle.picture.proofs.Drawn.{ends_drawn, then_drawn}
use Rattle.picture.proofs.Reportings.{then_same}
use Rattle.picture.proofs.bands.Band.draw.Goals as goal

pub returns-clause-draws : goal.returns-clause-draws
returns-clause-draws c =
    let band : SeenBand = seen_band c.args.self.now in
    let old : List ℕ = c.args.markup.now in
    let accesses : SeenAccesses = seen_accesses c.args.accesses.now in
    let one : List Shape = shades band.layout.chain band.layout.end (first_inside band.before) band.columns in
    let two : List Shape = flat_map (guide band.layout) band.columns in
    let three : List Shape = axis band.subject band.layout.end 52 band.columns in
    let four : List Shape = for_each (lane_shapes band) band.before.processes in
    let five : List Shape = chain_shapes band in
    let six : List Shape = flat_map (links band) band.columns in
    let seven : List Shape = for_each (lane_accesses band accesses) band.before.processes in
    let eight : List Shape = flat_map (ties band.layout) band.columns in
    let nine : List Shape = flat_map (begun band.layout) band.columns in
    let ten : List Shape = waves_from band.layout band.columns 0 accesses.waves in
    let eleven : List Shape = for_each (lane_words band) band.before.processes in
    let twelve : List Shape = flat_map (column_shapes band) band.columns in
    ends_drawn c.draw_columns.result old _ _ (one ++ two ++ three ++ four ++ five ++ six ++ seven ++ eight ++ nine ++ ten ++ eleven) twelve
    (then_drawn old _ _ (one ++ two ++ three ++ four ++ five ++ six ++ seven ++ eight ++ nine ++ ten) eleven
    (then_drawn old _ _ (one ++ two ++ three ++ four ++ five ++ six ++ seven ++ eight ++ nine) ten
    (then_drawn old _ _ (one ++ two ++ three ++ four ++ five ++ six ++ seven ++ eight) nine
    (then_drawn old _ _ (one ++ two ++ three ++ four ++ five ++ six ++ seven) eight
    (then_drawn old _ _ (one ++ two ++ three ++ four ++ five ++ six) seven
    (then_drawn old _ _ (one ++ two ++ three ++ four ++ five) six
    (then_drawn old _ _ (one ++ two ++ three ++ four) five
    (then_drawn old _ _ (one ++ two ++ three) four
    (then_drawn old _ _ (one ++ two) three
    (then_drawn old _ _ one two c.in_ok-draw_shades.ensures.draws c.in_ok-draw_guides.ensures.draws)
    c.in_ok-draw_axis.ensures.draws) c.in_ok-draw_lanes.ensures.draws) c.in_ok-draw_chain.ensures.draws) c.in_ok-draw_all_links.ensures.draws)
    c.in_ok-draw_all_accesses.ensures.draws) c.in_ok-draw_ties.ensures.draws) c.in_ok-draw_begun.ensures.draws) c.in_ok-draw_waves.ensures.draws) c.in_ok-draw_all_words.ensures.draws)
    c.draw_columns.ensures.draws

pub returns-clause-read : goal.returns-clause-read
returns-clause-read c =
    then_same c.draw_columns.result _ _ _ c.draw_columns.ensures.read
    (ap (with_lines (flat_map reported_in c.args.self.now.columns.items))
    (c.in_ok-draw_all_words.ensures.read ∙ c.in_ok-draw_waves.ensures.read ∙ c.in_ok-draw_begun.ensures.read ∙ c.in_ok-draw_ties.ensures.read ∙ c.in_ok-draw_all_accesses.ensures.read ∙ c.in_ok-draw_all_links.ensures.read ∙ c.in_ok-draw_chain.ensures.read ∙ c.in_ok-draw_lanes.ensures.read ∙ c.in_ok-draw_axis.ensures.read ∙ c.in_ok-draw_guides.ensures.read ∙ c.in_ok-draw_shades.ensures.read))
