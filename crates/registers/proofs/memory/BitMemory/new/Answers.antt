use Rattle.std.proofs.Common.{◌++◌, ◌∷◌, [], List, Bool, sym, ◌∙◌, arith}
use Rattle.std.proofs.lemmas.List.FromFn.{map-range_with_len_more}
use Rattle.model.specs.{width}
use Rattle.model.specs.declared.access.Field.TheVariants.{Image0}
use Rattle.registers.specs.{opening_lane}
use Rattle.reader_copies.specs.{bits_of_words}
use Rattle.registers.proofs.memory.BitMemory.new.Goals as goal

pub loop-lane-preserved : goal.loop-lane-preserved
loop-lane-preserved c =
    let s = c.args.setup.now in
    let bits : List Bool = bits_of_words c.args.image.now (width s Image0) in
    c.in_ok-push.ensures.items ∙ (λ i. c.loop-lane.invariant i ++ c.in_ok-open_lane.ensures i ∷ [])
    ∙ sym (map-range_with_len_more (opening_lane s bits) 0 c.loop-lane.lane c.loop-lane.lane (omega arith))
