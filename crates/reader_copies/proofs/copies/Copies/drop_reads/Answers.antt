use Rattle.std.proofs.Common.{◌≡◌, length, ap, ◌∙◌, arith, map}
use Rattle.std.proofs.lemmas.List.{length-map}
use Rattle.std.proofs.lemmas.List.Edits.{map_over_more}
use Rattle.std.proofs.lemmas.Grind.{common_steps}
use Rattle.reader_copies.specs.{cells_of}
use Rattle.reader_copies.proofs.Cells.{cells-without_reads, dropped}
use Rattle.reader_copies.proofs.copies.Copies.drop_reads.Goals as goal

pub loop-place-preserved : goal.loop-place-preserved
loop-place-preserved c = (
  map_over_more dropped c.self.inside.flags.items _ _ c.index_mut.result.now (omega (arith, c.len-place-end.ensures)) c.loop-place.invariant.0 c.index_mut.ensures.value,
  c.loop-place.invariant.1,
)

pub invariant_of-self : goal.invariant_of-self
invariant_of-self c =
    let all : c.loop-place.self-inside.flags.items ≡ map dropped c.self.inside.flags.items = grind (arith, common_steps) in
    omega (arith, ap length all, length-map c.self.inside.flags.items dropped, c.self.invariant, c.loop-place.invariant.1)

pub returns : goal.returns
returns c =
    let all : c.loop-place.self-inside.flags.items ≡ map dropped c.self.inside.flags.items = grind (arith, common_steps) in
    ap (cells_of c.loop-place.self-inside.flags.items) c.loop-place.invariant.1 ∙ cells-without_reads _ _ _ _ c.self.view_is c.self.invariant all
