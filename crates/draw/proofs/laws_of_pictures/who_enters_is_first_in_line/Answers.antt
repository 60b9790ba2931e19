use Rattle.draw.proofs.InLine.{drawn_first, entering_first, inside_first}
use Rattle.draw.proofs.laws_of_pictures.who_enters_is_first_in_line.Goals as goal

pub returns : goal.returns
returns c = record {
  entering = entering_first c.stages_are_the_records.ensures;
  inside = inside_first c.stages_are_the_records.ensures;
  drawn = drawn_first c.stages_are_the_records.ensures;
}
