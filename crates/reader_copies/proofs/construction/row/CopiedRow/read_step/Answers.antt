use Rattle.std.proofs.Common.{◌∙◌, ap, subst, sym}
use Rattle.reader_copies.specs.{CanMake, Made, next_read}
use Rattle.reader_copies.proofs.Steps.{read_can}
use Rattle.reader_copies.proofs.construction.row.CopiedRow.read_step.Goals as goal

pub apply-requires : goal.apply-requires
apply-requires c =
    let P : Made → Type 0 = λ made. CanMake c.args.self.now c.args.bit made in
    subst P (sym (c.next-made.ensures ∙ ap (next_read c.args.reader c.args.run.now) c.answer-value.ensures))
    (read_can c.args.self.now c.args.bit c.args.reader c.args.run.now c.args.flick c.requires.cell c.requires.turn)
