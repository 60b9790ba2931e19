use Rattle.std.proofs.Common.{[], None, Option, refl, subst, sym}
use Rattle.draw.specs.{AreReadBy, RecordDrawing}
use Rattle.draw.proofs.Stored.{none_stored}
use Rattle.draw.proofs.records.sheet.RecordPicture.new.Goals as goal

pub returns-clause-corresponds : goal.returns-clause-corresponds
returns-clause-corresponds c = λ taken. record {
  reader = refl;
  clear = refl;
  draws = subst (λ (o : Option RecordDrawing). AreReadBy o c.new.result.stored.items c.args.options c.args.form None [] taken taken) (sym c.new.ensures.drawing)
      (none_stored c.args.options c.new.result.stored.items taken c.new.ensures.stored);
}
