use Rattle.std.proofs.Common.{◌∙◌, arith}
use Rattle.store_image.proofs.ImageBytes.{image_kept, store_kept}
use Rattle.store_image.proofs.image.Image.slots.Goals as goal

pub returns-clause-slots : goal.returns-clause-slots
returns-clause-slots c =
    let i = c.self.inside in
    c.from.ensures ∙ (image_kept c.args.self.now i.used i.slots i.callers i.bytes c.self.invariant c.self.view_is).all_slots

pub returns-clause-fits : goal.returns-clause-fits
returns-clause-fits c =
    let i = c.self.inside in
    let s = c.args.self.now in
    omega (arith, c.from.ensures, (image_kept s i.used i.slots i.callers i.bytes c.self.invariant c.self.view_is).all_slots, (store_kept s i.used i.slots i.callers i.bytes c.self.invariant c.self.view_is).room)
