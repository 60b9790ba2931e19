use Rattle.std.proofs.Common.{◌∙◌}
use Rattle.store_image.proofs.ImageBytes.{image_kept}
use Rattle.store_image.proofs.image.ImageStore.len.Goals as goal

pub returns : goal.returns
returns c =
    let i = c.self.inside in
    c.from.ensures ∙ (image_kept c.args.self.now i.used i.slots i.callers i.bytes c.self.invariant c.self.view_is).used_slots
