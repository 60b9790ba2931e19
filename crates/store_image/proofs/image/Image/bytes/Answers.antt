use Rattle.std.proofs.Common.{◌≡◌, ◌∙◌, ap, ◌+◌, ◌*◌, arith}
use Rattle.store_image.proofs.ImageBytes.{take-kept, store_kept}
use Rattle.store_image.specs.{image_of}
use Rattle.store_image.proofs.image.Image.bytes.Goals as goal

pub returns-clause-image : goal.returns-clause-image
returns-clause-image c =
    let i = c.self.inside in
    let long : c.from-slots.result * 23 + c.from-numbers.result * 2 ≡ i.slots * 23 + i.callers * 2 = omega (arith, c.from-slots.ensures, c.from-numbers.ensures) in
    take-kept i.used i.slots i.callers i.bytes _ c.self.invariant long ∙ ap image_of c.self.view_is

pub returns-clause-store : goal.returns-clause-store
returns-clause-store c =
    let i = c.self.inside in
    store_kept c.args.self.now i.used i.slots i.callers i.bytes c.self.invariant c.self.view_is
