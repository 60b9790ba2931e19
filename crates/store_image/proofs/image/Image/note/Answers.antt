use Rattle.std.proofs.Common.{◌≤◌, length, sym, arith}
use Rattle.std.proofs.lemmas.List.{set_past}
use Rattle.store_image.proofs.ImageBytes.{image_kept}
use Rattle.store_image.proofs.image.Image.note.Goals as goal

pub set_number-requires : goal.set_number-requires
set_number-requires c =
    let i = c.self.inside in
    omega (arith, (image_kept c.args.self.now i.used i.slots i.callers i.bytes c.self.invariant c.self.view_is).all_callers, c.if-caller-self.true)

pub returns-else-caller-self : goal.returns-else-caller-self
returns-else-caller-self c =
    let i = c.self.inside in
    let s = c.args.self.now in
    let past : length s.numbers ≤ c.args.caller.process = omega (arith, (image_kept s i.used i.slots i.callers i.bytes c.self.invariant c.self.view_is).all_callers, c.if-caller-self.false) in
    λ j. record { pairs = s.pairs; slots = s.slots; numbers = sym (set_past s.numbers c.args.caller.process c.args.caller.number past) j }
