use Rattle.std.proofs.Common.{◌≡◌, ◌∙◌, ◌<◌, ◌≤◌, ◌+◌, ◌-◌, ◌*◌, take, drop, length, ap, sym, arith}
use Rattle.std.proofs.lemmas.List.{get_or_past}
use Rattle.store_image.proofs.ImageBytes.{image_kept, store_kept, number_there, IsImage}
use Rattle.store_image.specs.{number_in}
use Rattle.plain_store.specs.{padded}
use Rattle.store_image.proofs.image.ImageStore.last.Goals as goal

pub returns-then-process-self : goal.returns-then-process-self
returns-then-process-self c =
    let i = c.self.inside in
    let s = c.args.self.now in
    let kept : IsImage s i.used i.slots i.callers i.bytes = image_kept s i.used i.slots i.callers i.bytes c.self.invariant c.self.view_is in
    let at = 23 * c.from.result + 2 * c.from-then-process-self.result in
    let long : at + 2 - at ≡ 2 = omega arith in
    let start : at ≡ 23 * s.slots + 2 * c.args.process = omega (arith, kept.all_slots, c.from.ensures, c.from-then-process-self.ensures) in
    let small : c.args.process < length s.numbers = omega (arith, kept.all_callers, c.if-process-self.true) in
    c.number_in.ensures
    ∙ ap number_in c.pad.ensures
    ∙ ap (λ n. number_in (padded 2 (take n (drop at i.bytes)))) long
    ∙ number_there s c.args.process at i.bytes (store_kept s i.used i.slots i.callers i.bytes c.self.invariant c.self.view_is) kept.whole small start

pub returns-else-process-self : goal.returns-else-process-self
returns-else-process-self c =
    let i = c.self.inside in
    let s = c.args.self.now in
    let past : length s.numbers ≤ c.args.process = omega (arith, (image_kept s i.used i.slots i.callers i.bytes c.self.invariant c.self.view_is).all_callers, c.if-process-self.false) in
    sym (get_or_past s.numbers c.args.process 0 past)
