use Rattle.std.proofs.Common.{◌≡◌, ℕ, ◌+◌, ◌-◌, ◌*◌, List, take, drop, Some, refl, ap, sym, ◌∙◌, arith}
use Rattle.store_image.proofs.ImageBytes.{image_kept, store_kept, slot_there, IsSlotAt}
use Rattle.store_image.specs.{is_used, pair_in}
use Rattle.store_image.proofs.image.Image.slot.Goals as goal

there : (c : goal.After-result-1) → IsSlotAt c.args.self.now c.args.place (take 23 (drop (23 * c.args.place) c.self.inside.bytes))
there c =
    let i = c.self.inside in
    let s = c.args.self.now in
    slot_there s c.args.place (23 * c.args.place) i.bytes (store_kept s i.used i.slots i.callers i.bytes c.self.invariant c.self.view_is) (image_kept s i.used i.slots i.callers i.bytes c.self.invariant c.self.view_is).whole c.requires refl

same : (place : ℕ) (bytes : List ℕ) → take (23 * place + 23 - 23 * place) (drop (23 * place) bytes) ≡ take 23 (drop (23 * place) bytes)
same place bytes = let long : 23 * place + 23 - 23 * place ≡ 23 = omega arith in ap (λ n. take n (drop (23 * place) bytes)) long

pub returns-clause-pair : goal.returns-clause-pair
returns-clause-pair c = (there c).pair ∙ ap (λ slot. Some (pair_in slot)) (sym (same c.args.place c.self.inside.bytes))

pub returns-clause-used : goal.returns-clause-used
returns-clause-used c = ap is_used (same c.args.place c.self.inside.bytes) ∙ (there c).used
