use Rattle.std.proofs.Common.{◌≡◌, Bool, true, false, if◌then◌else◌, None, Some, refl, ap, ◌∙◌}
use Rattle.std.specs.Option.{is_some}
use Rattle.plain_store.specs.{Pair}
use Rattle.store_image.specs.{is_used, pair_in}
use Rattle.store_image.proofs.slots.is_used.Goals as goal

some_if : (b : Bool) (pair : Pair) → is_some (if b then Some pair else None) ≡ b
some_if true pair = refl
some_if false pair = refl

pub returns : goal.returns
returns c = c.is_some.ensures ∙ ap is_some c.pair_in.ensures ∙ some_if (is_used c.args.slot.now) (pair_in c.args.slot.now)
