use Rattle.std.proofs.Common.{◌≡◌, ◌<◌, ◌∙◌, IsSome, subst, length, nat_lt, arith}
use Rattle.store_image.proofs.Puts.{written_room}
use Rattle.plain_store.specs.{Outcome, name_of, outcome, value_for}
use Rattle.store_image.specs.{place_for}
use Rattle.store_image.proofs.image.ImageStore.apply.Goals as goal

pub write-requires-clause-room : goal.write-requires-clause-room
write-requires-clause-room c =
    let s = c.args.self.now in
    let same : c.of.result ≡ outcome (value_for s.pairs (name_of c.args.command.now)) (nat_lt (length s.pairs) s.slots) c.last-last.result c.args.command.now =
    c.of.ensures ∙ (λ j. outcome (c.find-place.ensures.value j) (c.has_room.ensures.free j) c.last-last.result c.args.command.now) in
    λ some.
    let near : place_for s.pairs (name_of c.args.command.now) < s.slots =
    written_room s c.args.command.now c.last-last.result c.has_room.ensures.fits (subst (λ (o : Outcome). IsSome o.written) same some) in
    omega (arith, near, c.find-place.ensures.place)
