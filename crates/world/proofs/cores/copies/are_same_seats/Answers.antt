use Rattle.std.proofs.Common.{◌≡◌, ◌<◌, get_or, length, ap, sym, ◌∙◌, arith}
use Rattle.std.proofs.lemmas.List.{get_or-map, length-map}
use Rattle.plain_store.specs.{Setup}
use Rattle.world.specs.{Seat}
use Rattle.world.proofs.cores.copies.are_same_seats.Goals as goal

pub is_same-requires : goal.is_same-requires
is_same-requires c =
    let at = c.loop-process.process in
    let seats = c.args.seats.now in
    let others = c.args.others.now in
    let setup : Seat → Setup = λ seat. seat.process.setup in
    let one : Seat = c.index-seats-process.result in
    let other : Seat = c.index-others-process.result in
    let same_len : length others ≡ length seats = sym (length-map others setup) ∙ sym (ap length c.requires) ∙ length-map seats setup in
    let inside : at < length others = c.loop-process-test.true in
    record {
      setup =
          ap setup c.index-seats-process.is
          ∙ sym (get_or-map setup seats at one one.process.setup (omega (arith, inside, same_len)))
          ∙ ap (λ setups. get_or setups at one.process.setup) c.requires
          ∙ get_or-map setup others at other one.process.setup inside
          ∙ sym (ap setup c.index-others-process.is);
    }
