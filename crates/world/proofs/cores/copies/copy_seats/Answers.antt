use Rattle.std.proofs.Common.{◌≡◌, ◌<◌, List, get_or, set, length, ap, sym, ◌∙◌, arith}
use Rattle.std.proofs.lemmas.List.{get_or-map, length-map}
use Rattle.plain_store.specs.{Setup}
use Rattle.model.proofs.reader_copies.Copying.{get_or-written_over, written_over-more}
use Rattle.world.specs.{Seat, seat_with}
use Rattle.world.proofs.cores.copies.copy_seats.Goals as goal

pub copy_from-requires : goal.copy_from-requires
copy_from-requires c =
    let at = c.loop-process.process in
    let seats = c.args.seats.now in
    let others = c.args.others.now in
    let setup : Seat → Setup = λ seat. seat.process.setup in
    let one : Seat = c.index-seats-process.result in
    let other : Seat = c.index-others-process.result in
    let same_len : length others ≡ length seats = sym (length-map others setup) ∙ sym (ap length c.requires) ∙ length-map seats setup in
    let inside : at < length others = c.loop-process-test.true in
    record {
      setup =
          ap (λ (xs : List Seat). (get_or xs at one).process.setup) c.loop-process.invariant
          ∙ ap setup (get_or-written_over others seats at one same_len inside)
          ∙ sym (get_or-map setup seats at one one.process.setup (omega (arith, inside, same_len)))
          ∙ ap (λ setups. get_or setups at one.process.setup) c.requires
          ∙ get_or-map setup others at other one.process.setup inside
          ∙ sym (ap setup c.index-others-process.is);
    }

pub loop-process-preserved : goal.loop-process-preserved
loop-process-preserved c =
    let at = c.loop-process.process in
    let seats = c.args.seats.now in
    let others = c.args.others.now in
    let setup : Seat → Setup = λ seat. seat.process.setup in
    let same_len : length others ≡ length seats = sym (length-map others setup) ∙ sym (ap length c.requires) ∙ length-map seats setup in
    ap (λ now. set c.loop-process.seats at (seat_with now c.index-others-process.result)) c.copy_from.ensures
    ∙ ap (λ xs. set xs at c.index-others-process.result) c.loop-process.invariant
    ∙ written_over-more others seats at c.index-others-process.result same_len c.loop-process-test.true c.index-others-process.is
