use Rattle.model.specs.{Access}
use Rattle.record_file.proofs.StepWords.{access_is}
use Rattle.record_file.proofs.step_reading.access_behind.Goals as goal

pub returns : goal.returns
returns c =
    let a : Access = record { owner = c.args.owner; field = c.in_ok-field.field; bit = c.in_ok-bit.bit; reader = c.in_ok-reader.reader; how = c.in_ok-how.how } in
    access_is c.args.bytes.now c.in_ok-field.behind.now c.in_ok-bit.behind.now c.in_ok-reader.text.now a c.in_ok-field.ensures c.in_ok-bit.ensures c.in_ok-reader.ensures c.in_ok-how.ensures
