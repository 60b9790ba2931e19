use Rattle.std.proofs.Common.{◌≡◌, ap, arith, false, length}
use Rattle.register_drive.proofs.Steps.{new_written}
use Rattle.register_tests.proofs.drives.cut_after.Goals as goal

pub cut_and_settle-requires-clause-written : goal.cut_and_settle-requires-clause-written
cut_and_settle-requires-clause-written c = (λ _. false, new_written 2 2 _ c.in_ok-register.ensures.register)

pub number_of-requires : goal.number_of-requires
number_of-requires c =
    let two : length c.read_all.new.run.bits ≡ 2 = ap length (c.in-Some-read_all.ensures.bits c.in-Some.ensures.written.0 c.in-Some.ensures.written.1) in
    omega (arith, two, c.bytes.ensures.len)
