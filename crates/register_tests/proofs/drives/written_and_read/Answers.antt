use Rattle.std.proofs.Common.{◌≡◌, ap, arith, false, length}
use Rattle.register_drive.proofs.Steps.{new_written, new_idle}
use Rattle.register_tests.proofs.drives.written_and_read.Goals as goal

pub write_all-requires-clause-written : goal.write_all-requires-clause-written
write_all-requires-clause-written c = (λ _. false, new_written 4 2 _ c.in_ok-register.ensures.register)

pub write_all-requires-clause-idle : goal.write_all-requires-clause-idle
write_all-requires-clause-idle c = new_idle 4 2 _ 1 c.in_ok-register.ensures.register

pub number_of-requires : goal.number_of-requires
number_of-requires c =
    let four : length c.read_all.new.run.bits ≡ 4 = ap length (c.in-Some-read_all.ensures.bits _ c.in-Some.ensures.written) in
    omega (arith, four, c.bytes.ensures.len)
