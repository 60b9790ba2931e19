use Rattle.std.proofs.Common.{arith, rules, ◌<◌, length, refl}
use Rattle.files.proofs.Appending.{byte_set, prefix_set}
use Rattle.files.proofs.streams.Source.next_bytes.Goals as goal

-- no byte comes
pub returns-in-None : goal.returns-in-None
returns-in-None g c =
    let byte = rw c.in-None.is at c.in_ok-next_byte.ensures.byte in
    record {
      count = (omega arith, refl);
      bytes = (byte.0, λ _ _. byte.1 refl);
      failures = c.in_ok-next_byte.ensures.failures;
    }

-- one byte comes
pub returns-in-Some : goal.returns-in-Some
returns-in-Some g c =
    let to_come = g.Self.Source.to_come in
    let buffer = c.args.buffer.now in
    let some : 0 < length buffer = search (rules, c.if-is_empty.ensures) in
    let byte = rw c.in-Some.is at c.in_ok-next_byte.ensures.byte in
    record {
      count = prefix_set buffer c.in-Some.byte some;
      bytes = (byte_set (to_come c.args.self.now) (to_come c.next_byte.new.self) buffer c.in-Some.byte some byte.0, λ e. absurd (omega (arith, e)));
      failures = c.in_ok-next_byte.ensures.failures;
    }
