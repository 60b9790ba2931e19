use Rattle.std.proofs.Common.{arith}
use Rattle.safe_number.proofs.Orders.{whole-write, length-number_writes, rest-next, rest-new, rest-done, whole-read, made-next}
use Rattle.safe_number.proofs.laws.accesses_go_in_order.Goals as goal

pub returns : goal.returns
returns c = record {
  whole_write = whole-write;
  count = λ n bits. length-number_writes n 0 bits;
  next_of_write = λ n value w inside going. rest-next n value w (record { inside = omega arith; going = going }) inside;
  rest_of_new_write = rest-new;
  rest_of_done_write = rest-done;
  whole_read = whole-read;
  next_of_read = made-next;
}
