-- Bytes go by their bits.
use Rattle.model.proofs.Bytes.{next-of-bytes, moved-by-bytes, bytes-of-bits}
use Rattle.model.proofs.laws.bytes_go_by_their_bits.Goals as goal

pub returns : goal.returns
returns x = record {
  write = λ n value w h. (next-of-bytes value w h, moved-by-bytes n value w h);
  read = λ k bits bytes long many are of. bytes-of-bits k bits bytes long many are of;
}
