use Rattle.safe_number.proofs.Bits.{number-bits, bits-number, number-fits, bit_in-number, bits-bytes, number-bytes, bytes-same}
use Rattle.safe_number.proofs.laws.numbers_are_their_bits.Goals as goal

pub returns : goal.returns
returns c = record { number = number-bits; bits = bits-number; fits = number-fits; bit_of_bytes = bit_in-number; bits_of_bytes = bits-bytes; number_of_bytes = number-bytes; bytes_of_bits = bytes-same }
