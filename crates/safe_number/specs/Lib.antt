pub mod Accesses
pub mod Bytes
pub mod Intervals
pub mod Laws
pub mod Reading
pub mod Runs
pub mod Written
pub use Accesses.{at_bit, made_by_read, number_reads, number_writes, read_after_steps, reads_from, rest_of_bits, rest_of_number_write, reported_by_read, reported_by_write, write_after_steps, writes_from}
pub use Bytes.{AreBytes, IsBytesOf, bit_in, bits_in, bits_of_number, little_endian, number_of_bits}
pub use Intervals.{IsSettleInterval, IsUndisturbedInterval, IsWriteInterval, Moment, Other, Own, ReadState, SettleState, WriteState, first_given, read_interval, read_moment, reader_of, settle_interval, settle_moment, write_interval}
pub use Runs.{NumberRead, NumberWrite, bit_read, bit_write, new_read, new_write, next_of_read, next_of_write, number_read_after, number_write_after, preset_number, torn_bit, torn_run, torn_with, write_on}
pub use Written.{IsReading, IsSettling, IsUndisturbed, IsWriting, first_bits, loaded}
