pub use Rattle.files.proofs as files
pub use Rattle.record_file.proofs as record_file
mod Added
mod AnyFile
mod Faultless
mod Parsed
mod Simple
mod Tables
-- A source that was looked at
pub mod Opening
-- The first words of files that are read without a fault
mod Recognizing
mod RecognizingTraces
