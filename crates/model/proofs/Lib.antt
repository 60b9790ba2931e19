pub use Rattle.reader_copies.proofs as reader_copies
pub use Rattle.safe_bit.proofs as safe_bit
pub use Rattle.safe_number.proofs as safe_number
pub use Rattle.store_image.proofs as store_image
-- A place of the program, and its script
pub mod Place
pub mod NextAccesses
pub mod Singles
pub mod Staging
pub mod Marking
pub mod Knows
pub mod Follow
pub mod Ties
pub mod Cursors
-- The closing of a call that was cut or given up
pub mod Closing
pub mod ClosingAccesses
pub mod ClosingScripts
pub mod Left
pub mod CutRecords
-- Which copies are open, and whose turn it is
pub mod Opens
pub mod OpenSteps
pub mod ClosingSteps
pub mod OpenRecords
pub mod Turns
pub mod PlaceTurns
pub mod TurnRecords
-- Every record
pub mod Total
pub mod Accepted
pub mod Local
pub mod World
pub mod Writer
pub mod Whole
-- Lines as they are printed
pub mod RefusalLines
-- Numbers, and runs that are computed
pub mod Bytes
pub mod Width
pub mod WorkedRuns
