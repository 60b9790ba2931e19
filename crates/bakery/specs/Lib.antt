pub use Rattle.process.specs as process
pub mod Doors
pub mod Leavings
pub mod Borrowing
pub mod Memory
pub mod Sections
pub mod Units
pub use Memory.{BorrowedMemory, SetupMemory, borrowed_for, opening}
pub use declared.door_progress.DoorProgress.{DoorProgress}
pub use declared.section_progress.SectionProgress.{SectionProgress}
