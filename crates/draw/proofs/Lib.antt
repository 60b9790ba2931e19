-- What commands change, and how that is shown
mod Changing
pub mod Shown
-- The one-thread store after marks
pub mod TakenStores
pub mod StoresBefore
-- The reads that writes overlap
pub mod ObservedReads
-- What is drawn, and written piece by piece
pub mod Written
pub mod Giving
pub mod Drawn
-- What parts give, and how they are drawn
pub mod AccessItems
pub mod PartsRead
pub mod Drawings
-- Runs
pub mod RunGiving
pub mod RunReported
mod OverlapsReported
pub mod Turning
pub mod LinesDrawn
pub mod RunEnds
pub mod Pictured
-- What the lines of a run show of its record
pub mod Chains
pub mod Changes
pub mod Insides
pub mod TicketsShown
pub mod SeatTickets
pub mod LineOrder
pub mod InLine
-- Records
pub mod RecordGiving
pub mod Ending
mod Lines
mod Sheeted
mod Stored
mod JudgedFile
pub mod RecordEnds
pub mod Whole
