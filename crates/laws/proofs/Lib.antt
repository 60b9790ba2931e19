-- The state of a process, from its entries
pub mod Doings
pub mod Frame
pub mod FrameClosings
pub mod FrameInside
pub mod FrameMarks
pub mod FrameEvents
pub mod FrameSteps
pub mod Steps
pub mod FrameCuts
pub mod Cuts
pub mod FrameDoorways
pub mod DoorwayParts
pub mod DoorwayEnds
pub mod AtPlaces
-- The effect of an entry on the registers and on the marks of overlap
pub mod FrameCells
pub mod FrameWires
pub mod Notes
pub mod Others
pub mod Tickets
pub mod Numbers
pub mod Bits
-- The invariant of the lock
pub mod Invariant
pub mod Moving
pub mod Ready
pub mod Owner
pub mod Alone
pub mod Starts
pub mod Next
pub mod Always
-- Steps that read keep the invariant
pub mod Reading
pub mod ReadBegins
pub mod ReadEnds
pub mod ReadSteps
pub mod Asking
pub mod Noting
pub mod Waiting
-- Steps that write keep it
pub mod Writing
pub mod Writes
pub mod Wrote
pub mod Breaks
pub mod Closes
pub mod Stepping
-- The registers serve each access
pub mod HeldCells
pub mod HeldOwners
pub mod HeldReads
pub mod HeldThere
pub mod HeldTurns
pub mod Ends
pub mod SafeRecords
-- A write leaves its bits
pub mod ClosingWrites
pub mod WriteSteps
mod WriteWidths
pub mod WriteEnds
-- The theorems
pub mod Theorems
pub mod AheadLists
pub mod FullAnswers
pub mod Takings
pub mod UnitSteps
-- The first process in the line of tickets
pub mod PartTickets
pub mod HeldTickets
pub mod FirstInLine
