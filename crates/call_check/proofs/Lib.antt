-- The steps of weigh
pub mod Callers
pub mod CallNotes
pub mod Places
pub mod AllCalls
pub mod Linking
pub mod Walking
pub mod Stores
pub mod Judged
pub mod Finding
-- The meaning of its verdicts: merges
pub mod Merging
pub mod InPlaces
-- Positions and stores
pub mod Positions
pub mod Quiet
pub mod Replies
pub mod StoresInTurn
pub mod Counting
-- The definition over the lists
pub mod Orders
pub mod Forward
pub mod Backward
pub mod SecondReading
pub mod SameVerdicts
-- One history
pub mod ListsInOrder
pub mod Answering
pub mod Histories
