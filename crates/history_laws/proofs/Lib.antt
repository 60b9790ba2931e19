-- The commands that calls take, and their order
pub mod Reported
pub mod Took
pub mod PartMarks
pub mod ClosingMarks
pub mod CallSpans
pub mod Places
pub mod Order
-- The invariant of the data
pub mod Kept
pub mod Sound
pub mod Given
pub mod Versions
pub mod NewestVersion
pub mod CountedChanges
pub mod Codec
pub mod Sounding
pub mod Opening
pub mod Lifting
-- Steps that read keep the invariant
pub mod CleanReads
pub mod DataReads
pub mod DataReadSteps
pub mod VersionsRead
pub mod ReadEntries
-- by steps that write a change, or settle one
pub mod Uncommitted
pub mod DataWrites
pub mod EntryWrites
pub mod WriteSteps
pub mod VersionSettles
pub mod SettleSteps
pub mod Cutting
-- All other steps keep it
pub mod Outside
pub mod Entering
pub mod EntrySteps
pub mod DataAlways
-- Consequences of the invariant
pub mod OpenVersions
pub mod VersionReads
pub mod NewestHeld
pub mod ReadStamps
pub mod ImageReads
pub mod TrueMarks
pub mod DataMore
pub mod DataMainTheorem
-- One history
pub mod HistoryItems
pub mod StoreNumbers
pub mod Asked
pub mod Answered
pub mod MainTheorems
