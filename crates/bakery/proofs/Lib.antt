-- The result of an access of the door is that of any call
pub mod AnyCall
pub mod AtDoor
pub mod Clearing
-- A process that runs no call
pub mod Closings
pub mod DoorSteps
-- The registers of a setup remain those of the setup
pub mod Kept
-- The owner of an access
pub mod OwnAccesses
-- A step of a section
pub mod SectionSteps
pub mod UnitSteps
