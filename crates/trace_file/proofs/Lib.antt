-- Words and their parts
pub mod CellWords
pub mod Cuts
pub mod Digits
pub mod LineWords
pub mod ShortWays
-- Lines that are read have a form of a table
pub mod MoveForms
pub mod HeadForms
