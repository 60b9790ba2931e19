pub use Rattle.files.proofs as files
-- Lists of any kind
pub mod Places
-- Lines that were read
pub mod ScriptSaid
pub mod BitsSaid
pub mod TextSaid
pub mod Good
pub mod HeadingLists
-- The numbers of lines
pub mod LineNumbers
pub mod PrintedNumbers
-- Printed text, and reading it again
pub mod Numerals
pub mod Printed
pub mod Printout
pub mod ReadBack
pub mod ShortLines
pub mod Spaced
pub mod Spelled
pub mod LineSpelled
pub mod OneSpelling
-- Words are read exactly if they have a form of a table
pub mod Fitting
pub mod LineForms
pub mod FileForms
-- Long texts
pub mod CutTexts
