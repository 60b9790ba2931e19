-- Words and their parts
pub mod Cuts
pub mod Dots
pub mod Parts
-- Printed text
pub mod Fronts
pub mod Printed
-- Printed text, and reading it again
pub mod NoSigns
pub mod ReadBack
pub mod PrintedWords
-- The lines of printed entries, and printed records
pub mod EntryLines
pub mod RecordsAgain
-- A value that was read has the words that are printed for it
pub mod Spelled
-- The line of a Step
pub mod StepWords
-- Entries whose parts are in range, and whose marks are few, fit their lines
pub mod SoundReplies
pub mod SoundParts
pub mod SoundMarks
pub mod FewMarks
pub mod ShortWords
-- Words are read exactly if they have a form of a table
pub mod MarkForms
pub mod AccessForms
