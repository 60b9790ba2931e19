-- Lists of any kind, checks and calls
pub mod Appending
pub mod CallEnds
pub mod Passing
-- Lines of a text, and reading them
pub mod Ends
pub mod Said
pub mod Numbers
pub mod FoundWords
-- Long texts, and how engines end
pub mod CutTexts
pub mod EngineEnds
pub mod Failing
-- The lines of a source: the first 0x0A, bytes that come in blocks, the first line of a text, and its end
pub mod LineEnds
pub mod Blocks
pub mod FirstLines
pub mod Returns
-- Tables of key words
pub mod KeyWords
