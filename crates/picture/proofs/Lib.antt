pub use Rattle.markup.proofs as markup
mod Beginnings
mod Drawn
mod Steps
mod Texts
mod Reportings
mod Held
mod Framing
mod Pagings
mod VerdictLines
mod BarsAndStages
pub mod Windowing
mod Sheetings
