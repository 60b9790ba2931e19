pub mod Uses
pub use Uses.{AreAlone, InputPrintsTrueReplies, PrintsTrueReplies}
