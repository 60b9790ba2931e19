pub mod Lines
pub use Lines.{ended_text, line_text, marked_text, refused_text, shown_text, tired_text, with_end}
pub use declared.lines.ReplayLine.{ReplayLine}
