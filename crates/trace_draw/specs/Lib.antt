pub mod Headings
pub mod Items
pub mod Sheets
pub mod Showing
pub mod Views
pub use Headings.{first_lines, kind_word, listed, memory_word, register_line, source_of, title_of}
pub use Items.{end_lines, given_access_of, given_entry, given_last, given_past, gives_access, lines_of_marks, mark_lines, says_entry, shown, shown_by, shown_lines, shown_mark_lines, trace_gives, trace_lines}
pub use Sheets.{DrawsAllBands, DrawsLine, DrawsTrace, DrewTrace, EndsSheet, IsDrawFault, NothingYet, Corresponds, CorrespondsAfter, with_output}
pub use Showing.{AreHeld, AreShown, AreShownBy, ComesAfter, DrawsEntry, DrawsTraceSaid, EndsBands, EndsTrace, HasShown, Heads, HeadsPage, IsDrawn, IsReported, SoFar, ReportsIfJudged, Monitors, count_of, drawn_count, trace_picture_of, monitored}
pub use Views.{IsDecided, asks_all, limit_of, shows_all, view_of}
pub use declared.drawing.DrawnBands.{DrawnBands}
pub use declared.drawing.TraceDrawing.{TraceDrawing}
pub use declared.held.ShownEntries.{ShownEntries}
pub use declared.pictures.DrawnTrace.{DrawnTrace}
pub use declared.pictures.TracePicture.{TracePicture}
pub use declared.sheet.TraceSheet.{TraceSheet}
pub use declared.views.TraceView.{TraceView}
