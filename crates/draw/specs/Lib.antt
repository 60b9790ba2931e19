pub mod PictureForm
pub mod Canvases
pub mod Drawings
pub mod Items
pub mod Overlaps
pub mod StoreChanges
pub mod StoresBefore
pub mod TakenStores
pub mod Views
pub mod Chains
pub mod Changes
pub mod RunDrawings
pub mod InLine
pub mod Insides
pub mod RunItems
pub mod Pictures
pub mod RecordDrawings
pub mod RecordItems
pub mod Judges
pub mod Judgings
pub mod Sheets
pub use PictureForm.{EndsPage, IsAround}
pub use Canvases.{Draws, DrawsBands, DrawsLast, DrawsLines, DrawsMarks, DrawsOn, DrawsRest, DrawsUpToVerdict, Fills, Kept, Writes, kept, kept_at_first, plan_of, trace_plan}
pub use StoresBefore.{IsStoreBefore, KeepsStore, entries_before, store_before}
pub use Items.{Gives, GivesAccess, GivesLine, GivesRead, GivesVerdict, Part, PartEntry, PartLine, Says, SaysEnd, SaysLockEnd, SaysLockMark, SaysMark, SaysRefusal, SaysStore, SaysTired, end_given, entries_among, given, given_access_of, given_all, given_last, given_of, gives_access, lines_given, mark_given, marks_after, marks_back, marks_given, marks_says, part_texts, parts_texts, reads_since, says_marks, says_of, says_text, shows_says, text_given, text_shown, texts_given, texts_shown, waiting}
pub use Overlaps.{Observes, ObservesAll, ReportsEnd, ReportsOver, Monitors, begun_with, ended_of, first_three, is_there, overlapped_by, overlapped_with, read_begun, read_ended, shown_of}
pub use StoreChanges.{Changed, change_by, changed, store_words, words_by}
pub use TakenStores.{IsAfterMarks, after_call, call_after, called_by, change_by_call, change_of, change_with, next_number, no_call, store_by, store_with, taken_by}
pub use Views.{IsDecided, full_view, is_short, long_view, most_asked, most_stored, record_view, short_view, waves_asked, waves_from, waves_for_few_entries}
pub use Rattle.scenario.specs.files.{FailsAsWriting, IsWriteFault, failed_write}
pub use declared.canvas.Canvas.{Canvas}
pub use declared.taken_store.LastCall.{LastCall}
pub use declared.taken_store.TakenStore.{TakenStore}
pub use declared.store_before.StoreBefore.{StoreBefore}
pub use declared.overlaps.BegunRead.{BegunRead}
pub use declared.overlaps.OverlapsObserved.{OverlapsObserved}
pub use Chains.{ChainIsTheHistory, Knot, knot_of, knots, numbered}
pub use Changes.{LinesSayTheHistory, StoreIsTheHistorys, after_taken, change_at, change_in, change_taken, says_mark}
pub use Drawings.{DrawsPart, HasDrawn, HasOpening, Recalls, MonitorsAccesses, observes}
pub use declared.drawing.Drawing.{Drawing}
pub use RunDrawings.{Advances, DrawsAll, DrawsFramed, DrawsLine, DrawsPage, DrawsReported, DrewRun, HasDrawnRun, IsRunPicture, ReportsReads, part_reported, tally}
pub use InLine.{IsFirstInLine, WaitsNoMore, WhoEntersIsFirst, WhoIsInsideIsDrawnFirst, WhoIsInsideIsFirst, state_of_lines}
pub use Insides.{OneIsInside}
pub use RunItems.{first_line, given_at_end, given_by, given_from, part_of_event, parts_at, parts_of, run_given, says_end}
pub use Pictures.{ended_lines, lines_reported, opening_of}
pub use declared.runs.drawing.DrawnRun.{DrawnRun}
pub use declared.runs.drawing.RunDrawing.{RunDrawing}
pub use RecordDrawings.{DrawsEntry, RecordRecalls}
pub use RecordItems.{entry_parts, record_end, record_gives, record_lines, source_of}
pub use Judges.{DrewJudgedBy}
pub use Judgings.{HasRead, HasStopped, IsShown, SaysAll, ReportsOfLines}
pub use Sheets.{All, AreDrawn, AreReadBy, AreShownBy, AreStored, DrawsAllBands, DrawsAsked, DrawsAt, DrawsBandsOf, DrawsPast, DrawsRecord, DrawsSaid, DrewRecord, DrewAs, EndsAsked, EndsAt, GoesOn, Heads, IsDrawFault, IsDrawn, IsJudged, IsRecordPicture, LeavesNone, LineStops, Corresponds, UpTo, count_by, entries_of, listed, picture_of, without_write}
pub use declared.records.sheet.DrawnEntry.{DrawnEntry}
pub use declared.records.drawing.RecordDrawing.{RecordDrawing}
pub use declared.records.sheet.RecordPicture.{RecordPicture}
pub use declared.records.stored.RecordEntries.{RecordEntries}
pub use declared.views.AccessView.{AccessView}
