pub use Rattle.run_lines.specs as run_lines
pub use Rattle.trace.specs as trace
pub mod AccessStates
pub mod Accesses
pub mod Columns
pub mod GivenAccesses
pub mod Layouts
pub mod LockLines
pub mod OpenAccesses
pub mod Overlaps
pub mod Placings
pub mod Stages
pub mod States
pub mod Reported
pub mod Waves
pub use AccessStates.{SeenAccesses, accesses_after, accesses_at, no_accesses, seen_accesses}
pub use Accesses.{access_characters, access_title, characters_by, characters_of, is_any, is_inner, is_over, since_text, spaced, title_front}
pub use Columns.{Seen, Wording, alone, capped, column_of_access, column_of_read, joined, joins, longest_row, row_shared, rows_of_lines, rows_reported, seen, settles_and_takes_in, shortened, taken_in, wording}
pub use GivenAccesses.{GivenAccess, GivenChange, given_access, given_change}
pub use Layouts.{access_room, bar_of, boxes_of, chain_ends_of, first_lanes, has_changes, has_column, has_notes, knot_of, knots_from, lane_in, layout_of, room_below_of, shows_access, lies_in, top_of, wave_row}
pub use LockLines.{like, lock_ended_text, lock_marked_text}
pub use OpenAccesses.{first_open, none_open, open_after, open_behind, open_by, open_next, open_of, open_with, overlapped_if}
pub use Overlaps.{bit_text, read_text, saw_text, title_text}
pub use Placings.{drawn_apart, end_of_words, event_position, has_room_at, last_of, moved_to, place_of, placing_at_first, put_at, stretched_all, widened}
pub use Stages.{StagesAreTheRecords, marks_in, marks_said, nothing_reported, stage_among, stages_after, stages_marked, stages_reported}
pub use States.{at_first, before_in, behind_in, first_waiting, freed_by, group_of, inside_marked, line_of_first, lined_up, no_seat, not_awaiting, places_from, places_marked, queue_of, seats_marked, state_lock_marked, state_marked, state_reported, ticket_in, with_seats_marked, word_of}
pub use Reported.{change_reported, mark_reported, place_reported, content_text, reports_lock_mark, reports_refusal, text_of, texts, reported_in}
pub use Waves.{SeenWave, change_in, row_begun, row_set, seen_wave, seen_waves, wave_before, wave_behind, waves_after, waves_begun}
pub use declared.access_state.AccessState.{AccessState}
pub use declared.accesses.AccessKind.{AccessKind}
pub use declared.accesses.AccessStep.{AccessStep}
pub use declared.accesses.ShownAccess.{ShownAccess}
pub use declared.accesses.WaveChange.{WaveChange}
pub use declared.columns.Column.{Column}
pub use declared.placing.ColumnPosition.{ColumnPosition}
pub use declared.groups.ProcessGroup.{ProcessGroup}
pub use declared.seats.ProcessDetails.{ProcessDetails}
pub use declared.layout.Lane.{Lane}
pub use declared.layout.Layout.{Layout}
pub use declared.limits.WaveCount.{WaveCount}
pub use declared.limits.WaveLimit.{WaveLimit}
pub use declared.reads.OverlappedRead.{OverlappedRead}
pub use declared.placing.WordEnds.{WordEnds}
pub use declared.line_contents.RunLine.{RunLine}
pub use declared.line_contents.LineContent.{LineContent}
pub use declared.open_accesses.UnendedAccess.{UnendedAccess}
pub use declared.state.State.{State}
pub use declared.line_contents.TakenChange.{TakenChange}
pub use declared.groups.BarWord.{BarWord}
pub use declared.waves.Wave.{Wave}
