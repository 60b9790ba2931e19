pub use Rattle.plain_store.specs as plain_store
pub use Rattle.reader_copies.specs as reader_copies
pub use Rattle.safe_bit.specs as safe_bit
pub use Rattle.safe_number.specs as safe_number
pub use Rattle.store_image.specs as store_image
pub use Rattle.safe_bit.specs.{is_begin_of_write, is_end_of_read}
pub mod Accesses
pub mod Acts
pub mod CallLists
pub mod Calls
pub mod Closings
pub mod Cuts
pub mod Doorways
pub mod Entries
pub mod Failures
pub mod Given
pub mod MainTheorem
pub mod Histories
pub mod Induction
pub mod Laws
pub mod Moves
pub mod Newest
pub mod Parts
pub mod Places
pub mod Program
pub mod Records
pub mod Registers
pub mod Scripts
pub mod Shown
pub mod Spans
pub mod Stages
pub mod Turns
pub mod Unit
pub use Accesses.{access_of}
pub use Acts.{Act}
pub use CallLists.{lists_of}
pub use Calls.{ReadSoFar, call_number, called_in, calls_in, last_call, last_command, read_so_far, with_access, with_move}
pub use Closings.{Closing, Ended, Frees, Quit, Settles, Withdraws, closing_after, closing_entry, closing_next, closing_of, closing_stage, failing, freeing, is_last_settled, is_last_written, is_unwritten, no_ticket, settled_marks, settling_from, withdrawing}
pub use Cuts.{Change, IsTornOf, change_of, named, pending_at, torn_at, torn_closing, torn_in, torn_run}
pub use Doorways.{ahead, begins_doorway, doorway_begin, doorway_end, first_of, is_ahead, is_before, number_in_call, raises}
pub use Entries.{Entry, Past, before, has, is_called, is_entered, is_failed, is_waiting, own, since, starts}
pub use Failures.{begun_at, begun_closing, begun_run, cut, cut_at, cut_closing, taken_with}
pub use Given.{AreGiven, EachPastGiven, is_event}
pub use MainTheorem.{AnsweredCallsTakeNoMore, AnswersAreTaken, AnswersNoCutCall, AnswersAreInHistory, AskAnswersTheLatestChange, AskReportsOfCutCalls, CallsTakeOnce, CutCallsAreNotAnswered, EachEntry, EachPast, ImagesAreOfTheStore, ImagesAreRead, IsAlone, IsAnswerTo, KeepsMainTheorem, KeepsMainTheoremThroughout, KeepsOrder, MutualExclusion, NewestIsTheHistorys, NoOvertaking, OvertakesNobody, PlacesKeepOrder, StampsFullAfterAllChanges, IsTakenAt, IsInHistory, TakenInHistory, TakenOnce, TakesItsPlace, TicketsFullNamesTheLowest, VersionReadsAreUnoverlapped, VersionsAreWholeOutside, WaitersReadNoGreatestTicket, before_image_read, call_of, count_changes, has_change, is_image, is_version, latest_change, lowest_full, tickets_read}
pub use Histories.{history, reply_taken, store_after}
pub use Induction.{past-induction}
pub use Laws.{AcceptedAdds, HasBits, OthersStay, OwnEntry, RefusedAddsNothing}
pub use Moves.{AllReads, begins_read, ended, ended_with, field_number, fields, move_on, moves_of, same_bit, valued}
pub use Newest.{bits_held, cell_after, copy, is_somebody_inside, newest, newest_bytes, version_held, versions_held}
pub use Parts.{Asks, AsksCommit, AsksImage, AsksStamp, Clears, Over, Part, Raises, Refuses, TakesTicket, Waits, WritesCommit, WritesImage, WritesStamp, doing, first_marks, is_over, is_read, last_marks, part_after, read_at, stage_of, to_b, to_c, to_d, to_e, to_g, written_at}
pub use Places.{IsFollowed, Place, Reading, Run, Writing, access_at, accesses_of, bit_written, bits_with, enter, entry_at, is_fresh, is_last, marks_of, new_run, next_access, next_read, next_written, place_after, place_of, reads_of, run_after, scripted, stage_at, value_of, write_moved}
pub use Program.{Version, Wait, change, entered_if_none, first_full, greatest, image_field, index_of, is_below, is_one, lets_by, local_program, max_of, new_image, newest_process, newest_stamp, part_b, part_c, part_d, part_e, part_f, part_g, part_h, reply, stamp_field, store_read, version_of, waits_of, withdrawn}
pub use Records.{added, calls_full, entry_made, entry_of, is_call, last_start, marked, past_of, placed, process_of, program, program_from, record_of, refused, refused_at, start_in, stepped, with_event}
pub use Registers.{bytes_of_bits, image_bytes, opening_bit, opening_bits, others, processes, read_of, width, write_of}
pub use Scripts.{Call, Next, Numbers, Portion, Script, caller, marks_at, none, nth, single, singles, then_read, writing}
pub use Shown.{field_word, mark_text, refusal_line, refusal_text, stage_word}
pub use Spans.{all_takings, ends_span, entries_of_call, has_ended, takings, takings_of_call, until}
pub use Stages.{inside, inside_after, is_at_door, is_at_rest, is_at_work, is_down, is_in_doorway, is_leaving, is_running, is_settling, is_waiting_stage, stage, stage_after}
pub use Turns.{Leads, Turn, open_after, open_closing, open_copy, open_place, open_run, open_settled, open_written}
pub use Unit.{first_flick, is_commit, is_finished, last_read, last_write, made_with, settle, settle_of, settles_at, settling, unfinished, unit_program, value_begun, value_written}
pub use declared.access.Access.{Access}
pub use declared.events.Event.{Event}
pub use declared.access.Field.{Field}
pub use declared.marks.Mark.{Mark}
pub use declared.calls.Placed.{Placed}
pub use declared.refusals.Refusal.{Refusal}
pub use declared.stages.Stage.{Stage}
pub use declared.history.Taken.{Taken}
pub use declared.access.TornBit.{TornBit}
