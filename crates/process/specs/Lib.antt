pub use Rattle.choices.specs as choices
pub use Rattle.laws.specs as laws
pub use Rattle.registers.specs as registers
pub mod Alone
pub mod CallParts
pub mod Looks
pub mod Memories
pub mod Newest
pub mod Others
pub mod Places
pub mod RegisterProgress
pub mod ValuesRead
pub mod Serving
pub mod Reporting
pub mod Working
pub use Alone.{IsOfRegister, answer_at, answer_of, called_inside, change_of, full_at, full_of, register_at, settles, settling_with, ticket_at, ticket_of, torn_of, unit_with}
pub use CallParts.{IsOutcome, PartState, marks_lowered, marks_taken, marks_to, marks_waited, reads_image, writes_image}
pub use Looks.{bytes_written, number_read, settling_of, ticket_known}
pub use Memories.{access_there, cells_after, cells_dropped, cells_opening, is_of_reader, lane_with, memory_with}
pub use Newest.{IsNewestWith, newest_store, newest_version, register_held, version_in, versions_in}
pub use Others.{first_other, other_numbered, others_below, others_from}
pub use Places.{ProcessState, WantsNoMemory, called, changes_at, changes_pending, changes_read, failed, is_full, is_reported, remaining_at, remaining_of, marks_on, may_fail, may_step, next_number, process_after, refusal_of, rest_of, restarted, stage_doing, stepped, withdrawn}
pub use RegisterProgress.{last_access, last_of_read, last_of_run, last_of_write, progress}
pub use ValuesRead.{Fit, HasRoom, Holds, IsCall, KeepsPart, all_from, call_of, others_of, part_at, tickets_seen, versions, versions_seen, waits_from}
pub use Serving.{answered_at, answered_next, dropped, newest_of, next_at, overlapped_steps, overlaps_step, step_by, step_of, steps_of}
pub use Reporting.{act_of, changes_of_event, changes_reported, marks_of, marks_reported}
pub use Working.{AreMarksOn, HasMoved, IsOfCommit, IsStepped, KeepsPlace, SettlesAt, doing_at, value_for_next, is_torn_at, reply_taken, settling_at, state_at, taken_at, with_doing}
pub use declared.newest_version.NewestVersion.{NewestVersion}
pub use declared.outcomes.EventOutcome.{EventOutcome}
pub use declared.part.ProcessCall.{ProcessCall}
pub use declared.part.ProgramPoint.{ProgramPoint}
pub use declared.activity.Activity.{Activity}
pub use declared.outcomes.StepOutcome.{StepOutcome}
pub use declared.looks.AccessProgress.{AccessProgress}
pub use declared.looks.KnownTicket.{KnownTicket}
