-- What the table of a record has in common with that of a run.
use Rattle.std.specs.Prelude.{◌≡◌, ◌-◌, ℕ, List, [], ◌∷◌, ◌++◌, flat_map, length, option_map, None, Ok}
use Rattle.plain_store.specs.{Setup, checked}
use Rattle.model.specs.{AreGiven, Event, Past, past_of, processes}
use Rattle.calls.specs.Lines.{header, line_of}
use Rattle.calls.specs.declared.called.Called.{Called}
use Rattle.calls.specs.Observing.{ended_call, open_call}
use Rattle.calls.specs.Recorded.{record_table}
use Rattle.judge.specs.any_lock.{verdict_after}
use Rattle.judge.specs.safe_monitor.declared.verdicts.Verdict.TheVariants.{Good}

-- a call of a run, without the process that it waited for
abbrev pub without_wait : Called → Called
without_wait c = record c { accesses = record c.accesses { waited_for = None } }

-- a run's lines of the calls that have ended, without these processes
abbrev pub lines_without_waits : Setup → Past → List ℕ
lines_without_waits s [] = []
lines_without_waits s (e ∷ past) = lines_without_waits s past ++ line_of (length past) (option_map without_wait (ended_call s past e))

-- those of the others, by process
abbrev pub open_lines_without_waits : Setup → Past → List ℕ
open_lines_without_waits s past = flat_map (λ p. line_of (length past - 1) (option_map without_wait (open_call s p past))) (processes s)

-- a run's table without the processes that calls waited for
abbrev pub table_without_waits : Setup → Past → List ℕ
table_without_waits s past = header ++ (lines_without_waits s past ++ open_lines_without_waits s past)

-- A record that is good for any lock has the table that a run with these entries has, without the processes that calls waited for.
abbrev pub GoodRecordsListAsRuns : Type 0
GoodRecordsListAsRuns = (s : Setup) (past : Past) → verdict_after s past ≡ Good → record_table s past ≡ table_without_waits s past

-- So has the record of each run.
abbrev pub RecordsOfRunsListAsRuns : Type 0
RecordsOfRunsListAsRuns = (s : Setup) → checked s ≡ Ok tt → (events : List Event) → AreGiven s events → record_table s (past_of s events) ≡ table_without_waits s (past_of s events)
