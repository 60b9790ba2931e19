-- The table of a record's calls as an engine writes it, and what it stores while the entries are observed.
use Rattle.std.specs.Prelude.{◌≡◌, ◌<◌, ℕ, List, ◌++◌, get_or, length, reverse, None, Ok, Result}
use Rattle.plain_store.specs.{Setup, checked}
use Rattle.model.specs.{Entry, Past}
use Rattle.calls.specs.Lines.{header}
use Rattle.calls.specs.Recorded.{HasListed, last_access, record_table, recorded_lines}
use Rattle.judge.specs.Ends.{TrialEnds}
use Rattle.judge.specs.files.Engines.{Streams}
use Rattle.judge.specs.files.{Fault}
use Rattle.judge.specs.safe_monitor.{HasObserved}
use Rattle.calls.specs.declared.overlaps.OverlapMonitor.{OverlapMonitor}
use Rattle.calls.specs.declared.record_table.RecordCalls.{RecordCalls}

-- the table of a record's calls, and the status 0
pub record ReportsCalls (s : Setup) (entries : List Entry) (numbers reported : List ℕ) (status : ℕ) : Type 0 where
  pub table : reported ≡ record_table s (reverse entries)
  pub answer : status ≡ 0

-- How listing ends: with the table of the record that the whole input says, or with its fault. Each fault has its cause, and nothing was written unless the table is known.
abbrev pub CallsEnd : Result ℕ Fault → Streams → Streams → Type 0
CallsEnd = TrialEnds ReportsCalls

-- a monitor has observed these entries, and the last access of each process is stored
pub record Monitors (s : Setup) (past : Past) (w : OverlapMonitor) : Type 0 where
  pub good : checked s ≡ Ok tt
  pub monitored : w.monitor.setup ≡ s
  pub observed : HasObserved w.monitor past
  pub last : (p : ℕ) → p < 16 → get_or w.last p None ≡ last_access p past
  pub room : length w.last ≡ 16

-- all entries of a record were listed, and the lines of the ended calls were printed
pub record HasListedAll (c : RecordCalls) (s : Setup) (entries : List Entry) : Type 0 where
  pub reads : Monitors s (reverse entries) c.reads
  pub setup : c.table.setup ≡ s
  pub table : HasListed c.table (reverse entries)
  pub count : c.table.entries ≡ length entries
  pub lines : c.lines.items ≡ header ++ recorded_lines s (reverse entries)
