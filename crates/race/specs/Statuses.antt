-- The exit statuses of `race`.
use Rattle.std.specs.Prelude.{ℕ, Result, Ok, Err}
use Rattle.scenario.specs.files.{status_of_fault}
use Rattle.race.specs.declared.faults.RaceFault.{RaceFault}
use Rattle.race.specs.declared.faults.RaceFault.TheVariants.{Spawn, Held, Memory}
use Rattle.call_check.specs.{Weighed}
use Rattle.call_check.specs.declared.verdicts.Weighed.TheVariants.{Good, Bad, BadEnd}
use Rattle.race.specs.declared.faults.RunFault.{RunFault}
use Rattle.race.specs.declared.faults.RunFault.TheVariants.{File, Race}

-- 0 for a good verdict, 3 for any other one and for a port that was held, 4 if an allocation failed or a thread did not start
abbrev pub status_of_race : Result Weighed RaceFault → ℕ
status_of_race (Ok Good) = 0
status_of_race (Ok (Bad port call)) = 3
status_of_race (Ok BadEnd) = 3
status_of_race (Err Spawn) = 4
status_of_race (Err (Held port)) = 3
status_of_race (Err Memory) = 4

-- the status of a fault
abbrev pub status_of_run_fault : RunFault → ℕ
status_of_run_fault (File fault) = status_of_fault fault
status_of_run_fault (Race fault) = status_of_race (Err fault)
