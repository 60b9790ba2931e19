pub mod Sweeps
pub mod Runners
pub mod Known
pub mod Tallies
pub mod Shown
pub mod Rounds
pub use Runners.{Accepts, Follows, HasEnded, IsRun, MakesEnd, OfRun, RunnerState, RunsBy, RunsOn, at_rest, due, ended}
pub use Known.{AreKnown, AreOfSetup, AreUnknown, EndsFrom, EndsRun, HasCore, HasOutcome, IsKnown, IsUnknown, LearnsFrom, are_commands}
pub use Rounds.{IsAlone, OthersRest, with_step}
pub use Shown.{swept_text}
unfoldable pub use Sweeps.{most}
pub use Sweeps.{AreAllGood, AreDownInTime, Cut, FailsAreOfUnfailed, IsFound, IsSwept, KeepMainTheorem, Run, StepsAreOfEnabled, SweptKeepMainTheorem, SweptRunsAreGood, UnitsAreDownInTime, all_good, as_long_as, cut, cut_off, cuts, first_bad_of, goes, is_accepted, is_cut, is_good, on_from, record_of_cut, round, rounds, is_unfailed, steps_of, with_call, with_calls}
pub use Tallies.{AreFew, CanRun, CanSweep, Counts, CountsRun, HasSwept, OfSweep, RoomAtFirst, SweepsNone, SweepsOn, SweptBy, bad_run, can_sweep_less, counted}
pub use declared.known_outcomes.KnownOutcome.{KnownOutcome}
pub use declared.swept.BadRun.{BadRun}
pub use declared.swept.Swept.{Swept}
pub use declared.sweeping.Sweeper.{Sweeper}
