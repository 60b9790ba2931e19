pub mod Calling
pub mod Ends
pub mod Faults
pub mod Races
pub mod Statuses
pub mod Texts
pub use Calling.{CallGoesOn, ComesTo, HasCalled, IsAnswered, IsCalling, is_uncut}
pub use Ends.{IsFaultOfRacing, OfInput, RanRace, ReportsRace, WritesRace, WritesRaceFront}
pub use Faults.{EndsPort, IsFaultAmong, IsFaultOf}
pub use Races.{AllHaveMade, AreMade, AreNew, HasMade, IsFor, IsRaced, plans_of}
pub use Statuses.{status_of_race}
pub use Texts.{answer_line, answers_from, call_text, called_of, list_text, plan_in, plans_in, refused_lines, refused_text, verdict_line}
pub use declared.faults.RaceFault.{RaceFault}
pub use declared.faults.RunFault.{RunFault}
