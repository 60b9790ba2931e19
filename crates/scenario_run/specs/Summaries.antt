-- The three numbers of a run.
use Rattle.std.specs.Prelude.{◌+◌, ◌^◌, ◌<◌, ◌≤◌, ℕ, List, length}
use Rattle.std.proofs.Common.{arith}
use Rattle.plain_store.specs.{Setup}
use Rattle.model.specs.{history}
use Rattle.scenario_run.specs.Happenings.{Happening, past_after, refusals}
use Rattle.scenario_run.specs.declared.summaries.Summary.{Summary}
use Rattle.scenario_run.specs.declared.reports.TurnReport.{TurnReport}
use Rattle.scenario_run.specs.declared.reports.TurnReport.TheVariants as reported

-- the numbers of events accepted, of commands taken, and of refusals reported
abbrev pub summary_of : Setup → List Happening → Summary
summary_of s happened = record {
  events = length (past_after s happened);
  taken = length (history s (past_after s happened));
  refused = refusals s happened;
}

-- the counts after a report; the commands taken are counted at the end
abbrev pub counted : TurnReport → Summary → Summary
counted (reported.Accepted made) summary = record summary { events = summary.events + 1 }
counted (reported.Refused p refusal) summary = record summary { refused = summary.refused + 1 }
counted (reported.Tired p) summary = summary
counted (reported.Shown store) summary = summary

-- the counts do not overflow when `more` more are counted
abbrev pub CanCount : Summary → ℕ → Type 0
CanCount summary more = (summary.events + more < 2 ^ 64) × (summary.refused + more < 2 ^ 64)

pub can_count_less : (summary : Summary) (n k : ℕ) → n ≤ k → CanCount summary k → CanCount summary n
can_count_less summary n k few (events, refused) = (omega (arith, few, events), omega (arith, few, refused))
