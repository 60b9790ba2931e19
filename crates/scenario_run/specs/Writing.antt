-- The text that an engine writes while its run continues.
use Rattle.std.specs.Prelude.{◌≡◌, ℕ, List, ◌++◌, Option, length}
use Rattle.std.specs.Io.KnownBytes.{Appends}
use Rattle.plain_store.specs.{Setup}
use Rattle.scenario.specs.files.{WritesFront}
use Rattle.scenario_run.specs.Happenings.{Happening, past_after, refusals}
use Rattle.scenario_run.specs.declared.summaries.Summary.{Summary}

-- a text has grown from `before` to `after`, and the text that was added was written
pub record Writes (before after : List ℕ) (old new : Option (List ℕ)) : Type 0 where
  pub text : List ℕ
  pub is : after ≡ before ++ text
  pub taken : Appends old new text

-- a text has grown from `before` to `after`, and a prefix of the text that was added was written
pub record WritesPart (before after : List ℕ) (old new : Option (List ℕ)) : Type 0 where
  pub text : List ℕ
  pub is : after ≡ before ++ text
  pub front : WritesFront old new text

-- the events and refusals among these happenings are counted
pub record Counts (s : Setup) (happened : List Happening) (summary : Summary) : Type 0 where
  pub events : summary.events ≡ length (past_after s happened)
  pub refused : summary.refused ≡ refusals s happened
