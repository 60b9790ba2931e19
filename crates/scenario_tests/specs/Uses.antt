-- The facts about a world and about a replay that callers have from the contracts alone.
use Rattle.std.specs.Prelude.{◌≡◌, ℕ, List, ◌∷◌, ◌++◌, Option, IfSome, Ok}
use Rattle.std.specs.Io.KnownBytes.{Appends}
use Rattle.model.specs.{Act, Entry, IsAlone, Past, IsInHistory}
use Rattle.scenario.specs.{Script, scenario_of}
use Rattle.auditor.specs.world.{entry_with}
use Rattle.engines.specs.scenario_run.{happenings, past_after, replayed}

-- after some past, two processes do these acts, one after the other, and with each act no two processes are inside together
pub record AreAlone (p : ℕ) (first : Act) (q : ℕ) (second : Act) : Type 0 where
  pub past : Past
  pub at_first : IsAlone (entry_with p first ∷ past)
  pub at_second : IsAlone (entry_with q second ∷ entry_with p first ∷ past)

-- the text of a scenario's run was written, and each reply that it answers belongs to a command in the history, with the sequential store's reply at its position
pub record PrintsTrueReplies (said : Script) (old new : Option (List ℕ)) : Type 0 where
  pub text : Appends old new (replayed said)
  pub replies : (later earlier : Past) (e : Entry) → past_after said.setup (happenings said) ≡ later ++ e ∷ earlier → IsInHistory said.setup earlier e

-- this holds of the scenario that the whole input means
abbrev pub InputPrintsTrueReplies : Option (List ℕ) → Option (List ℕ) → Option (List ℕ) → Type 0
InputPrintsTrueReplies to_come old new = IfSome to_come (λ input. (said : Script) × (scenario_of input ≡ Ok said) × PrintsTrueReplies said old new)
