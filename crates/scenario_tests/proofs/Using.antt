-- The facts from the contracts of a world and of a replay, put together for one caller.
use Rattle.std.proofs.Common.{◌≡◌, ℕ, List, ◌∷◌, Option, None, Some, Result, Ok, Err, IfSome, OnOk, ap, subst, sym, ◌∙◌}
use Rattle.std.specs.Io.KnownBytes.{Appends}
use Rattle.plain_store.specs.{Setup}
use Rattle.model.specs.{Act, Entry, Event, IsAlone, Past, past_of}
use Rattle.scenario.specs.files.Engines.{Streams, Ran}
use Rattle.scenario.specs.{Script, scenario_of}
use Rattle.scenario.specs.files.{Fault, ◌>>=◌}
use Rattle.auditor.specs.world.{Adds, GoesOn, KeepsTheMainTheorem, entry_with}
use Rattle.auditor.specs.world.Shows.{Shows, WorldState}
use Rattle.engines.specs.scenario_run.{InputKeepsMainTheorem, RunKeepsMainTheorem, Summary, ended, replay_text, replayed}
use Rattle.scenario_tests.specs.{AreAlone, InputPrintsTrueReplies, PrintsTrueReplies}

pub two_alone : (w mid : WorldState) (first : Event) (p : ℕ) (one : Act) (q : ℕ) (two : Act) → (events : List Event) × Shows w events →
    Adds w first p one → GoesOn w first mid → mid.setup ≡ w.setup → KeepsTheMainTheorem w p one → KeepsTheMainTheorem mid q two → AreAlone p one q two
two_alone w mid first p one q two (events, shows) adds goes same at_first at_second = record {
  past = past_of w.setup events;
  at_first = (at_first events shows).alone;
  at_second = subst (λ (past : Past). IsAlone (entry_with q two ∷ past))
      (ap (λ (s : Setup). past_of s (first ∷ events)) same ∙ ap (λ (o : Option Entry). elim o as (λ _. Past) [ None ↦ past_of w.setup events | Some e ↦ e ∷ past_of w.setup events ]) (adds events shows))
      (at_second (first ∷ events) (goes events shows)).alone;
}

true_replies : (input : List ℕ) (old new : Option (List ℕ)) → ((text : List ℕ) × (replay_text input ≡ Ok text) × Appends old new text) → ((said : Script) × (scenario_of input ≡ Ok said) × RunKeepsMainTheorem said) →
    (said : Script) × (scenario_of input ≡ Ok said) × PrintsTrueReplies said old new
true_replies input old new (text, is, written) (said, reads, keeps) = (
  said,
  reads,
  record {
    text = let same : Ok text ≡ Ok (replayed said) = sym is ∙ ap (λ r. r >>= λ said. Ok (replayed said)) reads in subst (Appends old new) (cc) written;
    replies = λ later earlier e split. (keeps.main_theorem later earlier e split).in_history;
  },
)

pub run_replies : (result : Result Summary Fault) (old new : Streams) → Ran replay_text (ended result) old new → OnOk result (InputKeepsMainTheorem old.to_come) → OnOk result (InputPrintsTrueReplies old.to_come old.taken new.taken)
run_replies (Err e) old new ran keeps = tt
run_replies (Ok summary) old new ran keeps = both old.to_come ran.0 keeps
  where
    both : (to_come : Option (List ℕ)) → IfSome to_come (λ input. (text : List ℕ) × (replay_text input ≡ Ok text) × Appends old.taken new.taken text) → InputKeepsMainTheorem to_come → InputPrintsTrueReplies to_come old.taken new.taken
    both None written keeps = tt
    both (Some input) written keeps = true_replies input old.taken new.taken written keeps
