-- The meaning of a good verdict, for any record.
use Rattle.std.specs.Prelude.{◌≡◌, ℕ, List, ◌∷◌, ◌++◌, reverse, IsTrue, IsFalse, Contains}
use Rattle.plain_store.specs.{Answer, Setup}
use Rattle.model.specs.{AnswersNoCutCall, CallsTakeOnce, Entry, IsAlone, IsAnswerTo, Past, PlacesKeepOrder, IsInHistory, TakesItsPlace, all_takings, has, is_entered}
use Rattle.model.specs.declared.marks.Mark.TheVariants.{Answered}
use Rattle.lock_stages.specs.{is_ahead}
use Rattle.safe_monitor.specs.declared.verdicts.Verdict.{Verdict}
use Rattle.any_lock.specs.declared.any_lock_law.AnyLockLaw.{AnyLockLaw}
use Rattle.safe_monitor.specs.declared.verdicts.Verdict.TheVariants.{Good}
use Rattle.any_lock.specs.ProcessViews.{its_call, passage_in}
use Rattle.any_lock.specs.Verdicts.{verdict_of}

-- A process enters only while no other process is ahead of it, so no process is overtaken.
abbrev pub OvertakesNobody : Past → Entry → Type 0
OvertakesNobody past e = IsTrue (has is_entered e) → (j : ℕ) → IsFalse (is_ahead (passage_in past) e.process j)

-- An answer that is a reply is the reply with which its call has taken its one command; with any other answer the call has taken none.
abbrev pub AnswersWhatItTook : Past → Entry → Type 0
AnswersWhatItTook past e = (a : Answer) → Contains e.marks (Answered a) → IsAnswerTo a (all_takings (its_call e.process (e ∷ past)))

-- The main theorem, for one entry and the entries before it.
pub record KeepsMainTheorem (s : Setup) (past : Past) (e : Entry) : Type 0 where
  pub alone : IsAlone (e ∷ past)  -- no two processes are inside together
  pub overtakes : OvertakesNobody past e  -- no process enters while another is ahead
  pub place : TakesItsPlace s past e  -- a command is taken at its position, with the sequential store's reply there
  pub in_history : IsInHistory s past e  -- a reply that is answered belongs to a command in the history
  pub answers : AnswersWhatItTook past e  -- an answered reply is that of the one command of its call, and after another answer none was taken
  pub once : CallsTakeOnce (e ∷ past)  -- each call, cut or not, takes effect at most once
  pub cut : AnswersNoCutCall past e  -- a call that was cut is never answered
  pub order : PlacesKeepOrder (e ∷ past)  -- positions keep the order of calls that do not overlap

-- Each of these entries keeps the main theorem.
abbrev pub KeepsMainTheoremThroughout : Setup → Past → Type 0
KeepsMainTheoremThroughout s past = (later earlier : Past) (e : Entry) → past ≡ later ++ e ∷ earlier → KeepsMainTheorem s earlier e

-- If this verdict is good, each of these entries keeps the main theorem.
abbrev pub SaysMainTheorem : Verdict AnyLockLaw → Setup → List Entry → Type 0
SaysMainTheorem verdict s entries = verdict ≡ Good → KeepsMainTheoremThroughout s (reverse entries)

-- A good verdict says the main theorem.
abbrev pub GoodSaysTheMainTheorem : Type 0
GoodSaysTheMainTheorem = (s : Setup) (entries : List Entry) → verdict_of s entries ≡ Good → KeepsMainTheoremThroughout s (reverse entries)
