-- The chain of the history: the commands taken, as the lines of a run show them.
use Rattle.std.specs.Prelude.{◌≡◌, ℕ, suc, List, [], ◌∷◌, flat_map, Ok}
use Rattle.model.specs.plain_store.{Reply, Setup, checked}
use Rattle.model.specs.{Event, Mark, Taken, history, past_of}
use Rattle.model.specs.declared.marks.Mark.TheVariants as mark
use Rattle.picture.specs.picture_layout.{LineContent, marks_in, marks_said}

-- a knot of the chain: the process whose command was taken, the position of the command, and its reply
pub record Knot : Type 0 where
  pub process : ℕ
  pub place : ℕ
  pub reply : Reply

-- the knot of a mark of a process, if it has one
abbrev pub knot_of : ℕ × Mark → List Knot
knot_of (p, mark.Taken k r) = record { process = p; place = k; reply = r } ∷ []
knot_of (p, _) = []

-- the knots of marks, in their order
abbrev pub knots : List (ℕ × Mark) → List Knot
knots = flat_map knot_of

-- the knots of all lines, in their order
abbrev pub knots_reported : List LineContent → List Knot
knots_reported lines = knots (flat_map marks_said lines)

-- the knots of commands that are taken from position k on
abbrev pub numbered : ℕ → List Taken → List Knot
numbered k [] = []
numbered k (t ∷ taken) = record { process = t.process; place = k; reply = t.reply } ∷ numbered (suc k) taken

-- Where lines say the marks of a record, whatever else they say between them, the k-th knot is the k-th command of the history, from 0: its process, k, and its reply.
abbrev pub ChainIsTheHistory : Type 0
ChainIsTheHistory = (s : Setup) → checked s ≡ Ok tt → (events : List Event) (lines : List LineContent) → flat_map marks_said lines ≡ marks_in (past_of s events) →
    knots_reported lines ≡ numbered 0 (history s (past_of s events))
