-- The line of tickets, and the first process in it (Lamport 1974).
use Rattle.std.specs.Prelude.{◌≡◌, ◌≢◌, ℕ, ◌==◌, [], ◌∷◌, cond, fold, IsTrue}
use Rattle.model.specs.{EachEntry, EachPast, Mark, Past, has, inside, is_below, is_entered, stage}
use Rattle.model.specs.declared.marks.Mark.TheVariants as mark
use Rattle.model.specs.declared.stages.Stage.TheVariants.{Waiting}

-- the latest ticket after a mark
abbrev pub ticket_after : ℕ → Mark → ℕ
ticket_after was (mark.Waiting ticket) = ticket
ticket_after was _ = was

-- the ticket with which a process waited last; 0 if it never waited
abbrev pub ticket_reported : ℕ → Past → ℕ
ticket_reported p [] = 0
ticket_reported p (e ∷ past) = cond (e.process == p) (fold ticket_after (ticket_reported p past) e.marks) (ticket_reported p past)

-- p precedes q in the line of tickets: its ticket is lower, or both have one ticket and p is the lower process
abbrev pub PrecedesInLine : Past → ℕ → ℕ → Type 0
PrecedesInLine past p q = IsTrue (is_below (ticket_reported p past) p (ticket_reported q past) q)

-- A process that enters precedes each other process that waits. The entry with which it enters may also mark its ticket.
abbrev pub WhoEntersIsFirstInLine : Type 0
WhoEntersIsFirstInLine = EachEntry λ s past e. IsTrue (has is_entered e) → (q : ℕ) → q ≢ e.process → stage q past ≡ Waiting → PrecedesInLine (e ∷ past) e.process q

-- A process that is inside precedes each process that waits.
abbrev pub WhoIsInsideIsFirstInLine : Type 0
WhoIsInsideIsFirstInLine = EachPast λ s past. (p : ℕ) → IsTrue (inside p past) → (q : ℕ) → stage q past ≡ Waiting → PrecedesInLine past p q
