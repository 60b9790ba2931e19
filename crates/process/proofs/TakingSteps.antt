-- An access whose first mark is that of a taken command reads the image or writes the commit bit.
use Rattle.std.proofs.Common.{◌≡◌, ℕ, Bool, true, false, cond, List, [], ◌∷◌, ◌++◌, arith}
use Rattle.plain_store.specs.{Command, Contents, Setup}
use Rattle.model.specs.{Call, Mark, Part, Run, Version, first_marks, is_fresh, is_last, last_marks}
use Rattle.model.specs.Closings.{Closing}
use Rattle.model.specs.Places.{bits_with}
use Rattle.model.specs.declared.marks.Mark.TheVariants as mark
use Rattle.model.specs.Parts as part
use Rattle.laws.specs.{Closes, Doing, Lies, Rests, Runs, call, marks_with}

-- the marks begin with that of a taken command
abbrev pub takes : List Mark → Bool
takes (mark.Taken k r ∷ marks) = true
takes _ = false

-- the case of a process that runs its call
part-cases : (P : Part → Type 0) → ((versions : List Version) → P (part.AsksImage versions)) → ((versions : List Version) (store : Contents) → P (part.WritesCommit versions store)) →
    (c : Call) (x : Part) (fresh last : Bool) (bits : List Bool) → takes (cond fresh (first_marks x) [] ++ cond last (last_marks c x bits) []) ≡ true → P x
part-cases P image commit c (part.AsksImage versions) fresh last bits h = image versions
part-cases P image commit c (part.WritesCommit versions store) fresh last bits h = commit versions store
part-cases P image commit c x fresh last bits h = grind arith

-- no memory unit takes a command first
closes-none : (s : Setup) (p : ℕ) (command : Command) (number : ℕ) (at : Closing) (flick v : Bool) → takes (marks_with s p (Closes command number at) flick v) ≡ true → ⊥
closes-none s p command number at flick v h = grind arith

-- A fact holds before such an access if it holds of each process that reads the image or writes the commit bit.
pub takes_cases : (P : Doing → Type 0) → ((command : Command) (number : ℕ) (run : Run) (versions : List Version) → P (Runs command number (record { part = part.AsksImage versions; run = run }))) →
    ((command : Command) (number : ℕ) (run : Run) (versions : List Version) (store : Contents) → P (Runs command number (record { part = part.WritesCommit versions store; run = run }))) →
    (s : Setup) (p : ℕ) (d : Doing) (flick v : Bool) → takes (marks_with s p d flick v) ≡ true → P d
takes_cases P image commit s p Rests flick v h = cc
takes_cases P image commit s p Lies flick v h = cc
takes_cases P image commit s p (Runs command number at) flick v h =
    part-cases (λ x. P (Runs command number (record { part = x; run = at.run }))) (λ versions. image command number at.run versions) (λ versions store. commit command number at.run versions store)
    (call s p command number) at.part (is_fresh at.run) (is_last (call s p command number) at.part at.run) (bits_with at.run v) h
takes_cases P image commit s p (Closes command number at) flick v h = absurd (closes-none s p command number at flick v h)
