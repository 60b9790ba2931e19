-- The effect of a word step on the list of a port: the position of the taken command.
use Rattle.std.proofs.Common.{◌≡◌, ℕ, Bool, true, false, cond, List, [], ◌∷◌, ◌++◌, ◌&&◌, length, refl, sym, ap, ◌∙◌, Option, Some, None, arith}
use Rattle.std.specs.Prelude.{IfSome, option_map}
use Rattle.model.specs.safe_bit.declared.Move.TheVariants.{BeginRead}
use Rattle.model.specs.{Access, Call, Change, Field, Mark, Part, Taken, TornBit, begun_at, begun_closing, bits_with, cut, first_marks, is_commit, is_fresh, is_last, last_marks, newest_stamp, pending_at, reply_taken, torn_at, torn_closing}
use Rattle.plain_store.specs.{Command, Reply, Setup}
use Rattle.model.specs.reader_copies.Runs as copies
use Rattle.model.specs.declared.marks.Mark.TheVariants as mark
use Rattle.model.specs.Closings.{Closing, Withdraws, Settles, Frees, Lowers, Quit, Ended, is_last_settled, is_last_written, is_unwritten, no_ticket, settled_marks}
use Rattle.model.specs.Parts as part
use Rattle.laws.specs.{Closes, Doing, Lies, Rests, Runs, call, cut_of, does_then, is_inside, is_inside_at, is_inside_closing, marks_with, next_of}
use Rattle.history_laws.specs.{stamp_at, stamp_read}
use Rattle.process.specs.{StepOutcome, changes_pending, changes_read, changes_reported, marks_reported}
use Rattle.process.specs.declared.outcomes.StepOutcome.TheVariants as reported
use Rattle.process.proofs.TakingSteps.{takes, takes_cases}
use Rattle.board.specs.{IsPlace, Makes, OwnView, may_take}

-- The marks of a taken command.

-- the marks begin with that of a settled bit, followed by that of a taken command
abbrev pub settles_taking : List Mark → Bool
settles_taking (mark.Settled v ∷ mark.Taken k r ∷ marks) = true
settles_taking _ = false

takes_read : (s : Setup) (p : ℕ) (d : Doing) (flick v : Bool) → takes (marks_with s p d flick v) ≡ true → stamp_read d ≡ Some (changes_read d)
takes_read = takes_cases (λ d. stamp_read d ≡ Some (changes_read d)) (λ command number run versions. refl) (λ command number run versions store. refl)

-- no part settles a bit
part-settles : (c : Call) (x : Part) (fresh last : Bool) (bits : List Bool) → settles_taking (cond fresh (first_marks x) [] ++ cond last (last_marks c x bits) []) ≡ true → ⊥
part-settles c x fresh last bits h = grind arith

settling : (b begun v : Bool) (taken : Option Reply) (x : Command) (n : ℕ) (f : Field) (bit : ℕ) (begun' is : Bool) (t : copies.Settling) → settles_taking (cond b (settled_marks begun taken v) []) ≡ true → may_take (Closes x n (Settles f bit begun' taken is t)) ≡ true
settling b begun v taken x n f bit begun' is t h = grind arith

one-settles : (b : Bool) (m : Mark) → settles_taking (cond b (m ∷ []) []) ≡ true → ⊥
one-settles b m h = grind arith

-- if a bit is settled and a command taken, a memory unit may take it
pub settles_may : (s : Setup) (p : ℕ) (d : Doing) (flick v : Bool) → settles_taking (marks_with s p d flick v) ≡ true → may_take d ≡ true
settles_may s p Rests flick v h = cc
settles_may s p Lies flick v h = cc
settles_may s p (Runs x n at) flick v h = absurd (part-settles (call s p x n) at.part (is_fresh at.run) (is_last (call s p x n) at.part at.run) (bits_with at.run v) h)
settles_may s p (Closes x n (Withdraws w)) flick v h = absurd (one-settles (is_last_written (call s p x n) (no_ticket (call s p x n)) w) _ h)
settles_may s p (Closes x n (Settles f bit begun taken is t)) flick v h = settling (is_last_settled (call s p x n) t (copies.settled_at t flick)) begun (copies.settled_at t flick) taken x n f bit begun is t h
settles_may s p (Closes x n (Frees is w)) flick v h = absurd (one-settles (is && is_unwritten w) mark.Left h)
settles_may s p (Closes x n (Lowers w)) flick v h = absurd (one-settles (is_last_written (call s p x n) (false ∷ []) w) mark.Down h)
settles_may s p (Closes x n Quit) flick v h = cc
settles_may s p (Closes x n Ended) flick v h = cc

-- A memory unit that may take the command.

-- the memory unit still may take the command, which is not taken yet, and is inside as before
abbrev pub MayTakeOn : Setup → ℕ → Doing → Bool → Bool → Type 0
MayTakeOn s p d flick v = (may_take d ≡ true) × (reply_taken (marks_with s p d flick v) ≡ None) × (is_inside (does_then s p d flick v) ≡ is_inside d)

pub may_take_on : (s : Setup) (p : ℕ) (d : Doing) (flick v : Bool) → may_take (does_then s p d flick v) ≡ true → MayTakeOn s p d flick v
may_take_on s p d flick v h = grind arith

-- such a memory unit reads nothing
pub may_take_writes : (s : Setup) (p : ℕ) (d : Doing) (flick : Bool) (n : Access) → next_of s p d flick ≡ Some n → n.how ≡ BeginRead → may_take d ≡ true → ⊥
may_take_writes s p d flick n h k g = grind arith

-- A failure that leaves a command to be taken: its process was writing a change.

-- the process had read this stamp, and its memory unit is inside
abbrev pub LeavesToTake : Setup → ℕ → Doing → Type 0
LeavesToTake s p d = (newest : ℕ) × (changes_pending s p d ≡ Some newest) × (stamp_read d ≡ Some newest) × (is_inside_closing (cut_of s p d) ≡ true)

nothing-taken : (b : Bool) (x : Command) (n : ℕ) (f : Field) (bit : ℕ) (begun is : Bool) (t : copies.Settling) → may_take (Closes x n (Settles f bit begun (cond b None None) is t)) ≡ true → ⊥
nothing-taken true x n f bit begun is t h = cc
nothing-taken false x n f bit begun is t h = cc

cut-part : (c : Call) (x : Command) (n : ℕ) (torn : Option TornBit) (begun fresh : Bool) (at : Part)
    → let then : Closing = cut c torn begun (pending_at c at) (is_inside_at at fresh) in
    may_take (Closes x n then) ≡ true → (newest : ℕ) × (option_map (λ (change : Change). change.1) (pending_at c at) ≡ Some newest) × (stamp_at at ≡ Some newest) × (is_inside_closing then ≡ true)
cut-part c x n None begun fresh at h = cc
cut-part c x n (Some torn) begun fresh part.Raises h = absurd (nothing-taken (is_commit torn.field) x n torn.field torn.bit begun _ torn.torn h)
cut-part c x n (Some torn) begun fresh (part.Asks j js ts) h = absurd (nothing-taken (is_commit torn.field) x n torn.field torn.bit begun _ torn.torn h)
cut-part c x n (Some torn) begun fresh (part.TakesTicket t) h = absurd (nothing-taken (is_commit torn.field) x n torn.field torn.bit begun _ torn.torn h)
cut-part c x n (Some torn) begun fresh (part.Lowers u) h = absurd (nothing-taken (is_commit torn.field) x n torn.field torn.bit begun _ torn.torn h)
cut-part c x n (Some torn) begun fresh (part.Refuses f) h = absurd (nothing-taken (is_commit torn.field) x n torn.field torn.bit begun _ torn.torn h)
cut-part c x n (Some torn) begun fresh (part.Waits t w ws) h = absurd (nothing-taken (is_commit torn.field) x n torn.field torn.bit begun _ torn.torn h)
cut-part c x n (Some torn) begun fresh (part.AsksCommit k ks vs) h = absurd (nothing-taken (is_commit torn.field) x n torn.field torn.bit begun _ torn.torn h)
cut-part c x n (Some torn) begun fresh (part.AsksStamp k ks vs b) h = absurd (nothing-taken (is_commit torn.field) x n torn.field torn.bit begun _ torn.torn h)
cut-part c x n (Some torn) begun fresh (part.AsksImage vs) h = absurd (nothing-taken (is_commit torn.field) x n torn.field torn.bit begun _ torn.torn h)
cut-part c x n (Some torn) begun fresh (part.WritesImage vs st) h = (newest_stamp vs, refl, refl, refl)
cut-part c x n (Some torn) begun fresh (part.WritesStamp vs st) h = (newest_stamp vs, refl, refl, refl)
cut-part c x n (Some torn) begun fresh (part.WritesCommit vs st) h = (newest_stamp vs, refl, refl, refl)
cut-part c x n (Some torn) begun fresh (part.Clears a) h = absurd (nothing-taken (is_commit torn.field) x n torn.field torn.bit begun _ torn.torn h)
cut-part c x n (Some torn) begun fresh part.Over h = absurd (nothing-taken (is_commit torn.field) x n torn.field torn.bit begun _ torn.torn h)

cut-closing : (c : Call) (x : Command) (n : ℕ) (torn : Option TornBit) (begun inside : Bool) → may_take (Closes x n (cut c torn begun None inside)) ≡ true → ⊥
cut-closing c x n None begun inside h = cc
cut-closing c x n (Some torn) begun inside h = nothing-taken (is_commit torn.field) x n torn.field torn.bit begun inside torn.torn h

pub cut_takes : (s : Setup) (p : ℕ) (x : Command) (n : ℕ) (d : Doing) → may_take (Closes x n (cut_of s p d)) ≡ true → LeavesToTake s p d
cut_takes s p x n Rests h = cc
cut_takes s p x n Lies h = cc
cut_takes s p x n (Runs y m at) h = cut-part (call s p y m) x n (torn_at (call s p y m) at) (begun_at (call s p y m) at) (is_fresh at.run) at.part h
cut_takes s p x n (Closes y m at) h = absurd (cut-closing (call s p y m) x n (torn_closing at) (begun_closing (call s p y m) at) (is_inside (Closes y m at)) h)

-- The position of the command that a step takes.

pub is_place : (s : Setup) (seen : List Taken) (flick value : Bool) (o then : OwnView) (m : Makes s seen flick value o then) (stamp : Option ℕ) (reported : StepOutcome) → marks_reported reported ≡ marks_with s o.process o.doing flick value → IfSome (changes_reported reported) (λ changes. changes ≡ changes_read o.doing) →
    (may_take o.doing ≡ true → is_inside o.doing ≡ true) → (may_take o.doing ≡ true → stamp ≡ Some (length seen)) → IsPlace reported stamp m.place
is_place s seen flick value o then m stamp reported.Nothing marks read inside kept = tt
is_place s seen flick value o then m stamp (reported.Waits t) marks read inside kept = tt
is_place s seen flick value o then m stamp (reported.WaitsAndEnters t) marks read inside kept = tt
is_place s seen flick value o then m stamp reported.Enters marks read inside kept = tt
is_place s seen flick value o then m stamp (reported.Took reply changes) marks read inside kept = read ∙ sym (m.counted (changes_read o.doing) (takes_read s o.process o.doing flick value (sym (ap takes marks))))
is_place s seen flick value o then m stamp reported.Leaves marks read inside kept = tt
is_place s seen flick value o then m stamp (reported.Answers a) marks read inside kept = tt
is_place s seen flick value o then m stamp (reported.Settles v) marks read inside kept = tt
is_place s seen flick value o then m stamp (reported.SettlesAndTakes v reply) marks read inside kept = let may = settles_may s o.process o.doing flick value (sym (ap settles_taking marks)) in kept may ∙ ap Some (sym (m.inside (inside may)))
is_place s seen flick value o then m stamp reported.Lies marks read inside kept = tt
