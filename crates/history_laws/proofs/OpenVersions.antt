-- If a write of a version's bit is open, the bit's owner or its memory unit is making it, inside.
use Rattle.std.proofs.Common.{◌≡◌, ℕ, ◌==◌, ◌&&◌, ◌%◌, Bool, true, false, List, [], ◌∷◌, Some, refl, sym, ap, subst, ◌∙◌, true≢false}
use Rattle.std.proofs.lemmas.Bool.{and_parts, false≢true}
use Rattle.model.specs.{Access, Call, Event, Field, Part, Past, Place, Reading, Run, Stage, Writing, access_of, bit_written, call_number, field_number, is_fresh, is_running, is_version, last_command, next_written, open_closing, open_copy, open_run, open_settled, open_written, own, past_of, same_bit, stage, written_at}
use Rattle.model.specs.declared.access.Field.TheVariants.{Choosing, Ticket}
use Rattle.model.specs.safe_number.{NumberWrite}
use Rattle.model.specs.reader_copies.Runs as copies
use Rattle.plain_store.specs.{Command, Setup}
use Rattle.model.specs.declared.marks.Mark.TheVariants.{Called, Failed, Withdrew}
use Rattle.model.specs.declared.stages.Stage.TheVariants as stages
use Rattle.model.specs.Closings.{Closing, Withdraws, Settles, Frees, Lowers, Quit, Ended, no_ticket}
use Rattle.model.proofs.Opens.{opened}
use Rattle.model.proofs.OpenSteps.{Opens, closed, runs_at, leaves, settles, place_at, leaving_at, failing_at}
use Rattle.model.proofs.TurnRecords.{opens_all}
use Rattle.model.proofs.Width.{IsGood}
use Rattle.model.proofs.Writer.{each_own, open-own}
use Rattle.laws.proofs.Alone.{ClosesInside, SettlesInside, closes_inside, version-written}
use Rattle.laws.specs.{Doing, Rests, Lies, Runs, Closes, call, doing, is_inside, is_inside_at}
use Rattle.laws.proofs.Frame.{Does, at_rest, lying, running, leaving, settling}
use Rattle.laws.proofs.FrameCells.{field-same, on-copy}
use Rattle.laws.proofs.FrameEvents.{does_all}

-- a read is under way
abbrev pub is_reading_run : Run → Bool
is_reading_run (Writing w) = false
is_reading_run (Reading bits begun) = true

abbrev pub is_reading : Doing → Bool
is_reading Rests = false
is_reading Lies = false
is_reading (Runs command number at) = is_reading_run at.run
is_reading (Closes command number at) = false

-- a process that does this is inside, and reads nothing
pub record WritesInside (d : Doing) : Type 0 where
  pub inside : is_inside d ≡ true
  pub writes : is_reading d ≡ false

-- the copy that is open is one of the field that is written, or settled
written_field : (p : ℕ) (f : Field) (bits : List Bool) (w : NumberWrite) (a : Access) → open_written p f bits w a ≡ true → a.field ≡ f
written_field p f bits w a h =
    let x : Access = access_of p f (next_written bits w) in
    (on-copy x a.owner a.field a.bit a.reader (and_parts (same_bit a x) ((bit_written bits w).made % 2 == 1) h).0).field

settled_field : (p : ℕ) (f : Field) (bit : ℕ) (t : copies.Settling) (a : Access) → open_settled p f bit t a ≡ true → a.field ≡ f
settled_field p f bit t a h =
    let owner : Bool = a.owner == p in
    let field : Bool = field_number a.field == field_number f in
    let register = (and_parts ((a.bit == bit) && owner && field) (open_copy t a.reader) h).0 in
    field-same a.field f (and_parts ((a.bit == bit) && owner) field register).1

-- at a place
run_writes : (c : Call) (part : Part) (run : Run) (a : Access) → is_version a.field ≡ true → open_run c part run a ≡ true → (is_inside_at part (is_fresh run) ≡ true) × (is_reading_run run ≡ false)
run_writes c part (Writing w) a v h = (version-written c part (is_fresh (Writing w)) (ap is_version (sym (written_field c.process (written_at c part).0 (written_at c part).1 w a h)) ∙ v), refl)
run_writes c part (Reading bits begun) a v h = absurd (false≢true h)

-- in a closing
closing_writes : (c : Call) (command : Command) (number : ℕ) (at : Closing) (a : Access) → SettlesInside at → is_version a.field ≡ true → open_closing c at a ≡ true → WritesInside (Closes command number at)
closing_writes c command number (Settles f bit begun taken is t) a x v h = record { inside = x.0 (ap is_version (sym (settled_field c.process f bit t a h)) ∙ v); writes = refl }
closing_writes c command number (Withdraws w) a x v h = absurd (true≢false (sym v ∙ ap is_version (written_field c.process Ticket (no_ticket c) w a h)))
closing_writes c command number (Frees is w) a x v h = absurd (true≢false (sym v ∙ ap is_version (written_field c.process Ticket (no_ticket c) w a h)))
closing_writes c command number (Lowers w) a x v h = absurd (true≢false (sym v ∙ ap is_version (written_field c.process Choosing (false ∷ []) w a h)))
closing_writes c command number Quit a x v h = absurd (false≢true h)
closing_writes c command number Ended a x v h = absurd (false≢true h)

-- If a process's own entries leave a copy of a version open, it writes inside.
opens_writes : (s : Setup) (p : ℕ) (mine : Past) (st : Stage) (d : Doing) (a : Access) → Opens s p mine st → Does s p mine st d → ClosesInside d → is_version a.field ≡ true → opened mine a ≡ true → WritesInside d
opens_writes s p mine st d a (closed i none t) does x v h = absurd (true≢false (sym h ∙ none a))
opens_writes s p mine st d a (runs_at command b r same t) does x v h = go does
  where
    go : Does s p mine st d → WritesInside d
    go (at_rest i k) = absurd (true≢false (sym r ∙ ap is_running i))
    go (lying i k) = absurd (true≢false (sym r ∙ ap is_running i))
    go (running command' b' r' k) =
        let at : Place = place_at s p mine in
        let writes = run_writes (call s p (last_command mine) (call_number s mine)) at.part at.run a v (sym (same a) ∙ h) in
        subst WritesInside (sym k) (record { inside = writes.0; writes = writes.1 })
    go (leaving b' i k) = let f : Some (Called command) ≡ Some Withdrew = sym b ∙ b' in cc
    go (settling b' i k) = let f : Some (Called command) ≡ Some Failed = sym b ∙ b' in cc
opens_writes s p mine st d a (leaves b i same t) does x v h = go does
  where
    go : Does s p mine st d → WritesInside d
    go (at_rest j k) = let f : stages.Leaving ≡ stages.Idle = sym i ∙ j in cc
    go (lying j k) = let f : stages.Leaving ≡ stages.Down = sym i ∙ j in cc
    go (running command' b' r k) = let f : Some (Called command') ≡ Some Withdrew = sym b' ∙ b in cc
    go (leaving b' j k) =
        subst WritesInside (sym k) (closing_writes (call s p (last_command mine) (call_number s mine)) (last_command mine) (call_number s mine) (leaving_at s p mine) a (subst ClosesInside k x) v (sym (same a) ∙ h))
    go (settling b' j k) = let f : stages.Leaving ≡ stages.Settling = sym i ∙ j in cc
opens_writes s p mine st d a (settles b i same r t) does x v h = go does
  where
    go : Does s p mine st d → WritesInside d
    go (at_rest j k) = let f : stages.Settling ≡ stages.Idle = sym i ∙ j in cc
    go (lying j k) = let f : stages.Settling ≡ stages.Down = sym i ∙ j in cc
    go (running command' b' r' k) = let f : Some (Called command') ≡ Some Failed = sym b' ∙ b in cc
    go (leaving b' j k) = let f : stages.Settling ≡ stages.Leaving = sym i ∙ j in cc
    go (settling b' j k) =
        subst WritesInside (sym k) (closing_writes (call s p (last_command mine) (call_number s mine)) (last_command mine) (call_number s mine) (failing_at s p mine) a (subst ClosesInside k x) v (sym (same a) ∙ h))

-- If a write of a version's bit is open, its owner writes inside.
pub open_inside : (s : Setup) → IsGood s → (events : List Event) (a : Access) → is_version a.field ≡ true → opened (past_of s events) a ≡ true → WritesInside (doing s a.owner (past_of s events))
open_inside s g events a v h =
    let past : Past = past_of s events in
    let p : ℕ = a.owner in
    opens_writes s p (own p past) (stage p past) (doing s p past) a (opens_all s g events p) (does_all s g events p) (closes_inside s g events p) v (sym (open-own a past (each_own s g events)) ∙ h)
