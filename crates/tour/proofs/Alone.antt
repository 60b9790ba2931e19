-- A process that is inside is the only one inside.
use Rattle.std.proofs.Common.{◌≡◌, ℕ, Bool, true, false, List, Some, Ok, refl, sym, ◌∙◌}
use Rattle.std.specs.Prelude.{IsTrue, nat_lt, cond, Option}
use Rattle.plain_store.specs.{Setup, checked}
use Rattle.model.specs.{Asks, AsksCommit, AsksImage, AsksStamp, Clears, Event, MutualExclusion, Over, Part, Raises, Refuses, Stage, TakesTicket, Waits, WritesCommit, WritesImage, WritesStamp, inside, is_fresh, past_of, stage, stage_of}
use Rattle.model.specs.declared.stages.Stage.TheVariants as stages
use Rattle.model.specs.Closings.{Withdraws, Settles, Frees, Lowers, Quit, Ended}
use Rattle.model.specs.Parts as part
use Rattle.model.proofs.Width.{is_good}
use Rattle.world.specs.laws.{Doing, Rests, Lies, Runs, Closes, doing, is_inside, is_inside_at}
use Rattle.board.proofs.laws.Doings as doings
use Rattle.board.proofs.laws.FrameInside.{inside-is, stage-is}
use Rattle.world.specs.{stage_in}
use Rattle.world.specs.Shows.{Shows, WorldState}

-- the stage of a part is `Inside` only if the process is inside there
part_inside : (x : Part) (fresh : Bool) → stage_of x fresh ≡ stages.Inside → is_inside_at x fresh ≡ true
part_inside Raises fresh h = absurd (cc)
part_inside (Asks j js ts) fresh h = absurd (cc)
part_inside (TakesTicket t) fresh h = absurd (cc)
part_inside (part.Lowers t) fresh h = absurd (cc)
part_inside (Refuses f) fresh h = absurd (cc)
part_inside (Waits t w ws) fresh h = absurd (cc)
part_inside (AsksCommit k ks vs) fresh h = refl
part_inside (AsksStamp k ks vs b) fresh h = refl
part_inside (AsksImage vs) fresh h = refl
part_inside (WritesImage vs st) fresh h = refl
part_inside (WritesStamp vs st) fresh h = refl
part_inside (WritesCommit vs st) fresh h = refl
part_inside (Clears a) true h = refl
part_inside (Clears a) false h = absurd (cc)
part_inside Over fresh h = absurd (cc)

doing_inside : (d : Doing) → doings.stage_of d ≡ stages.Inside → is_inside d ≡ true
doing_inside Rests h = absurd (cc)
doing_inside Lies h = absurd (cc)
doing_inside (Runs command number at) h = part_inside at.part (is_fresh at.run) h
doing_inside (Closes command number (Withdraws w)) h = absurd (cc)
doing_inside (Closes command number (Settles f bit begun taken is t)) h = absurd (cc)
doing_inside (Closes command number (Frees is w)) h = absurd (cc)
doing_inside (Closes command number (Lowers w)) h = absurd (cc)
doing_inside (Closes command number Quit) h = absurd (cc)
doing_inside (Closes command number Ended) h = absurd (cc)

-- a process whose stage is `Inside` is inside
pub stage_inside : (s : Setup) → checked s ≡ Ok tt → (events : List Event) (p : ℕ) → stage p (past_of s events) ≡ stages.Inside → inside p (past_of s events) ≡ true
stage_inside s g events p h =
    inside-is s (is_good s g) events p ∙ doing_inside (doing s p (past_of s events)) (sym (stage-is s (is_good s g) events p) ∙ h)

there : (b : Bool) (x y : Stage) → cond b (Some x) Option.None ≡ Some y → x ≡ y
there true x y h = cc
there false x y h = absurd (cc)

-- in a world, a process that is inside is the only one inside
pub inside_alone : MutualExclusion → (w : WorldState) (events : List Event) → Shows w events → (p : ℕ) → stage_in w.setup (past_of w.setup events) p ≡ Some stages.Inside →
    (other : ℕ) → IsTrue (inside other (past_of w.setup events)) → other ≡ p
inside_alone law w events shows p h other i =
    let here = stage_inside w.setup shows.good events p (there (nat_lt p w.setup.processes) (stage p (past_of w.setup events)) stages.Inside h) in
    law w.setup shows.good events other p i here
