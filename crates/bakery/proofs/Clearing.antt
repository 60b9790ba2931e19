-- The clearing of a ticket is that of a call at its last part.
use Rattle.std.proofs.Common.{◌≡◌, Bool, true, false, cond, refl, sym, ap, ◌∙◌}
use Rattle.plain_store.specs.{Answer}
use Rattle.plain_store.specs.declared.Command.TheVariants.{Ask}
use Rattle.model.specs.{Call, Place, Quit, Reading, Run, Withdraws, Writing, access_at, enter, is_last_written, no_ticket, place_after, torn_at, write_moved}
use Rattle.model.specs.Parts.{Part, Raises, Asks, TakesTicket, Lowers, Refuses, Waits, AsksCommit, AsksStamp, AsksImage, WritesImage, WritesStamp, WritesCommit, Clears, Over}
use Rattle.model.specs.safe_number.{NumberWrite}
use Rattle.process.specs.laws.{closes}
use Rattle.process.specs.{ProcessState, may_step, next_at, stepped, torn_of}
use Rattle.bakery.specs.Leavings.{clearing_at, leaving_at}

-- the steps of a clearing at this place are those of the call
pub record IsCleared (c : Call) (at : Place) : Type 0 where
  pub access : next_at (leaving_at c at) false ≡ access_at c at.part at.run
  pub after : (value v : Bool) → stepped (leaving_at c at) false v ≡ leaving_at c (place_after c at value)
  pub torn : torn_of c.setup c.process (leaving_at c at).doing ≡ torn_at c at

cleared-after : (c : Call) (a : Answer) (w : NumberWrite) (value v : Bool) → (let at : Place = record { part = Clears a; run = Writing w } in stepped (leaving_at c at) false v ≡ leaving_at c (place_after c at value))
cleared-after c a w value v = by (is_last_written c (no_ticket c) w)
  where
    by : (b : Bool) → (let d : ProcessState = record { setup = c.setup; process = c.process; doing = closes Ask 0 (cond b Quit (Withdraws (write_moved c.setup.processes (no_ticket c) w))); command = Ask; number = 0 } in
        d ≡ leaving_at c (cond b (enter c Over) (record { part = Clears a; run = Writing (write_moved c.setup.processes (no_ticket c) w) })))
    by true = refl
    by false = refl

at-last : (c : Call) (part : Part) (run : Run) → may_step (clearing_at part run) ≡ true → (let at : Place = record { part = part; run = run } in IsCleared c at)
at-last c Raises run going = absurd (cc)
at-last c (Asks j js ts) run going = absurd (cc)
at-last c (TakesTicket t) run going = absurd (cc)
at-last c (Lowers t) run going = absurd (cc)
at-last c (Refuses full) run going = absurd (cc)
at-last c (Waits t w ws) run going = absurd (cc)
at-last c (AsksCommit k ks vs) run going = absurd (cc)
at-last c (AsksStamp k ks vs b) run going = absurd (cc)
at-last c (AsksImage vs) run going = absurd (cc)
at-last c (WritesImage vs st) run going = absurd (cc)
at-last c (WritesStamp vs st) run going = absurd (cc)
at-last c (WritesCommit vs st) run going = absurd (cc)
at-last c (Clears a) (Writing w) going = record { access = refl; after = λ value v. cleared-after c a w value v; torn = refl }
at-last c (Clears a) (Reading bits begun) going = absurd (cc)
at-last c Over run going = absurd (cc)

-- each leaving at this place has them
pub cleared : (c : Call) (at : Place) (l : ProcessState) → l ≡ leaving_at c at → may_step l.doing ≡ true → IsCleared c at
cleared c at l is going = at-last c at.part at.run (sym (ap (λ (x : ProcessState). may_step x.doing) is) ∙ going)
