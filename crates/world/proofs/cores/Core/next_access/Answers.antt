use Rattle.std.proofs.Common.{◌≡◌, ◌<◌, ℕ, Bool, List, ap, refl, subst, ◌∙◌, arith}
use Rattle.model.specs.{Access, ended}
use Rattle.model.specs.safe_bit.{Move}
use Rattle.model.specs.safe_bit.Cell.{Cell, read_answer}
use Rattle.model.specs.safe_bit.declared.moves.Move.TheVariants.{BeginWrite, EndWrite, BeginRead, EndRead, Settle}
use Rattle.process.specs.registers.{answered, cell_at, lane_of_access}
use Rattle.process.specs.{ProcessState, answered_at, remaining_at}
use Rattle.world.specs.{CoreAddsQuietly, CoreState}
use Rattle.world.proofs.CoreCode.{IsLeft, is-remaining, remaining-there, seated}
use Rattle.world.proofs.CoreNext.{quiet-next}
use Rattle.world.proofs.WorldOpen.{IsSeated}
use Rattle.world.proofs.WorldStages.{remaining-may}
use Rattle.world.proofs.cores.Core.next_access.Goals as goal
use Rattle.world.proofs.cores.Core.next_access.Goals.{After-index-seat}

pub index-seat-requires : goal.index-seat-requires
index-seat-requires c =
    let i = c.self.inside in
    let core : CoreState = record { setup = i.setup; registers = i.registers; seats = i.seats.items } in
    let inside = remaining-there core c.args.self.now c.args.process 1 c.self.view_is (omega arith) c.requires in
    omega (arith, inside, c.from.ensures, i.seats.ok.0)

abbrev core : After-index-seat → CoreState
core c = let i = c.self.inside in record { setup = i.setup; registers = i.registers; seats = i.seats.items }

-- its seat exists, and an access is left
remaining : (c : After-index-seat) → IsLeft (core c) c.args.process 1 c.index-seat.result.now
remaining c = is-remaining (core c) c.args.self.now c.args.process c.from.result 1 c.index-seat.result.now c.self.view_is (omega arith) c.requires c.from.ensures c.index-seat.ensures

own : (c : After-index-seat) → IsSeated (core c) c.args.process c.index-seat.result.now
own c = seated (core c) c.args.process c.index-seat.result.now c.self.invariant (remaining c).there

-- an access is left
some : (c : After-index-seat) → 0 < remaining_at c.index-seat.result.now.process
some c = let within = (remaining c).within in omega (arith, within)

pub next-next-requires : goal.next-next-requires
next-next-requires c = let a = (goal.at.next-next-requires c).After-index-seat in record { enabled = remaining-may a.index-seat.result.now.process (some a) }

pub next_access-requires-clause-enabled : goal.next_access-requires-clause-enabled
next_access-requires-clause-enabled c = let a = (goal.at.next_access-requires-clause-enabled c).After-index-seat in remaining-may a.index-seat.result.now.process (some a)

pub next_access-requires-clause-memory : goal.next_access-requires-clause-memory
next_access-requires-clause-memory c = (own (goal.at.next_access-requires-clause-memory c).After-index-seat).registers

-- its next step makes this access, if its memory returns this value
quietly : (c : After-index-seat) (a : Access) → a ≡ answered_at c.index-seat.result.now.process c.self.inside.registers c.args.flick → CoreAddsQuietly c.args.self.now c.args.process c.args.flick a
quietly c a is =
    subst (λ (d : CoreState). CoreAddsQuietly d c.args.process c.args.flick a) c.self.view_is
    (quiet-next (core c) c.args.process c.args.flick c.index-seat.result.now a (remaining c).there (some c) is)

-- only the end of a read depends on the memory
plain : (v : Bool) (how : Move) → ((w : Bool) → how ≡ EndRead w → ⊥) → how ≡ ended v how
plain v (EndRead w) other = absurd (other w refl)
plain v BeginRead other = refl
plain v (BeginWrite w) other = refl
plain v EndWrite other = refl
plain v (Settle w) other = refl

answered-plain : (n : ℕ) (memory : List (List Cell)) (flick : Bool) (a : Access) → ((w : Bool) → a.how ≡ EndRead w → ⊥) → a ≡ answered n memory flick a
answered-plain n memory flick a other = λ i. record { owner = a.owner; field = a.field; bit = a.bit; reader = a.reader; how = plain (read_answer (cell_at memory (lane_of_access n a) a.bit) flick) a.how other i }

pub returns-in-EndRead : goal.returns-in-EndRead
returns-in-EndRead c = quietly (goal.at.returns-in-EndRead c).After-index-seat c.next_access.result c.next_access.ensures

pub returns-in_default : goal.returns-in_default
returns-in_default c =
    let a = (goal.at.returns-in_default c).After-index-seat in
    let now : ProcessState = c.index-seat.result.now.process in
    let memory = c.self.inside.registers in
    let n : ℕ = now.setup.processes in
    quietly a c.next-next.result
    (answered-plain n memory c.args.flick c.next-next.result c.in_default.not-EndRead ∙ ap (answered n memory c.args.flick) c.next-next.ensures.access)
