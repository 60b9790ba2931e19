-- The accesses of a process that runs no call are to its own registers, and so is each write of a call.
use Rattle.std.proofs.Common.{◌≡◌, Bool, true, false, cond, List, refl, sym, ap, ◌∙◌}
use Rattle.std.proofs.lemmas.Bool.{true≢false}
use Rattle.process.specs.registers.safe_bit.Cell.{Cell}
use Rattle.process.specs.registers.safe_bit.declared.moves.Move.TheVariants.{BeginRead, EndRead}
use Rattle.model.specs.safe_bit.{is_of_write}
use Rattle.model.specs.{Access, Call, Part, Reading, Run, Writing, access_at, ended}
use Rattle.model.specs.Closings.{Withdraws, Settles, Frees, Lowers, Quit, Ended}
use Rattle.process.specs.laws.{Doing, Closes, Lies, Rests, Runs, call}
use Rattle.process.specs.{ProcessState, answered_at, may_step, next_at}
use Rattle.bakery.specs.Leavings.{IsClosing}
use Rattle.bakery.specs.Sections.{is_going}

-- A PROCESS THAT RUNS NO CALL

next-by : (now : ProcessState) (d : Doing) (flick : Bool) → IsClosing d → may_step d ≡ true → (let x : ProcessState = record now { doing = d } in (next_at x flick).owner ≡ now.process)
next-by now Rests flick closing going = absurd (cc)
next-by now Lies flick closing going = absurd (cc)
next-by now (Runs command number at) flick closing going = absurd closing
next-by now (Closes command number (Withdraws w)) flick closing going = refl
next-by now (Closes command number (Settles field bit begun taken inside t)) flick closing going = refl
next-by now (Closes command number (Frees inside w)) flick closing going = refl
next-by now (Closes command number (Lowers w)) flick closing going = refl
next-by now (Closes command number Quit) flick closing going = absurd closing
next-by now (Closes command number Ended) flick closing going = absurd closing

-- its next access is to a register of its own
pub next-own : (now : ProcessState) (flick : Bool) → IsClosing now.doing → may_step now.doing ≡ true → (next_at now flick).owner ≡ now.process
next-own now flick closing going = next-by now now.doing flick closing going

-- A CALL

-- only a read is to a register of another process
access-own : (c : Call) (part : Part) (run : Run) (v : Bool) → is_of_write (ended v (access_at c part run).how) ≡ true → (access_at c part run).owner ≡ c.process
access-own c part (Writing w) v writes = refl
access-own c part (Reading bits begun) v writes = absurd (true≢false (sym writes ∙ reads begun))
  where
    reads : (b : Bool) → is_of_write (ended v (cond b (EndRead false) BeginRead)) ≡ false
    reads true = refl
    reads false = refl

answered-by : (now : ProcessState) (d : Doing) (memory : List (List Cell)) (flick : Bool) → (let x : ProcessState = record now { doing = d } in is_going x ≡ true → is_of_write (answered_at x memory flick).how ≡ true → (answered_at x memory flick).owner ≡ now.process)
answered-by now Rests memory flick going = absurd (cc)
answered-by now Lies memory flick going = absurd (cc)
answered-by now (Runs command number at) memory flick going = access-own (call now.setup now.process command number) at.part at.run _
answered-by now (Closes command number at) memory flick going = absurd (cc)

-- each write of a section is to a register of its own process
pub write-own : (now : ProcessState) (memory : List (List Cell)) (flick : Bool) (a : Access) → is_going now ≡ true → a ≡ answered_at now memory flick → is_of_write a.how ≡ true → a.owner ≡ now.process
write-own now memory flick a going is writes =
    ap (λ (x : Access). x.owner) is ∙ answered-by now now.doing memory flick going (sym (ap (λ (x : Access). is_of_write x.how) is) ∙ writes)
