-- A process that runs no call makes accesses of writes alone, which have no value.
use Rattle.std.proofs.Common.{◌≡◌, ◌==◌, ◌%◌, Bool, true, false, cond, List, [], ◌∷◌, option_map, unwrap_or, refl}
use Rattle.process.specs.registers.safe_bit.Cell.{Cell}
use Rattle.process.specs.registers.reader_copies.{is_open_at, settled_at}
use Rattle.process.specs.registers.safe_bit.declared.moves.Move.TheVariants.{BeginWrite, EndWrite, BeginRead, Settle}
use Rattle.model.specs.{Access, Call, Next, bit_written, ended, ended_with}
use Rattle.model.specs.declared.access.Field.TheVariants.{Choosing}
use Rattle.model.specs.Closings.{Closing, Withdraws, Settles, Frees, Lowers, Quit, Ended, closing_next, no_ticket}
use Rattle.process.specs.laws.{Doing, Closes, Lies, Rests, Runs, call}
use Rattle.process.specs.{ProcessState, answered_at, next_at}
use Rattle.bakery.specs.Leavings.{IsClosing}

written : (v first value : Bool) → ended v (cond first (BeginWrite value) EndWrite) ≡ cond first (BeginWrite value) EndWrite
written v true value = refl
written v false value = refl

settled : (v begun torn value : Bool) → ended v (cond begun EndWrite (cond torn (Settle value) (BeginWrite value))) ≡ cond begun EndWrite (cond torn (Settle value) (BeginWrite value))
settled v true torn value = refl
settled v false true value = refl
settled v false false value = refl

-- the next access of a closing
abbrev access-of : Call → Closing → Bool → Access
access-of c at flick = unwrap_or (option_map (λ (n : Next). n.access) (closing_next c at flick)) (record { owner = 0; field = Choosing; bit = 0; reader = 0; how = BeginRead })

without-value : (c : Call) (at : Closing) (flick v : Bool) → ended_with v (access-of c at flick) ≡ access-of c at flick
without-value c (Withdraws w) flick v = let r = bit_written (no_ticket c) w in λ i. record (access-of c (Withdraws w) flick) { how = written v (r.made % 2 == 0) r.value i }
without-value c (Settles field bit begun taken inside t) flick v = λ i. record (access-of c (Settles field bit begun taken inside t) flick) { how = settled v t.begun (is_open_at t.made t.reader) (settled_at t flick) i }
without-value c (Frees inside w) flick v = let r = bit_written (no_ticket c) w in λ i. record (access-of c (Frees inside w) flick) { how = written v (r.made % 2 == 0) r.value i }
without-value c (Lowers w) flick v = let r = bit_written (false ∷ []) w in λ i. record (access-of c (Lowers w) flick) { how = written v (r.made % 2 == 0) r.value i }
without-value c Quit flick v = refl
without-value c Ended flick v = refl

answered-by : (now : ProcessState) (d : Doing) (memory : List (List Cell)) (flick : Bool) → IsClosing d → (let x : ProcessState = record now { doing = d } in answered_at x memory flick ≡ next_at x flick)
answered-by now Rests memory flick closing = refl
answered-by now Lies memory flick closing = refl
answered-by now (Runs command number at) memory flick closing = absurd closing
answered-by now (Closes command number at) memory flick closing = without-value (call now.setup now.process command number) at flick _

-- its access has no value to get from the memory
pub answered-closing : (now : ProcessState) (memory : List (List Cell)) (flick : Bool) → IsClosing now.doing → answered_at now memory flick ≡ next_at now flick
answered-closing now memory flick closing = answered-by now now.doing memory flick closing
