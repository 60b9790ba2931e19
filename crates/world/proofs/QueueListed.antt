-- The list of the processes ahead is read from the seat of a process.
use Rattle.std.proofs.Common.{◌≡◌, ℕ, ◌≤◌, ◌&&◌, true, false, List, [], Ok, sym, ap, ◌∙◌, arith}
use Rattle.plain_store.specs.{Setup, checked}
use Rattle.plain_store.proofs.GoodSetups.{few-processes}
use Rattle.model.specs.{Event, Past, ahead, doorway_begin, doorway_end, is_ahead, is_before, is_at_door, is_waiting_stage, past_of, stage}
use Rattle.model.proofs.Width.{IsGood, is_good}
use Rattle.laws.proofs.Doings.{stage_of}
use Rattle.laws.proofs.FrameInside.{stage-is}
use Rattle.laws.proofs.FrameSteps.{doing-above}
use Rattle.world.specs.{listed, waiting_before}
use Rattle.world.proofs.QueueLists.{listed-range, longer-range}

-- a process that does not exist is ahead of no process
above : (s : Setup) → IsGood s → (events : List Event) (j p : ℕ) → s.processes ≤ j → is_ahead (past_of s events) j p ≡ false
above s g events j p l =
    let past : Past = past_of s events in
    ap (λ b. b && is_before (doorway_end j past) (doorway_begin p past)) (ap is_waiting_stage (stage-is s g events j ∙ ap stage_of (doing-above s g events j l)))

-- the processes ahead of one that is in its doorway or waits are those that its seat keeps
pub ahead-listed : (s : Setup) → checked s ≡ Ok tt → (events : List Event) (p : ℕ)
    → let past : Past = past_of s events in
    ahead s p past ≡ elim (is_at_door (stage p past)) as (λ _. List ℕ) [ true ↦ listed (waiting_before past p) | false ↦ [] ]
ahead-listed s good events p =
    let past : Past = past_of s events in
    ap (λ l. elim (is_at_door (stage p past)) as (λ _. List ℕ) [ true ↦ l | false ↦ [] ])
    (longer-range (λ j. is_ahead past j p) 0 s.processes 16 (few-processes s good) (λ j l. above s (is_good s good) events j p (omega (arith, l))) ∙ sym (listed-range (λ j. is_ahead past j p) 0 16))
