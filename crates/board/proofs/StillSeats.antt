-- The seat of a port whose process is idle or down.
use Rattle.std.proofs.Common.{◌≡◌, Bool, true, false, refl, sym, ◌∙◌, inl, inr, Option, Some, None}
use Rattle.plain_store.specs.{Command, Setup}
use Rattle.model.specs.declared.stages.Stage.TheVariants as stage
use Rattle.process.specs.{ProcessState}
use Rattle.board.specs.declared.pending.Pending.{Pending}
use Rattle.board.specs.{IsStill, IsTied, ViewState, with_pending}
use Rattle.board.proofs.Pendings.{down, settling}

-- the process of the seat is still too, and the pending event, a restart at most, has left its calls unchanged
pub still_seat : (s : Setup) (restarted failed withdrew : Bool) (called : Option Command) (process : ProcessState) (value : Bool) (v : ViewState)
    → let pending : Pending = record { restarted = restarted; called = called; withdrew = withdrew; failed = failed } in
    IsTied s pending process value v → IsStill s (with_pending s pending v).own → IsStill s v.own × (v.own.calls ≡ (with_pending s pending v).own.calls)
still_seat s restarted true withdrew called process value v t (inl h) = let f : stage.Settling ≡ stage.Idle = sym (settling s v restarted withdrew called) ∙ h in cc
still_seat s restarted true withdrew called process value v t (inr h) = let f : stage.Settling ≡ stage.Down = sym (settling s v restarted withdrew called) ∙ h in cc
still_seat s restarted false true called process value v t (inl h) = let f : stage.Leaving ≡ stage.Idle = h in cc
still_seat s restarted false true called process value v t (inr h) = let f : stage.Leaving ≡ stage.Down = h in cc
still_seat s restarted false false (Some c) process value v t (inl h) = let f : stage.Doorway ≡ stage.Idle = h in cc
still_seat s restarted false false (Some c) process value v t (inr h) = let f : stage.Doorway ≡ stage.Down = h in cc
still_seat s true false false None process value v t h = (inr (down s v.own v.own.process t.may.1.accepted), refl)
still_seat s false false false None process value v t h = (h, refl)
