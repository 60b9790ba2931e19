-- The state has only the first access of a call.
use Rattle.std.proofs.Common.{◌≡◌, ℕ, Bool, true, false, cond, List, Option, Some, None, refl}
use Rattle.plain_store.specs.{Setup}
use Rattle.model.specs.{Past, Stage, Taken}
use Rattle.model.specs.declared.stages.Stage.TheVariants.{Idle, Doorway, Waiting, Inside, Leaving, Settling, Down}
use Rattle.run_state.specs.{FinishedRead, call_kept, call_reported, kept, open_lines, ticket_lines, without_accesses}
use Rattle.calls.specs.{CallState, is_calling, open_call, call_state}
use Rattle.calls.specs.world.process.{KnownTicket}

lines_by : (p : ℕ) (taken : List Taken) (calling : Bool) (k : CallState) → open_lines p taken (cond calling (Some (without_accesses k).last) None) ≡ open_lines p taken (cond calling (Some k.last) None)
lines_by p taken true k = refl
lines_by p taken false k = refl

pub lines_kept : (s : Setup) (p : ℕ) (past : Past) (taken : List Taken) → open_lines p taken (call_kept (kept s p past)) ≡ open_lines p taken (open_call s p past)
lines_kept s p past taken = lines_by p taken (is_calling p past) (call_state s p past)

reported_by : (p : ℕ) (stage : Stage) (known : Option KnownTicket) (read : Option FinishedRead) (k : CallState) → call_reported p stage known read (without_accesses k).last ≡ call_reported p stage known read k.last
reported_by p Idle known read k = refl
reported_by p Doorway known read k = refl
reported_by p Waiting known read k = refl
reported_by p Inside known read k = refl
reported_by p Leaving known read k = refl
reported_by p Settling known read k = refl
reported_by p Down known read k = refl

ticket_by : (p : ℕ) (stage : Stage) (known : Option KnownTicket) (read : Option FinishedRead) (calling : Bool) (k : CallState) →
    ticket_lines p stage known read (cond calling (Some (without_accesses k).last) None) ≡ ticket_lines p stage known read (cond calling (Some k.last) None)
ticket_by p stage known read true k = reported_by p stage known read k
ticket_by p stage known read false k = refl

pub tickets_kept : (s : Setup) (p : ℕ) (past : Past) (stage : Stage) (known : Option KnownTicket) (read : Option FinishedRead) → ticket_lines p stage known read (call_kept (kept s p past)) ≡ ticket_lines p stage known read (open_call s p past)
tickets_kept s p past stage known read = ticket_by p stage known read (is_calling p past) (call_state s p past)
