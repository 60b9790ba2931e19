use Rattle.std.proofs.Common.{◌≡◌, ◌≤◌, ◌+◌, ℕ, Some, None, drop, length, vec_capacity}
use Rattle.std.specs.Prelude.{IfSome, slice_get}
use Rattle.std.specs.Vec.Iter.{into_iter_items, into_iter_len}
use Rattle.board.specs.{PortState}
use Rattle.race.specs.{HasMade, IsFaultOf}
use Rattle.race.proofs.racing.join_all.Given as goal

abbrev pub invariant-loop-thread : goal.invariant-loop-thread
invariant-loop-thread g l = record {
  room : length l.ports.items + into_iter_len l.thread-iterator ≤ vec_capacity l.ports;
  all : l.fault ≡ None → length l.ports.items + into_iter_len l.thread-iterator ≡ length l.fn.threads.items;
  rest : l.fault ≡ None → into_iter_items l.thread-iterator ≡ drop (length l.ports.items) l.fn.threads.items;
  remaining : (at : ℕ) × (into_iter_items l.thread-iterator ≡ drop at l.fn.threads.items);
  reported : IfSome l.fault (λ fault. (k : ℕ) × (thread : _) × (slice_get l.fn.threads.items k ≡ Some thread) × IsFaultOf thread.promise.number fault);
  each : l.fault ≡ None → (k : ℕ) (thread : _) (port : PortState) → slice_get l.fn.threads.items k ≡ Some thread → slice_get l.ports.items k ≡ Some port → HasMade thread.promise.board.value thread.promise.number thread.promise.plan.value.items port;
}
