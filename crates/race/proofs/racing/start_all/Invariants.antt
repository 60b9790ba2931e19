use Rattle.std.proofs.Common.{◌≡◌, ◌≤◌, ℕ, Some, drop, length, vec_capacity}
use Rattle.std.specs.Prelude.{slice_get}
use Rattle.race.specs.{IsFor, plans_of}
use Rattle.race.proofs.racing.start_all.Given as goal

abbrev pub invariant-loop-number : goal.invariant-loop-number
invariant-loop-number g l = record {
  count : l.number-iterator.count ≡ length l.threads.items;
  few : length l.threads.items ≤ length l.fn.ports.items;
  rest : l.number-iterator.iter.rest.items ≡ drop l.number-iterator.count l.fn.ports.items;
  room : length l.fn.ports.items ≤ vec_capacity l.threads;
  each : (k : ℕ) (thread : _) → slice_get l.threads.items k ≡ Some thread → IsFor l.board (plans_of l.plans) k thread.promise.board.value thread.promise.number thread.promise.plan.value.items;
}
