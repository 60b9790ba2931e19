use Rattle.std.proofs.Common.{◌≡◌, [], ◌∷◌, None}
use Rattle.std.specs.List.{filter, range_with_len}
use Rattle.trace_memory.specs.{has_value, present}
use Rattle.trace_memory.proofs.allowed.few_of.Given as goal

-- the values of the set below the present one are found, the first one first
abbrev pub invariant-loop-number : goal.invariant-loop-number
invariant-loop-number l = record {
  found : filter (has_value l.set) (range_with_len 0 l.number) ≡ present (l.first ∷ l.second ∷ []);
  in_order : l.first ≡ None → l.second ≡ None;
}
