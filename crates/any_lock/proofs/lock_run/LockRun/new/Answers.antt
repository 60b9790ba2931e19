use Rattle.std.proofs.Common.{List, Some, length, slice_get, refl, sym, ap, ◌∙◌, arith}
use Rattle.std.proofs.lemmas.List.{length-replicate}
use Rattle.plain_store.specs.{empty_store}
use Rattle.any_lock.specs.{ProcessView}
use Rattle.any_lock.proofs.Going.{slice_get-replicate}
use Rattle.any_lock.proofs.Rooms.{has_room}
use Rattle.any_lock.proofs.Steps.{at_first}
use Rattle.any_lock.proofs.lock_run.LockRun.new.Goals as goal

pub empty-requires-clause-some_slots : goal.empty-requires-clause-some_slots
empty-requires-clause-some_slots c = (has_room c.args.setup.now c.requires).some_slots

pub empty-requires-clause-few_slots : goal.empty-requires-clause-few_slots
empty-requires-clause-few_slots c = (has_room c.args.setup.now c.requires).few_slots

pub empty-requires-clause-few_callers : goal.empty-requires-clause-few_callers
empty-requires-clause-few_callers c = let few = (has_room c.args.setup.now c.requires).few_callers in omega (arith, few, c.callers.ensures)

pub opened-requires-clause-good : goal.opened-requires-clause-good
opened-requires-clause-good c = c.requires

pub opened-requires-clause-empty : goal.opened-requires-clause-empty
opened-requires-clause-empty c = c.empty.ensures ∙ ap (empty_store c.args.setup.now.slots) c.callers.ensures

pub invariant_of-result : goal.invariant_of-result
invariant_of-result c = record {
  good = c.requires;
  processes = ap (λ (l : List ProcessView). length l) (c.in_ok-vec.ensures.items_if_clones_equal (λ y e. e)) ∙ length-replicate c.from.result c.at_rest.result ∙ c.from.ensures;
  few = omega arith;
}

pub returns-clause-knows : goal.returns-clause-knows
returns-clause-knows c = record {
  process_views = λ p below.
      ap (λ (l : List ProcessView). slice_get l p) (c.in_ok-vec.ensures.items_if_clones_equal (λ y e. e))
      ∙ slice_get-replicate c.from.result p c.at_rest.result (omega (arith, below, c.from.ensures))
      ∙ ap Some (c.at_rest.ensures ∙ sym (at_first c.args.setup.now p));
  store = c.in_ok-store.ensures;
  taken = refl;
  entries = refl;
}
