use Rattle.std.proofs.Common.{◌≡◌, ◌++◌, ◌∷◌, List, [], map, sym, ap, ◌∙◌, arith}
use Rattle.std.specs.List.{range_with_len}
use Rattle.std.proofs.lemmas.List.FromFn.{map-range_with_len_more}
use Rattle.world.specs.{Seat, seat_of, seat_with}
use Rattle.world.proofs.CoreNew.{new-shows}
use Rattle.world.proofs.cores.Core.new.Goals as goal

pub loop-process-preserved : goal.loop-process-preserved
loop-process-preserved c =
    let s = c.args.setup.now in
    ◌∙◌ {A = List Seat} c.in_ok-push.ensures.items (◌∙◌ {A = List Seat} (λ i. c.loop-process.invariant i ++ seat_with (c.new.ensures i) (seat_of s [] c.loop-process.process) ∷ [])
    (sym (map-range_with_len_more (seat_of s []) 0 c.loop-process.process c.loop-process.process (omega arith))))

pub returns-clause-shows : goal.returns-clause-shows
returns-clause-shows c =
    let s = c.args.setup.now in
    let all : c.loop-process.process ≡ s.processes = omega (arith, c.loop-process-test.false, c.loop-process.auto.process-end) in
    new-shows s c.requires.good c.pairs_are_sound.ensures c.in_ok-open_memory.field-0 c.loop-process.seats.items c.in_ok-open_memory.ensures
    (c.loop-process.invariant ∙ ap (λ n. map (seat_of s []) (range_with_len 0 n)) all)

pub invariant_of-result : goal.invariant_of-result
invariant_of-result c =
    let s = c.args.setup.now in
    let all : c.loop-process.process ≡ s.processes = omega (arith, c.loop-process-test.false, c.loop-process.auto.process-end) in
    record {
      taken = [];
      events = [];
      shows = new-shows s c.requires.good c.pairs_are_sound.ensures c.in_ok-open_memory.field-0 c.loop-process.seats.items c.in_ok-open_memory.ensures
          (c.loop-process.invariant ∙ ap (λ n. map (seat_of s []) (range_with_len 0 n)) all);
    }
