use Rattle.std.proofs.Common.{◌≡◌, ◌∷◌, ◌++◌, [], map, sym, ap, ◌∙◌, arith}
use Rattle.std.proofs.lemmas.List.{length-set, take_all, take_more_set}
use Rattle.std.proofs.lemmas.List.FromFn.{map-range_with_len_more}
use Rattle.std.specs.List.{range_with_len}
use Rattle.world.specs.{waits_in}
use Rattle.world.proofs.seats.waiting.Goals as goal

pub loop-process-preserved : goal.loop-process-preserved
loop-process-preserved c =
    let x = c.loop-process.waiting in
    let p = c.loop-process.process in (
      length-set x p c.waits_at.result ∙ c.loop-process.invariant.0,
      take_more_set x p c.waits_at.result (let long = c.loop-process.invariant.0 in omega (arith, long, c.loop-process-test.true))
          ∙ (λ k. c.loop-process.invariant.1 k ++ c.waits_at.ensures k ∷ [])
          ∙ sym (map-range_with_len_more (waits_in c.args.seats.now) 0 p p (omega arith)),
    )

pub returns : goal.returns
returns c = λ call.
    let p = c.loop-process.process in
    let all : p ≡ 16 = omega (arith, c.loop-process-test.false, c.loop-process.auto.process-end) in
    sym (take_all p c.loop-process.waiting (let long = c.loop-process.invariant.0 in omega (arith, long, all)))
    ∙ c.loop-process.invariant.1 ∙ ap (λ n. map (waits_in c.args.seats.now) (range_with_len 0 n)) all
