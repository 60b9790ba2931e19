use Rattle.std.proofs.Common.{◌++◌, sym, ap, ◌∙◌, arith}
use Rattle.std.proofs.lemmas.List.{append-nil, at_drop_all}
use Rattle.world.specs.{listed_from}
use Rattle.world.proofs.queue.listed.Goals as goal

pub returns : goal.returns
returns c =
    let l = c.loop-process in
    let all = at_drop_all (listed_from l.process) c.args.before.now l.process (omega (arith, c.told-before, c.loop-process-test.false)) in
    sym (append-nil l.all.items) ∙ sym (ap (λ rest. l.all.items ++ rest) all) ∙ l.invariant.0
