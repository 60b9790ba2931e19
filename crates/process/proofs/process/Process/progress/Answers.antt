use Rattle.std.proofs.Common.{Some, ap, sym, rules, ◌≡◌, true, false, ◌∙◌}
use Rattle.process.specs.{ProcessState, may_step, progress}
use Rattle.process.specs.declared.looks.AccessProgress.{AccessProgress}
use Rattle.process.proofs.ProgressMade.{far, none-far}
use Rattle.process.proofs.process.Process.progress.Goals as goal

pub returns-then-not-goes : goal.returns-then-not-goes
returns-then-not-goes c =
    let rests : c.goes.result ≡ false = search rules in
    none-far c.args.self.now.setup c.args.self.now.process c.args.self.now.doing (sym c.goes.ensures ∙ rests)

pub returns : goal.returns
returns c =
    let goes : c.goes.result ≡ true = search rules in
    (λ i. let x : AccessProgress = record { made = c.accesses_made.ensures i; all = c.accesses_in_all.ensures i } in Some x)
    ∙ far c.self.inside.called c.self.inside.work c.self.inside.cursor c.self.invariant (ap (λ (s : ProcessState). may_step s.doing) c.self.view_is ∙ sym c.goes.ensures ∙ goes)
    ∙ ap (λ (s : ProcessState). progress s.setup s.process s.doing) c.self.view_is
