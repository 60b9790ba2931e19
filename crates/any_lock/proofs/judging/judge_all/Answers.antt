use Rattle.std.proofs.Common.{◌+◌, List, [], ◌∷◌, ◌++◌, take, sym, ap, subst, ◌∙◌}
use Rattle.std.proofs.lemmas.List.{take_all, take_more}
use Rattle.model.specs.{Entry}
use Rattle.any_lock.specs.{HasJudged}
use Rattle.any_lock.proofs.judging.judge_all.Goals as goal

pub loop-entry-preserved : goal.loop-entry-preserved
loop-entry-preserved c =
    let before : List Entry = take c.loop-entry.entry-index c.args.entries.now in
    let e : Entry = c.entry-item.result in
    record {
      judged = subst (λ (l : List Entry). HasJudged c.observe.new.self c.args.setup.now l)
          (sym (take_more c.args.entries.now c.loop-entry.entry-index e c.loop-entry-test.true ∙ ap (λ (x : Entry). before ++ x ∷ []) (sym c.entry-item.is)))
          (subst (λ (x : Entry). HasJudged c.observe.new.self c.args.setup.now (before ++ x ∷ [])) c.parts-process.ensures (c.observe.ensures.observed c.args.setup.now before c.loop-entry.invariant.judged));
      count = c.observe.ensures.count ∙ ap (λ n. n + 1) c.loop-entry.invariant.count;
    }

pub returns : goal.returns
returns c =
    let all : HasJudged c.loop-entry.judge c.args.setup.now c.args.entries.now =
    subst (λ (l : List Entry). HasJudged c.loop-entry.judge c.args.setup.now l) (take_all c.loop-entry.entry-index c.args.entries.now c.loop-entry-test.false) c.loop-entry.invariant.judged in
    record {
      verdict = c.judged.ensures.verdict c.args.setup.now c.args.entries.now all;
      entries = c.judged.ensures.entries c.args.setup.now c.args.entries.now all;
      main_theorem = c.judged.ensures.main_theorem c.args.setup.now c.args.entries.now all;
    }
