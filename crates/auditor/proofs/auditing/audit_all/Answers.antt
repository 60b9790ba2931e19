use Rattle.std.proofs.Common.{◌≡◌, ◌∷◌, ◌+◌, List, None, refl, reverse, take, sym, subst, ◌∙◌}
use Rattle.std.proofs.lemmas.List.{take_all}
use Rattle.plain_store.specs.{Setup}
use Rattle.model.specs.{Entry, Past}
use Rattle.auditor.specs.{AllKeep, BreaksNext, HasObserved, IsObserved, KeepsAll}
use Rattle.auditor.proofs.Entries.{entries_more}
use Rattle.auditor.proofs.Firsts.{is_bad_at}
use Rattle.auditor.proofs.Whole.{good_of_events, true_record}
use Rattle.auditor.proofs.auditing.audit_all.Goals as goal

pub first_law-requires-clause-breaks : goal.first_law-requires-clause-breaks
first_law-requires-clause-breaks c = subst (λ (s : Setup). BreaksNext c.in-Some.law s (reverse (take c.loop-number.number c.args.entries.now)) c.index-entries-number.result) c.loop-number.invariant.setup
    (subst (λ (e : Entry). BreaksNext c.in-Some.law c.loop-number.auditor.core.setup (reverse (take c.loop-number.number c.args.entries.now)) e) c.parts-process.ensures (c.in-Some.ensures.observed (reverse (take c.loop-number.number c.args.entries.now)) c.loop-number.invariant.observed))

pub returns-in-Some-clause-verdict : goal.returns-in-Some-clause-verdict
returns-in-Some-clause-verdict c = is_bad_at c.args.setup.now c.args.entries.now c.loop-number.number c.index-entries-number.result c.in_ok-first.first c.loop-number-test.true c.index-entries-number.is c.loop-number.invariant.kept c.in_ok-first.ensures

pub loop-number-preserved : goal.loop-number-preserved
loop-number-preserved c =
    let past : Past = reverse (take c.loop-number.number c.args.entries.now) in
    let e : Entry = c.index-entries-number.result in
    let more : reverse (take (c.loop-number.number + 1) c.args.entries.now) ≡ e ∷ past = entries_more c.args.entries.now c.loop-number.number e c.loop-number-test.true c.index-entries-number.is in
    let observed = subst (λ (x : Entry). IsObserved c.loop-number.auditor.core.setup past x c.observe.new.self None) c.parts-process.ensures (c.in_default.ensures.observed past c.loop-number.invariant.observed) in
    let kept : KeepsAll c.args.setup.now past e = subst (λ (s : Setup). KeepsAll s past e) c.loop-number.invariant.setup observed.0 in
    record {
      setup = c.in_default.ensures.setup refl ∙ c.loop-number.invariant.setup;
      observed = subst (λ (l : Past). HasObserved c.observe.new.self l) (sym more) observed.1;
      kept = subst (λ (l : Past). AllKeep c.args.setup.now l) (sym more) (kept, c.loop-number.invariant.kept);
    }

pub returns-clause-good : goal.returns-clause-good
returns-clause-good c = λ is. true_record c.loop-number.auditor c.args.setup.now c.args.entries.now c.loop-number.invariant.setup
    (subst (λ (l : List Entry). HasObserved c.loop-number.auditor (reverse l)) (take_all c.loop-number.number c.args.entries.now c.loop-number-test.false) c.loop-number.invariant.observed)

pub returns-in-Some-clause-good : goal.returns-in-Some-clause-good
returns-in-Some-clause-good c = λ is. absurd (cc)

pub returns-clause-verdict : goal.returns-clause-verdict
returns-clause-verdict c = subst (λ (l : List Entry). AllKeep c.args.setup.now (reverse l)) (take_all c.loop-number.number c.args.entries.now c.loop-number-test.false) c.loop-number.invariant.kept

pub returns-clause-of_events : goal.returns-clause-of_events
returns-clause-of_events c = λ events same given. refl

pub returns-in-Some-clause-of_events : goal.returns-in-Some-clause-of_events
returns-in-Some-clause-of_events c = good_of_events c.args.setup.now c.requires c.args.entries.now _ (returns-in-Some-clause-verdict c)
