use Rattle.std.proofs.Common.{◌≡◌, ◌∷◌, ◌+◌, List, reverse, take, sym, ap, subst, ◌∙◌}
use Rattle.std.proofs.lemmas.List.{take_all}
use Rattle.plain_store.specs.{Setup}
use Rattle.model.specs.{Entry, Past}
use Rattle.safe_monitor.specs.{HasObserved}
use Rattle.safe_monitor.specs.Monitoring.{IfAllThere}
use Rattle.auditor.proofs.Entries.{entries_more}
use Rattle.auditor.proofs.Whole.{there_of}
use Rattle.auditor.proofs.auditing.is_safe.Goals as goal

pub loop-earlier-preserved : goal.loop-earlier-preserved
loop-earlier-preserved c =
    let l = c.loop-earlier in
    let e : Entry = c.earlier-item.result in
    let past : Past = reverse (take l.earlier-index c.args.before.now) in
    let more : reverse (take (l.earlier-index + 1) c.args.before.now) ≡ e ∷ past = entries_more c.args.before.now l.earlier-index e c.loop-earlier-test.true c.earlier-item.is in
    record {
      setup = c.observe.ensures.setup ∙ l.invariant.setup;
      observed = subst (HasObserved c.observe.new.self) (sym more) (c.observe.ensures.observed past e (sym (ap (λ (x : Entry). x.access) c.parts.ensures)) l.invariant.observed);
    }

pub returns : goal.returns
returns c =
    let l = c.loop-earlier in
    let observed = subst (λ (all : List Entry). HasObserved l.monitor (reverse all)) (take_all l.earlier-index c.args.before.now c.loop-earlier-test.false) l.invariant.observed in
    subst (λ (s : Setup). IfAllThere c.observe-2.result s (reverse c.args.before.now) c.args.entry.now) l.invariant.setup
    (c.observe-2.ensures.first (reverse c.args.before.now) c.args.entry.now (sym (ap (λ (x : Entry). x.access) c.parts-2.ensures)) observed)
    (there_of c.args.setup.now c.requires.good (reverse c.args.before.now) c.requires.kept)
