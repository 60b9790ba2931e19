use Rattle.std.proofs.Common.{◌≡◌, ◌∙◌, refl, true≢false, sym, subst}
use Rattle.model.specs.{Access}
use Rattle.laws.specs.{IsThere}
use Rattle.safe_monitor.specs.{MonitorState}
use Rattle.safe_monitor.proofs.Observes.{observed_stray, stray_keeps}
use Rattle.safe_monitor.proofs.monitor.SafeMonitor.observe.Goals as goal

pub returns-then-not-is_there : goal.returns-then-not-is_there
returns-then-not-is_there c =
    let out : IsThere c.args.self.now.setup c.in-Some.access → ⊥ = λ there. true≢false (sym (c.is_there.ensures.1 (subst (λ (x : MonitorState). IsThere x.setup c.in-Some.access) (sym c.self.view_is) there)) ∙ c.if-not-is_there.true) in
    record {
      setup = refl;
      observed = λ past e access observed. observed_stray c.args.self.now past e c.in-Some.access (access ∙ c.in-Some.is) out observed;
      in_range = λ past e access observed there. absurd (out (there c.in-Some.access (access ∙ c.in-Some.is)));
      stray = λ a is stray. refl;
      first = λ past e access observed all. stray_keeps c.args.self.now.setup past e c.in-Some.access (access ∙ c.in-Some.is) out all;
    }

pub returns : goal.returns
returns c =
    let there : IsThere c.args.self.now.setup c.in-Some.access = subst (λ (x : MonitorState). IsThere x.setup c.in-Some.access) c.self.view_is (c.is_there.ensures.0 c.if-not-is_there.false) in
    record {
      setup = c.observe_there.ensures.setup;
      observed = λ past e access. c.observe_there.ensures.observed past e (access ∙ c.in-Some.is);
      in_range = λ past e access observed is. c.observe_there.ensures.answer past e (access ∙ c.in-Some.is) observed;
      stray = λ a is out. let same : c.in-Some.access ≡ a = cc in absurd (out (subst (λ (x : Access). IsThere c.args.self.now.setup x) same there));
      first = λ past e access observed all. c.observe_there.ensures.answer past e (access ∙ c.in-Some.is) observed;
    }
