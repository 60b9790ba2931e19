use Rattle.std.proofs.Common.{◌≡◌, ◌∙◌, [], length, subst, sym, refl}
use Rattle.plain_store.specs.{Setup}
use Rattle.scenario.specs.{Script, script}
use Rattle.scenario_run.specs.{Audits, run_at_start, run_record}
use Rattle.judge.specs.auditor.{Law, Verdict}
use Rattle.scenario_run.proofs.Observers.{run_is_good, run_length}
use Rattle.scenario_run.proofs.Played.{played_good}
use Rattle.engines.specs.{IsRunVerdict}
use Rattle.engines.proofs.Replayings.{counts_none}
use Rattle.engines.proofs.auditing.audit_run.Goals as goal

pub returns : goal.returns
returns g c =
    let s = c.in_ok-scenario_run.scenario_run.world.setup in
    let said : Script = record { setup = s; lines = c.args.scenario.now.lines.items } in
    let same : said ≡ script c.args.scenario.now = λ i. record { setup = c.in_ok-scenario_run.ensures.setup i; lines = c.args.scenario.now.lines.items } in
    let plays = c.in-Ok.ensures.whole refl run_at_start c.in_ok-scenario_run.ensures.follows in
    let counts = plays.observes.0 (counts_none s c.new-observer.result c.new-observer.ensures) in
    let audits = plays.observes.1 (subst (λ (s : Setup). Audits s [] c.in_ok-audit.audit) (sym c.in_ok-scenario_run.ensures.setup) c.in_ok-audit.ensures) in
    let (checked, given) = played_good plays in
    let good = c.verdict.ensures s _ audits in
    record {
      verdict = subst (λ said. IsRunVerdict said c.verdict.result) same (subst (λ (v : Verdict Law). IsRunVerdict said v) (sym good) (run_is_good said checked given));
      good = good;
      entries = subst (λ said. c.play_all.new.observer.observer.events ≡ length (run_record said)) same (counts.events ∙ sym (run_length said));
    }
