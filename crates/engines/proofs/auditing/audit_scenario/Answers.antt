use Rattle.std.proofs.Common.{◌≡◌, ap}
use Rattle.std.specs.String.{string_bytes}
use Rattle.scenario.specs.{script}
use Rattle.judge.specs.safe_monitor.{law_text}
use Rattle.judge.specs.{verdict_line}
use Rattle.scenario_run.proofs.Written.{front_all, line_front, line_whole, ok_along}
use Rattle.engines.specs.{audited, run_length}
use Rattle.engines.proofs.auditing.audit_scenario.Goals as goal

pub returns-in_err-write_line-clause-front : goal.returns-in_err-write_line-clause-front
returns-in_err-write_line-clause-front g c =
    let text = audited (script c.args.scenario.now) in
    let reported = c.in_ok-audited.ensures in
    let is : verdict_line law_text c.in_ok-audited.audited.entries c.in_ok-audited.audited.verdict ≡ text = λ i. verdict_line law_text (reported.entries i) (reported.good i) in
    line_front string_bytes (g.W.Sink.taken c.args.output.now) (g.W.Sink.taken c.write_line.new.output) c.verdict_line.result text (ok_along string_bytes c.verdict_line.result _ text c.verdict_line.ensures is) c.in_err-write_line.ensures.front c.in_err-write_line.ensures.none

pub returns-clause-written : goal.returns-clause-written
returns-clause-written g c =
    let text = audited (script c.args.scenario.now) in
    let reported = c.in_ok-audited.ensures in
    let is : verdict_line law_text c.in_ok-audited.audited.entries c.in_ok-audited.audited.verdict ≡ text = λ i. verdict_line law_text (reported.entries i) (reported.good i) in
    line_whole string_bytes (g.W.Sink.taken c.args.output.now) (g.W.Sink.taken c.write_line.new.output) c.verdict_line.result text (ok_along string_bytes c.verdict_line.result _ text c.verdict_line.ensures is) c.in_ok-write_line.ensures.made c.in_ok-write_line.ensures.written

pub returns-clause-front : goal.returns-clause-front
returns-clause-front g c = front_all (g.W.Sink.taken c.args.output.now) (g.W.Sink.taken c.write_line.new.output) (audited (script c.args.scenario.now)) (returns-clause-written g c)

pub returns-clause-verdict : goal.returns-clause-verdict
returns-clause-verdict g c =
    let verdict = c.in_ok-audited.audited.verdict in
    let text = verdict_line law_text (run_length (script c.args.scenario.now)) verdict in
    let is : verdict_line law_text c.in_ok-audited.audited.entries verdict ≡ text = ap (λ entries. verdict_line law_text entries verdict) c.in_ok-audited.ensures.entries in
    record {
      verdict = verdict;
      is = c.in_ok-audited.ensures.verdict;
      answer = c.status_of.ensures;
      line = line_whole string_bytes (g.W.Sink.taken c.args.output.now) (g.W.Sink.taken c.write_line.new.output) c.verdict_line.result text (ok_along string_bytes c.verdict_line.result _ text c.verdict_line.ensures is) c.in_ok-write_line.ensures.made c.in_ok-write_line.ensures.written;
    }
