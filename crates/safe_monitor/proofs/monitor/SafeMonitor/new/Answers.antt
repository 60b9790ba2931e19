use Rattle.std.proofs.Common.{◌+◌, arith, sym, subst}
use Rattle.safe_monitor.proofs.Opened.{AreOpened, opened_observed, opened_more, opened_none, opened_monitor}
use Rattle.safe_monitor.proofs.monitor.SafeMonitor.new.Goals as goal

pub loop-number-init : goal.loop-number-init
loop-number-init c = opened_none c.args.setup.now _ c.new-registers.ensures.items

pub loop-number-preserved : goal.loop-number-preserved
loop-number-preserved c =
    let l = c.loop-number in
    subst (λ items. AreOpened c.args.setup.now items (l.number + 1)) (sym c.in_ok-push.ensures.items)
    (opened_more c.args.setup.now l.registers.items l.number c.in_ok-monitored_bits.monitored_bits l.invariant c.in_ok-monitored_bits.ensures)

pub invariant_of-result : goal.invariant_of-result
invariant_of-result c =
    let l = c.loop-number in
    opened_monitor c.args.setup.now l.registers.items l.number c.requires (omega (arith, c.loop-number-test.false, l.auto.number-end)) l.invariant

pub returns-clause-observed : goal.returns-clause-observed
returns-clause-observed c =
    let l = c.loop-number in
    opened_observed c.args.setup.now l.registers.items l.number (omega (arith, c.loop-number-test.false, l.auto.number-end)) l.invariant
