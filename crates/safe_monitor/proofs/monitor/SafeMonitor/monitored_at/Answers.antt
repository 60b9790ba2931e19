use Rattle.std.proofs.Common.{subst, sym, ◌∙◌}
use Rattle.laws.specs.{IsThere}
use Rattle.safe_monitor.specs.{ReportsMonitored, MonitorState}
use Rattle.safe_monitor.proofs.Observes.{AtAccess, monitored_is, place_within}
use Rattle.safe_monitor.proofs.monitor.SafeMonitor.monitored_at.Goals as goal

pub get-requires : goal.get-requires
get-requires c =
    let w : MonitorState = record { setup = c.self.inside.setup; registers = c.self.inside.registers.items } in
    let at : AtAccess w c.args.access.now c.register_of.result c.copy_of-place.result = record { good = c.self.invariant; there = subst (λ (x : MonitorState). IsThere x.setup c.args.access.now) (sym c.self.view_is) c.requires; register_is = c.register_of.ensures; place_is = c.copy_of-place.ensures } in
    place_within w c.args.access.now c.register_of.result c.copy_of-place.result c.index.result.now at c.index.ensures

pub returns : goal.returns
returns c =
    let w : MonitorState = record { setup = c.self.inside.setup; registers = c.self.inside.registers.items } in
    let a = c.args.access.now in
    let at : AtAccess w a c.register_of.result c.copy_of-place.result = record { good = c.self.invariant; there = subst (λ (x : MonitorState). IsThere x.setup a) (sym c.self.view_is) c.requires; register_is = c.register_of.ensures; place_is = c.copy_of-place.ensures } in
    subst (λ (x : MonitorState). ReportsMonitored x a c.get.result) c.self.view_is (λ past observed. monitored_is w a c.register_of.result c.copy_of-place.result c.index.result.now c.get.result at c.index.ensures c.get.ensures ∙ observed a at.there)
