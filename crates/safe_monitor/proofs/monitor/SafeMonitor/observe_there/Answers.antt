use Rattle.std.proofs.Common.{sym, subst, refl, ◌∙◌}
use Rattle.laws.specs.{IsThere}
use Rattle.safe_monitor.specs.{HasObserved, KeepsSafe, MatchBool, MonitorState}
use Rattle.safe_monitor.proofs.Observes.{AtAccess, observed_written, monitored_is, place_within, monitor_written}
use Rattle.safe_monitor.proofs.monitor.SafeMonitor.observe_there.Goals as goal

pub get-monitored_bit-requires : goal.get-monitored_bit-requires
get-monitored_bit-requires c =
    let w : MonitorState = record { setup = c.self.inside.setup; registers = c.self.inside.registers.items } in
    let at : AtAccess w c.args.access c.register_of-register.result c.copy_of-place.result = record { good = c.self.invariant; there = subst (λ (x : MonitorState). IsThere x.setup c.args.access) (sym c.self.view_is) c.requires; register_is = c.register_of-register.ensures; place_is = c.copy_of-place.ensures } in
    place_within w c.args.access c.register_of-register.result c.copy_of-place.result c.index_mut-monitored_bits.result.now at c.index_mut-monitored_bits.ensures.value

pub set-requires : goal.set-requires
set-requires c =
    let w : MonitorState = record { setup = c.self.inside.setup; registers = c.self.inside.registers.items } in
    let at : AtAccess w c.args.access c.register_of-register.result c.copy_of-place.result = record { good = c.self.invariant; there = subst (λ (x : MonitorState). IsThere x.setup c.args.access) (sym c.self.view_is) c.requires; register_is = c.register_of-register.ensures; place_is = c.copy_of-place.ensures } in
    place_within w c.args.access c.register_of-register.result c.copy_of-place.result c.index_mut-monitored_bits.result.now at c.index_mut-monitored_bits.ensures.value

pub invariant_of-self : goal.invariant_of-self
invariant_of-self c =
    let w : MonitorState = record { setup = c.self.inside.setup; registers = c.self.inside.registers.items } in
    let at : AtAccess w c.args.access c.register_of-register.result c.copy_of-place.result = record { good = c.self.invariant; there = subst (λ (x : MonitorState). IsThere x.setup c.args.access) (sym c.self.view_is) c.requires; register_is = c.register_of-register.ensures; place_is = c.copy_of-place.ensures } in
    monitor_written w c.args.access c.register_of-register.result c.copy_of-place.result c.index_mut-monitored_bits.result.now c.set.new.self c.with.result at c.index_mut-monitored_bits.ensures.value c.set.ensures

pub returns-clause-observed : goal.returns-clause-observed
returns-clause-observed c =
    let w : MonitorState = record { setup = c.self.inside.setup; registers = c.self.inside.registers.items } in
    let a = c.args.access in
    let at : AtAccess w a c.register_of-register.result c.copy_of-place.result = record { good = c.self.invariant; there = subst (λ (x : MonitorState). IsThere x.setup a) (sym c.self.view_is) c.requires; register_is = c.register_of-register.ensures; place_is = c.copy_of-place.ensures } in
    let monitored_bit = monitored_is w a c.register_of-register.result c.copy_of-place.result c.index_mut-monitored_bits.result.now c.get-monitored_bit.result at c.index_mut-monitored_bits.ensures.value c.get-monitored_bit.ensures in
    λ past e access observed.
    observed_written w past e a c.register_of-register.result c.copy_of-place.result c.index_mut-monitored_bits.result.now c.set.new.self c.with.result at c.index_mut-monitored_bits.ensures.value c.set.ensures access
    (λ opening moves is. c.with.ensures opening moves (monitored_bit ∙ is))
    (subst (λ (x : MonitorState). HasObserved x past) (sym c.self.view_is) observed)

pub returns-clause-answer : goal.returns-clause-answer
returns-clause-answer c =
    let w : MonitorState = record { setup = c.self.inside.setup; registers = c.self.inside.registers.items } in
    let a = c.args.access in
    let at : AtAccess w a c.register_of-register.result c.copy_of-place.result = record { good = c.self.invariant; there = subst (λ (x : MonitorState). IsThere x.setup a) (sym c.self.view_is) c.requires; register_is = c.register_of-register.ensures; place_is = c.copy_of-place.ensures } in
    let monitored_bit = monitored_is w a c.register_of-register.result c.copy_of-place.result c.index_mut-monitored_bits.result.now c.get-monitored_bit.result at c.index_mut-monitored_bits.ensures.value c.get-monitored_bit.ensures in
    λ past e access observed.
    subst (λ (x : MonitorState). MatchBool c.allows.result (KeepsSafe x.setup past e) (KeepsSafe x.setup past e → ⊥)) c.self.view_is
    (c.allows.ensures w.setup past e a access refl
    (monitored_bit ∙ subst (λ (x : MonitorState). HasObserved x past) (sym c.self.view_is) observed a at.there))
