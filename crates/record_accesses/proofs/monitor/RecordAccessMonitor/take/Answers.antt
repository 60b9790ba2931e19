use Rattle.std.proofs.Common.{◌≡◌, ◌<◌, ◌≤◌, ◌∷◌, Option, None, ap, sym, subst, ◌∙◌, arith}
use Rattle.model.specs.{Access}
use Rattle.record_accesses.specs.{BitsState, HasBits, HasTaken, MonitorState, entry_with, opened_taken, possible_access, monitored, waves_after}
use Rattle.record_accesses.proofs.Monitors.{impossible, none-shown, out-of-range, taken-next, taken-still}
use Rattle.record_accesses.proofs.monitor.RecordAccessMonitor.take.Goals as goal

pub returns-then-process-ge-MOST_PROCESSES-clause-taken : goal.returns-then-process-ge-MOST_PROCESSES-clause-taken
returns-then-process-ge-MOST_PROCESSES-clause-taken c = λ past marks taken is_next drop.
    let i = c.self.inside in
    let w : MonitorState = record { setup = i.openings; bits = i.bits; waves = i.waves; opened = i.opened; limit = i.limit } in
    let p = c.args.process in
    let above : 16 ≤ p = omega (arith, c.if-process-ge-MOST_PROCESSES.true) in
    let old : HasTaken w past = subst (λ (w : MonitorState). HasTaken w past) (sym c.self.view_is) taken in
    let none : possible_access w.setup p c.args.access.now ≡ None = impossible w.setup p c.args.access.now (out-of-range w.setup p c.possible-access.ensures.bounded above) in
    subst (λ (t : MonitorState). HasTaken t (entry_with p (possible_access t.setup p c.args.access.now) marks ∷ past)) c.self.view_is
    (taken-still w p (possible_access w.setup p c.args.access.now) marks past none above old)

pub returns-then-process-ge-MOST_PROCESSES-clause-monitored : goal.returns-then-process-ge-MOST_PROCESSES-clause-monitored
returns-then-process-ge-MOST_PROCESSES-clause-monitored c = λ past marks taken is_next drop.
    let i = c.self.inside in
    let w : MonitorState = record { setup = i.openings; bits = i.bits; waves = i.waves; opened = i.opened; limit = i.limit } in
    let p = c.args.process in
    let above : 16 ≤ p = omega (arith, c.if-process-ge-MOST_PROCESSES.true) in
    sym (none-shown w.setup w.limit past (entry_with p (possible_access w.setup p c.args.access.now) marks) (out-of-range w.setup p c.possible-access.ensures.bounded above))
    ∙ ap (λ (w : MonitorState). monitored w.setup w.limit past (entry_with p (possible_access w.setup p c.args.access.now) marks)) c.self.view_is

pub returns-clause-taken : goal.returns-clause-taken
returns-clause-taken c = λ past marks taken is_next drop.
    let k = c.self-2.inside in
    let old : MonitorState = c.args.self.now in
    let new : MonitorState = record { setup = k.openings; bits = k.bits; waves = k.waves; opened = c.take.new.self; limit = k.limit } in
    let p = c.args.process in
    let below : p < 16 = omega (arith, c.if-process-ge-MOST_PROCESSES.false) in
    let o : Option Access = possible_access old.setup p c.args.access.now in
    let is : c.possible-access.result ≡ o = c.possible-access.ensures.access ∙ ap (λ (w : MonitorState). possible_access w.setup p c.args.access.now) c.self.view_is in
    let then_on = c.self-2.view_is in
    let bits : HasBits old.setup new.bits (entry_with p o marks ∷ past) =
    subst (λ (o : Option Access). HasBits old.setup new.bits (entry_with p o marks ∷ past)) is
    (subst (λ (b : BitsState). HasBits old.setup b (entry_with p c.possible-access.result marks ∷ past)) (sym (ap (λ (w : MonitorState). w.bits) then_on))
    (c.in_ok-monitored.ensures.bits past marks taken.bits)) in
    let waves : new.waves ≡ waves_after old.limit.from c.args.number new.bits.names o old.waves =
    ap (λ (w : MonitorState). w.waves) then_on ∙ c.in_ok-monitored.ensures.waves
    ∙ (λ j. waves_after old.limit.from c.args.number (sym then_on j).bits.names (is j) old.waves) in
    taken-next old new p c.args.number o c.args.drops_read marks past taken
    (ap (λ (w : MonitorState). w.setup) then_on ∙ c.monitored.ensures.setup)
    (ap (λ (w : MonitorState). w.limit) then_on ∙ c.monitored.ensures.limit)
    is_next bits waves
    (c.take.ensures ∙ (λ j. opened_taken p c.args.number (is j) c.args.drops_read ((ap (λ (w : MonitorState). w.opened) then_on ∙ c.monitored.ensures.opened) j)))
    below drop

pub returns-clause-monitored : goal.returns-clause-monitored
returns-clause-monitored c = λ past marks taken is_next drop.
    let old : MonitorState = c.args.self.now in
    let p = c.args.process in
    c.in_ok-monitored.ensures.monitored past marks taken is_next drop
    ∙ ap (λ (o : Option Access). monitored old.setup old.limit past (entry_with p o marks))
    (c.possible-access.ensures.access ∙ ap (λ (w : MonitorState). possible_access w.setup p c.args.access.now) c.self.view_is)
