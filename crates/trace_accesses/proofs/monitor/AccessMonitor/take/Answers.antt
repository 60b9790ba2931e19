use Rattle.std.proofs.Common.{◌≡◌, ◌+◌, ◌∷◌, Option, Some, ap, subst, sym, ◌∙◌}
use Rattle.trace.specs.{CellAccess, trace_entry}
use Rattle.trace_accesses.specs.{HasTaken, MonitorState, possible_access, monitored_access}
use Rattle.trace_accesses.proofs.Monitors.{possible-parts, taken-on}
use Rattle.trace_accesses.proofs.monitor.AccessMonitor.take.Goals as goal

pub returns-in-Some-clause-taken : goal.returns-in-Some-clause-taken
returns-in-Some-clause-taken c = λ marks past taken.
    let i = c.self.inside in
    let w : MonitorState = record { memory = i.memory; rows = i.rows; limit = i.limit; entries = i.entries } in
    let next : MonitorState = record { memory = c.make.new.memory; rows = c.make.new.rows; limit = i.limit; entries = i.entries + 1 } in
    let p = c.args.process in
    let a = c.in-Some.access in
    let before : HasTaken w past = subst (λ (w : MonitorState). HasTaken w past) (sym c.self.view_is) taken in
    let is : possible_access w.memory.setup p c.args.access.now ≡ Some a = sym c.possible.ensures ∙ c.in-Some.is in
    let was : possible_access c.args.self.now.memory.setup p c.args.access.now ≡ Some a = ap (λ (w : MonitorState). possible_access w.memory.setup p c.args.access.now) (sym c.self.view_is) ∙ is in
    let there = (possible-parts w.memory.setup p c.args.access.now a is).cell in
    subst (λ (o : Option CellAccess). HasTaken next (trace_entry p o marks ∷ past)) (sym was)
    (taken-on w a c.make.new.memory c.make.new.rows c.self.invariant c.make.ensures.setup p marks past there before (c.make.ensures.made marks past before.made before.entries)
    (c.make.ensures.rows past before.made before.entries))

pub returns-in-Some-clause-monitored : goal.returns-in-Some-clause-monitored
returns-in-Some-clause-monitored c = λ marks past taken.
    let i = c.self.inside in
    let w : MonitorState = record { memory = i.memory; rows = i.rows; limit = i.limit; entries = i.entries } in
    let p = c.args.process in
    let a = c.in-Some.access in
    let before : HasTaken w past = subst (λ (w : MonitorState). HasTaken w past) (sym c.self.view_is) taken in
    let was : possible_access c.args.self.now.memory.setup p c.args.access.now ≡ Some a =
    ap (λ (w : MonitorState). possible_access w.memory.setup p c.args.access.now) (sym c.self.view_is) ∙ sym c.possible.ensures ∙ c.in-Some.is in
    ap Some (c.make.ensures.monitored marks past before.made before.entries before.rows)
    ∙ (λ j. monitored_access (c.self.view_is j).memory.setup (c.self.view_is j).limit past (trace_entry p (sym was j) marks))
