use Rattle.std.proofs.Common.{◌∷◌, Option, None, Some, IfSome, cond, sym, subst, ap, ◌∙◌}
use Rattle.std.proofs.lemmas.Bool.{lt-ltb}
use Rattle.model.specs.{Access}
use Rattle.record_accesses.specs.{HasBits, IsPossible, MonitoredBitAccess, entry_with, monitored, monitored_by}
use Rattle.record_accesses.specs.declared.monitored.Monitored.TheVariants.{Made}
use Rattle.record_accesses.proofs.monitor.RecordAccessMonitor.monitored.Goals as goal

pub returns-in_ok-made-in-Some-clause-bits : goal.returns-in_ok-made-in-Some-clause-bits
returns-in_ok-made-in-Some-clause-bits c = λ past marks has.
    subst (λ (o : Option Access). HasBits c.args.self.now.setup c.make.new.self.bits (entry_with c.args.process o marks ∷ past)) (sym c.in-Some.is)
    (c.in_ok-made-in-Some.ensures.bits past marks has)

pub returns-in_ok-made-in-Some-clause-monitored : goal.returns-in_ok-made-in-Some-clause-monitored
returns-in_ok-made-in-Some-clause-monitored c = λ past marks taken is drop.
    let s = c.args.self.now.setup in
    let limit = c.args.self.now.limit in
    let p = c.args.process in
    let a = c.in-Some.access in
    let is_possible : IfSome (Some a) (IsPossible s p) = subst (λ (o : Option Access). IfSome o (IsPossible s p)) c.in-Some.is c.requires.possible in
    ap (λ (m : MonitoredBitAccess). Some (Made m)) (c.in_ok-made-in-Some.ensures.monitored past marks taken is)
    ∙ ap (λ t. cond t (Some (Made (monitored_by s limit past (entry_with p (Some a) marks) a))) None) (sym (lt-ltb p s.processes is_possible.process))
    ∙ ap (λ (o : Option Access). monitored s limit past (entry_with p o marks)) (sym c.in-Some.is)
