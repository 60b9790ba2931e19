use Rattle.std.proofs.Common.{◌≡◌, ℕ, List, Option, Some, IfSome, subst, sym}
use Rattle.scenario.specs.files.{Fault}
use Rattle.model.specs.{Past}
use Rattle.judge.specs.record_file.{Progress}
use Rattle.judge.specs.{Reporting}
use Rattle.draw.specs.{DrawnEntry, EndsAsked, IsDrawFault, Corresponds, ReportsOfLines}
use Rattle.draw.proofs.JudgedFile.{read_judged, read_none, read_some}
use Rattle.draw.proofs.records.judged_bands.end_judged.Goals as goal

pub returns-in_default-clause-fault : goal.returns-in_default-clause-fault
returns-in_default-clause-fault g c = λ to_come first u.
    let none = subst (λ (o : Option Reporting). ReportsOfLines g.H.EntryObserver.Reports o u.before u.entries u.numbers) c.in_default.is (c.in_ok-reporting.ensures u.before u.entries u.numbers u.corresponds) in
    subst (λ (f : Fault). IsDrawFault f to_come) (sym c.behind.ensures)
    (read_none g.H.EntryObserver.HasObserved g.H.Judging.Keeps g.H.Judging.finds_good to_come c.args.lines.now.taken _ _ c.args.sheet.now first (g.W.Sink.taken c.args.output.now) u none)

pub returns-in-None-clause-fault : goal.returns-in-None-clause-fault
returns-in-None-clause-fault g c = λ to_come first u.
    let is = subst (λ (o : Option Reporting). ReportsOfLines g.H.EntryObserver.Reports o u.before u.entries u.numbers) c.in-Some.is (c.in_ok-reporting.ensures u.before u.entries u.numbers u.corresponds) in
    absurd (read_some g.H.EntryObserver.HasObserved g.H.Judging.Keeps g.H.Judging.finds_good to_come c.args.lines.now.taken _ _ c.args.sheet.now first (g.W.Sink.taken c.args.output.now) u g.H.EntryObserver.Reports c.in-Some.reporting is (c.in_ok-end.ensures.none c.in-None.is))

pub returns-clause-drawn : goal.returns-clause-drawn
returns-clause-drawn g c = λ to_come first u.
    let is = subst (λ (o : Option Reporting). ReportsOfLines g.H.EntryObserver.Reports o u.before u.entries u.numbers) c.in-Some.is (c.in_ok-reporting.ensures u.before u.entries u.numbers u.corresponds) in
    let t = c.args.sheet.now in
    let now = g.W.Sink.taken c.args.output.now in
    let after = g.W.Sink.taken c.end.new.output in
    let drawn = λ (d : DrawnEntry) (reported : List ℕ). (p : Progress) (past : Past) (first : Option (List ℕ)) → t.reader ≡ Some p → Corresponds t (Some p) past first now → (d.setup ≡ p.head.setup) × EndsAsked t.options t.form p.head.setup past reported d.shows d.opening.items d.height first after in
    let ended = subst (drawn c.in-Some-2.drawn) c.as_slice.ensures.value (subst (λ (o : Option DrawnEntry). IfSome o (λ d. drawn d c.as_slice.result.now)) c.in-Some-2.is c.in_ok-end.ensures.drawn) in
    read_judged g.H.EntryObserver.HasObserved g.H.Judging.Keeps g.H.Judging.finds_good g.met.H.Judging.begins g.met.H.Judging.good g.met.H.Judging.bad to_come c.args.lines.now.taken _ _ t first now u g.H.EntryObserver.Reports c.in-Some.reporting c.in-Some-2.drawn after is ended
