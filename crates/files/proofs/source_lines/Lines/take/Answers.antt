use Rattle.std.proofs.Common.{subst}
use Rattle.files.specs.{LineState, TakesLine, Reported, coming, shown_line}
use Rattle.files.proofs.FirstLines.{fed_long, found_first}
use Rattle.files.proofs.source_lines.Lines.take.Goals as goal

pub returns-then-self-clause-line : goal.returns-then-self-clause-line
returns-then-self-clause-line g c = λ some short.
    let to_come = g.R.Source.to_come c.args.input.now in
    let held = c.find_line-self-inside.new.self in
    let b = c.find_line-self-inside.result in
    subst (λ (l : LineState). Reported (coming l.ahead to_come) (coming held.given to_come) (λ text remaining. TakesLine text (shown_line b held c.self.inside.bytes.items) remaining)) c.self.view_is
    (found_first c.self.inside.ahead held to_come b c.self.inside.bytes.items c.if-self.true (c.find_line-self-inside.ensures.found c.if-self.true) c.find_line-self-inside.ensures.source)

pub returns-then-self-clause-long : goal.returns-then-self-clause-long
returns-then-self-clause-long g c = λ some long.
    let to_come = g.R.Source.to_come c.args.input.now in
    let held = c.find_line-self-inside.new.self in
    let b = c.find_line-self-inside.result in
    let reported = subst (λ (l : LineState). Reported (coming l.ahead to_come) (coming held.given to_come) (λ text remaining. TakesLine text (shown_line b held c.self.inside.bytes.items) remaining)) c.self.view_is
    (found_first c.self.inside.ahead held to_come b c.self.inside.bytes.items c.if-self.true (c.find_line-self-inside.ensures.found c.if-self.true) c.find_line-self-inside.ensures.source) in
    fed_long (coming c.args.self.now.ahead to_come) (coming held.given to_come) (shown_line b held c.self.inside.bytes.items) reported long
