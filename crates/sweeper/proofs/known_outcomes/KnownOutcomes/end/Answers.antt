use Rattle.sweeper.proofs.Outcomes.{ends_known, ends_made, learned}
use Rattle.sweeper.proofs.known_outcomes.KnownOutcomes.end.Goals as goal

pub returns-in-Some-clause-run : goal.returns-in-Some-clause-run
returns-in-Some-clause-run c = ends_known c.args.run.now c.args.self.now c.args.calls.now c.args.value c.in-Some.stuck c.commands_are_sound.ensures c.in-Some.ensures

pub returns-in-Some-clause-known : goal.returns-in-Some-clause-known
returns-in-Some-clause-known c = λ events follows all. all

pub returns-clause-run : goal.returns-clause-run
returns-clause-run c = ends_made c.args.run.now c.learn-stuck.new.run c.args.self.now c.args.calls.now c.args.value c.learn-stuck.result c.learn-stuck.ensures.setup c.learn-stuck.ensures.run

pub returns-clause-known : goal.returns-clause-known
returns-clause-known c =
    learned c.args.run.now c.learn-stuck.new.run c.args.calls.now c.args.value c.learn-stuck.result c.self.inside.known.items c.args.self.now c.self.inside.oldest c.learn-stuck.new.self c.self.view_is c.learn-stuck.ensures.outcome
    c.learn-stuck.ensures.run
