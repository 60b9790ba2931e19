use Rattle.std.proofs.Common.{sym, subst, ap, ◌∙◌}
use Rattle.std.specs.Prelude.{slice_get}
use Rattle.world.specs.{CoreRefuses}
use Rattle.world.proofs.CoreRefused.{refused-beyond, refused-reported}
use Rattle.world.proofs.cores.Core.refusal.Goals as goal

pub returns-in-Some-clause-refused : goal.returns-in-Some-clause-refused
returns-in-Some-clause-refused c =
    let there = sym (c.in-Some.ensures ∙ ap (slice_get c.args.self.now.seats) c.process.ensures) in
    subst (CoreRefuses c.args.self.now c.args.event.now) (sym c.refusal.ensures.refused) (refused-reported c.args.self.now c.args.event.now c.in-Some.seat.now there)

pub returns-in-None-clause-refused : goal.returns-in-None-clause-refused
returns-in-None-clause-refused c = refused-beyond c.args.self.now c.args.event.now (sym (c.in-None.ensures ∙ ap (slice_get c.args.self.now.seats) c.process.ensures))
