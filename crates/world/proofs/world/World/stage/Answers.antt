use Rattle.std.proofs.Common.{sym, ap, subst, ◌∙◌}
use Rattle.model.specs.{past_of}
use Rattle.world.specs.{stage_in}
use Rattle.world.specs.Shows.{Shows, WorldState}
use Rattle.world.proofs.world.World.stage.Goals as goal

pub returns : goal.returns
returns c = λ events shows. c.stage.ensures c.self.inside.history.items events (subst (λ w. Shows w events) (sym c.self.view_is) shows) ∙ ap (λ (w : WorldState). stage_in w.setup (past_of w.setup events) c.args.process) c.self.view_is
