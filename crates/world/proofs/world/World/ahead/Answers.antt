use Rattle.std.proofs.Common.{sym, ap, subst, ◌∙◌}
use Rattle.model.specs.{ahead, past_of}
use Rattle.world.specs.Shows.{Shows, WorldState}
use Rattle.world.proofs.world.World.ahead.Goals as goal

pub returns : goal.returns
returns c = λ events shows. c.ahead.ensures c.self.inside.history.items events (subst (λ w. Shows w events) (sym c.self.view_is) shows) ∙ ap (λ (w : WorldState). ahead w.setup c.args.process (past_of w.setup events)) c.self.view_is
