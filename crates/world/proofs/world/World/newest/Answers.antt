use Rattle.std.proofs.Common.{sym, ap, subst, ◌∙◌}
use Rattle.model.specs.{newest, past_of}
use Rattle.world.specs.Shows.{Shows, WorldState}
use Rattle.world.proofs.world.World.newest.Goals as goal

pub returns : goal.returns
returns c = λ events shows. c.newest.ensures c.self.inside.history.items events (subst (λ w. Shows w events) (sym c.self.view_is) shows) ∙ ap (λ (w : WorldState). newest w.setup (past_of w.setup events)) c.self.view_is
