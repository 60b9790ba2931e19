use Rattle.std.proofs.Common.{sym, ap, subst, ◌∙◌}
use Rattle.model.specs.{past_of}
use Rattle.laws.specs.{doing}
use Rattle.process.specs.{number_read}
use Rattle.world.specs.Shows.{Shows, WorldState}
use Rattle.world.proofs.world.World.number_read.Goals as goal

pub returns : goal.returns
returns c = λ events shows. c.number_read.ensures c.self.inside.history.items events (subst (λ w. Shows w events) (sym c.self.view_is) shows) ∙ ap (λ (w : WorldState). number_read (doing w.setup c.args.process (past_of w.setup events))) c.self.view_is
