use Rattle.std.proofs.Common.{sym, ◌∙◌, ap}
use Rattle.rand_pcg.specs.Lcg.{Lcg}
use Rattle.choices.specs.{FlickState, Mode, picks_after}
use Rattle.choices.proofs.Skips.{picked}
use Rattle.choices.proofs.Flicks.skip_picks.Goals as goal

pub returns : goal.returns
returns c =
    let i = c.self.inside in
    let g = i.generator in
    let made = λ (m : Mode) (x : Lcg). let f : FlickState = record { mode = m; generator = x } in f in
    ap (made i.mode) c.advance.ensures ∙ sym (picked c.args.picks i.mode g.state g.increment) ∙ ap (picks_after c.args.picks) c.self.view_is
