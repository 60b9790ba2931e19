use Rattle.std.proofs.Common.{◌∙◌, ap, sym, option_copied}
use Rattle.picture_layout.proofs.WaveRows.{wave_set}
use Rattle.picture_layout.proofs.waves.pass_wave.Goals as goal

pub returns-in_ok-waves-in-Some : goal.returns-in_ok-waves-in-Some
returns-in_ok-waves-in-Some c =
    wave_set c.args.waves.now c.from-in-Some.result c.in_ok-waves-in-Some.field-0 c.in-Some.change.now _
    (sym c.wave_change.ensures ∙ ap option_copied c.in-Some.is) c.from-in-Some.ensures c.in_ok-waves-in-Some.ensures
