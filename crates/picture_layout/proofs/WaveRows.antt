-- Waves as lists: one of them is changed.
use Rattle.std.proofs.Common.{◌≡◌, ℕ, set, map, Option, Some, ap, sym, ◌∙◌}
use Rattle.std.specs.Global.{Vec}
use Rattle.std.proofs.lemmas.List.{map-set}
use Rattle.picture_layout.specs.{Wave, WaveChange, row_set, seen_wave, seen_waves, wave_behind}

pub wave_set : (waves : Vec Wave) (k : ℕ) (wave : Wave) (change : WaveChange) (shown : Option WaveChange) → shown ≡ Some change → k ≡ change.row → seen_wave wave ≡ wave_behind change →
    map seen_wave (set waves.items k wave) ≡ row_set (seen_waves waves) shown
wave_set waves k wave change shown is at same =
    map-set seen_wave waves.items k wave ∙ (λ i. set (seen_waves waves) (at i) (same i)) ∙ ap (row_set (seen_waves waves)) (sym is)
