-- What the picture of a run or of a record shows of accesses, and the window that it shows.
use Rattle.std.specs.Prelude.{◌≡◌, ℕ, ◌+◌, ◌-◌, ◌||◌, Bool, false, cond, nat_le, None, Some}
use Rattle.picture.specs.{Window}
use Rattle.picture.specs.declared.reads.PictureOptions.{PictureOptions}
use Rattle.picture.specs.declared.reads.Reads.{Reads}
use Rattle.picture.specs.declared.reads.Reads.TheVariants as modes
use Rattle.record_accesses.specs.{WaveCount, WaveLimit}
use Rattle.record_accesses.specs.picture_layout.declared.limits.WaveCount.TheVariants as counts
use Rattle.draw.specs.declared.views.AccessView.{AccessView}

-- so many waves, of the cells that are written in a window
abbrev pub waves_from : Window → WaveCount → WaveLimit
waves_from w count = record { from = w.from; count = count }

-- What the picture of a run shows: what is asked for, and with all accesses all waves.
abbrev pub full_view : PictureOptions → AccessView
full_view options = record { reads = options.reads; limit = waves_from options.window counts.All; window = options.window }

-- how many waves the picture of few entries has: at most sixteen, unless all accesses are asked for
abbrev pub waves_asked : Reads → WaveCount
waves_asked modes.All = counts.All
waves_asked _ = counts.Sixteen

-- the waves in the picture of few entries
abbrev pub waves_for_few_entries : PictureOptions → WaveLimit
waves_for_few_entries options = waves_from options.window (waves_asked options.reads)

-- What the picture of few entries shows: all accesses.
abbrev pub short_view : PictureOptions → AccessView
short_view options = record { reads = modes.All; limit = waves_for_few_entries options; window = options.window }

-- Whether a window shows at most 400 entries, whatever it is a window of.
abbrev pub is_short : Window → Bool
is_short w = elim w.to [ None ↦ false | Some to ↦ nat_le (to - w.from) 399 ]

-- What the picture of a record of more than 400 entries shows: all accesses if its window is short, and otherwise what is asked for.
abbrev pub long_view : PictureOptions → AccessView
long_view options = cond (is_short options.window) (short_view options) (full_view options)

-- What the picture of a record of n entries shows: all accesses if n is at most 400 or its window is short, and otherwise what is asked for.
abbrev pub record_view : PictureOptions → ℕ → AccessView
record_view options n = cond (nat_le n 400) (short_view options) (long_view options)

-- After n entries it is decided that the picture of a record shows what that of a long one shows, however many entries come later.
abbrev pub IsDecided : PictureOptions → ℕ → Type 0
IsDecided options n = (more : ℕ) → record_view options (n + more) ≡ long_view options

-- The most entries that are stored until it is decided what is shown: none if all accesses are asked for or the window is short.
abbrev pub most_asked : Reads → ℕ
most_asked modes.All = 0
most_asked _ = 400

abbrev pub most_stored : PictureOptions → ℕ
most_stored options = cond (is_short options.window) 0 (most_asked options.reads)
