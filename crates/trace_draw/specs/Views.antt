-- Which accesses a picture shows.
use Rattle.std.specs.Prelude.{◌≡◌, ◌||◌, ◌+◌, ℕ, Bool, true, false, cond, nat_le}
use Rattle.draw.specs.{is_short, waves_for_few_entries}
use Rattle.picture.specs.declared.reads.PictureOptions.{PictureOptions}
use Rattle.picture.specs.declared.reads.Reads.{Reads}
use Rattle.picture.specs.declared.reads.Reads.TheVariants as reads
use Rattle.trace_accesses.specs.{WaveLimit}

-- whether all accesses are asked for
abbrev pub asks_all : Reads → Bool
asks_all reads.All = true
asks_all _ = false

-- Whether a picture shows all accesses, however many entries it has: they are asked for, or
-- its window is short.
abbrev pub shows_all : PictureOptions → Bool
shows_all options = asks_all options.reads || is_short options.window

-- The accesses that a picture of n entries shows: all if `shows_all` holds or if n is at most
-- 400, and otherwise none.
abbrev pub view_of : PictureOptions → ℕ → Reads
view_of options n = cond (shows_all options || nat_le n 400) reads.All reads.Hidden

-- the waves that it shows with them: those of the cells that are written in the window, all if
-- all accesses are asked for, and otherwise at most sixteen
abbrev pub limit_of : PictureOptions → WaveLimit
limit_of = waves_for_few_entries

-- After n entries it is decided which accesses are shown, however many entries come later.
abbrev pub IsDecided : PictureOptions → Reads → ℕ → Type 0
IsDecided options mode n = (more : ℕ) → view_of options (n + more) ≡ mode
