-- The shapes of a column, and then those of the columns after it.
use Rattle.std.proofs.Common.{◌≡◌, ℕ, ◌+◌, add-one, ◌<◌, Bool, true, false, cond, is_some, Option, List, ◌++◌, drop, length, map, flat_map, get_or, ap, sym, ◌∙◌}
use Rattle.markup.specs.{Point, Shape, drawings}
use Rattle.model.specs.{Stage}
use Rattle.picture_layout.specs.{Column, Lane, Layout, UnendedAccess, RunLine, Seen, ShownAccess, Wave, change_in, open_next, seen, seen_wave, stage_among}
use Rattle.picture.specs.{SeenBand, Stretch, Subject, accesses_from, axis, axis_up_to, bar, bars, change_if, change_shapes, ends_at, for_each, free_left, from_next, inside_since, is_stage, line_shapes, lines_shapes, made_by, next_change, next_stretch, note_shapes, notes_shapes, shade_up_to, shades, shapes_if, stretch_word, tie_to, ties_to, wave_from, wave_shapes, waves_from, words_from}
use Rattle.picture.proofs.Drawn.{drop_next, then_drawn}

module _ (columns : List Column) (k : ℕ) (column : Column) (within : k < length columns) (here : column ≡ get_or columns k column) where
  -- the shades: after the column, a process is inside or none is
  pub shades_next : (chain end : ℕ) (from next : Option ℕ) (inside : Bool) → inside ≡ is_some column.after.inside → next ≡ inside_since from inside column.x →
      shades chain end from (map seen (drop k columns)) ≡ shade_up_to chain from inside column.x ++ shades chain end next (map seen (drop (k + 1) columns))
  shades_next chain end from next inside is so =
      ap (λ cs. shades chain end from (map seen cs)) (drop_next columns k column within here)
      ∙ ap (λ b. shade_up_to chain from b column.x ++ shades chain end (inside_since from b column.x) (map seen (drop (k + 1) columns))) (sym is)
      ∙ ap (λ f. shade_up_to chain from inside column.x ++ shades chain end f (map seen (drop (k + 1) columns))) (sym so)

  -- the axis
  pub axis_next : (subject : Subject) (end from : ℕ) → axis subject end from (map seen (drop k columns)) ≡ axis_up_to from (seen column) ++ axis subject end column.x (map seen (drop (k + 1) columns))
  axis_next subject end from = ap (λ cs. axis subject end from (map seen cs)) (drop_next columns k column within here)

  -- the bars of a lane: after the column, the stage of its process is the same or another one
  pub bars_stay : (lane : Lane) (p end : ℕ) (stage next : Stage) (from : ℕ) → next ≡ stage_among column.after.stages p → is_stage next stage ≡ true →
      bars lane p end stage from (map seen (drop k columns)) ≡ bars lane p end stage from (map seen (drop (k + 1) columns))
  bars_stay lane p end stage next from is same =
      ap (λ cs. bars lane p end stage from (map seen cs)) (drop_next columns k column within here)
      ∙ ap (λ (b : Bool). cond b (bars lane p end stage from (map seen (drop (k + 1) columns))) (bar lane stage from column.x ++ bars lane p end (stage_among column.after.stages p) column.x (map seen (drop (k + 1) columns))))
      (ap (λ (s : Stage). is_stage s stage) (sym is) ∙ same)

  pub bars_change : (lane : Lane) (p end : ℕ) (stage next : Stage) (from : ℕ) → next ≡ stage_among column.after.stages p → is_stage next stage ≡ false →
      bars lane p end stage from (map seen (drop k columns)) ≡ bar lane stage from column.x ++ bars lane p end next column.x (map seen (drop (k + 1) columns))
  bars_change lane p end stage next from is other =
      ap (λ cs. bars lane p end stage from (map seen cs)) (drop_next columns k column within here)
      ∙ ap (λ (b : Bool). cond b (bars lane p end stage from (map seen (drop (k + 1) columns))) (bar lane stage from column.x ++ bars lane p end (stage_among column.after.stages p) column.x (map seen (drop (k + 1) columns))))
      (ap (λ (s : Stage). is_stage s stage) (sym is) ∙ other)
      ∙ ap (λ (s : Stage). bar lane stage from column.x ++ bars lane p end s column.x (map seen (drop (k + 1) columns))) (sym is)

  -- the words of a lane: a stretch continues after the column, or ends
  pub words_stay : (p middle end : ℕ) (stretch : Stretch) → ends_at p stretch (seen column) ≡ false → words_from p middle end stretch (map seen (drop k columns)) ≡ words_from p middle end stretch (map seen (drop (k + 1) columns))
  words_stay p middle end stretch stays =
      ap (λ cs. words_from p middle end stretch (map seen cs)) (drop_next columns k column within here)
      ∙ ap (λ (b : Bool). cond b (stretch_word middle (free_left p (seen column)) column.x stretch ++ words_from p middle end (next_stretch p stretch (seen column)) (map seen (drop (k + 1) columns))) (words_from p middle end stretch (map seen (drop (k + 1) columns)))) stays

  pub words_end : (p middle shown end free : ℕ) (stretch next : Stretch) → ends_at p stretch (seen column) ≡ true → shown ≡ middle → free ≡ free_left p (seen column) → next ≡ next_stretch p stretch (seen column) →
      words_from p middle end stretch (map seen (drop k columns)) ≡ stretch_word shown free column.x stretch ++ words_from p middle end next (map seen (drop (k + 1) columns))
  words_end p middle shown end free stretch next ends at is goes =
      ap (λ cs. words_from p middle end stretch (map seen cs)) (drop_next columns k column within here)
      ∙ ap (λ (b : Bool). cond b (stretch_word middle (free_left p (seen column)) column.x stretch ++ words_from p middle end (next_stretch p stretch (seen column)) (map seen (drop (k + 1) columns))) (words_from p middle end stretch (map seen (drop (k + 1) columns)))) ends
      ∙ sym (λ i. stretch_word (at i) (is i) column.x stretch ++ words_from p middle end (goes i) (map seen (drop (k + 1) columns)))

  -- what each column adds
  pub each_next : (shapes : Seen → List Shape) → flat_map shapes (map seen (drop k columns)) ≡ shapes (seen column) ++ flat_map shapes (map seen (drop (k + 1) columns))
  each_next shapes = ap (λ cs. flat_map shapes (map seen cs)) (drop_next columns k column within here)

  -- the accesses of a process
  pub accesses_next : (lane : Lane) (p end : ℕ) (before next : Option UnendedAccess) (from since : ℕ) → next ≡ open_next p before (seen column) → since ≡ from_next p from (seen column) →
      accesses_from lane p end before from (map seen (drop k columns)) ≡ shapes_if lane before from column.x (made_by p column.access) ++ accesses_from lane p end next since (map seen (drop (k + 1) columns))
  accesses_next lane p end before next from since is at =
      ap (λ cs. accesses_from lane p end before from (map seen cs)) (drop_next columns k column within here)
      ∙ (λ i. shapes_if lane before from column.x (made_by p column.access) ++ accesses_from lane p end (sym is i) (sym at i) (map seen (drop (k + 1) columns)))

  -- the wave of a row
  pub wave_next : (row y end next : ℕ) → next ≡ next_change row end (map seen (drop (k + 1) columns)) →
      wave_from row y end (map seen (drop k columns)) ≡ change_shapes y column.x next (change_if row (change_in (seen column))) ++ wave_from row y end (map seen (drop (k + 1) columns))
  wave_next row y end next is =
      ap (λ cs. wave_from row y end (map seen cs)) (drop_next columns k column within here)
      ∙ ap (λ n. change_shapes y column.x n (change_if row (change_in (seen column))) ++ wave_from row y end (map seen (drop (k + 1) columns))) (sym is)

-- the waves, one after the other
module _ (waves : List Wave) (k : ℕ) (wave : Wave) (within : k < length waves) (here : wave ≡ get_or waves k wave) where
  pub waves_next : (layout : Layout) (columns : List Seen) → waves_from layout columns k (map seen_wave (drop k waves)) ≡ wave_shapes layout columns k (seen_wave wave) ++ waves_from layout columns (k + 1) (map seen_wave (drop (k + 1) waves))
  waves_next layout columns = ap (λ ws. waves_from layout columns k (map seen_wave ws)) (drop_next waves k wave within here)

-- the lines of a column
module _ (lines : List RunLine) (k : ℕ) (line : RunLine) (within : k < length lines) (here : line ≡ get_or lines k line) where
  pub lines_next : (band : SeenBand) (column : Seen) (head foot : Point) → lines_shapes band column head foot k (drop k lines) ≡ line_shapes band column head foot k line ++ lines_shapes band column head foot (k + 1) (drop (k + 1) lines)
  lines_next band column head foot = ap (lines_shapes band column head foot k) (drop_next lines k line within here)

  pub notes_next : (band : SeenBand) (column : Seen) → notes_shapes band column k (drop k lines) ≡ note_shapes band column k line ++ notes_shapes band column (k + 1) (drop (k + 1) lines)
  notes_next band column = ap (notes_shapes band column k) (drop_next lines k line within here)

-- the processes, ascending: one more
module _ (shapes : ℕ → List Shape) (p : ℕ) (old now : List ℕ) (before : now ≡ old ++ drawings (for_each shapes p)) where
  pub process_next : (new : List ℕ) (some : List Shape) → some ≡ shapes p → new ≡ now ++ drawings some → new ≡ old ++ drawings (for_each shapes (p + 1))
  process_next new some are is = then_drawn old now new (for_each shapes p) some before is ∙ ap (λ s. old ++ drawings (for_each shapes p ++ s)) are ∙ ap (λ n. old ++ drawings (for_each shapes n)) (sym (add-one p))

-- the ties of an access, process by process
pub tie_next : (layout : Layout) (x : ℕ) (access : ShownAccess) (p : ℕ) (old now new : List ℕ) → now ≡ old ++ drawings (ties_to layout x access p) → new ≡ now ++ drawings (tie_to layout x access p) → new ≡ old ++ drawings (ties_to layout x access (p + 1))
tie_next layout x access p old now new before is =
    then_drawn old now new (ties_to layout x access p) (tie_to layout x access p) before is ∙ ap (λ n. old ++ drawings (ties_to layout x access n)) (sym (add-one p))
