-- A canvas that shows no reads: its lines do not depend on a setup, nor on entries of a record.
use Rattle.std.proofs.Common.{◌≡◌, ℕ, List, [], ◌∷◌, Option, Some, None, map, refl, subst}
use Rattle.draw.specs.{Canvas, DrawsLast, DrawsLines, DrawsOn, DrawsRest, GivesLine, OverlapsObserved, ObservesAll, Says, end_given, kept, lines_given, waiting}
use Rattle.picture.specs.picture_layout.{OverlappedRead}
use Rattle.picture.specs.declared.reads.Reads.TheVariants.{Hidden}
use Rattle.trace.specs.plain_store.{Setup}

-- any setup
some_setup : Setup
some_setup = record { version = 1; processes = 1; ticket_bits = 1; stamp_bits = 1; slots = 1; opening = [] }

-- no read waits
none_waits : (o : Option OverlapsObserved) → o ≡ None → ObservesAll Hidden some_setup [] [] o
none_waits None is = tt
none_waits (Some x) is = absurd (cc)

-- and no read is shown later
hides_on : (o : Option OverlapsObserved) (reads : List OverlappedRead) → ObservesAll Hidden some_setup [] reads o → o ≡ None
hides_on None reads waits = refl
hides_on (Some x) reads waits = absurd waits

-- the items of lines have no reads before them
pub alone : (source at : ℕ) (lines : List Says) → lines_given Hidden source at [] lines ≡ map (GivesLine source at) lines
alone source at [] = refl
alone source at (line ∷ lines) = refl

module _ (had : Canvas) (a b : Option (List ℕ)) (source at : ℕ) (hides : had.overlaps ≡ None) where
  -- lines are drawn
  pub lines_on : (lines : List Says) (has : Canvas) → DrawsLines had has a b source at lines → DrawsOn (kept had) (kept has) a b (map (GivesLine source at) lines) × (has.overlaps ≡ None)
  lines_on lines has draws =
      let drawn = draws Hidden some_setup [] [] (none_waits had.overlaps hides) in
      (subst (DrawsOn (kept had) (kept has) a b) (alone source at lines) drawn.0, hides_on has.overlaps (waiting lines []) drawn.1)

  -- the end is drawn
  pub last_on : (reported : List ℕ) (last : Says) (height : ℕ) → DrawsLast had a b source at reported last height → DrawsRest (kept had) a b (end_given Hidden source at [] reported last) height
  last_on reported last height draws = draws Hidden some_setup [] [] (none_waits had.overlaps hides)
