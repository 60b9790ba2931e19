-- What a successful call adds to markup.
use Rattle.std.specs.Prelude.{◌≡◌, ◌++◌, ℕ, List, Option, Result, IfOk, OnOk, flat_map}
use Rattle.picture_layout.specs.{Column, seen_accesses, reported_in}
use Rattle.markup.specs.{Shape, drawings, reading, with_begun, with_lines}
use Rattle.picture.specs.Bandings.{framed}
use Rattle.picture.specs.Drawings.{seen_band}
use Rattle.picture.specs.Pages.{lines_of_band}
use Rattle.picture.specs.Verdicts.{height_with, judged_shapes}
use Rattle.picture.specs.declared.bands.Band.{Band}
use Rattle.picture.specs.declared.page.Form.{Form}
use Rattle.picture.specs.declared.page.Page.{Page}

module _ {A E : Type 0} where
  -- these shapes
  abbrev pub Draws : Result A E → List ℕ → List ℕ → List Shape → Type 0
  Draws result old new shapes = OnOk result (new ≡ old ++ drawings shapes)

  -- marks with these lines as their titles
  abbrev pub ReportsLines : Result A E → List ℕ → List ℕ → List (List ℕ) → Type 0
  ReportsLines result old new lines = OnOk result (reading new ≡ with_lines lines (reading old))

  -- an element that remains open
  abbrev pub Begins : Result A E → List ℕ → List ℕ → List ℕ → Type 0
  Begins result old new tag = OnOk result (reading new ≡ with_begun tag (reading old))

-- the lines that some columns show
abbrev pub all_reported : List Column → List (List ℕ)
all_reported columns = flat_map reported_in columns

-- these lines are those of the band that the call returns, if it returns one, and then those that are kept
abbrev pub GivesLines : {E : Type 0} → Result (Option (List ℕ)) E → List (List ℕ) → List (List ℕ) → Type 0
GivesLines result kept lines = IfOk result (λ full. lines_of_band full ++ kept ≡ lines)

-- a band is drawn in its frame, with its verdict
abbrev pub FramesBand : {E : Type 0} → Result (List ℕ) E → Form → Page → Band → Type 0
FramesBand result form page band =
    IfOk result (λ markup. markup ≡ framed form page.bands page.height (height_with band.verdict band.layout.height) (drawings (judged_shapes band.verdict (seen_band band) (seen_accesses page.accesses))))
