-- The parts of a picture before and after its bands.
use Rattle.std.specs.Prelude.{◌≡◌, ℕ, List, [], Option, Some}
use Rattle.picture.specs.{page_back, page_names}
use Rattle.picture.specs.markup.{lines_in, opens_in}
use Rattle.draw.specs.Canvases.{Writes}

-- both parts have no lines; the first part begins the elements with these names, and the last part ends them
pub record IsAround (names : List (List ℕ)) (head ending : List ℕ) : Type 0 where
  pub no_head : lines_in head ≡ []
  pub begins : opens_in head (Some []) ≡ Some names
  pub no_end : lines_in ending ≡ []
  pub ends : opens_in ending (Some names) ≡ Some []

-- The part of a page after its bands was written: its slider begins with these words.
pub record EndsPage (words : List ℕ) (old new : Option (List ℕ)) : Type 0 where
  pub ending : List ℕ
  pub is : ending ≡ page_back words
  pub lines : lines_in ending ≡ []
  pub ends : opens_in ending (Some page_names) ≡ Some []
  pub writes : Writes old new ending
