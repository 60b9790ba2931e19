-- Weighing finds one thing alone.
use Rattle.std.specs.Prelude.{◌≡◌, List}
use Rattle.plain_store.specs.{Contents, Setup}
use Rattle.model.specs.{Placed}
use Rattle.call_check.specs.declared.verdicts.Weighed.{Weighed}
use Rattle.call_check.specs.Weighing.{IsWeighed}

-- There is at most one verdict for lists and an image.
abbrev pub VerdictIsOne : Type 0
VerdictIsOne = (s : Setup) (lists : List (List Placed)) (image : Contents) (one other : Weighed) → IsWeighed s lists image one → IsWeighed s lists image other → one ≡ other
