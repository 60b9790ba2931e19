-- How a verdict is printed.
use Rattle.std.specs.Prelude.{ℕ, List, ◌++◌, codes}
use Rattle.std.specs.Fmt.{decimal}
use Rattle.call_check.specs.declared.verdicts.Weighed.{Weighed}
use Rattle.call_check.specs.declared.verdicts.Weighed.TheVariants.{Good, Bad, BadEnd}

-- the verdict
abbrev pub verdict_text : Weighed → List ℕ
verdict_text Good = codes "good"
verdict_text (Bad port call) = codes "bad " ++ decimal port ++ codes " " ++ decimal call
verdict_text BadEnd = codes "bad end"
