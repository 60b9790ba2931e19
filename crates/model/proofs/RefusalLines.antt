-- The line of a refusal as `format!` puts it together.
use Rattle.std.proofs.Common.{◌≡◌, ℕ, ◌++◌, codes, append_assoc}
use Rattle.std.specs.Fmt.{decimal}
use Rattle.model.specs.{Refusal, refusal_line, refusal_text}

pub refusal_line_is : (p : ℕ) (refusal : Refusal) → codes "- " ++ (decimal p ++ (codes " refused " ++ (refusal_text refusal ++ codes "\n"))) ≡ refusal_line p refusal
refusal_line_is p refusal = simp append_assoc
