-- The command line is simple, and no argument has a rule on another: each is looked at once.
use Rattle.std.proofs.Common.{refl, ap, ◌∙◌, ◌&&◌, ◌≡◌, true}
use Rattle.clap.specs.Faults.{is_free_app}
use Rattle.clap.specs.Words.{built, is_simple, is_simple_and_free}
use Rattle.command_line.specs.{bakery}

pub bakery_is_simple : is_simple bakery ≡ true
bakery_is_simple = refl

built_is_free : is_free_app (built bakery) ≡ true
built_is_free = refl

pub bakery_is_free : is_simple_and_free bakery ≡ true
bakery_is_free = ap (λ b. b && is_free_app (built bakery)) bakery_is_simple ∙ built_is_free
