-- A reply equals itself.
use Rattle.std.proofs.Common.{◌≡◌, true, refl, arith}
use Rattle.std.proofs.lemmas.Bool.Decides.{nat_tests}
use Rattle.plain_store.specs.{Reply}
use Rattle.plain_store.specs.declared.Reply.TheVariants as reply
use Rattle.plain_store.proofs.Changes.{same_value-Decides}
use Rattle.any_lock.specs.{same_reply}

pub same_as_itself : (r : Reply) → same_reply r r ≡ true
same_as_itself (reply.Value x) = (same_value-Decides x x).1 refl
same_as_itself (reply.Sum n) = grind arith
same_as_itself (reply.Kept x) = (same_value-Decides x x).1 refl
same_as_itself (reply.Last n) = grind (arith, nat_tests)
same_as_itself _ = refl
