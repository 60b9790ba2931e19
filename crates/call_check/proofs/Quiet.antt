-- A command that would not change the store leaves it as it is.
use Rattle.std.proofs.Common.{◌≡◌, ℕ, Bool, true, false, not, List, Option, Some, None, refl}
use Rattle.plain_store.specs.{Caller, Command, Contents, Pair, Value, after, changes, is_new, name_of, outcome_in, pairs_after, same_value, value_at, value_for, with_written}
use Rattle.plain_store.proofs.Changes.{put-same, same_value-Decides}

-- a write that is not new leaves the pairs
kept_pairs : (pairs : List Pair) (name : Option (List ℕ)) (written : Option Value) → is_new (value_for pairs name) written ≡ false → with_written pairs name written ≡ pairs
kept_pairs pairs None None old = refl
kept_pairs pairs None (Some x) old = refl
kept_pairs pairs (Some name) None old = refl
kept_pairs pairs (Some name) (Some x) old = by (value_at pairs name) refl old
  where
    at : (v : Value) (b : Bool) → same_value v x ≡ b → not b ≡ false → v ≡ x
    at v true same is = (same_value-Decides v x).0 same
    at v false same is = absurd (cc)

    by : (o : Option Value) → value_at pairs name ≡ o → is_new o (Some x) ≡ false → with_written pairs (Some name) (Some x) ≡ pairs
    by None there is = absurd (cc)
    by (Some v) there is = let same : v ≡ x = at v (same_value v x) refl is in put-same pairs name x (cc)

-- a command that changes nothing leaves the store
pub quiet_leaves : (store : Contents) (command : Command) (caller : Caller) → changes store command ≡ false → after store command caller ≡ store
quiet_leaves store command caller quiet =
    let pairs : pairs_after store command ≡ store.pairs = kept_pairs store.pairs (name_of command) (outcome_in store command 0).written quiet in
    rw (pairs, quiet) refl
