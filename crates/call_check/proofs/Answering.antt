-- Calls in their order, each answered by the store after those before it.
use Rattle.std.proofs.Common.{◌≡◌, ◌⊎◌, inl, inr, ℕ, ◌≤◌, true, false, List, [], ◌∷◌, ◌++◌, length, Option, Some, None, refl, sym, ap, subst, ◌∙◌, arith, eqb-true}
use Rattle.std.specs.List.{All}
use Rattle.std.proofs.lemmas.List.Elements.{All-head, All-tail}
use Rattle.plain_store.specs.{Answer, Contents, Setup, after, changes}
use Rattle.plain_store.specs.declared.Answer.TheVariants.{Reply, TicketsFull, StampsFull, Withdrawn}
use Rattle.plain_store.specs.declared.Reply.{Reply as AReply}
use Rattle.call_check.specs.{AreAnsweredFrom, Call, IsAnsweredBy, caller_of, fits_place, is_place, store_through}
use Rattle.call_check.proofs.Quiet.{quiet_leaves}

-- the place that a test finds
pub place_from : (k : ℕ) (place : Option ℕ) → is_place k place ≡ true → place ≡ Some k
place_from k None is = absurd (cc)
place_from k (Some m) is = ap Some (eqb-true m k is)

-- the answer of a call with a place
pub answered_from : (reply : AReply) (place : Option ℕ) (k : ℕ) (answer : Option Answer) → place ≡ Some k → fits_place place answer ≡ true → ((own : AReply) → answer ≡ Some (Reply own) → own ≡ reply) → (answer ≡ None) ⊎ (answer ≡ Some (Reply reply))
answered_from reply place k None at fits own = inl refl
answered_from reply place k (Some (Reply r)) at fits own = inr (ap (λ r. Some (Reply r)) (own r refl))
answered_from reply (Some m) k (Some (TicketsFull process)) at fits own = absurd (cc)
answered_from reply (Some m) k (Some StampsFull) at fits own = absurd (cc)
answered_from reply (Some m) k (Some Withdrawn) at fits own = absurd (cc)
answered_from reply None k (Some (TicketsFull process)) at fits own = absurd (cc)
answered_from reply None k (Some StampsFull) at fits own = absurd (cc)
answered_from reply None k (Some Withdrawn) at fits own = absurd (cc)

module _ (s : Setup) where
  pub through_append : (store : Contents) (xs ys : List Call) → store_through s store (xs ++ ys) ≡ store_through s (store_through s store xs) ys
  through_append store [] ys = refl
  through_append store (x ∷ xs) ys = through_append (after store x.placed.command (caller_of s x)) xs ys

  pub answered_append : (store : Contents) (xs ys : List Call) → AreAnsweredFrom s store xs → AreAnsweredFrom s (store_through s store xs) ys → AreAnsweredFrom s store (xs ++ ys)
  answered_append store [] ys first rest = rest
  answered_append store (x ∷ xs) ys first rest = (first.0, answered_append (after store x.placed.command (caller_of s x)) xs ys first.1 rest)

  -- calls that change nothing leave the store
  pub quiet_through : (store : Contents) (xs : List Call) → All (λ (call : Call). changes store call.placed.command ≡ false) xs → store_through s store xs ≡ store
  quiet_through store [] quiet = refl
  quiet_through store (x ∷ xs) quiet =
      let same : after store x.placed.command (caller_of s x) ≡ store = quiet_leaves store x.placed.command (caller_of s x) (All-head (λ (call : Call). changes store call.placed.command ≡ false) x xs quiet) in
      ap (λ (st : Contents). store_through s st xs) same ∙ quiet_through store xs (All-tail (λ (call : Call). changes store call.placed.command ≡ false) x xs quiet)

  -- the store answers all of them
  pub quiet_answered : (store : Contents) (xs : List Call) → All (λ (call : Call). changes store call.placed.command ≡ false) xs → All (IsAnsweredBy s store) xs → AreAnsweredFrom s store xs
  quiet_answered store [] quiet answered = tt
  quiet_answered store (x ∷ xs) quiet answered =
      let same : after store x.placed.command (caller_of s x) ≡ store = quiet_leaves store x.placed.command (caller_of s x) (All-head (λ (call : Call). changes store call.placed.command ≡ false) x xs quiet) in (
        All-head (IsAnsweredBy s store) x xs answered,
        subst (λ (st : Contents). AreAnsweredFrom s st xs) (sym same) (quiet_answered store xs (All-tail (λ (call : Call). changes store call.placed.command ≡ false) x xs quiet) (All-tail (IsAnsweredBy s store) x xs answered)),
      )

  -- at most one call
  pub one_answered : (store : Contents) (xs : List Call) → length xs ≤ 1 → All (IsAnsweredBy s store) xs → AreAnsweredFrom s store xs
  one_answered store [] one answered = tt
  one_answered store (x ∷ []) one answered = (All-head (IsAnsweredBy s store) x [] answered, tt)
  one_answered store (x ∷ y ∷ ys) one answered = absurd (omega arith)
