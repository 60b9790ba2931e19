-- The words of a store that is empty, or not.
use Rattle.std.proofs.Common.{◌≡◌, ℕ, List, [], ◌∷◌, length, refl, arith}
use Rattle.model.specs.plain_store.{Pair, store_words}
use Rattle.draw.specs.{words_by}

pub words_none : (pairs : List Pair) → length pairs ≡ 0 → [] ≡ words_by pairs
words_none [] none = refl
words_none (pair ∷ pairs) none = absurd (omega (arith, none))

pub words_some : (pairs : List Pair) (words : List ℕ) → (length pairs ≡ 0 → ⊥) → words ≡ store_words pairs → words ≡ words_by pairs
words_some [] words some is = absurd (some refl)
words_some (pair ∷ pairs) words some is = is
