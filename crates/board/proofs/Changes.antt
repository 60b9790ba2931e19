-- The changes alone make the same store as the history.
use Rattle.std.proofs.Common.{◌≡◌, ℕ, zero, suc, Bool, true, false, cond, List, [], ◌∷◌, ◌++◌, take, fold, refl, sym, ap, ◌∙◌}
use Rattle.plain_store.specs.{Contents, Setup, changes, opening_store}
use Rattle.model.specs.{Past, Taken, count_changes, history, store_after}
use Rattle.history_laws.proofs.CountedChanges.{then}
use Rattle.history_laws.proofs.Sounding.{after_is_same}
use Rattle.board.specs.{changes_of, changing, store_at}

-- a command that changes nothing leaves the store, including its call numbers
same-then : (store : Contents) (t : Taken) → changes store t.command ≡ false → then store t ≡ store
same-then store t h = after_is_same store t.command (record { process = t.process; number = t.number }) h

-- the changes before a position of the history are the first ones
pub changes_before : (store : Contents) (taken : List Taken) (k : ℕ) → take (count_changes store (take k taken)) (changing store taken) ≡ changing store (take k taken)
changes_before store [] zero = refl
changes_before store [] (suc k) = refl
changes_before store (t ∷ taken) zero = refl
changes_before store (t ∷ taken) (suc k) = by (changes store t.command) (changes_before (then store t) taken k)
  where
    n : ℕ
    n = count_changes (then store t) (take k taken)

    rest : List Taken
    rest = changing (then store t) taken

    by : (b : Bool) → take n rest ≡ changing (then store t) (take k taken) → take (cond b (suc n) n) (cond b (t ∷ rest) rest) ≡ cond b (t ∷ changing (then store t) (take k taken)) (changing (then store t) (take k taken))
    by true h = ap (λ (l : List Taken). t ∷ l) h
    by false h = h

-- the store after the changes of some commands is the store after them
pub changes_store : (store : Contents) (taken : List Taken) → fold then store (changing store taken) ≡ fold then store taken
changes_store store [] = refl
changes_store store (t ∷ taken) = by (changes store t.command) refl (changes_store (then store t) taken)
  where
    rest : List Taken
    rest = changing (then store t) taken

    by : (b : Bool) → changes store t.command ≡ b → fold then (then store t) rest ≡ fold then (then store t) taken → fold then store (cond b (t ∷ rest) rest) ≡ fold then (then store t) taken
    by true h more = more
    by false h more = ap (λ (x : Contents). fold then x rest) (sym (same-then store t h)) ∙ more

-- one more command adds one change, or none
pub changing-push : (store : Contents) (taken : List Taken) (t : Taken) → changing store (taken ++ t ∷ []) ≡ changing store taken ++ cond (changes (fold then store taken) t.command) (t ∷ []) []
changing-push store [] t = refl
changing-push store (x ∷ taken) t = by (changes store x.command) (changing-push (then store x) taken t)
  where
    all : List Taken
    all = changing (then store x) (taken ++ t ∷ [])

    first : List Taken
    first = changing (then store x) taken

    last : List Taken
    last = cond (changes (fold then (then store x) taken) t.command) (t ∷ []) []

    by : (b : Bool) → all ≡ first ++ last → cond b (x ∷ all) all ≡ cond b (x ∷ first) first ++ last
    by true h = ap (λ (l : List Taken). x ∷ l) h
    by false h = h

-- The store at a position.

pub store_of_changes : (s : Setup) (past : Past) → store_after s (changes_of s past) ≡ store_after s (history s past)
store_of_changes s past = changes_store (opening_store s) (history s past)

pub store_at_place : (s : Setup) (past : Past) (k : ℕ) → store_at s (changes_of s past) (count_changes (opening_store s) (take k (history s past))) ≡ store_after s (take k (history s past))
store_at_place s past k = ap (store_after s) (changes_before (opening_store s) (history s past) k) ∙ changes_store (opening_store s) (take k (history s past))
