-- The versions count the changes of the history.
use Rattle.std.proofs.Common.{◌≡◌, ℕ, suc, ◌+◌, Bool, true, false, cond, List, [], ◌∷◌, ◌++◌, Option, None, Some, fold, refl, sym, ap, ◌∙◌, arith}
use Rattle.std.proofs.lemmas.List.Sums.{fold-append}
use Rattle.plain_store.specs.{Contents, Reply, Setup, after, changes, opening_store}
use Rattle.model.specs.{Entry, Past, Taken, count_changes, history, last_call, own, reply_taken, store_after}
use Rattle.history_laws.proofs.Sounding.{after_is_same}
use Rattle.history_laws.proofs.Versions.{Versions, committed, is_change, store_of, versions}

-- the store after one command more
abbrev pub then : Contents → Taken → Contents
then store t = after store t.command (record { process = t.process; number = t.number })

-- one command more is one change more, or none
count_more : (store : Contents) (taken : List Taken) (t : Taken) → count_changes store (taken ++ t ∷ []) ≡ cond (changes (fold then store taken) t.command) (count_changes store taken + 1) (count_changes store taken)
count_more store [] t = go (changes store t.command)
  where
    go : (b : Bool) → cond b 1 0 ≡ cond b (0 + 1) 0
    go true = omega arith
    go false = refl
count_more store (x ∷ taken) t =
    (λ i. cond (changes store x.command) (suc (count_more (then store x) taken t i)) (count_more (then store x) taken t i))
    ∙ go (changes store x.command) (changes (fold then (then store x) taken) t.command) (count_changes (then store x) taken)
  where
    go : (b d : Bool) (n : ℕ) → cond b (suc (cond d (n + 1) n)) (cond d (n + 1) n) ≡ cond d (cond b (suc n) n + 1) (cond b (suc n) n)
    go true true n = omega arith
    go _ _ n = refl

-- the element that an entry's command adds to the history
abbrev pub taken_at : Setup → Past → Entry → Reply → Taken
taken_at s past e r =
    let c = last_call s e.process (own e.process past) in
    record { process = e.process; command = c.command; reply = r; number = c.number }

-- An entry that takes a command.

pub history-takes : (s : Setup) (past : Past) (e : Entry) (r : Reply) → reply_taken e.marks ≡ Some r → history s (e ∷ past) ≡ history s past ++ taken_at s past e r ∷ []
history-takes s past e r h = ap (λ o. elim o as (λ _. List Taken) [ None ↦ history s past | Some r ↦ history s past ++ taken_at s past e r ∷ [] ]) h

pub versions-takes : (s : Setup) (past : Past) (e : Entry) (r : Reply) → reply_taken e.marks ≡ Some r → versions s (e ∷ past) ≡ cond (is_change s past e) (committed e.process (versions s past)) (versions s past)
versions-takes s past e r h = ap (λ o. elim o as (λ _. Versions) [ None ↦ versions s past | Some r ↦ cond (is_change s past e) (committed e.process (versions s past)) (versions s past) ]) h

-- the store after it
pub store-takes : (s : Setup) (past : Past) (e : Entry) (r : Reply) → reply_taken e.marks ≡ Some r → store_of s (e ∷ past) ≡ then (store_of s past) (taken_at s past e r)
store-takes s past e r h = ap (store_after s) (history-takes s past e r h) ∙ fold-append then (opening_store s) (history s past) (taken_at s past e r ∷ [])

-- An entry that takes none.

pub history-none : (s : Setup) (past : Past) (e : Entry) → reply_taken e.marks ≡ None → history s (e ∷ past) ≡ history s past
history-none s past e h = ap (λ o. elim o as (λ _. List Taken) [ None ↦ history s past | Some r ↦ history s past ++ taken_at s past e r ∷ [] ]) h

pub versions-none : (s : Setup) (past : Past) (e : Entry) → reply_taken e.marks ≡ None → versions s (e ∷ past) ≡ versions s past
versions-none s past e h = ap (λ o. elim o as (λ _. Versions) [ None ↦ versions s past | Some r ↦ cond (is_change s past e) (committed e.process (versions s past)) (versions s past) ]) h

-- One that takes a command that changes nothing leaves versions and store as they are.

pub versions-unchanged : (s : Setup) (past : Past) (e : Entry) (r : Reply) → reply_taken e.marks ≡ Some r → is_change s past e ≡ false → versions s (e ∷ past) ≡ versions s past
versions-unchanged s past e r h same = versions-takes s past e r h ∙ ap (λ b. cond b (committed e.process (versions s past)) (versions s past)) same

pub store-unchanged : (s : Setup) (past : Past) (e : Entry) (r : Reply) → reply_taken e.marks ≡ Some r → is_change s past e ≡ false → store_of s (e ∷ past) ≡ store_of s past
store-unchanged s past e r h same = store-takes s past e r h ∙ after_is_same (store_of s past) (taken_at s past e r).command _ same

-- the versions count the changes
pub count_is : (s : Setup) (past : Past) → (versions s past).count ≡ count_changes (opening_store s) (history s past)
count_is s [] = refl
count_is s (e ∷ past) = go (reply_taken e.marks) refl (count_is s past)
  where
    go : (o : Option Reply) → reply_taken e.marks ≡ o → (versions s past).count ≡ count_changes (opening_store s) (history s past) → (versions s (e ∷ past)).count ≡ count_changes (opening_store s) (history s (e ∷ past))
    go None h so_far = ap (λ (v : Versions). v.count) (versions-none s past e h) ∙ so_far ∙ sym (ap (count_changes (opening_store s)) (history-none s past e h))
    go (Some r) h so_far =
        ap (λ (v : Versions). v.count) (versions-takes s past e r h)
        ∙ one (is_change s past e)
        ∙ sym (count_more (opening_store s) (history s past) (taken_at s past e r))
        ∙ sym (ap (count_changes (opening_store s)) (history-takes s past e r h))
      where
        one : (b : Bool) → (cond b (committed e.process (versions s past)) (versions s past)).count ≡ cond b (count_changes (opening_store s) (history s past) + 1) (count_changes (opening_store s) (history s past))
        one true = ap (λ n. n + 1) so_far
        one false = so_far
