-- Entries that keep all laws: each call takes one command at most.
use Rattle.std.proofs.Common.{◌≡◌, ◌≢◌, ℕ, ◌<◌, ◌==◌, Bool, true, false, cond, List, [], ◌∷◌, ◌++◌, Option, None, Some, length, refl, sym, ap, ◌∙◌, subst, arith, ◌⊎◌, inl, inr}
use Rattle.std.specs.List.{list_any}
use Rattle.std.proofs.lemmas.Bool.{cases_eq}
use Rattle.plain_store.specs.{Reply, Setup}
use Rattle.model.specs.{CallsTakeOnce, Entry, Past, all_takings, entries_of_call, has, is_called, own, since, until}
use Rattle.any_lock.specs.{its_call, reply_in}
use Rattle.any_lock.proofs.Alone.{AllKeep}
use Rattle.any_lock.proofs.Cuts.{own-other}
use Rattle.any_lock.proofs.Markings.{or_left, or_right}
use Rattle.any_lock.proofs.Steps.{own-mine}
use Rattle.any_lock.proofs.Took.{Takes, all_take}

takes_few : (o : Option Reply) (ts : List (ℕ × Reply)) → Takes o ts → length ts < 2
takes_few None ts is = subst (λ (l : List (ℕ × Reply)). length l < 2) (sym is) (omega arith)
takes_few (Some r) ts is = subst (λ (l : List (ℕ × Reply)). length l < 2) (sym is.1) (omega arith)

-- the entries since a call, if no other call has begun
since_stop : (l : Past) (x : Entry) (rest : Past) → list_any (has is_called) l ≡ false → has is_called x ≡ true → since is_called (l ++ x ∷ rest) ≡ l
since_stop [] x rest none called = ap (λ b. elim b as (λ _. Past) [ true ↦ [] | false ↦ x ∷ since is_called rest ]) called
since_stop (e ∷ l) x rest none called =
    ap (λ b. elim b as (λ _. Past) [ true ↦ [] | false ↦ e ∷ since is_called (l ++ x ∷ rest) ]) (or_left (has is_called e) (list_any (has is_called) l) none)
    ∙ ap (λ (y : Past). e ∷ y) (since_stop l x rest (or_right (has is_called e) (list_any (has is_called) l) none) called)

pub own-append : (p : ℕ) (a b : Past) → own p (a ++ b) ≡ own p a ++ own p b
own-append p [] b = refl
own-append p (e ∷ a) b = by (e.process == p) (own-append p a b)
  where
    by : (t : Bool) → own p (a ++ b) ≡ own p a ++ own p b → cond t (e ∷ own p (a ++ b)) (own p (a ++ b)) ≡ cond t (e ∷ own p a) (own p a) ++ own p b
    by true more = ap (λ (l : Past). e ∷ l) more
    by false more = more

-- the entries of a call, if no other call has begun
its-call : (p : ℕ) (later earlier : Past) (x : Entry) → x.process ≡ p → list_any (has is_called) (own p later) ≡ false → has is_called x ≡ true → its_call p (later ++ x ∷ earlier) ≡ own p later
its-call p later earlier x mine none called =
    ap (since is_called) (own-append p later (x ∷ earlier) ∙ ap (λ (l : Past). own p later ++ l) (own-mine p x earlier mine))
    ∙ since_stop (own p later) x (own p earlier) none called

few_in_call : (s : Setup) (later earlier : Past) (x : Entry) → AllKeep s (later ++ x ∷ earlier) → has is_called x ≡ true → length (all_takings (entries_of_call x.process later)) < 2
few_in_call s [] earlier x all called = omega arith
few_in_call s (e ∷ later) earlier x all called = go (cases_eq e.process x.process) (few_in_call s later earlier x all.1 called)
  where
    p : ℕ
    p = x.process

    whole : length (all_takings (entries_of_call p later)) < 2 → (b : Bool) → list_any (has is_called) (e ∷ own p later) ≡ b → e.process ≡ p →
        length (all_takings (elim b as (λ _. Past) [ true ↦ until is_called (own p later) | false ↦ e ∷ own p later ])) < 2
    whole before true some mine = before
    whole before false none mine =
        let mine_too : own p (e ∷ later) ≡ e ∷ own p later = own-mine p e later mine in
        let call : its_call p ((e ∷ later) ++ x ∷ earlier) ≡ e ∷ own p later =
        its-call p (e ∷ later) earlier x refl (ap (list_any (has is_called)) mine_too ∙ none) called ∙ mine_too in
        subst (λ (l : Past). length (all_takings l) < 2) call
        (takes_few (reply_in (its_call p ((e ∷ later) ++ x ∷ earlier))) (all_takings (its_call p ((e ∷ later) ++ x ∷ earlier))) (all_take s ((e ∷ later) ++ x ∷ earlier) all p))

    go : (e.process ≡ x.process) ⊎ (e.process ≢ x.process) → length (all_takings (entries_of_call x.process later)) < 2 → length (all_takings (entries_of_call x.process (e ∷ later))) < 2
    go (inl same) before =
        subst (λ (l : Past). length (all_takings (until is_called l)) < 2) (sym (own-mine x.process e later same))
        (whole before (list_any (has is_called) (e ∷ own p later)) refl same)
    go (inr apart) before = subst (λ (l : Past). length (all_takings (until is_called l)) < 2) (sym (own-other x.process e later apart)) before

pub calls_take_once : (s : Setup) (past : Past) → AllKeep s past → CallsTakeOnce past
calls_take_once s past all later earlier e splits called = few_in_call s later earlier e (subst (AllKeep s) splits all) called
