-- Two verdicts on equal lists are equal.
use Rattle.std.proofs.Common.{◌≡◌, inl, inr, ℕ, suc, ◌<◌, ◌≤◌, List, Some, None, refl, sym, ap, subst, ◌∙◌, arith}
use Rattle.plain_store.specs.{Contents, Setup}
use Rattle.call_check.specs.{Call, IsEnd, IsLowestBad, IsVerdict, VerdictIsOne, Weighed, all_calls, store_at, store_below}
use Rattle.model.specs.{Placed}
use Rattle.call_check.specs.declared.verdicts.Weighed.TheVariants.{Good, Bad, BadEnd}
use Rattle.call_check.proofs.Orders.{not_below}
use Rattle.call_check.proofs.StoresInTurn.{store_is, stores_before}

-- no stores end later than others
ends_first : (s : Setup) (calls : List Call) (c d : ℕ) (first second : Contents) → IsEnd s calls c first → IsEnd s calls d second → d ≤ c
ends_first s calls c d first second one other =
    not_below c d (λ lt. let there : store_at s calls (suc c) ≡ Some (store_below s calls (suc c)) = stores_before s calls d (suc c) second other.last (omega arith) in let over : store_at s calls (suc c) ≡ None = one.ends in cc)

-- the lowest bad call is one
lowest_is : (s : Setup) (lists : List (List Placed)) (c : ℕ) (store : Contents) (p i q j : ℕ) → IsLowestBad s lists c store p i → IsLowestBad s lists c store q j → (p ≡ q) × (i ≡ j)
lowest_is s lists c store p i q j one other = (ports, omega (arith, not_below i j after, not_below j i before))
  where
    low : p ≤ q
    low = not_below q p (λ lt. one.lowest q j (inl lt) other.bad)

    high : q ≤ p
    high = not_below p q (λ lt. other.lowest p i (inl lt) one.bad)

    ports : p ≡ q
    ports = omega (arith, low, high)

    after : i < j → ⊥
    after lt = other.lowest p i (inr (ports, lt)) one.bad

    before : j < i → ⊥
    before lt = one.lowest q j (inr (sym ports, lt)) other.bad

same_verdict : (s : Setup) (lists : List (List Placed)) (image : Contents) (c : ℕ) (store : Contents) (one other : Weighed) → IsVerdict s lists image c store one → IsVerdict s lists image c store other → one ≡ other
same_verdict s lists image c store Good Good a b = refl
same_verdict s lists image c store Good BadEnd a b = absurd (b.1 a.1)
same_verdict s lists image c store Good (Bad q j) a b = absurd (a.0 q j b.bad)
same_verdict s lists image c store BadEnd Good a b = absurd (a.1 b.1)
same_verdict s lists image c store BadEnd BadEnd a b = refl
same_verdict s lists image c store BadEnd (Bad q j) a b = absurd (a.0 q j b.bad)
same_verdict s lists image c store (Bad p i) Good a b = absurd (b.0 p i a.bad)
same_verdict s lists image c store (Bad p i) BadEnd a b = absurd (b.0 p i a.bad)
same_verdict s lists image c store (Bad p i) (Bad q j) a b = let same = lowest_is s lists c store p i q j a b in λ k. Bad (same.0 k) (same.1 k)

pub verdict_is_one : VerdictIsOne
verdict_is_one s lists image one other first second =
    let low : second.c ≤ first.c = ends_first s (all_calls lists) first.c second.c first.store second.store first.end second.end in
    let high : first.c ≤ second.c = ends_first s (all_calls lists) second.c first.c second.store first.store second.end first.end in
    let same : second.c ≡ first.c = omega (arith, low, high) in
    let stores : second.store ≡ first.store = store_is s (all_calls lists) second.c second.store second.end.last ∙ ap (λ (k : ℕ). store_below s (all_calls lists) k) same ∙ sym (store_is s (all_calls lists) first.c first.store first.end.last) in
    same_verdict s lists image first.c first.store one other first.verdict
    (subst (λ (k : ℕ). IsVerdict s lists image k first.store other) same (subst (λ (st : Contents). IsVerdict s lists image second.c st other) stores second.verdict))
