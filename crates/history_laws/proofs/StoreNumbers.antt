-- The store keeps the number of each process's latest change. So it shows whether a change with a given number was taken.
use Rattle.std.proofs.Common.{◌≡◌, ◌≢◌, ◌⊎◌, ℕ, zero, suc, ◌<◌, ◌==◌, ◌&&◌, ◌||◌, nat_lt, Bool, true, false, cond, List, [], ◌∷◌, ◌++◌, Some, fold, length, set, slice_get, refl, sym, ap, subst, ◌∙◌, arith, inl, inr, eqb-true}
use Rattle.std.proofs.lemmas.Bool.{eqb-false}
use Rattle.std.proofs.lemmas.Bool.Decides.{nat_tests}
use Rattle.std.proofs.lemmas.List.{get_or-set_same, get_or-set_other, length-set}
use Rattle.plain_store.specs.{Contents, changes, number_of}
use Rattle.model.specs.{Taken, has_change, latest_change}
use Rattle.history_laws.proofs.CountedChanges.{then}

-- Numbers.

-- a command of a process whose number a store of n callers keeps, or of number 0
abbrev pub IsKept : ℕ → Taken → Type 0
IsKept n t = (t.process < n) ⊎ (t.number ≡ 0)

zero-set : (numbers : List ℕ) (p : ℕ) → number_of (set numbers p 0) p ≡ 0
zero-set [] p = refl
zero-set (x ∷ numbers) zero = refl
zero-set (x ∷ numbers) (suc p) = zero-set numbers p

number-set : (numbers : List ℕ) (p n : ℕ) → (p < length numbers) ⊎ (n ≡ 0) → number_of (set numbers p n) p ≡ n
number-set numbers p n (inl below) = get_or-set_same numbers p n 0 below
number-set numbers p n (inr none) = ap (λ m. number_of (set numbers p m) p) none ∙ zero-set numbers p ∙ sym none

-- after a number is set
number-after : (numbers : List ℕ) (p q n : ℕ) → (p < length numbers) ⊎ (n ≡ 0) → number_of (set numbers p n) q ≡ cond (p == q) n (number_of numbers q)
number-after numbers p q n h = go (p == q) refl
  where
    go : (b : Bool) → (p == q) ≡ b → number_of (set numbers p n) q ≡ cond b n (number_of numbers q)
    go true i = subst (λ r. number_of (set numbers p n) r ≡ n) (eqb-true p q i) (number-set numbers p n h)
    go false i = get_or-set_other numbers p q n 0 (λ same. eqb-false p q i (sym same))

-- after one command more: the number of its call, if it is a change of this process
number-then : (p : ℕ) (store : Contents) (t : Taken) → IsKept (length store.numbers) t →
    number_of (then store t).numbers p ≡ cond ((t.process == p) && changes store t.command) t.number (number_of store.numbers p)
number-then p store t h = go (changes store t.command)
  where
    last : ℕ
    last = number_of store.numbers p

    set-by : (b : Bool) → cond b t.number last ≡ cond (b && true) t.number last
    set-by true = refl
    set-by false = refl

    same-by : (b : Bool) → last ≡ cond (b && false) t.number last
    same-by true = refl
    same-by false = refl

    go : (d : Bool) → number_of (cond d (set store.numbers t.process t.number) store.numbers) p ≡ cond ((t.process == p) && d) t.number last
    go true = number-after store.numbers t.process p t.number h ∙ set-by (t.process == p)
    go false = same-by (t.process == p)

length-then : (store : Contents) (t : Taken) → length (then store t).numbers ≡ length store.numbers
length-then store t = go (changes store t.command)
  where
    go : (d : Bool) → length (cond d (set store.numbers t.process t.number) store.numbers) ≡ length store.numbers
    go true = length-set store.numbers t.process t.number
    go false = refl

-- each element of a list has this property
abbrev pub Each : {X : Type 0} → (X → Type 0) → List X → Type 0
Each {X} P xs = (k : ℕ) (x : X) → slice_get xs k ≡ Some x → P x

-- The store's number of a process is that of its latest change.
pub number_is_latest : (p : ℕ) (store : Contents) (h : List Taken) → Each (IsKept (length store.numbers)) h →
    number_of (fold then store h).numbers p ≡ latest_change p store h (number_of store.numbers p)
number_is_latest p store [] kept = refl
number_is_latest p store (t ∷ h) kept =
    number_is_latest p (then store t) h (λ k u at. subst (λ n. IsKept n u) (sym (length-then store t)) (kept (suc k) u at))
    ∙ ap (latest_change p (then store t) h) (number-then p store t (kept 0 t refl))

-- Changes among commands.

-- a command is a change of p whose number passes the test
abbrev is_hit : ℕ → (ℕ → Bool) → Contents → Taken → Bool
is_hit p test store t = (t.process == p) && test t.number && changes store t.command

neither : (a b : Bool) → (a || b) ≡ false → (a ≡ false) × (b ≡ false)
neither true b h = cc
neither false b h = (refl, h)

-- a list after another has such a change if one of them has
pub has_change-append : (p : ℕ) (test : ℕ → Bool) (store : Contents) (h more : List Taken) →
    has_change p test store (h ++ more) ≡ (has_change p test store h || has_change p test (fold then store h) more)
has_change-append p test store [] more = refl
has_change-append p test store (t ∷ h) more =
    ap (λ b. is_hit p test store t || b) (has_change-append p test (then store t) h more) ∙ regroup (is_hit p test store t) (has_change p test (then store t) h) (has_change p test (fold then (then store t) h) more)
  where
    regroup : (a b c : Bool) → (a || (b || c)) ≡ ((a || b) || c)
    regroup true b c = refl
    regroup false b c = refl

-- if no number of p passes the test, p has no change with such a number
pub none_passes : (p : ℕ) (test : ℕ → Bool) (store : Contents) (h : List Taken) → Each (λ t. t.process ≡ p → test t.number ≡ false) h → has_change p test store h ≡ false
none_passes p test store [] fails = refl
none_passes p test store (t ∷ h) fails = λ i. hit (t.process == p) refl i || none_passes p test (then store t) h (λ k u at. fails (suc k) u at) i
  where
    hit : (b : Bool) → (t.process == p) ≡ b → is_hit p test store t ≡ false
    hit true is = λ i. is i && fails 0 t refl (eqb-true t.process p is) i && changes store t.command
    hit false is = λ i. is i && test t.number && changes store t.command

-- a change of p with a number above m
is-later : (m p : ℕ) (store : Contents) (t : Taken) → m < t.number → ((t.process == p) && changes store t.command) ≡ true → is_hit p (nat_lt m) store t ≡ true
is-later m p store t above h = go (t.process == p) (changes store t.command) (nat_lt m t.number) passes h
  where
    passes : nat_lt m t.number ≡ true
    passes = grind (arith, nat_tests)

    go : (a c b : Bool) → b ≡ true → (a && c) ≡ true → (a && b && c) ≡ true
    go true c true q h = h
    go true c false q h = cc
    go false c b q h = h

-- if all of p's numbers are above m, and p has no change with a number above m, the latest change stays
latest-stays : (m p : ℕ) (store : Contents) (h : List Taken) (last : ℕ) → Each (λ t. t.process ≡ p → m < t.number) h → has_change p (nat_lt m) store h ≡ false →
    latest_change p store h last ≡ last
latest-stays m p store [] last above none = refl
latest-stays m p store (t ∷ h) last above none =
    ap (latest_change p (then store t) h) (kept ((t.process == p) && changes store t.command) refl)
    ∙ latest-stays m p (then store t) h last (λ k u at. above (suc k) u at) ((neither (is_hit p (nat_lt m) store t) (has_change p (nat_lt m) (then store t) h) none).1)
  where
    is-p : (a b : Bool) → (a && b) ≡ true → a ≡ true
    is-p true b h = refl
    is-p false b h = h

    kept : (b : Bool) → ((t.process == p) && changes store t.command) ≡ b → cond b t.number last ≡ last
    kept true is =
        let same : t.process ≡ p = eqb-true t.process p (is-p (t.process == p) (changes store t.command) is) in
        let f : true ≡ false = sym (is-later m p store t (above 0 t refl same) is) ∙ (neither (is_hit p (nat_lt m) store t) (has_change p (nat_lt m) (then store t) h) none).0 in
        cc
    kept false is = refl

-- the numbers of each process ascend
abbrev pub Ascends : List Taken → Type 0
Ascends h = (j k : ℕ) (u t : Taken) → j < k → slice_get h j ≡ Some u → slice_get h k ≡ Some t → u.process ≡ t.process → u.number < t.number

rest-ascends : (t : Taken) (h : List Taken) → Ascends (t ∷ h) → Ascends h
rest-ascends t h up j k u v less at_j at_k same = up (suc j) (suc k) u v (omega (arith, less)) at_j at_k same

-- If p has a change with number m and none above m, its latest change has number m.
pub latest_is : (m p : ℕ) (store : Contents) (h : List Taken) (last : ℕ) → Ascends h → has_change p (nat_lt m) store h ≡ false → has_change p (λ n. n == m) store h ≡ true →
    latest_change p store h last ≡ m
latest_is m p store [] last up none h = cc
latest_is m p store (t ∷ h) last up none there =
    go (is_hit p (λ n. n == m) store t) refl there (latest_is m p (then store t) h (cond ((t.process == p) && changes store t.command) t.number last) (rest-ascends t h up) later)
  where
    later : has_change p (nat_lt m) (then store t) h ≡ false
    later = (neither (is_hit p (nat_lt m) store t) (has_change p (nat_lt m) (then store t) h) none).1

    parts : (a b c : Bool) → (a && b && c) ≡ true → (a ≡ true) × (b ≡ true) × (c ≡ true)
    parts true true true h = (refl, refl, refl)
    parts _ _ _ h = cc

    go : (b : Bool) → is_hit p (λ n. n == m) store t ≡ b → (b || has_change p (λ n. n == m) (then store t) h) ≡ true →
        let next : ℕ = latest_change p (then store t) h (cond ((t.process == p) && changes store t.command) t.number last) in
        (has_change p (λ n. n == m) (then store t) h ≡ true → next ≡ m) → next ≡ m
    go true hit i more =
        let x = parts (t.process == p) (t.number == m) (changes store t.command) hit in
        let is_m : t.number ≡ m = eqb-true t.number m x.1 in
        ap (latest_change p (then store t) h) ((λ i. cond (x.0 i && x.2 i) t.number last) ∙ is_m)
        ∙ latest-stays m p (then store t) h m
        (λ k u at same. subst (λ n. n < u.number) is_m (up 0 (suc k) t u (omega arith) refl at (eqb-true t.process p x.0 ∙ sym same)))
        later
    go false hit i more = more i

-- If its latest change has number m, and had another number before, then p has a change with number m.
pub latest_is_there : (m p : ℕ) (store : Contents) (h : List Taken) (last : ℕ) → last ≢ m → latest_change p store h last ≡ m → has_change p (λ n. n == m) store h ≡ true
latest_is_there m p store [] last apart is = absurd (apart is)
latest_is_there m p store (t ∷ h) last apart is = go (t.process == p) (changes store t.command) (t.number == m) refl is (λ l. latest_is_there m p (then store t) h l)
  where
    rest : ℕ → ℕ
    rest = latest_change p (then store t) h

    more : Bool
    more = has_change p (λ n. n == m) (then store t) h

    go : (a c b : Bool) → (t.number == m) ≡ b → rest (cond (a && c) t.number last) ≡ m → ((l : ℕ) → l ≢ m → rest l ≡ m → more ≡ true) → (a && b && c || more) ≡ true
    go true true true eq is there = refl
    go true true false eq is there = there t.number (eqb-false t.number m eq) is
    go true false true eq is there = there last apart is
    go true false false eq is there = there last apart is
    go false c b eq is there = there last apart is
