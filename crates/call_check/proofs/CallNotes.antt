-- The stores, one after another.
use Rattle.std.proofs.Common.{◌≡◌, ℕ, zero, suc, ◌+◌, ◌≤◌, cond, set, Bool, true, false, if◌then◌else◌, ◌==◌, nat_lt, List, [], ◌∷◌, length, filter, Option, None, Some, refl, sym, ap, subst, ◌∙◌, arith}
use Rattle.std.proofs.lemmas.List.{length-replicate, length-set}
use Rattle.std.proofs.lemmas.Bool.Decides.{nat_tests}
use Rattle.plain_store.specs.{Caller, Command, Contents, Setup, after, callers_of, changes, opening_store}
use Rattle.call_check.specs.{Call, after_one, caller_of, calls_at, changes_at, is_place, store_after, store_at}

-- the callers stay as many

pub callers_after : (s : Setup) (store : Contents) (command : Command) (caller : Caller) → length store.numbers ≡ callers_of s → length (after store command caller).numbers ≡ callers_of s
callers_after s store command caller size = elim (changes store command) as (λ b. length (if b then set store.numbers caller.process caller.number else store.numbers) ≡ callers_of s) [
  | true ↦ length-set store.numbers caller.process caller.number ∙ size
  | false ↦ size
]

-- a store that comes after a change

-- the change that leads from a store to the next
pub record IsNext (s : Setup) (calls : List Call) (k : ℕ) (before next : Contents) : Type 0 where
  pub call : Call
  pub sole : changes_at calls k before ≡ call ∷ []
  pub next_is : next ≡ after before call.placed.command (caller_of s call)

pub from_some : {A : Type 0} (x y : A) → Some x ≡ Some y → x ≡ y
from_some {A = A} x y same = ap (λ (o : Option A). elim o as (λ _. A) [ None ↦ x | Some z ↦ z ]) same

pub none_some : {A : Type 0} (x : A) → None ≡ Some x → ⊥
none_some {A = A} x same = subst (λ (o : Option A). elim o as (λ _. Type 0) [ None ↦ Unit {0} | Some z ↦ ⊥ ]) same tt

next_of : (s : Setup) (calls : List Call) (k : ℕ) (before next : Contents) (found : List Call) → changes_at calls k before ≡ found → after_one s before found ≡ Some next → IsNext s calls k before next
next_of s calls k before next [] is after_is = absurd (none_some next after_is)
next_of s calls k before next (call ∷ []) is after_is = record { call = call; sole = is; next_is = sym (from_some (after before call.placed.command (caller_of s call)) next after_is) }
next_of s calls k before next (x ∷ y ∷ xs) is after_is = absurd (none_some next after_is)

from_store : (s : Setup) (calls : List Call) (k : ℕ) (next : Contents) (o : Option Contents) → store_at s calls k ≡ o → store_after s calls k o ≡ Some next → (before : Contents) × (store_at s calls k ≡ Some before) × IsNext s calls k before next
from_store s calls k next None is after_is = absurd (none_some next after_is)
from_store s calls k next (Some before) is after_is = (before, is, next_of s calls k before next (changes_at calls k before) refl after_is)

pub came_from : (s : Setup) (calls : List Call) (k : ℕ) (next : Contents) → store_at s calls (suc k) ≡ Some next → (before : Contents) × (store_at s calls k ≡ Some before) × IsNext s calls k before next
came_from s calls k next is = from_store s calls k next (store_at s calls k) refl is

-- each store has the setup's callers
pub callers_of_store : (s : Setup) (calls : List Call) (k : ℕ) (store : Contents) → store_at s calls k ≡ Some store → length store.numbers ≡ callers_of s
callers_of_store s calls zero store is = subst (λ (st : Contents). length st.numbers ≡ callers_of s) (from_some (opening_store s) store is) (length-replicate {A = ℕ} (callers_of s) 0)
callers_of_store s calls (suc k) store is =
    let (before, there, next) = came_from s calls k store is in
    subst (λ (st : Contents). length st.numbers ≡ callers_of s) (sym next.next_is) (callers_after s before next.call.placed.command (caller_of s next.call) (callers_of_store s calls k before there))

-- no store follows the last one
pub none_after : (s : Setup) (calls : List Call) (c k j : ℕ) → j ≡ c + k → store_at s calls c ≡ None → store_at s calls j ≡ None
none_after s calls c zero j at none = let here : c ≡ j = omega (arith, at) in subst (λ m. store_at s calls m ≡ None) here none
none_after s calls c (suc k) j at none =
    let here : suc (c + k) ≡ j = omega (arith, at) in
    subst (λ m. store_at s calls m ≡ None) here (ap (store_after s calls (c + k)) (none_after s calls c k (c + k) refl none))

-- There are no more changes than calls.

-- a call has a place below k
abbrev pub is_below : ℕ → Option ℕ → Bool
is_below k None = false
is_below k (Some place) = nat_lt place k

abbrev pub calls_below : List Call → ℕ → List Call
calls_below calls k = filter (λ (call : Call). is_below k call.placed.place) calls

filter_few : {X : Type 0} (p : X → Bool) (xs : List X) → length (filter p xs) ≤ length xs
filter_few p [] = omega arith
filter_few p (x ∷ xs) = let few : length (filter p xs) ≤ length xs = filter_few p xs in
    elim (p x) as (λ b. length (cond b (x ∷ filter p xs) (filter p xs)) ≤ suc (length xs)) [ true ↦ omega (arith, few) | false ↦ omega (arith, few) ]

-- one more or not
abbrev pub one_if : Bool → ℕ → ℕ
one_if b n = cond b (suc n) n

length_if : {X : Type 0} (b : Bool) (x : X) (xs : List X) → length (cond b (x ∷ xs) xs) ≡ one_if b (length xs)
length_if b x xs = elim b as (λ b. length (cond b (x ∷ xs) xs) ≡ one_if b (length xs)) [ true ↦ refl | false ↦ refl ]

ones : (place k n m t : ℕ) → n + m ≡ t → one_if (nat_lt place k) n + one_if (place == k) m ≡ one_if (nat_lt place (suc k)) t
ones place k n m t e = grind (arith, nat_tests)

ones_at : (o : Option ℕ) (k n m t : ℕ) → n + m ≡ t → one_if (is_below k o) n + one_if (is_place k o) m ≡ one_if (is_below (suc k) o) t
ones_at None k n m t e = e
ones_at (Some place) k n m t e = ones place k n m t e

below_more : (calls : List Call) (k : ℕ) → length (calls_below calls k) + length (calls_at calls k) ≡ length (calls_below calls (suc k))
below_more [] k = refl
below_more (call ∷ calls) k =
    ap (λ n. n + length (cond (is_place k call.placed.place) (call ∷ calls_at calls k) (calls_at calls k))) (length_if (is_below k call.placed.place) call (calls_below calls k))
    ∙ ap (λ m. one_if (is_below k call.placed.place) (length (calls_below calls k)) + m) (length_if (is_place k call.placed.place) call (calls_at calls k))
    ∙ ones_at call.placed.place k (length (calls_below calls k)) (length (calls_at calls k)) (length (calls_below calls (suc k))) (below_more calls k)
    ∙ sym (length_if (is_below (suc k) call.placed.place) call (calls_below calls (suc k)))

-- up to store k there are k changes
pub as_many : (s : Setup) (calls : List Call) (k : ℕ) (store : Contents) → store_at s calls k ≡ Some store → k ≤ length (calls_below calls k)
as_many s calls zero store is = omega arith
as_many s calls (suc k) store is =
    let (before, there, next) = came_from s calls k store is in
    let early : k ≤ length (calls_below calls k) = as_many s calls k before there in
    let one : length (changes_at calls k before) ≡ 1 = ap length next.sole in
    let few : length (changes_at calls k before) ≤ length (calls_at calls k) = filter_few (λ (call : Call). changes before call.placed.command) (calls_at calls k) in
    let more : length (calls_below calls k) + length (calls_at calls k) ≡ length (calls_below calls (suc k)) = below_more calls k in
    omega (arith, early, one, few, more)

-- after as many changes as calls there is no call
pub none_at : (s : Setup) (calls : List Call) (store : Contents) → store_at s calls (length calls) ≡ Some store → length (calls_at calls (length calls)) ≡ 0
none_at s calls store is =
    let early : length calls ≤ length (calls_below calls (length calls)) = as_many s calls (length calls) store is in
    let more : length (calls_below calls (length calls)) + length (calls_at calls (length calls)) ≡ length (calls_below calls (suc (length calls))) = below_more calls (length calls) in
    let most : length (calls_below calls (suc (length calls))) ≤ length calls = filter_few (λ (call : Call). is_below (suc (length calls)) call.placed.place) calls in
    omega (arith, early, more, most)

-- after as many changes as calls there is no change
pub none_remaining : (s : Setup) (calls : List Call) (store : Contents) → store_at s calls (length calls) ≡ Some store → length (changes_at calls (length calls) store) ≡ 0
none_remaining s calls store is =
    let none : length (calls_at calls (length calls)) ≡ 0 = none_at s calls store is in
    let few : length (changes_at calls (length calls) store) ≤ length (calls_at calls (length calls)) = filter_few (λ (call : Call). changes store call.placed.command) (calls_at calls (length calls)) in
    omega (arith, none, few)
