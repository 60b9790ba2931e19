-- Tests of calls and their places, as facts.
use Rattle.std.proofs.Common.{◌≡◌, ℕ, ◌<◌, ◌≤◌, ◌&&◌, ◌||◌, nat_lt, nat_le, Bool, true, false, List, length, take, Option, Some, None, is_none, is_some, refl, ap, ◌∙◌, arith}
use Rattle.std.specs.List.{list_any, slice_index_or}
use Rattle.std.proofs.lemmas.Bool.Decides.{nat_tests}
use Rattle.std.proofs.lemmas.Bool.{ltb-true, lt-ltb, leb-true}
use Rattle.std.proofs.lemmas.List.{get_or-take, length-take}
use Rattle.std.proofs.lemmas.List.Folds.{list_any_at}
use Rattle.plain_store.specs.{Answer, Contents, Setup, changes}
use Rattle.plain_store.specs.declared.Answer.TheVariants.{Reply, TicketsFull, StampsFull, Withdrawn}
use Rattle.call_check.specs.{Call, changes_there, falls, fits_place, is_above, is_change_from, is_other_answer, is_past, is_reply, store_at, store_below}
use Rattle.model.specs.{Placed}

pub not_below : (c k : ℕ) → (c < k → ⊥) → k ≤ c
not_below c k never = by (nat_lt c k) refl
  where
    by : (b : Bool) → nat_lt c k ≡ b → k ≤ c
    by true is = absurd (never (ltb-true c k is))
    by false is = grind (arith, nat_tests)

-- a place that is not above c
pub is_above-from : (c k : ℕ) (place : Option ℕ) → place ≡ Some k → c < k → is_above c place ≡ true
is_above-from c k None is lt = absurd (cc)
is_above-from c k (Some m) is lt = let same : m ≡ k = cc in lt-ltb c m (omega arith)

-- the place of an earlier call
pub past_is : (s : Setup) (calls : List Call) (j k : ℕ) (earlier : Placed) (place : Option ℕ) → place ≡ Some j → is_past s calls k earlier place ≡ (nat_lt k j || (nat_le k j && changes_there (store_at s calls j) earlier))
past_is s calls j k earlier None is = absurd (cc)
past_is s calls j k earlier (Some m) is = let same : m ≡ j = cc in ap (λ (m : ℕ). nat_lt k m || (nat_le k m && changes_there (store_at s calls m) earlier)) same

-- a change there is a change
pub change_is : (s : Setup) (calls : List Call) (j : ℕ) (earlier : Placed) (place : Option ℕ) → place ≡ Some j → store_at s calls j ≡ Some (store_below s calls j) → changes_there (store_at s calls j) earlier ≡ is_change_from s calls earlier place
change_is s calls j earlier None is there = absurd (cc)
change_is s calls j earlier (Some m) is there =
    let same : j ≡ m = cc in
    ap (λ (o : Option Contents). changes_there o earlier) there ∙ ap (λ (m : ℕ). changes (store_below s calls m) earlier.command) same

or_first : (a b : Bool) → a ≡ true → (a || b) ≡ true
or_first true b is = refl
or_first false b is = absurd (cc)

or_second : (a b c : Bool) → b ≡ true → c ≡ true → (a || (b && c)) ≡ true
or_second true b c x y = refl
or_second false true true x y = refl
or_second false false c x y = absurd (cc)
or_second false true false x y = absurd (cc)

-- the place of the later call is not lower, and not equal if the earlier call is a change
pub order_from : (j k : ℕ) (change : Bool) → ((nat_lt k j || (nat_le k j && change)) ≡ true → ⊥) → (j ≤ k) × (change ≡ true → j < k)
order_from j k change never = (
  not_below k j (λ lt. never (or_first (nat_lt k j) (nat_le k j && change) (lt-ltb k j lt))),
  λ is. by is (nat_le k j) refl,
)
  where
    by : change ≡ true → (b : Bool) → nat_le k j ≡ b → j < k
    by is true le = absurd (never (or_second (nat_lt k j) (nat_le k j) change le is))
    by is false le = grind (arith, nat_tests)

pub order_to : (j k : ℕ) (change : Bool) → (j ≤ k) × (change ≡ true → j < k) → (nat_lt k j || (nat_le k j && change)) ≡ true → ⊥
order_to j k change order past = by (nat_lt k j) (nat_le k j) change refl refl refl past
  where
    by : (a b c : Bool) → nat_lt k j ≡ a → nat_le k j ≡ b → change ≡ c → (a || (b && c)) ≡ true → ⊥
    by true b c x y z past = let lt : k < j = ltb-true k j x in let le : j ≤ k = order.0 in omega arith
    by false true true x y z past = let le : k ≤ j = leb-true k j y in let lt : j < k = order.1 z in omega arith
    by false true false x y z past = cc
    by false false c x y z past = cc

-- a call that a test finds before call j
pub any_before : (list : List Placed) (i j : ℕ) (d : Placed) (test : Placed → Bool) → i < j → j < length list → test (slice_index_or list i d) ≡ true → list_any test (take j list) ≡ true
any_before list i j d test lt within passes =
    list_any_at test (take j list) i d (omega (arith, length-take j list)) (ap test (get_or-take j list i d lt) ∙ passes)

-- the calls before one that has a place
pub falls_is : (s : Setup) (calls : List Call) (earlier : List Placed) (k : ℕ) (place : Option ℕ) → place ≡ Some k → falls s calls earlier place ≡ list_any (λ (e : Placed). is_past s calls k e e.place) earlier
falls_is s calls earlier k None is = absurd (cc)
falls_is s calls earlier k (Some m) is = let same : m ≡ k = cc in ap (λ (m : ℕ). list_any (λ (e : Placed). is_past s calls m e e.place) earlier) same

-- a place goes with a reply
pub fits_from : (place : Option ℕ) (answer : Option Answer) → ((is_reply answer && is_none place) ≡ true → ⊥) → ((is_other_answer answer && is_some place) ≡ true → ⊥) → fits_place place answer ≡ true
fits_from place None never other = refl
fits_from None (Some (Reply reply)) never other = absurd (never refl)
fits_from (Some k) (Some (Reply reply)) never other = refl
fits_from None (Some (TicketsFull process)) never other = refl
fits_from (Some k) (Some (TicketsFull process)) never other = absurd (other refl)
fits_from None (Some StampsFull) never other = refl
fits_from (Some k) (Some StampsFull) never other = absurd (other refl)
fits_from None (Some Withdrawn) never other = refl
fits_from (Some k) (Some Withdrawn) never other = absurd (other refl)

pub fits_reply : (place : Option ℕ) (answer : Option Answer) → fits_place place answer ≡ true → (is_reply answer && is_none place) ≡ true → ⊥
fits_reply place None fits bad = cc
fits_reply None (Some (Reply reply)) fits bad = cc
fits_reply (Some k) (Some (Reply reply)) fits bad = cc
fits_reply place (Some (TicketsFull process)) fits bad = cc
fits_reply place (Some StampsFull) fits bad = cc
fits_reply place (Some Withdrawn) fits bad = cc

pub fits_other : (place : Option ℕ) (answer : Option Answer) → fits_place place answer ≡ true → (is_other_answer answer && is_some place) ≡ true → ⊥
fits_other place None fits bad = cc
fits_other place (Some (Reply reply)) fits bad = cc
fits_other None (Some (TicketsFull process)) fits bad = cc
fits_other (Some k) (Some (TicketsFull process)) fits bad = cc
fits_other None (Some StampsFull) fits bad = cc
fits_other (Some k) (Some StampsFull) fits bad = cc
fits_other None (Some Withdrawn) fits bad = cc
fits_other (Some k) (Some Withdrawn) fits bad = cc
