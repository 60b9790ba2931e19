-- Calls that are consistent with a list of changes, for a longer list, and for one call more or less.
use Rattle.std.proofs.Common.{◌≡◌, ◌⊎◌, ℕ, zero, suc, ◌+◌, ◌<◌, ◌≤◌, Bool, true, false, cond, List, [], ◌∷◌, ◌++◌, length, slice_get, Option, None, Some, inl, inr, refl, sym, ap, subst, ◌∙◌, arith}
use Rattle.std.proofs.lemmas.List.{length-append, take-append-le}
use Rattle.std.proofs.lemmas.Option.{slice_get_within}
use Rattle.plain_store.specs.{Caller, Contents, Setup, changes, reply_to}
use Rattle.model.specs.{Placed, Taken, store_after}
use Rattle.model.proofs.Singles.{get-remaining}
use Rattle.board.specs.{IsPrefix, PlacedAsAnswered, FitsAt, FitsChanges, and_then, caller_of, place_after, store_at}

-- In a longer list.

pub store-longer : (s : Setup) (list more : List Taken) (place : ℕ) → place ≤ length list → store_at s (list ++ more) place ≡ store_at s list place
store-longer s list more place within = ap (store_after s) (take-append-le place list more within)

at_longer : (s : Setup) (list more : List Taken) (caller : Caller) (call : Placed) (place : ℕ) → FitsAt s list caller call place → FitsAt s (list ++ more) caller call place
at_longer s list more caller call place h = record {
  within = let w = h.within in let n = length-append list more in omega (arith, w, n);
  reply = λ r is. h.reply r is ∙ sym (ap (λ (x : Contents). reply_to x call.command caller) same);
  change = λ c.
      let here = h.change (sym (ap (λ (x : Contents). changes x call.command) same) ∙ c) in
      get-remaining list more place (slice_get_within list place _ here)
      ∙ here
      ∙ sym (ap (λ (x : Contents). Some (record { process = caller.process; command = call.command; reply = reply_to x call.command caller; number = caller.number })) same);
}
  where
    same : store_at s (list ++ more) place ≡ store_at s list place
    same = store-longer s list more place h.within

pub fits_longer : (s : Setup) (p : ℕ) (calls : List Placed) (list more : List Taken) → FitsChanges s p calls list → FitsChanges s p calls (list ++ more)
fits_longer s p calls list more h = record {
  taken = λ k place call at is. at_longer s list more (caller_of s p k) call place (h.taken k place call at is);
  answered = h.answered;
  order = λ j k place next call later less at_j at_k is is_next.
      subst (λ (x : Contents). cond (changes x call.command) (place + 1) place ≤ next) (sym (store-longer s list more place (h.taken j place call at_j is).within)) (h.order j k place next call later less at_j at_k is is_next);
}

pub fits_in_longer : (s : Setup) (p : ℕ) (calls : List Placed) (first all : List Taken) → IsPrefix first all → FitsChanges s p calls first → FitsChanges s p calls all
fits_in_longer s p calls first all more h = subst (FitsChanges s p calls) (sym more.1) (fits_longer s p calls first more.0 h)

-- The first of the calls.

front : {X : Type 0} (xs ys : List X) (k : ℕ) (x : X) → slice_get xs k ≡ Some x → slice_get (xs ++ ys) k ≡ Some x
front xs ys k x at = get-remaining xs ys k (slice_get_within xs k x at) ∙ at

pub fits_front : (s : Setup) (p : ℕ) (calls more : List Placed) (list : List Taken) → FitsChanges s p (calls ++ more) list → FitsChanges s p calls list
fits_front s p calls more list h = record {
  taken = λ k place call at is. h.taken k place call (front calls more k call at) is;
  answered = λ k call at. h.answered k call (front calls more k call at);
  order = λ j k place next call later less at_j at_k is is_next. h.order j k place next call later less (front calls more j call at_j) (front calls more k later at_k) is is_next;
}

-- the finished calls are consistent with a list if all calls are
pub finished_fits : (s : Setup) (p : ℕ) (done : List Placed) (now : Option Placed) (list : List Taken) → FitsChanges s p (and_then done now) list → FitsChanges s p done list
finished_fits s p done None list h = h
finished_fits s p done (Some call) list h = fits_front s p done (call ∷ []) list h

-- One call more.

-- an item of a list with one more at its end is in the list, or is the last one
last_or : {X : Type 0} (xs : List X) (x : X) (k : ℕ) (y : X) → slice_get (xs ++ x ∷ []) k ≡ Some y → (slice_get xs k ≡ Some y) ⊎ ((x ≡ y) × (k ≡ length xs))
last_or [] x zero y h = inr (cc, refl)
last_or [] x (suc k) y h = cc
last_or (z ∷ xs) x zero y h = inl h
last_or (z ∷ xs) x (suc k) y h = elim (last_or xs x k y h) [
  | inl a ↦ inl a
  | inr a ↦ inr (a.0, ap suc a.1)
]

pub last_is : {X : Type 0} (xs : List X) (x : X) → slice_get (xs ++ x ∷ []) (length xs) ≡ Some x
last_is [] x = refl
last_is (y ∷ xs) x = last_is xs x

-- the conditions on one more taken call: it agrees with the list at its position, which does not precede those of the other calls
pub record ComesLast (s : Setup) (p : ℕ) (calls : List Placed) (list : List Taken) (call : Placed) (place : ℕ) : Type 0 where
  pub fits : FitsAt s list (caller_of s p (length calls)) call place
  pub order : (j earlier : ℕ) (before : Placed) → slice_get calls j ≡ Some before → before.place ≡ Some earlier → place_after s list before.command earlier ≤ place

pub fits_push : (s : Setup) (p : ℕ) (calls : List Placed) (list : List Taken) (call : Placed) → FitsChanges s p calls list → PlacedAsAnswered call.answer call.place →
    ((place : ℕ) → call.place ≡ Some place → ComesLast s p calls list call place) → FitsChanges s p (calls ++ call ∷ []) list
fits_push s p calls list call h answered last = record {
  taken = λ k place x at is. elim (last_or calls call k x at) [
    | inl a ↦ h.taken k place x a is
    | inr a ↦ subst (λ (n : ℕ). FitsAt s list (caller_of s p n) x place) (sym a.1) (subst (λ (y : Placed). FitsAt s list (caller_of s p (length calls)) y place) a.0 (last place (ap (λ (y : Placed). y.place) a.0 ∙ is)).fits)
  ];
  answered = λ k x at. elim (last_or calls call k x at) [
    | inl a ↦ h.answered k x a
    | inr a ↦ subst (λ (y : Placed). PlacedAsAnswered y.answer y.place) a.0 answered
  ];
  order = λ j k place next x later less at_j at_k is is_next. elim (last_or calls call j x at_j) [
    | inl a ↦ elim (last_or calls call k later at_k) [
      | inl b ↦ h.order j k place next x later less a b is is_next
      | inr b ↦ (last next (ap (λ (y : Placed). y.place) b.0 ∙ is_next)).order j place x a is
    ]
    | inr a ↦ absurd (not-after j k later less a.1 at_k)
  ];
}
  where
    not-after : (j k : ℕ) (later : Placed) → j < k → j ≡ length calls → slice_get (calls ++ call ∷ []) k ≡ Some later → ⊥
    not-after j k later less is at = let w = slice_get_within (calls ++ call ∷ []) k later at in let n : length (calls ++ call ∷ []) ≡ length calls + 1 = length-append calls (call ∷ []) in omega (arith, less, is, w, n)

-- the last call fulfils the conditions
pub comes_last : (s : Setup) (p : ℕ) (calls : List Placed) (list : List Taken) (call : Placed) → FitsChanges s p (calls ++ call ∷ []) list → (place : ℕ) → call.place ≡ Some place → ComesLast s p calls list call place
comes_last s p calls list call h place is = record {
  fits = h.taken (length calls) place call (last_is calls call) is;
  order = λ j earlier before at is_earlier. h.order j (length calls) earlier place before call (slice_get_within calls j before at) (front calls (call ∷ []) j before at) (last_is calls call) is_earlier is;
}

-- no earlier call has a position above the number of changes, and an earlier call that is a change is among them
pub behind_all : (s : Setup) (p : ℕ) (calls : List Placed) (list : List Taken) → FitsChanges s p calls list → (j earlier : ℕ) (before : Placed) → slice_get calls j ≡ Some before → before.place ≡ Some earlier →
    place_after s list before.command earlier ≤ length list
behind_all s p calls list h j earlier before at is = by (changes (store_at s list earlier) before.command) refl
  where
    fits : FitsAt s list (caller_of s p j) before earlier
    fits = h.taken j earlier before at is

    by : (b : Bool) → changes (store_at s list earlier) before.command ≡ b → cond b (earlier + 1) earlier ≤ length list
    by true c = let w = slice_get_within list earlier _ (fits.change c) in omega (arith, w)
    by false c = fits.within
