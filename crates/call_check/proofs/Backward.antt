-- If the lists are good, as defined over the lists, no call is bad.
use Rattle.std.proofs.Common.{◌≡◌, ℕ, ◌<◌, ◌≤◌, ◌&&◌, ◌||◌, nat_lt, nat_le, Bool, true, false, List, [], length, take, Option, Some, None, refl, sym, ap, subst, ◌∙◌, arith}
use Rattle.std.specs.List.{AllPairs, Any, slice_get, slice_index_or}
use Rattle.std.proofs.lemmas.Bool.{ltb-true}
use Rattle.std.proofs.lemmas.List.{get_or-take, length-take}
use Rattle.std.proofs.lemmas.List.Folds.{Any-from_list_any}
use Rattle.std.proofs.lemmas.Option.{get_or_from_slice_get, slice_get_within}
use Rattle.plain_store.specs.{Contents, Setup, changes, reply_to}
use Rattle.call_check.specs.{AreGood, Call, ComesBefore, HasWrongReply, IsBad, IsEnd, IsOfItsStore, NoneIsBad, above, all_calls, caller_of, changes_at, falling, falls, fits_place, is_above, is_change, is_past, is_place, number_of_changes, several, store_at, store_below, with_place, without_place, wrong_reply}
use Rattle.model.specs.{Placed}
use Rattle.call_check.proofs.Orders.{change_is, falls_is, fits_other, fits_reply, order_to, past_is}
use Rattle.call_check.proofs.Positions.{call_of, call_at}
use Rattle.call_check.proofs.StoresInTurn.{ends_there, stores_there}

-- a place that is above c
above_is : (c : ℕ) (place : Option ℕ) → is_above c place ≡ true → (k : ℕ) × (place ≡ Some k) × (c < k)
above_is c None is = absurd (cc)
above_is c (Some k) is = (k, refl, ltb-true c k is)

-- a call that comes after another has a place
placed_if : (s : Setup) (calls : List Call) (earlier : List Placed) (place : Option ℕ) → falls s calls earlier place ≡ true → (k : ℕ) × (place ≡ Some k)
placed_if s calls earlier None is = absurd (cc)
placed_if s calls earlier (Some k) is = (k, refl)

past_if : (s : Setup) (calls : List Call) (k : ℕ) (earlier : Placed) (place : Option ℕ) → is_past s calls k earlier place ≡ true → (j : ℕ) × (place ≡ Some j)
past_if s calls k earlier None is = absurd (cc)
past_if s calls k earlier (Some j) is = (j, refl)

no_two : (a b : Bool) (xs : List Call) → xs ≡ [] → (a && b && nat_le 2 (length xs)) ≡ true → ⊥
no_two a b xs empty is = by a b (rw empty at is)
  where
    by : (a b : Bool) → (a && b && false) ≡ true → ⊥
    by true true is = cc
    by true false is = cc
    by false b is = cc

module _ (s : Setup) (lists : List (List Placed)) (good : AreGood s lists) where
  -- the store after k changes
  there_at : (k : ℕ) → k ≤ number_of_changes s (all_calls lists) → store_at s (all_calls lists) k ≡ Some (store_below s (all_calls lists) k)
  there_at k le = stores_there s (all_calls lists) (number_of_changes s (all_calls lists)) k good.one_at_each le

  -- a call with a place is of its store
  of_store : (p i : ℕ) (list : List Placed) (placed : Placed) → slice_get lists p ≡ Some list → slice_get list i ≡ Some placed → IsOfItsStore s (all_calls lists) (call_of p i placed)
  of_store p i list placed there here = call_at (IsOfItsStore s (all_calls lists)) lists good.of_store p i list placed there here

  not_above : (p i : ℕ) (list : List Placed) (placed : Placed) → slice_get lists p ≡ Some list → slice_get list i ≡ Some placed → is_above (number_of_changes s (all_calls lists)) placed.place ≡ true → ⊥
  not_above p i list placed there here bad =
      let high = above_is (number_of_changes s (all_calls lists)) placed.place bad in
      let le : high.0 ≤ number_of_changes s (all_calls lists) = (of_store p i list placed there here high.0 high.1).0 in
      let lt : number_of_changes s (all_calls lists) < high.0 = high.2 in
      omega arith

  in_order : (p : ℕ) (list : List Placed) → slice_get lists p ≡ Some list → AllPairs (ComesBefore s (all_calls lists)) list
  in_order p list there =
      subst (λ (xs : List Placed). AllPairs (ComesBefore s (all_calls lists)) xs) (get_or_from_slice_get lists p list list there) (good.in_order p list (slice_get_within lists p list there))

  -- an earlier call of a list
  not_past : (p i m : ℕ) (list : List Placed) (placed earlier : Placed) → slice_get lists p ≡ Some list → slice_get list i ≡ Some placed → m < i → i < length list → slice_index_or list m earlier ≡ earlier
      → (k : ℕ) → placed.place ≡ Some k → is_past s (all_calls lists) k earlier earlier.place ≡ true → ⊥
  not_past p i m list placed earlier there here lt inside is k at bad =
      let before = past_if s (all_calls lists) k earlier earlier.place bad in
      let j : ℕ = before.0 in
      let first : earlier.place ≡ Some j = before.1 in
      let same : slice_index_or list i earlier ≡ placed = get_or_from_slice_get list i placed earlier here in
      let pair : ComesBefore s (all_calls lists) earlier placed = subst (λ (x : Placed). ComesBefore s (all_calls lists) x placed) is (subst (λ (x : Placed). ComesBefore s (all_calls lists) (slice_index_or list m earlier) x) same (in_order p list there m i earlier lt inside)) in
      let order : (j ≤ k) × (is_change s (all_calls lists) earlier ≡ true → j < k) = pair j k first at in
      let low : k ≤ number_of_changes s (all_calls lists) = (of_store p i list placed there here k at).0 in
      let le : j ≤ k = order.0 in
      let past : is_past s (all_calls lists) k earlier earlier.place ≡ (nat_lt k j || (nat_le k j && is_change s (all_calls lists) earlier)) =
      past_is s (all_calls lists) j k earlier earlier.place first ∙ ap (λ (b : Bool). nat_lt k j || (nat_le k j && b)) (change_is s (all_calls lists) j earlier earlier.place first (there_at j (omega arith))) in
      order_to j k (is_change s (all_calls lists) earlier) order (sym past ∙ bad)

  not_falling : (p i : ℕ) (list : List Placed) (placed : Placed) → slice_get lists p ≡ Some list → slice_get list i ≡ Some placed → falls s (all_calls lists) (take i list) placed.place ≡ true → ⊥
  not_falling p i list placed there here bad =
      let has = placed_if s (all_calls lists) (take i list) placed.place bad in
      let inside : i < length list = slice_get_within list i placed here in
      let any : Any (λ (e : Placed). is_past s (all_calls lists) has.0 e e.place ≡ true) (take i list) = Any-from_list_any (λ (e : Placed). is_past s (all_calls lists) has.0 e e.place) (take i list) (sym (falls_is s (all_calls lists) (take i list) has.0 placed.place has.1) ∙ bad) in
      let lt : any.0 < length (take i list) = any.2 in
      let before : any.0 < i = omega (arith, lt, length-take i list) in
      not_past p i any.0 list placed any.1 there here before inside (sym (get_or-take i list any.0 any.1 before) ∙ any.3) has.0 has.1 any.4

  not_wrong : (p i : ℕ) (list : List Placed) (placed : Placed) → slice_get lists p ≡ Some list → slice_get list i ≡ Some placed → HasWrongReply s (all_calls lists) (call_of p i placed) → ⊥
  not_wrong p i list placed there here bad =
      let own = of_store p i list placed there here bad.place bad.taken in
      let some : Some bad.store ≡ Some (store_below s (all_calls lists) bad.place) = sym bad.there ∙ there_at bad.place own.0 in
      let same : store_below s (all_calls lists) bad.place ≡ bad.store = cc in
      bad.wrong (own.1 bad.reply bad.answered ∙ ap (λ (x : Contents). reply_to x placed.command (caller_of s (call_of p i placed))) same)

  fits : (p i : ℕ) (list : List Placed) (placed : Placed) → slice_get lists p ≡ Some list → slice_get list i ≡ Some placed → fits_place placed.place placed.answer ≡ true
  fits p i list placed there here = call_at (λ (call : Call). fits_place call.placed.place call.placed.answer ≡ true) lists good.places p i list placed there here

  not_bad : (p i : ℕ) (list : List Placed) (placed : Placed) → slice_get lists p ≡ Some list → slice_get list i ≡ Some placed
      → IsBad s (all_calls lists) (number_of_changes s (all_calls lists)) (store_below s (all_calls lists) (number_of_changes s (all_calls lists))) (take i list) (call_of p i placed) → ⊥
  not_bad p i list placed there here (above bad) = not_above p i list placed there here bad
  not_bad p i list placed there here (several bad) =
      no_two (is_place (number_of_changes s (all_calls lists)) placed.place) (changes (store_below s (all_calls lists) (number_of_changes s (all_calls lists))) placed.command)
      (changes_at (all_calls lists) (number_of_changes s (all_calls lists)) (store_below s (all_calls lists) (number_of_changes s (all_calls lists)))) (good.none_behind (number_of_changes s (all_calls lists)) (omega arith)) bad
  not_bad p i list placed there here (falling bad) = not_falling p i list placed there here bad
  not_bad p i list placed there here (wrong_reply bad) = not_wrong p i list placed there here bad
  not_bad p i list placed there here (without_place bad) = fits_reply placed.place placed.answer (fits p i list placed there here) bad
  not_bad p i list placed there here (with_place bad) = fits_other placed.place placed.answer (fits p i list placed there here) bad

  last : store_at s (all_calls lists) (number_of_changes s (all_calls lists)) ≡ Some (store_below s (all_calls lists) (number_of_changes s (all_calls lists)))
  last = there_at (number_of_changes s (all_calls lists)) (omega arith)

  pub ended : IsEnd s (all_calls lists) (number_of_changes s (all_calls lists)) (store_below s (all_calls lists) (number_of_changes s (all_calls lists)))
  ended = record { last = last; ends = ends_there s (all_calls lists) (number_of_changes s (all_calls lists)) last (good.none_behind (number_of_changes s (all_calls lists)) (omega arith)) }

  pub none_bad : NoneIsBad s lists (number_of_changes s (all_calls lists)) (store_below s (all_calls lists) (number_of_changes s (all_calls lists)))
  none_bad p i bad = not_bad p i bad.0 bad.2.0 bad.1 bad.2.1 bad.2.2
